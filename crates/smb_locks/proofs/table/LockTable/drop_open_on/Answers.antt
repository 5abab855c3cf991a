use Rattle.std.proofs.Common.{sym, ap, ◌∙◌}
use Rattle.std.specs.BTreeMap.{is_at}
use Rattle.std.specs.Map.{remove_entry}
use Rattle.std.specs.Ordering.{nat_cmp}
use Rattle.smb_locks.specs.Table.{without_holder}
use Rattle.smb_locks.proofs.Changes.{dropped_absent, dropped_some, dropped_all}
use Rattle.smb_locks.proofs.Tables.{good_dropped}
use Rattle.smb_locks.proofs.table.LockTable.drop_open_on.Goals as goal

pub returns-in_default : goal.returns-in_default
returns-in_default c =
    let alone = rw (← c.self.view_is) at c.requires in
    rw c.get_mut.follows.holds-at-none
    (dropped_absent c.self.inside.files.entries c.args.file c.args.holder c.self.invariant alone (sym c.in_default.ensures.value)
    ∙ ap (without_holder c.args.holder) c.self.view_is)

pub invariant_of-self-then-not-release : goal.invariant_of-self-then-not-release
invariant_of-self-then-not-release c =
    let alone = rw (← c.self.view_is) at c.requires in
    let all = c.take_out.ensures ∙ ap (remove_entry (is_at (nat_cmp c.args.file))) (c.get_mut.follows.holds c.release.new.self).0
    ∙ dropped_all c.self.inside.files.entries c.args.file c.args.holder c.in-Some.locks.now c.release.new.self c.self.invariant alone (sym c.in-Some.ensures.value) c.release.ensures.locks (sym c.release.ensures.left ∙ c.if-not-release.true) in
    rw all (good_dropped c.args.holder c.self.inside.files.entries c.self.invariant)

pub invariant_of-self-else-not-release : goal.invariant_of-self-else-not-release
invariant_of-self-else-not-release c =
    let alone = rw (← c.self.view_is) at c.requires in
    let some = (c.get_mut.follows.holds c.release.new.self).0
    ∙ dropped_some c.self.inside.files.entries c.args.file c.args.holder c.in-Some.locks.now c.release.new.self c.self.invariant alone (sym c.in-Some.ensures.value) c.release.ensures.locks (sym c.release.ensures.left ∙ c.if-not-release.false) in
    rw some (good_dropped c.args.holder c.self.inside.files.entries c.self.invariant)

pub returns-then-not-release : goal.returns-then-not-release
returns-then-not-release c =
    let alone = rw (← c.self.view_is) at c.requires in
    c.take_out.ensures ∙ ap (remove_entry (is_at (nat_cmp c.args.file))) (c.get_mut.follows.holds c.release.new.self).0
    ∙ dropped_all c.self.inside.files.entries c.args.file c.args.holder c.in-Some.locks.now c.release.new.self c.self.invariant alone (sym c.in-Some.ensures.value) c.release.ensures.locks (sym c.release.ensures.left ∙ c.if-not-release.true)
    ∙ ap (without_holder c.args.holder) c.self.view_is

pub returns-else-not-release : goal.returns-else-not-release
returns-else-not-release c =
    let alone = rw (← c.self.view_is) at c.requires in
    (c.get_mut.follows.holds c.release.new.self).0
    ∙ dropped_some c.self.inside.files.entries c.args.file c.args.holder c.in-Some.locks.now c.release.new.self c.self.invariant alone (sym c.in-Some.ensures.value) c.release.ensures.locks (sym c.release.ensures.left ∙ c.if-not-release.false)
    ∙ ap (without_holder c.args.holder) c.self.view_is
