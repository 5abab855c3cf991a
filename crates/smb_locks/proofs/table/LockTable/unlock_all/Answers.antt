use Rattle.std.proofs.Common.{sym, ap, ◌∙◌}
use Rattle.std.specs.BTreeMap.{is_at}
use Rattle.std.specs.Map.{remove_entry}
use Rattle.std.specs.Ordering.{nat_cmp}
use Rattle.smb_locks.specs.Table.{Table, locks_on, unlocked}
use Rattle.smb_locks.proofs.Changes.{found_on, none_on, unlocked_absent, unlocked_some, unlocked_all}
use Rattle.smb_locks.proofs.Unlocked.{error_by}
use Rattle.smb_locks.proofs.Tables.{good_unlocked}
use Rattle.smb_locks.proofs.table.LockTable.unlock_all.Goals as goal

pub returns-in_default-clause-table : goal.returns-in_default-clause-table
returns-in_default-clause-table c =
    let flags = sym c.are_unlocks.ensures ∙ c.if-not-are_unlocks.false in
    rw c.get_mut.follows.holds-at-none
    (unlocked_absent c.self.inside.files.entries c.args.file c.args.holder c.args.asks.now flags (sym c.in_default.ensures.value)
    ∙ ap (λ (t : Table). unlocked t c.args.file c.args.holder c.args.asks.now) c.self.view_is)

pub invariant_of-self-then-is_empty : goal.invariant_of-self-then-is_empty
invariant_of-self-then-is_empty c =
    let flags = sym c.are_unlocks.ensures ∙ c.if-not-are_unlocks.false in
    let all = c.take_out.ensures ∙ ap (remove_entry (is_at (nat_cmp c.args.file))) (c.get_mut.follows.holds c.unlock_all-unlocked.new.self).0
    ∙ unlocked_all c.self.inside.files.entries c.args.file c.args.holder c.args.asks.now c.in-Some.locks.now c.unlock_all-unlocked.new.self flags (sym c.in-Some.ensures.value) c.unlock_all-unlocked.ensures.left (sym c.is_empty.ensures ∙ c.if-is_empty.true) in
    rw all (good_unlocked c.self.inside.files.entries c.args.file c.args.holder c.args.asks.now c.self.invariant)

pub invariant_of-self-else-is_empty : goal.invariant_of-self-else-is_empty
invariant_of-self-else-is_empty c =
    let flags = sym c.are_unlocks.ensures ∙ c.if-not-are_unlocks.false in
    let some = (c.get_mut.follows.holds c.unlock_all-unlocked.new.self).0
    ∙ unlocked_some c.self.inside.files.entries c.args.file c.args.holder c.args.asks.now c.in-Some.locks.now c.unlock_all-unlocked.new.self c.self.invariant flags (sym c.in-Some.ensures.value) c.unlock_all-unlocked.ensures.left (sym c.is_empty.ensures ∙ c.if-is_empty.false) in
    rw some (good_unlocked c.self.inside.files.entries c.args.file c.args.holder c.args.asks.now c.self.invariant)

pub returns-then-is_empty-clause-table : goal.returns-then-is_empty-clause-table
returns-then-is_empty-clause-table c =
    let flags = sym c.are_unlocks.ensures ∙ c.if-not-are_unlocks.false in
    c.take_out.ensures ∙ ap (remove_entry (is_at (nat_cmp c.args.file))) (c.get_mut.follows.holds c.unlock_all-unlocked.new.self).0
    ∙ unlocked_all c.self.inside.files.entries c.args.file c.args.holder c.args.asks.now c.in-Some.locks.now c.unlock_all-unlocked.new.self flags (sym c.in-Some.ensures.value) c.unlock_all-unlocked.ensures.left (sym c.is_empty.ensures ∙ c.if-is_empty.true)
    ∙ ap (λ (t : Table). unlocked t c.args.file c.args.holder c.args.asks.now) c.self.view_is

pub returns-else-is_empty-clause-table : goal.returns-else-is_empty-clause-table
returns-else-is_empty-clause-table c =
    let flags = sym c.are_unlocks.ensures ∙ c.if-not-are_unlocks.false in
    (c.get_mut.follows.holds c.unlock_all-unlocked.new.self).0
    ∙ unlocked_some c.self.inside.files.entries c.args.file c.args.holder c.args.asks.now c.in-Some.locks.now c.unlock_all-unlocked.new.self c.self.invariant flags (sym c.in-Some.ensures.value) c.unlock_all-unlocked.ensures.left (sym c.is_empty.ensures ∙ c.if-is_empty.false)
    ∙ ap (λ (t : Table). unlocked t c.args.file c.args.holder c.args.asks.now) c.self.view_is

pub returns-in_default-clause-lawful : goal.returns-in_default-clause-lawful
returns-in_default-clause-lawful c =
    let flags = sym c.are_unlocks.ensures ∙ c.if-not-are_unlocks.false in
    let found = ap (λ (t : Table). locks_on t c.args.file) (sym c.self.view_is) ∙ none_on c.self.inside.files.entries c.args.file (sym c.in_default.ensures.value) ∙ sym c.new.ensures in
    rw (error_by c.args.self.now c.args.file c.args.holder c.args.asks.now _ flags found) c.unlock_all.ensures.lawful

pub returns-in_default-clause-why : goal.returns-in_default-clause-why
returns-in_default-clause-why c =
    let flags = sym c.are_unlocks.ensures ∙ c.if-not-are_unlocks.false in
    let found = ap (λ (t : Table). locks_on t c.args.file) (sym c.self.view_is) ∙ none_on c.self.inside.files.entries c.args.file (sym c.in_default.ensures.value) ∙ sym c.new.ensures in
    rw (error_by c.args.self.now c.args.file c.args.holder c.args.asks.now _ flags found) c.unlock_all.ensures.why

pub returns-then-is_empty-clause-lawful : goal.returns-then-is_empty-clause-lawful
returns-then-is_empty-clause-lawful c =
    let flags = sym c.are_unlocks.ensures ∙ c.if-not-are_unlocks.false in
    let found = ap (λ (t : Table). locks_on t c.args.file) (sym c.self.view_is) ∙ found_on c.self.inside.files.entries c.args.file c.in-Some.locks.now (sym c.in-Some.ensures.value) in
    rw (error_by c.args.self.now c.args.file c.args.holder c.args.asks.now _ flags found) c.unlock_all-unlocked.ensures.lawful

pub returns-then-is_empty-clause-why : goal.returns-then-is_empty-clause-why
returns-then-is_empty-clause-why c =
    let flags = sym c.are_unlocks.ensures ∙ c.if-not-are_unlocks.false in
    let found = ap (λ (t : Table). locks_on t c.args.file) (sym c.self.view_is) ∙ found_on c.self.inside.files.entries c.args.file c.in-Some.locks.now (sym c.in-Some.ensures.value) in
    rw (error_by c.args.self.now c.args.file c.args.holder c.args.asks.now _ flags found) c.unlock_all-unlocked.ensures.why

pub returns-else-is_empty-clause-lawful : goal.returns-else-is_empty-clause-lawful
returns-else-is_empty-clause-lawful c =
    let flags = sym c.are_unlocks.ensures ∙ c.if-not-are_unlocks.false in
    let found = ap (λ (t : Table). locks_on t c.args.file) (sym c.self.view_is) ∙ found_on c.self.inside.files.entries c.args.file c.in-Some.locks.now (sym c.in-Some.ensures.value) in
    rw (error_by c.args.self.now c.args.file c.args.holder c.args.asks.now _ flags found) c.unlock_all-unlocked.ensures.lawful

pub returns-else-is_empty-clause-why : goal.returns-else-is_empty-clause-why
returns-else-is_empty-clause-why c =
    let flags = sym c.are_unlocks.ensures ∙ c.if-not-are_unlocks.false in
    let found = ap (λ (t : Table). locks_on t c.args.file) (sym c.self.view_is) ∙ found_on c.self.inside.files.entries c.args.file c.in-Some.locks.now (sym c.in-Some.ensures.value) in
    rw (error_by c.args.self.now c.args.file c.args.holder c.args.asks.now _ flags found) c.unlock_all-unlocked.ensures.why
