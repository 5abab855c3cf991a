use Rattle.std.proofs.Common.{List, ◌++◌, None, sym, ap, ◌∙◌}
use Rattle.std.proofs.lemmas.Result.{on_ok_weaker, on_err_weaker}
use Rattle.smb_locks.specs.declared.lock.Lock.{Lock}
use Rattle.smb_locks.specs.Asks.{locks_asked}
use Rattle.smb_locks.specs.Table.{Table, locked}
use Rattle.smb_locks.proofs.Changes.{none_on, locked_found, locked_first, locked_nothing, lock_refusal, written_back, good_tried}
use Rattle.smb_locks.proofs.Tables.{good_locked}
use Rattle.smb_locks.proofs.table.LockTable.lock_all_within.Goals as goal

pub invariant_of-self : goal.invariant_of-self
invariant_of-self c =
    let flags = sym c.are_locks.ensures ∙ c.if-not-are_locks.false in
    rw (c.get_mut.follows.holds c.lock_all.new.self).0
    (good_tried c.args.most c.lock_all.result c.self.inside.files.entries c.args.file c.args.holder c.args.asks.now c.in-Some.locks.now c.lock_all.new.self c.self.invariant flags (sym c.in-Some.ensures.value) c.lock_all.ensures.ok c.lock_all.ensures.lawful c.lock_all.ensures.err)

pub returns-in-Some-clause-ok : goal.returns-in-Some-clause-ok
returns-in-Some-clause-ok c =
    on_ok_weaker c.lock_all.result
    (λ e. (c.get_mut.follows.holds c.lock_all.new.self).0
    ∙ locked_found c.self.inside.files.entries c.args.file c.args.holder c.args.asks.now c.in-Some.locks.now c.lock_all.new.self c.self.invariant (sym c.in-Some.ensures.value) e
    ∙ ap (λ (t : Table). locked t c.args.file c.args.holder c.args.asks.now) c.self.view_is) c.lock_all.ensures.ok

pub returns-in-Some-clause-err : goal.returns-in-Some-clause-err
returns-in-Some-clause-err c =
    on_err_weaker c.lock_all.result
    (λ e. (c.get_mut.follows.holds c.lock_all.new.self).0
    ∙ written_back c.self.inside.files.entries c.args.file c.in-Some.locks.now c.lock_all.new.self (sym c.in-Some.ensures.value) e
    ∙ c.self.view_is) c.lock_all.ensures.err

pub returns-then-is_empty-clause-ok : goal.returns-then-is_empty-clause-ok
returns-then-is_empty-clause-ok c =
    let all = c.in_ok-lock_all.ensures.ok ∙ ap (λ (ls : List Lock). ls ++ locks_asked c.args.holder c.args.asks.now) c.new-locks.ensures in
    rw c.get_mut.follows.holds-at-none
    (locked_nothing c.self.inside.files.entries c.args.file c.args.holder c.args.asks.now c.lock_all-2.new.self (sym c.in_default.ensures.value) all (sym c.is_empty.ensures ∙ c.if-is_empty.true)
    ∙ ap (λ (t : Table). locked t c.args.file c.args.holder c.args.asks.now) c.self.view_is)

pub invariant_of-self-2 : goal.invariant_of-self-2
invariant_of-self-2 c =
    let table = c.self.inside.files.entries in
    let found = sym c.in_default.ensures.value in
    let flags = sym c.are_locks.ensures ∙ c.if-not-are_locks.false in
    let all = c.in_ok-lock_all.ensures.ok ∙ ap (λ (ls : List Lock). ls ++ locks_asked c.args.holder c.args.asks.now) c.new-locks.ensures in
    let first = locked_first table c.args.file c.args.holder c.args.asks.now c.lock_all-2.new.self found all (sym c.is_empty.ensures ∙ c.if-is_empty.false) in
    let granted = lock_refusal c.args.most table c.args.file c.args.holder c.args.asks.now c.new-locks.result None flags (none_on table c.args.file found ∙ sym c.new-locks.ensures) c.in_ok-lock_all.ensures.lawful in
    rw (c.in_ok-put.ensures.ok, c.get_mut.follows.holds-at-none, first) (good_locked c.args.most table c.args.file c.args.holder c.args.asks.now c.self.invariant granted)
