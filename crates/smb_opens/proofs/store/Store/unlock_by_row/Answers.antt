use Rattle.std.proofs.Common.{◌≡◌, true, false, is_some, sym, ap, subst, ◌∙◌}
use Rattle.smb_locks.specs.Table.{Table, locks_on}
use Rattle.smb_opens.specs.Good.{IsKept}
use Rattle.smb_opens.specs.State.{StoreState}
use Rattle.smb_opens.proofs.Held.{kept_unlocked}
use Rattle.smb_opens.proofs.Locking.{has_row}
use Rattle.smb_opens.proofs.store.Store.unlock_by_row.Goals as goal

pub invariant_of-self : goal.invariant_of-self
invariant_of-self g c =
    let state : StoreState = record { tree = g.T.Tree.content c.self.inside.tree; opens = g.O.Opens.content c.self.inside.opens; locks = c.self.inside.locks; next = c.self.inside.next } in
    subst (λ (locks : Table). IsKept state.tree state.opens locks state.next c.self.inside.opens_count c.self.inside.entries_count) (sym c.unlock_all.ensures.table)
    (kept_unlocked state c.args.number c.in-Some.view.entry c.args.asks.now _ _ c.self.invariant)

pub unreachable-requires-in_default-lock_refusal_of : goal.unreachable-requires-in_default-lock_refusal_of
unreachable-requires-in_default-lock_refusal_of g c =
    let some = has_row (locks_on c.self.inside.locks c.in-Some.view.entry) c.args.number c.args.asks.now c.in-Err.error c.in-Err.ensures.why in
    let none = sym c.lock_refusal_of.ensures ∙ c.in_default-lock_refusal_of.is in
    let no : false ≡ true = ap is_some (sym none) ∙ some in
    cc
