use Rattle.std.proofs.Common.{◌≡◌, ◌≢◌, ℕ, Some, None, sym, ap, subst, ◌∙◌}
use Rattle.std.specs.Prelude.{OnOk}
use Rattle.smb_wire.specs.declared.limits.share.Limits.{Limits}
use Rattle.smb_locks.specs.Locking.{lock_all_fault}
use Rattle.smb_locks.specs.Table.{locks_on}
use Rattle.smb_locks.specs.declared.fault.LockFault.TheVariants.{NoMemory}
use Rattle.smb_opens.specs.State.{StoreState}
use Rattle.smb_opens.specs.Views.{open_view}
use Rattle.smb_opens.proofs.Locking.{kept_lock, why_lock}
use Rattle.smb_opens.proofs.Shows.{shown_by}
use Rattle.smb_opens.proofs.store.Store.lock_by_row.Goals as goal
use Rattle.smb_opens.proofs.store.Store.lock_by_row.Goals.{in-Ok, in-Err}

pub invariant_of-self : goal.invariant_of-self
invariant_of-self g c =
    let state : StoreState = record { tree = g.T.Tree.content c.self.inside.tree; opens = g.O.Opens.content c.self.inside.opens; locks = c.self.inside.locks; next = c.self.inside.next } in
    let shown = shown_by state c.args.number c.in-Some.view (c.in-Some.ensures.value ∙ sym (ap (λ (s : StoreState). open_view s c.args.number) c.self.view_is)) in
    let most = ap (λ (l : Limits). l.locks) c.limits-limits.ensures in
    let lawful = subst (λ (n : ℕ). OnOk c.lock_all_within.result (lock_all_fault n (locks_on state.locks c.in-Some.view.entry) c.args.number c.args.asks.now ≡ None)) most c.lock_all_within.ensures.lawful in
    kept_lock c.lock_all_within.result state c.args.number c.in-Some.view c.args.asks.now _ _ _ shown c.lock_all_within.ensures.ok lawful c.lock_all_within.ensures.err c.self.invariant

pub returns-clause-why : goal.returns-clause-why
returns-clause-why g c =
    let state : StoreState = record { tree = g.T.Tree.content c.self.inside.tree; opens = g.O.Opens.content c.self.inside.opens; locks = c.self.inside.locks; next = c.self.inside.next } in
    let view : open_view state c.args.number ≡ Some c.in-Some.view = ap (λ (s : StoreState). open_view s c.args.number) c.self.view_is ∙ sym c.in-Some.ensures.value in
    let most = ap (λ (l : Limits). l.locks) c.limits-limits.ensures in
    elim c.match-lock_all_within.branch [
      | in-Ok w ↦ rw w.result-is tt
      | in-Err w ↦ rw (w.result-is, ← c.self.view_is)
          (why_lock state c.args.number c.in-Some.view c.args.asks.now w.in-Err.fault w.lock_refused_by.result view (sym c.is_folder.ensures ∙ c.if-is_folder.false) (subst (λ (n : ℕ). w.in-Err.fault ≢ NoMemory → lock_all_fault n (locks_on state.locks c.in-Some.view.entry) c.args.number c.args.asks.now ≡ Some w.in-Err.fault) most w.in-Err.ensures.why) (subst (λ (n : ℕ). w.in-Err.fault ≡ NoMemory → lock_all_fault n (locks_on state.locks c.in-Some.view.entry) c.args.number c.args.asks.now ≡ None) most w.in-Err.ensures.memory) w.lock_refused_by.ensures)
    ]
