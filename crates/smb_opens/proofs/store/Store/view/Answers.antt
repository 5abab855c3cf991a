use Rattle.std.proofs.Common.{is_some, sym, ap, ◌∙◌}
use Rattle.smb_opens.specs.State.{StoreState}
use Rattle.smb_opens.proofs.Kept.{open_shown}
use Rattle.smb_opens.proofs.store.Store.view.Goals as goal

pub returns-clause-stands : goal.returns-clause-stands
returns-clause-stands g c =
    let state : StoreState = record { tree = g.T.Tree.content c.self.inside.tree; opens = g.O.Opens.content c.self.inside.opens; locks = c.self.inside.locks; next = c.self.inside.next } in
    rw (← c.self.view_is) (ap is_some c.entry_view.ensures ∙ open_shown state c.self.invariant.good c.args.number c.in_ok-row.row.now (sym c.in_ok-row.ensures) ∙ ap is_some c.in_ok-row.ensures)
