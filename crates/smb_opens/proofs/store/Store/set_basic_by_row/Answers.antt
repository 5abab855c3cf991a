use Rattle.std.proofs.Common.{sym, ap, ◌∙◌}
use Rattle.smb_entry.specs.Parts.{entry_set}
use Rattle.smb_opens.specs.State.{StoreState}
use Rattle.smb_opens.specs.Views.{open_view}
use Rattle.smb_opens.proofs.Shows.{shown_by}
use Rattle.smb_opens.proofs.StoreSettings.{there_shown, set_through, kept_based}
use Rattle.smb_opens.proofs.store.Store.set_basic_by_row.Goals as goal

pub set_entry-requires : goal.set_entry-requires
set_entry-requires g c =
    let state : StoreState = record { tree = g.T.Tree.content c.self.inside.tree; opens = g.O.Opens.content c.self.inside.opens; locks = c.self.inside.locks; next = c.self.inside.next } in
    there_shown state c.args.number c.in-Some.view (shown_by state c.args.number c.in-Some.view (c.in-Some.ensures.value ∙ sym (ap (λ (s : StoreState). open_view s c.args.number) c.self.view_is)))

pub invariant_of-self : goal.invariant_of-self
invariant_of-self g c =
    let state : StoreState = record { tree = g.T.Tree.content c.self.inside.tree; opens = g.O.Opens.content c.self.inside.opens; locks = c.self.inside.locks; next = c.self.inside.next } in
    let shown = shown_by state c.args.number c.in-Some.view (c.in-Some.ensures.value ∙ sym (ap (λ (s : StoreState). open_view s c.args.number) c.self.view_is)) in
    kept_based state c.args.number c.in-Some.view c.args.ask.now c.args.moment _ _ _ shown c.set_entry.ensures c.self.invariant

pub returns-clause-store : goal.returns-clause-store
returns-clause-store g c =
    let state : StoreState = record { tree = g.T.Tree.content c.self.inside.tree; opens = g.O.Opens.content c.self.inside.opens; locks = c.self.inside.locks; next = c.self.inside.next } in
    let shown = shown_by state c.args.number c.in-Some.view (c.in-Some.ensures.value ∙ sym (ap (λ (s : StoreState). open_view s c.args.number) c.self.view_is)) in
    rw (← c.self.view_is) (set_through (entry_set c.args.ask.now c.args.moment) state c.args.number c.in-Some.view _ shown c.set_entry.ensures)
