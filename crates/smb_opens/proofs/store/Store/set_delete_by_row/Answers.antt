use Rattle.std.proofs.Common.{rules, ◌≡◌, Bool, Some, sym, ap, ◌∙◌}
use Rattle.smb_refusals.specs.Rows.{first_refusal}
use Rattle.smb_entry.specs.Parts.{delete_rows, delete_set}
use Rattle.smb_opens.specs.SetInfo.{delete_refusal}
use Rattle.smb_opens.specs.State.{StoreState}
use Rattle.smb_opens.specs.Views.{open_view}
use Rattle.smb_opens.proofs.Shows.{shown_by}
use Rattle.smb_opens.proofs.StoreSettings.{there_shown, set_through, kept_deleted, delete_refused}
use Rattle.smb_opens.proofs.store.Store.set_delete_by_row.Goals as goal

pub mark_entry-requires : goal.mark_entry-requires
mark_entry-requires g c =
    let state : StoreState = record { tree = g.T.Tree.content c.self.inside.tree; opens = g.O.Opens.content c.self.inside.opens; locks = c.self.inside.locks; next = c.self.inside.next } in
    there_shown state c.args.number c.in-Some.view (shown_by state c.args.number c.in-Some.view (c.in-Some.ensures.value ∙ sym (ap (λ (s : StoreState). open_view s c.args.number) c.self.view_is)))

pub invariant_of-self : goal.invariant_of-self
invariant_of-self g c =
    let state : StoreState = record { tree = g.T.Tree.content c.self.inside.tree; opens = g.O.Opens.content c.self.inside.opens; locks = c.self.inside.locks; next = c.self.inside.next } in
    let shown = shown_by state c.args.number c.in-Some.view (c.in-Some.ensures.value ∙ sym (ap (λ (s : StoreState). open_view s c.args.number) c.self.view_is)) in
    kept_deleted state c.args.number c.in-Some.view c.args.is_deleted _ _ _ shown c.mark_entry.ensures (ap (λ (b : Bool). first_refusal (delete_rows c.in-Some.view b c.args.is_deleted)) (sym c.has_entries-is_occupied.ensures) ∙ c.in_ok-may_delete.ensures.lawful) c.self.invariant

pub returns-clause-store : goal.returns-clause-store
returns-clause-store g c =
    let state : StoreState = record { tree = g.T.Tree.content c.self.inside.tree; opens = g.O.Opens.content c.self.inside.opens; locks = c.self.inside.locks; next = c.self.inside.next } in
    let shown = shown_by state c.args.number c.in-Some.view (c.in-Some.ensures.value ∙ sym (ap (λ (s : StoreState). open_view s c.args.number) c.self.view_is)) in
    rw (← c.self.view_is) (set_through (delete_set c.args.is_deleted) state c.args.number c.in-Some.view _ shown c.mark_entry.ensures)

pub returns-in_err-may_delete-clause-why : goal.returns-in_err-may_delete-clause-why
returns-in_err-may_delete-clause-why g c =
    let state : StoreState = record { tree = g.T.Tree.content c.self.inside.tree; opens = g.O.Opens.content c.self.inside.opens; locks = c.self.inside.locks; next = c.self.inside.next } in
    let shows = c.in-Some.ensures.value ∙ sym (ap (λ (s : StoreState). open_view s c.args.number) c.self.view_is) in
    let told = delete_refused state c.args.number c.in-Some.view c.args.is_deleted c.has_entries-is_occupied.result (Some c.in_err-may_delete.field-0.0) shows c.has_entries-is_occupied.ensures c.in_err-may_delete.ensures.why in
    let refused : delete_refusal c.args.self.now c.args.number c.args.is_deleted ≡ Some c.in_err-may_delete.field-0.0 = sym (ap (λ (s : StoreState). delete_refusal s c.args.number c.args.is_deleted) c.self.view_is) ∙ told in
    search rules
