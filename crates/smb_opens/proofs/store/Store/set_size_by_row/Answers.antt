use Rattle.std.proofs.Common.{sym, ap, ◌∙◌}
use Rattle.smb_opens.specs.State.{StoreState}
use Rattle.smb_opens.specs.Views.{open_view}
use Rattle.smb_opens.proofs.Shows.{shown_by}
use Rattle.smb_opens.proofs.StoreSettings.{there_shown, kept_sized, sized_done, nothing_set}
use Rattle.smb_opens.proofs.Through.{file_shown}
use Rattle.smb_opens.proofs.store.Store.set_size_by_row.Goals as goal

pub has_no_space-is_full-requires-clause-there : goal.has_no_space-is_full-requires-clause-there
has_no_space-is_full-requires-clause-there g c =
    let state : StoreState = record { tree = g.T.Tree.content c.self.inside.tree; opens = g.O.Opens.content c.self.inside.opens; locks = c.self.inside.locks; next = c.self.inside.next } in
    there_shown state c.args.number c.in-Some.view (shown_by state c.args.number c.in-Some.view (c.in-Some.ensures.value ∙ sym (ap (λ (s : StoreState). open_view s c.args.number) c.self.view_is)))

pub returns-then-leaves_size-clause-store : goal.returns-then-leaves_size-clause-store
returns-then-leaves_size-clause-store g c =
    let shown = shown_by c.args.self.now c.args.number c.in-Some.view c.in-Some.ensures.value in
    nothing_set c.args.self.now c.args.number c.in-Some.view c.args.size c.args.is_allocation c.args.moment shown (sym c.leaves_size.ensures ∙ c.if-leaves_size.true)

pub size_file-requires-clause-file : goal.size_file-requires-clause-file
size_file-requires-clause-file g c =
    let state : StoreState = record { tree = g.T.Tree.content c.self.inside.tree; opens = g.O.Opens.content c.self.inside.opens; locks = c.self.inside.locks; next = c.self.inside.next } in
    let shown = shown_by state c.args.number c.in-Some.view (c.in-Some.ensures.value ∙ sym (ap (λ (s : StoreState). open_view s c.args.number) c.self.view_is)) in
    file_shown state c.args.number c.in-Some.view shown c.in_ok-may_size.ensures.file

pub invariant_of-self : goal.invariant_of-self
invariant_of-self g c =
    let state : StoreState = record { tree = g.T.Tree.content c.self.inside.tree; opens = g.O.Opens.content c.self.inside.opens; locks = c.self.inside.locks; next = c.self.inside.next } in
    let shown = shown_by state c.args.number c.in-Some.view (c.in-Some.ensures.value ∙ sym (ap (λ (s : StoreState). open_view s c.args.number) c.self.view_is)) in
    kept_sized c.size_file.result state c.args.number c.in-Some.view c.args.size c.args.moment _ _ _ shown c.in_ok-may_size.ensures.file (sym c.has_no_space-is_full.ensures ∙ c.in_ok-may_size.ensures.room) c.size_file.ensures.ok c.size_file.ensures.err c.self.invariant

pub returns-clause-store : goal.returns-clause-store
returns-clause-store g c =
    let state : StoreState = record { tree = g.T.Tree.content c.self.inside.tree; opens = g.O.Opens.content c.self.inside.opens; locks = c.self.inside.locks; next = c.self.inside.next } in
    let shown = shown_by state c.args.number c.in-Some.view (c.in-Some.ensures.value ∙ sym (ap (λ (s : StoreState). open_view s c.args.number) c.self.view_is)) in
    rw (← c.self.view_is) (sized_done c.size_file.result state c.args.number c.in-Some.view c.args.size c.args.is_allocation c.args.moment _ shown (sym c.leaves_size.ensures ∙ c.if-leaves_size.false) c.size_file.ensures.ok)
