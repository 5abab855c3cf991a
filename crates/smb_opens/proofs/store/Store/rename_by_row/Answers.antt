use Rattle.std.proofs.Common.{None, Some, refl, sym, ap, ◌∙◌}
use Rattle.smb_wire.specs.PathViews.{parts_of}
use Rattle.smb_wire.specs.Units.{units_of}
use Rattle.smb_opens.specs.Renames.{rename_refusal}
use Rattle.smb_opens.specs.State.{StoreState}
use Rattle.smb_opens.specs.Views.{open_view}
use Rattle.smb_opens.proofs.ByRow.{handed_row, handed_refused}
use Rattle.smb_opens.proofs.Decided.{told_by, refusal_by}
use Rattle.smb_opens.proofs.RenameStates.{IsWay, refused_name, refused_way, refusal_left, kept_renamed, enough, renamed_done}
use Rattle.smb_opens.proofs.Shows.{shown_by}
use Rattle.smb_opens.proofs.StoreSettings.{there_shown}
use Rattle.smb_opens.proofs.store.Store.rename_by_row.Goals as goal

pub look_up_rename-way-requires-clause-there : goal.look_up_rename-way-requires-clause-there
look_up_rename-way-requires-clause-there g c =
    let state : StoreState = record { tree = g.T.Tree.content c.self.inside.tree; opens = g.O.Opens.content c.self.inside.opens; locks = c.self.inside.locks; next = c.self.inside.next } in
    let shows = c.in-Some.ensures.value ∙ sym (ap (λ (s : StoreState). open_view s c.args.number) c.self.view_is) in
    let shown = shown_by state c.args.number c.in-Some.view shows in
    there_shown state c.args.number c.in-Some.view shown

pub check_way-requires-clause-there : goal.check_way-requires-clause-there
check_way-requires-clause-there g c =
    let state : StoreState = record { tree = g.T.Tree.content c.self.inside.tree; opens = g.O.Opens.content c.self.inside.opens; locks = c.self.inside.locks; next = c.self.inside.next } in
    let shows = c.in-Some.ensures.value ∙ sym (ap (λ (s : StoreState). open_view s c.args.number) c.self.view_is) in
    let shown = shown_by state c.args.number c.in-Some.view shows in
    there_shown state c.args.number c.in-Some.view shown

pub move_to-requires-clause-there : goal.move_to-requires-clause-there
move_to-requires-clause-there g c =
    let state : StoreState = record { tree = g.T.Tree.content c.self.inside.tree; opens = g.O.Opens.content c.self.inside.opens; locks = c.self.inside.locks; next = c.self.inside.next } in
    let shows = c.in-Some.ensures.value ∙ sym (ap (λ (s : StoreState). open_view s c.args.number) c.self.view_is) in
    let shown = shown_by state c.args.number c.in-Some.view shows in
    there_shown state c.args.number c.in-Some.view shown

pub overflow_sub-self : goal.overflow_sub-self
overflow_sub-self g c =
    let state : StoreState = record { tree = g.T.Tree.content c.self.inside.tree; opens = g.O.Opens.content c.self.inside.opens; locks = c.self.inside.locks; next = c.self.inside.next } in
    let shows = c.in-Some.ensures.value ∙ sym (ap (λ (s : StoreState). open_view s c.args.number) c.self.view_is) in
    let shown = shown_by state c.args.number c.in-Some.view shows in
    enough state c.args.number c.in-Some.view _ _ _ c.look_up_rename-way.result.target shown c.self.invariant c.count_replaced.ensures

pub invariant_of-self-2 : goal.invariant_of-self-2
invariant_of-self-2 g c =
    let state : StoreState = record { tree = g.T.Tree.content c.self.inside.tree; opens = g.O.Opens.content c.self.inside.opens; locks = c.self.inside.locks; next = c.self.inside.next } in
    let shows = c.in-Some.ensures.value ∙ sym (ap (λ (s : StoreState). open_view s c.args.number) c.self.view_is) in
    let shown = shown_by state c.args.number c.in-Some.view shows in
    let is : IsWay state c.in-Some.view c.look_up_rename-way.result (units_of c.args.name) (parts_of c.in_ok-path.path) = record { found = c.look_up_rename-way.ensures; spelled = c.in_ok-path.ensures.path; lawful = c.in_ok-path.ensures.lawful } in
    kept_renamed state c.args.number c.in-Some.view c.look_up_rename-way.result (units_of c.args.name) (parts_of c.in_ok-path.path) c.args.replace None _ _ c.args.moment _ _ shown is c.self.invariant (sym c.in_ok-check_way.ensures.lawful) refl c.in_ok-move_to.ensures.lawful c.in_ok-path.path.kept.lawful c.count_replaced.ensures c.in_ok-move_to.ensures.ok

pub returns-clause-store : goal.returns-clause-store
returns-clause-store g c =
    let state : StoreState = record { tree = g.T.Tree.content c.self.inside.tree; opens = g.O.Opens.content c.self.inside.opens; locks = c.self.inside.locks; next = c.self.inside.next } in
    let shows = c.in-Some.ensures.value ∙ sym (ap (λ (s : StoreState). open_view s c.args.number) c.self.view_is) in
    let shown = shown_by state c.args.number c.in-Some.view shows in
    rw (← c.self.view_is) (renamed_done state c.args.number c.in-Some.view (units_of c.args.name) (parts_of c.in_ok-path.path) c.args.moment _ shown c.in_ok-path.ensures.path c.in_ok-move_to.ensures.ok)

pub returns-clause-lawful : goal.returns-clause-lawful
returns-clause-lawful g c =
    let state : StoreState = record { tree = g.T.Tree.content c.self.inside.tree; opens = g.O.Opens.content c.self.inside.opens; locks = c.self.inside.locks; next = c.self.inside.next } in
    let shows = c.in-Some.ensures.value ∙ sym (ap (λ (s : StoreState). open_view s c.args.number) c.self.view_is) in
    let shown = shown_by state c.args.number c.in-Some.view shows in
    let is : IsWay state c.in-Some.view c.look_up_rename-way.result (units_of c.args.name) (parts_of c.in_ok-path.path) = record { found = c.look_up_rename-way.ensures; spelled = c.in_ok-path.ensures.path; lawful = c.in_ok-path.ensures.lawful } in
    let left = refusal_left state c.args.number c.in-Some.view c.look_up_rename-way.result (units_of c.args.name) (parts_of c.in_ok-path.path) c.args.replace None _ _ shown shows is c.self.invariant (sym c.in_ok-check_way.ensures.lawful) refl in
    let told = sym (ap (λ (s : StoreState). rename_refusal s c.args.number (units_of c.args.name) c.args.replace) c.self.view_is) ∙ left in
    told ∙ ap told_by c.in_ok-move_to.ensures.lawful

pub returns-in_err-path-clause-why : goal.returns-in_err-path-clause-why
returns-in_err-path-clause-why g c =
    let named = refused_name c.args.self.now c.args.number c.in-Some.view (units_of c.args.name) c.args.replace (Some c.in_err-path.field-0.0) c.in-Some.ensures.value c.in_err-path.ensures.err in
    handed_row c.from_residual.result c.in_err-path.field-0.0 _ c.from_residual.ensures.1 (sym named)

pub returns-in_err-check_way-clause-why : goal.returns-in_err-check_way-clause-why
returns-in_err-check_way-clause-why g c =
    let state : StoreState = record { tree = g.T.Tree.content c.self.inside.tree; opens = g.O.Opens.content c.self.inside.opens; locks = c.self.inside.locks; next = c.self.inside.next } in
    let shows = c.in-Some.ensures.value ∙ sym (ap (λ (s : StoreState). open_view s c.args.number) c.self.view_is) in
    let shown = shown_by state c.args.number c.in-Some.view shows in
    let is : IsWay state c.in-Some.view c.look_up_rename-way.result (units_of c.args.name) (parts_of c.in_ok-path.path) = record { found = c.look_up_rename-way.ensures; spelled = c.in_ok-path.ensures.path; lawful = c.in_ok-path.ensures.lawful } in
    let told = refused_way state c.args.number c.in-Some.view c.look_up_rename-way.result (units_of c.args.name) (parts_of c.in_ok-path.path) c.args.replace (Some c.in_err-check_way.field-0.0) _ _ shown shows is c.self.invariant (sym c.in_err-check_way.ensures.why) (λ q. cc) in
    handed_row c.from_residual-in_err-check_way.result c.in_err-check_way.field-0.0 _ c.from_residual-in_err-check_way.ensures.1
    (sym (told ∙ ap (λ (s : StoreState). rename_refusal s c.args.number (units_of c.args.name) c.args.replace) c.self.view_is))

pub returns-in_err-move_to-clause-why : goal.returns-in_err-move_to-clause-why
returns-in_err-move_to-clause-why g c =
    let state : StoreState = record { tree = g.T.Tree.content c.self.inside.tree; opens = g.O.Opens.content c.self.inside.opens; locks = c.self.inside.locks; next = c.self.inside.next } in
    let shows = c.in-Some.ensures.value ∙ sym (ap (λ (s : StoreState). open_view s c.args.number) c.self.view_is) in
    let shown = shown_by state c.args.number c.in-Some.view shows in
    let is : IsWay state c.in-Some.view c.look_up_rename-way.result (units_of c.args.name) (parts_of c.in_ok-path.path) = record { found = c.look_up_rename-way.ensures; spelled = c.in_ok-path.ensures.path; lawful = c.in_ok-path.ensures.lawful } in
    let left = refusal_left state c.args.number c.in-Some.view c.look_up_rename-way.result (units_of c.args.name) (parts_of c.in_ok-path.path) c.args.replace None _ _ shown shows is c.self.invariant (sym c.in_ok-check_way.ensures.lawful) refl in
    let told = sym (ap (λ (s : StoreState). rename_refusal s c.args.number (units_of c.args.name) c.args.replace) c.self.view_is) ∙ left in
    handed_refused c.from_residual-in_err-move_to.result c.in_err-move_to.field-0.0 _ c.from_residual-in_err-move_to.ensures.1
    (refusal_by _ (rename_refusal c.args.self.now c.args.number (units_of c.args.name) c.args.replace) c.in_err-move_to.field-0.0 told c.in_err-move_to.ensures.why)
