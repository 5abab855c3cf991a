use Rattle.std.proofs.Common.{List, ◌∷◌, ◌++◌, sym, ap, ◌∙◌}
use Rattle.smb_refusals.specs.declared.create.CreateRefusal.{CreateRefusal}
use Rattle.smb_refusals.specs.declared.create.CreateRefusal.TheVariants.{OpenConflicts}
use Rattle.smb_refusals.specs.Rows.{RefusalRow}
use Rattle.smb_access.specs.Asked.{asked}
use Rattle.smb_access.specs.Looked.{kind_rows, room_rows, target_conflicts}
use Rattle.smb_opens.specs.State.{StoreState}
use Rattle.smb_opens.proofs.Passing.{conflicting, roomy, lawful_as, why_as, handed_row}
use Rattle.smb_opens.proofs.store.Store.check_found.Goals as goal

pub returns-in_err-check_place-clause-why : goal.returns-in_err-check_place-clause-why
returns-in_err-check_place-clause-why g c =
    let rest : List (RefusalRow CreateRefusal) = (target_conflicts c.args.self.now.opens (asked c.args.ask.now) c.args.found.now.target, OpenConflicts) ∷ room_rows c.args.found.now in
    handed_row c.from_residual.result c.in_err-check_place.field-0.0 _ c.from_residual.ensures.1
    (c.in_err-check_place.ensures.err (kind_rows (asked c.args.ask.now) c.args.found.now.target ++ rest))

pub returns-in_err-check_kind-clause-why : goal.returns-in_err-check_kind-clause-why
returns-in_err-check_kind-clause-why g c =
    let rest : List (RefusalRow CreateRefusal) = (target_conflicts c.args.self.now.opens (asked c.args.ask.now) c.args.found.now.target, OpenConflicts) ∷ room_rows c.args.found.now in
    handed_row c.from_residual-in_err-check_kind.result c.in_err-check_kind.field-0.0 _ c.from_residual-in_err-check_kind.ensures.1
    (c.in_ok-check_place.ensures.lawful (kind_rows (asked c.args.ask.now) c.args.found.now.target ++ rest) ∙ c.in_err-check_kind.ensures.err rest)

pub returns-then-conflicts-clause-why : goal.returns-then-conflicts-clause-why
returns-then-conflicts-clause-why g c =
    conflicting c.args.self.now.opens (asked c.args.ask.now) c.args.found.now c.in_ok-check_place.ensures.lawful c.in_ok-check_kind.ensures.lawful
    (ap (λ (s : StoreState). target_conflicts s.opens (asked c.args.ask.now) c.args.found.now.target) (sym c.self.view_is) ∙ sym c.conflicts.ensures ∙ c.if-conflicts.true)

pub returns-clause-lawful : goal.returns-clause-lawful
returns-clause-lawful g c =
    lawful_as c.check_room.result _ _
    (roomy c.args.self.now.opens (asked c.args.ask.now) c.args.found.now c.in_ok-check_place.ensures.lawful c.in_ok-check_kind.ensures.lawful
    (ap (λ (s : StoreState). target_conflicts s.opens (asked c.args.ask.now) c.args.found.now.target) (sym c.self.view_is) ∙ sym c.conflicts.ensures ∙ c.if-conflicts.false)) c.check_room.ensures.lawful

pub returns-clause-why : goal.returns-clause-why
returns-clause-why g c =
    why_as c.check_room.result _ _
    (roomy c.args.self.now.opens (asked c.args.ask.now) c.args.found.now c.in_ok-check_place.ensures.lawful c.in_ok-check_kind.ensures.lawful
    (ap (λ (s : StoreState). target_conflicts s.opens (asked c.args.ask.now) c.args.found.now.target) (sym c.self.view_is) ∙ sym c.conflicts.ensures ∙ c.if-conflicts.false)) c.check_room.ensures.err
