use Rattle.std.proofs.Common.{ap, ◌∙◌}
use Rattle.smb_wire.specs.Units.{units_of}
use Rattle.smb_refusals.specs.declared.refusal.Refusal.{Refusal}
use Rattle.smb_refusals.proofs.Fails.{rename_fails}
use Rattle.smb_access.specs.Faults.{store_fault}
use Rattle.smb_opens.proofs.ByRow.{renamed_is, passes, refused_fault}
use Rattle.smb_opens.proofs.store.Store.rename.Goals as goal

pub returns-in-Ok-clause-lawful : goal.returns-in-Ok-clause-lawful
returns-in-Ok-clause-lawful g c =
    passes (λ refusal. Refusal.Rename refusal) _ _
    (renamed_is c.args.self.now c.args.number _ (units_of c.args.name) c.args.replace c.in-Some.ensures.value) c.in-Ok.ensures.lawful

pub returns-in-Err-clause-why : goal.returns-in-Err-clause-why
returns-in-Err-clause-why g c =
    refused_fault (λ refusal. Refusal.Rename refusal) rename_fails _ _ c.in-Err.refused c.from-in-Err-2.result
    (renamed_is c.args.self.now c.args.number _ (units_of c.args.name) c.args.replace c.in-Some.ensures.value) c.in-Err.ensures.why
    (c.from-in-Err-2.ensures ∙ ap store_fault c.from-in-Err.ensures)
