use Rattle.std.proofs.Common.{ap, ◌∙◌}
use Rattle.smb_refusals.specs.declared.refusal.Refusal.{Refusal}
use Rattle.smb_refusals.proofs.Fails.{set_size_fails}
use Rattle.smb_access.specs.Faults.{store_fault}
use Rattle.smb_opens.specs.SetInfo.{size_refusals}
use Rattle.smb_opens.proofs.ByRow.{through_is, passes, refused_fault}
use Rattle.smb_opens.proofs.store.Store.set_size.Goals as goal

pub returns-in-Ok-clause-lawful : goal.returns-in-Ok-clause-lawful
returns-in-Ok-clause-lawful g c =
    passes (λ refusal. Refusal.SetSize refusal) _ _
    (through_is (λ refusal. Refusal.SetSize refusal) c.args.self.now c.args.number _ (size_refusals c.args.self.now c.args.size) c.in-Some.ensures.value) c.in-Ok.ensures.lawful

pub returns-in-Err-clause-why : goal.returns-in-Err-clause-why
returns-in-Err-clause-why g c =
    refused_fault (λ refusal. Refusal.SetSize refusal) set_size_fails _ _ c.in-Err.refused c.from-in-Err-2.result
    (through_is (λ refusal. Refusal.SetSize refusal) c.args.self.now c.args.number _ (size_refusals c.args.self.now c.args.size) c.in-Some.ensures.value) c.in-Err.ensures.why
    (c.from-in-Err-2.ensures ∙ ap store_fault c.from-in-Err.ensures)
