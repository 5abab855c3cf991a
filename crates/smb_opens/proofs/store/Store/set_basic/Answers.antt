use Rattle.smb_refusals.specs.declared.refusal.Refusal.{Refusal}
use Rattle.smb_opens.specs.SetInfo.{basic_refusals}
use Rattle.smb_opens.proofs.ByRow.{through_is, passes, refused_status}
use Rattle.smb_opens.proofs.store.Store.set_basic.Goals as goal

pub returns-in-Ok-clause-lawful : goal.returns-in-Ok-clause-lawful
returns-in-Ok-clause-lawful g c =
    passes (λ refusal. Refusal.SetBasic refusal) _ _
    (through_is (λ refusal. Refusal.SetBasic refusal) c.args.self.now c.args.number _ (basic_refusals c.args.ask.now) c.in-Some.ensures.value) c.in-Ok.ensures.lawful

pub returns-in-Err-clause-why : goal.returns-in-Err-clause-why
returns-in-Err-clause-why g c =
    refused_status (λ refusal. Refusal.SetBasic refusal) _ _ c.in-Err.refusal c.status.result
    (through_is (λ refusal. Refusal.SetBasic refusal) c.args.self.now c.args.number _ (basic_refusals c.args.ask.now) c.in-Some.ensures.value) c.in-Err.ensures.why c.status.ensures
