use Rattle.smb_refusals.specs.declared.refusal.Refusal.{Refusal}
use Rattle.smb_opens.specs.Bytes.{read_refusals}
use Rattle.smb_opens.proofs.ByRow.{through_is, passes, refused_status}
use Rattle.smb_opens.proofs.store.Store.find_bytes.Goals as goal

pub returns-in-Ok-clause-lawful : goal.returns-in-Ok-clause-lawful
returns-in-Ok-clause-lawful g c =
    passes (λ refusal. Refusal.Read refusal) _ _
    (through_is (λ refusal. Refusal.Read refusal) c.args.self.now c.args.number _ (read_refusals c.args.self.now c.args.most c.args.number c.args.offset c.args.count c.args.minimum) c.in-Some.ensures.value) c.in-Ok.ensures.lawful

pub returns-in-Err-clause-why : goal.returns-in-Err-clause-why
returns-in-Err-clause-why g c =
    refused_status (λ refusal. Refusal.Read refusal) _ _ c.in-Err.refusal c.status.result
    (through_is (λ refusal. Refusal.Read refusal) c.args.self.now c.args.number _ (read_refusals c.args.self.now c.args.most c.args.number c.args.offset c.args.count c.args.minimum) c.in-Some.ensures.value) c.in-Err.ensures.why c.status.ensures
