use Rattle.std.proofs.Common.{ap, ◌∙◌}
use Rattle.smb_refusals.specs.declared.refusal.Refusal.{Refusal}
use Rattle.smb_refusals.proofs.Fails.{write_fails}
use Rattle.smb_access.specs.Faults.{store_fault}
use Rattle.smb_opens.specs.Bytes.{write_refusals}
use Rattle.smb_opens.proofs.ByRow.{through_is, passes, refused_fault}
use Rattle.smb_opens.proofs.store.Store.write.Goals as goal

pub returns-in-Ok-clause-lawful : goal.returns-in-Ok-clause-lawful
returns-in-Ok-clause-lawful g c =
    passes (λ refusal. Refusal.Write refusal) _ _
    (through_is (λ refusal. Refusal.Write refusal) c.args.self.now c.args.number _ (write_refusals c.args.self.now c.args.most c.args.number c.args.offset c.args.buffer.now) c.in-Some.ensures.value) c.in-Ok.ensures.lawful

pub returns-in-Err-clause-why : goal.returns-in-Err-clause-why
returns-in-Err-clause-why g c =
    refused_fault (λ refusal. Refusal.Write refusal) write_fails _ _ c.in-Err.refused c.from-in-Err-2.result
    (through_is (λ refusal. Refusal.Write refusal) c.args.self.now c.args.number _ (write_refusals c.args.self.now c.args.most c.args.number c.args.offset c.args.buffer.now) c.in-Some.ensures.value) c.in-Err.ensures.why
    (c.from-in-Err-2.ensures ∙ ap store_fault c.from-in-Err.ensures)
