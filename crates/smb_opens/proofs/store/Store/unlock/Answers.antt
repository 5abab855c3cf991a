use Rattle.smb_refusals.specs.declared.refusal.Refusal.{Refusal}
use Rattle.smb_opens.specs.Views.{open_view}
use Rattle.smb_opens.proofs.ByRow.{lock_is, passes, refused_status}
use Rattle.smb_opens.proofs.store.Store.unlock.Goals as goal

pub returns-in-Ok-clause-lawful : goal.returns-in-Ok-clause-lawful
returns-in-Ok-clause-lawful g c =
    passes (λ refusal. Refusal.Lock refusal) _ _
    (lock_is (open_view c.args.self.now c.args.number) _ _ c.in-Some.ensures.value) c.in-Ok.ensures.lawful

pub returns-in-Err-clause-why : goal.returns-in-Err-clause-why
returns-in-Err-clause-why g c =
    refused_status (λ refusal. Refusal.Lock refusal) _ _ c.in-Err.refusal c.status.result
    (lock_is (open_view c.args.self.now c.args.number) _ _ c.in-Some.ensures.value) c.in-Err.ensures.why c.status.ensures
