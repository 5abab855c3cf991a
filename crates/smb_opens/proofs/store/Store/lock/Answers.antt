use Rattle.std.proofs.Common.{ap, ◌∙◌}
use Rattle.smb_refusals.specs.declared.refusal.Refusal.{Refusal}
use Rattle.smb_refusals.proofs.Fails.{lock_fails}
use Rattle.smb_access.specs.Faults.{store_fault}
use Rattle.smb_opens.specs.Views.{open_view}
use Rattle.smb_opens.proofs.ByRow.{lock_is, passes, refused_fault}
use Rattle.smb_opens.proofs.store.Store.lock.Goals as goal

pub returns-in-Ok-clause-lawful : goal.returns-in-Ok-clause-lawful
returns-in-Ok-clause-lawful g c =
    passes (λ refusal. Refusal.Lock refusal) _ _
    (lock_is (open_view c.args.self.now c.args.number) _ _ c.in-Some.ensures.value) c.in-Ok.ensures.lawful

pub returns-in-Err-clause-why : goal.returns-in-Err-clause-why
returns-in-Err-clause-why g c =
    refused_fault (λ refusal. Refusal.Lock refusal) lock_fails _ _ c.in-Err.refused c.from-in-Err-2.result
    (lock_is (open_view c.args.self.now c.args.number) _ _ c.in-Some.ensures.value) c.in-Err.ensures.why
    (c.from-in-Err-2.ensures ∙ ap store_fault c.from-in-Err.ensures)
