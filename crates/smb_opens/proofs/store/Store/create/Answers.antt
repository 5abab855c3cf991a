use Rattle.std.proofs.Common.{ap, ◌∙◌}
use Rattle.smb_refusals.specs.declared.refusal.Refusal.{Refusal}
use Rattle.smb_refusals.proofs.RowLemmas.{succeeds}
use Rattle.smb_refusals.proofs.Fails.{create_fails}
use Rattle.smb_access.specs.Asked.{asked}
use Rattle.smb_access.specs.Faults.{store_fault}
use Rattle.smb_access.proofs.Refusals.{store_fault_is}
use Rattle.smb_opens.specs.Create.{create_refusals}
use Rattle.smb_opens.specs.Found.{entry_asked}
use Rattle.smb_opens.proofs.store.Store.create.Goals as goal

pub returns-in-Err-clause-why : goal.returns-in-Err-clause-why
returns-in-Err-clause-why g c =
    let ask = asked c.args.ask.now in
    store_fault_is (λ refusal. Refusal.Create refusal) create_fails (create_refusals c.args.self.now ask (entry_asked c.args.self.now ask)) c.in-Err.refused c.from-in-Err.result
    (c.from-in-Err.ensures ∙ ap store_fault c.from.ensures) c.in-Err.ensures.why

pub returns-in-Ok-clause-lawful : goal.returns-in-Ok-clause-lawful
returns-in-Ok-clause-lawful g c =
    let ask = asked c.args.ask.now in
    succeeds (λ refusal. Refusal.Create refusal) (create_refusals c.args.self.now ask (entry_asked c.args.self.now ask)) c.in-Ok.ensures.lawful
