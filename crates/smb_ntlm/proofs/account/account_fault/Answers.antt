use Rattle.std.proofs.Common.{◌∙◌, sym, arith, map}
use Rattle.std.proofs.lemmas.List.{length-map}
use Rattle.smb_ntlm.specs.Accounts.{known}
use Rattle.smb_ntlm.proofs.Faults.{fault_next, later_some, later_none, fault_last}
use Rattle.smb_ntlm.proofs.account.account_fault.Goals as goal

pub returns-then-is_some : goal.returns-then-is_some
returns-then-is_some c =
    sym (later_some c.fault_of-fault.result _ (sym c.is_some.ensures ∙ c.if-is_some.true))
    ∙ fault_next c.args.accounts.now c.loop-place.place c.index-accounts-place.result c.fault_of-fault.result _ (omega arith) c.index-accounts-place.is c.fault_of-fault.ensures c.loop-place.invariant

pub loop-place-preserved : goal.loop-place-preserved
loop-place-preserved c =
    sym (later_none c.fault_of-fault.result _ (sym c.is_some.ensures ∙ c.if-is_some.false))
    ∙ fault_next c.args.accounts.now c.loop-place.place c.index-accounts-place.result c.fault_of-fault.result _ (omega arith) c.index-accounts-place.is c.fault_of-fault.ensures c.loop-place.invariant

pub returns : goal.returns
returns c =
    sym (fault_last _ (map known c.args.accounts.now) c.loop-place.place (omega (arith, length-map c.args.accounts.now known)))
    ∙ c.loop-place.invariant
