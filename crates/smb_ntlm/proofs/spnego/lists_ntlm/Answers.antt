use Rattle.std.proofs.Common.{◌<◌, length, arith, sym, ◌∙◌, eqb-true}
use Rattle.smb_ntlm.specs.Der.{parted}
use Rattle.smb_ntlm.proofs.Elements.{rest_shorter}
use Rattle.smb_ntlm.proofs.Mechanisms.{listed_first, listed_last, listed_broken, listed_step, some_left}
use Rattle.smb_ntlm.proofs.spnego.lists_ntlm.Goals as goal

pub loop-mechanisms-init : goal.loop-mechanisms-init
loop-mechanisms-init c = (length c.args.mechanisms.now, omega arith, listed_first c.args.mechanisms.now)

pub returns-in_default : goal.returns-in_default
returns-in_default c =
    let left : 0 < length c.loop-mechanisms.mechanisms.now = some_left _ _ c.is_empty.ensures c.loop-mechanisms-test.true in
    sym (listed_broken c.loop-mechanisms.invariant.0 c.loop-mechanisms.listed c.loop-mechanisms.mechanisms.now left c.in_default.ensures)
    ∙ c.loop-mechanisms.invariant.2

pub loop-mechanisms-smaller : goal.loop-mechanisms-smaller
loop-mechanisms-smaller c = rest_shorter 0x06 c.loop-mechanisms.mechanisms.now (parted c.in-Some.mechanism) (sym c.in-Some.ensures)

pub loop-mechanisms-preserved : goal.loop-mechanisms-preserved
loop-mechanisms-preserved c =
    let left : 0 < length c.loop-mechanisms.mechanisms.now = some_left _ _ c.is_empty.ensures c.loop-mechanisms-test.true in
    rw c.is_ntlm-listed.ensures
    (listed_step c.loop-mechanisms.invariant.0 c.loop-mechanisms.listed c.loop-mechanisms.mechanisms.now (parted c.in-Some.mechanism) _
    left c.loop-mechanisms.invariant.1 (sym c.in-Some.ensures) c.loop-mechanisms.invariant.2)

pub returns : goal.returns
returns c =
    sym (listed_last c.loop-mechanisms.invariant.0 c.loop-mechanisms.listed c.loop-mechanisms.mechanisms.now (eqb-true _ _ (sym c.is_empty.ensures ∙ c.loop-mechanisms-test.false)))
    ∙ c.loop-mechanisms.invariant.2
