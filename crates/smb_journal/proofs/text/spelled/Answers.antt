use Rattle.std.proofs.Common.{◌*◌, ◌+◌, ◌∙◌, arith}
use Rattle.smb_journal.proofs.Decimals.{spelled_over, spelled_whole}
use Rattle.smb_journal.proofs.text.spelled.Goals as goal

pub returns-in_err-tens : goal.returns-in_err-tens
returns-in_err-tens c = c.from_residual.ensures ∙ spelled_over _ _ _ (c.loop-digit.number * 10) c.loop-digit-test.true c.loop-digit.invariant.left (omega arith) c.in_err-tens.ensures

pub returns-in_err-number : goal.returns-in_err-number
returns-in_err-number c =
    c.from_residual-in_err-number.ensures ∙ spelled_over _ _ _ (c.in_ok-tens.tens + c.from.result) c.loop-digit-test.true c.loop-digit.invariant.left
    (omega (arith, c.in_ok-tens.ensures, c.from.ensures, c.saturating_sub.ensures)) c.in_err-number.ensures

pub returns : goal.returns
returns c = spelled_whole _ _ _ c.loop-digit-test.false c.loop-digit.invariant.left c.loop-digit.invariant.fits
