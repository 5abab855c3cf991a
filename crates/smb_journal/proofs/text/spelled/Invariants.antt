use Rattle.std.proofs.Common.{◌≡◌, ◌<◌, drop}
use Rattle.smb_journal.specs.Lines.{decimal_from}
use Rattle.smb_journal.proofs.text.spelled.Given as goal

abbrev pub invariant-loop-digit : goal.invariant-loop-digit
invariant-loop-digit l = record {
  left : decimal_from l.number (drop l.digit-index l.digits) ≡ decimal_from 0 l.digits;
  fits : l.number < 18446744073709551616;
}
