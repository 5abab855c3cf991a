use Rattle.std.proofs.Common.{ℕ, ◌%◌, List, length, arith, ap, is_some, sym, ◌∙◌}
use Rattle.std.proofs.lemmas.Bool.{eqb-true}
use Rattle.smb_changes.proofs.Reading.{entry_is}
use Rattle.smb_changes.proofs.read.entry_of.Goals as goal

pub returns : goal.returns
returns c =
    rw (c.kind_of.ensures, c.basic_of.ensures, c.in_ok-spelling.ensures.units, c.split_at.ensures.back)
    (sym (entry_is c.args.number c.args.parent c.in_ok-kind.kind.now c.in_ok-mark.mark.now c.args.bytes.now c.in_ok-kind.bytes.now c.in_ok-mark.bytes.now c.in_ok-kind.ensures.cases.0 c.in_ok-mark.ensures.cases.0 (omega (arith, c.if-kind-gt1.false)) (omega (arith, c.if-mark-gt1.false)) (omega (arith, c.if-bytes-lt36.false)) (ap (λ (l : List ℕ). length l % 2) (sym c.split_at.ensures.back) ∙ eqb-true _ _ (sym c.of.ensures.some ∙ ap is_some c.in_ok-spelling.was))))
