use Rattle.std.proofs.Common.{◌≡◌, ◌+◌, ◌*◌, ◌-◌, ◌∙◌, inl, inr, ap, arith}
use Rattle.std.proofs.lemmas.Bool.{cases_lt}
use Rattle.smb_patterns.specs.Bits.{has}
use Rattle.smb_patterns.proofs.Words.{bit-zero}
use Rattle.smb_patterns.proofs.rests.Rests.clear_front.Goals as goal

pub loop-i-preserved : goal.loop-i-preserved
loop-i-preserved c = record {
  shorter = λ n h. elim (cases_lt n (64 * c.loop-i.i)) [
    | inl f ↦ c.set_word.ensures.shorter n f ∙ c.loop-i.invariant.shorter n f
    | inr f ↦
        let place : n ≡ 64 * c.loop-i.i + (n - 64 * c.loop-i.i) = omega arith in
        ap (has c.set_word.new.self) place ∙ c.set_word.ensures.here (n - 64 * c.loop-i.i) (omega arith) ∙ bit-zero (n - 64 * c.loop-i.i)
  ];
  longer = λ n h. c.set_word.ensures.longer n (omega arith) ∙ c.loop-i.invariant.longer n (omega arith);
}
