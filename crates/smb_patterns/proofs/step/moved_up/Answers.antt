use Rattle.std.proofs.Common.{ℕ, ◌*◌, ◌%◌, subst, sym, ◌≡◌, ◌<◌}
use Rattle.std.specs.Prelude.{bit_or}
use Rattle.smb_patterns.specs.Bits.{bit, below}
use Rattle.smb_patterns.proofs.Words.{moved_up}
use Rattle.smb_patterns.proofs.step.moved_up.Goals as goal

pub returns : goal.returns
returns c =
    subst (λ (flag : ℕ). (i : ℕ) → i < 64 → bit (bit_or (c.args.word * 2 % 18446744073709551616) flag) i ≡ below c.args.first (bit c.args.word) i)
    (sym c.from.ensures) (moved_up c.args.word c.args.first)
