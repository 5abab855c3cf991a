use Rattle.std.proofs.Common.{ℕ, ◌+◌, ◌/◌, ◌%◌, ◌*◌, ◌^◌, refl, ap, ◌∙◌, arith}
use Rattle.smb_changes.proofs.Checks.{halves, wraps}
use Rattle.smb_changes.proofs.check.stirred.Goals as goal

pub returns : goal.returns
returns c =
    c.rotate_left.ensures ∙ halves _ (omega arith)
    ∙ ap (λ (n : ℕ). n / 2 ^ 32 + n % 2 ^ 32 * 2 ^ 32) (wraps _ c.u64_in-second.result c.u64_in-third.result c.u64_in-fourth.result)
    ∙ rw (c.u64_in.ensures, c.u64_in-second.ensures, c.u64_in-third.ensures, c.u64_in-fourth.ensures) refl
