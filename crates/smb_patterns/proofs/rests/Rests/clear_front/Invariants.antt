use Rattle.std.proofs.Common.{◌≡◌, ℕ, ◌*◌, ◌<◌, ◌≤◌, false}
use Rattle.smb_patterns.specs.Bits.{has}
use Rattle.smb_patterns.proofs.rests.Rests.clear_front.Given as goal

abbrev pub invariant-loop-i : goal.invariant-loop-i
invariant-loop-i l = record {
  shorter : (n : ℕ) → n < 64 * l.i → has l.self n ≡ false;
  longer : (n : ℕ) → 64 * l.i ≤ n → has l.self n ≡ has l.fn.self n;
}
