-- Numbers as the machine gives their bytes.
use Rattle.std.proofs.Common.{◌≡◌, ℕ, ◌/◌, refl, arith}
use Rattle.std.specs.Int.{w16, w32, w64, to_le_bytes}
use Rattle.smb_wire.specs.Number.{spelling}

pub spelling_2 : (n : ℕ) → to_le_bytes w16 n ≡ spelling 2 n
unfolding spelling
spelling_2 n = refl

pub spelling_4 : (n : ℕ) → to_le_bytes w32 n ≡ spelling 4 n
unfolding spelling
spelling_4 n =
    let two : n / 256 / 256 ≡ n / 65536 = omega arith in
    let three : n / 65536 / 256 ≡ n / 16777216 = omega arith in
    simp (two, three) refl

pub spelling_8 : (n : ℕ) → to_le_bytes w64 n ≡ spelling 8 n
unfolding spelling
spelling_8 n =
    let two : n / 256 / 256 ≡ n / 65536 = omega arith in
    let three : n / 65536 / 256 ≡ n / 16777216 = omega arith in
    let four : n / 16777216 / 256 ≡ n / 4294967296 = omega arith in
    let five : n / 4294967296 / 256 ≡ n / 1099511627776 = omega arith in
    let six : n / 1099511627776 / 256 ≡ n / 281474976710656 = omega arith in
    let seven : n / 281474976710656 / 256 ≡ n / 72057594037927936 = omega arith in
    simp (two, three, four, five, six, seven) refl
