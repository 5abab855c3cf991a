-- Example names, of plain parts.
use Rattle.std.proofs.Common.{◌≡◌, ℕ, zero, suc, List, [], ◌∷◌, All, true, lit<, lit≤, refl, arith}
use Rattle.smb_name_laws.specs.NewNames.{is_plain_unit, IsPlain}

-- a name of two letters, `no`
abbrev pub two_letters : List ℕ
two_letters = 110 ∷ 111 ∷ []

one_unit : (unit : ℕ) → is_plain_unit unit ≡ true → All (λ u. is_plain_unit u ≡ true) (unit ∷ [])
one_unit unit plain zero d l = plain
one_unit unit plain (suc k) d l = absurd (omega (arith, l))

two_units : All (λ unit. is_plain_unit unit ≡ true) two_letters
two_units zero d l = refl
two_units (suc zero) d l = refl
two_units (suc (suc k)) d l = absurd (omega (arith, l))

-- a part of one letter is plain, and that of two
pub plain_letter : (unit : ℕ) → is_plain_unit unit ≡ true → IsPlain (unit ∷ [])
plain_letter unit plain = record { some = lit< tt; short = lit≤ tt; units = one_unit unit plain }

pub plain_two_letters : IsPlain two_letters
plain_two_letters = record { some = lit< tt; short = lit≤ tt; units = two_units }

-- one part, and two
pub one_part : (part : List ℕ) → IsPlain part → All IsPlain (part ∷ [])
one_part part plain zero d l = plain
one_part part plain (suc k) d l = absurd (omega (arith, l))

pub two_parts : (part other : List ℕ) → IsPlain part → IsPlain other → All IsPlain (part ∷ other ∷ [])
two_parts part other plain also zero d l = plain
two_parts part other plain also (suc zero) d l = also
two_parts part other plain also (suc (suc k)) d l = absurd (omega (arith, l))
