-- Names: UTF-16 units, compared without regard to the case of the letters of ASCII.
use Rattle.std.specs.Prelude.{ℕ, ◌-◌, List, map, Bool, nat_eq, nat_le, ◌&&◌, if◌then◌else◌}
use Rattle.std.specs.declared.cmp.Ordering.{Ordering}
use Rattle.std.specs.Ordering.{nat_cmp}
use Rattle.std.specs.Cmp.Lexicographic.{slice_cmp, pointwise}

-- a to z become A to Z; every other unit stays
abbrev pub folded_unit : ℕ → ℕ
folded_unit unit = if nat_le 97 unit && nat_le unit 122 then unit - 32 else unit

-- a text with each unit folded
abbrev pub folded : List ℕ → List ℕ
folded = map folded_unit

-- the order of two texts, folded, unit by unit; of two where one begins the other the shorter is first
abbrev pub folded_order : List ℕ → List ℕ → Ordering
folded_order left right = slice_cmp nat_cmp (folded left) (folded right)

-- whether two texts are the same name: as many units, and folded each is the other's
abbrev pub is_same_name : List ℕ → List ℕ → Bool
is_same_name left right = pointwise nat_eq (folded left) (folded right)
