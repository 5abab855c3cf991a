-- What patterns match, in a user's words.
use Rattle.std.specs.Prelude.{◌≡◌, ◌↔◌, IsTrue, ℕ, ◌≤◌, Bool, true, false, ◌⊎◌, List, [], ◌∷◌, ◌++◌, length, replicate}
use Rattle.std.specs.List.{list_all}
use Rattle.smb_wire.specs.Names.{folded}
use Rattle.smb_patterns.specs.Patterns.{symbol_of, has_dot, Matches, is_match}
use Rattle.smb_patterns.specs.declared.symbol.Symbol.TheVariants.{Literal}

-- no unit is a wildcard
abbrev pub are_literals : List ℕ → Bool
are_literals = list_all (λ unit. elim (symbol_of unit) as (λ it. Bool) [ Literal itself ↦ true | _ ↦ false ])

-- `*` matches every name
abbrev pub AsteriskMatchesEveryName : Type 0
AsteriskMatchesEveryName = (name : List ℕ) → Matches (42 ∷ []) name

-- a pattern without wildcards matches the names that are the same as it when folded, and no other
abbrev pub LiteralsMatchTheirName : Type 0
LiteralsMatchTheirName =
    (pattern name : List ℕ) → are_literals pattern ≡ true → Matches pattern name ↔ (folded name ≡ folded pattern)

-- `?` n times matches the names of n units
abbrev pub QuestionMarksCount : Type 0
QuestionMarksCount = (n : ℕ) (name : List ℕ) → Matches (replicate n 63) name ↔ (length name ≡ n)

-- `<` alone matches the names without a dot
abbrev pub DosStarKeepsTheLastDot : Type 0
DosStarKeepsTheLastDot = (name : List ℕ) → Matches (60 ∷ []) name ↔ (has_dot name ≡ false)

-- `<`, a dot and a text without wildcards match the names that end with a dot and this text
abbrev pub DosStarLeavesTheExtension : Type 0
DosStarLeavesTheExtension =
    (extension name : List ℕ) → are_literals extension ≡ true →
    Matches (60 ∷ 46 ∷ extension) name ↔
    ((base : List ℕ) × (last : List ℕ) × (name ≡ base ++ 46 ∷ last) × (folded last ≡ folded extension))

-- `>` n times matches the names of at most n units without a dot
abbrev pub DosQmsMatchShortNames : Type 0
DosQmsMatchShortNames = (n : ℕ) (name : List ℕ) → Matches (replicate n 62) name ↔ ((length name ≤ n) × (has_dot name ≡ false))

-- a base, `"` and `*` match the names that are this base, alone or with a dot and anything behind it
abbrev pub DosDotBeginsAnExtension : Type 0
DosDotBeginsAnExtension =
    (base name : List ℕ) → are_literals base ≡ true →
    Matches (base ++ 34 ∷ 42 ∷ []) name ↔
    ((folded name ≡ folded base) ⊎ ((front : List ℕ) × (last : List ℕ) × (name ≡ front ++ 46 ∷ last) × (folded front ≡ folded base)))

-- `*` and a dot match the names that end with a dot, `.` and `..` among them
abbrev pub ATrailingDotIsWanted : Type 0
ATrailingDotIsWanted = (name : List ℕ) → Matches (42 ∷ 46 ∷ []) name ↔ ((front : List ℕ) × (name ≡ front ++ 46 ∷ []))

-- a pattern and a name match as they do folded
abbrev pub CaseMakesNoDifference : Type 0
CaseMakesNoDifference = (pattern name : List ℕ) → Matches pattern name ↔ Matches (folded pattern) (folded name)

-- the test says what the relation does
abbrev pub TheTestIsTheRelation : Type 0
TheTestIsTheRelation = (pattern name : List ℕ) → IsTrue (is_match pattern name) ↔ Matches pattern name
