-- For the proofs; nothing here need be believed.
-- Answers for each rest of a pattern, at one place of a name.
use Rattle.std.specs.Prelude.{◌≡◌, ◌↔◌, ℕ, ◌-◌, ◌≤◌, Bool, true, false, not, ◌==◌, ◌&&◌, ◌||◌, if◌then◌else◌, List, length, drop, slice_index}
use Rattle.smb_wire.specs.Names.{folded_unit}
use Rattle.smb_patterns.specs.Patterns.{symbol_of, has_dot, Matches}
use Rattle.smb_patterns.specs.declared.symbol.Symbol.{Symbol}
use Rattle.smb_patterns.specs.declared.symbol.Symbol.TheVariants.{Asterisk, QuestionMark, DosStar, DosQm, DosDot, Literal}
use Rattle.smb_patterns.specs.declared.rows.Place.{Place}

-- the answers for the rests of a pattern, by how many units they have: whether each matches these units
abbrev pub IsRow : List ℕ → List ℕ → (ℕ → Bool) → Type 0
IsRow pattern units row =
    (n : ℕ) → n ≤ length pattern → (row n ≡ true) ↔ Matches (drop (length pattern - n) pattern) units

-- a place of a name with these units behind it
abbrev pub IsPatternPlace : Place → List ℕ → Type 0
IsPatternPlace place units = place.is_last_dot ≡ ((place.unit == 46) && not (has_dot units))

-- what is known before the first symbol of a rest is asked at a unit of a name:
-- whether the rest matches what is behind the unit, the same of what is behind the symbol, and whether that matches from the unit on
pub record Known : Type 0 where
  pub stays : Bool
  pub moves : Bool
  pub skips : Bool

-- the answer for a symbol at a unit, by the answers that are known
abbrev pub answer_of : Symbol → Place → Known → Bool
answer_of Asterisk place known = known.skips || known.stays
answer_of QuestionMark place known = known.moves
answer_of DosStar place known = known.skips || (known.stays && not place.is_last_dot)
answer_of DosQm place known = if place.unit == 46 then known.skips else known.moves
answer_of DosDot place known = (place.unit == 46) && known.moves
answer_of (Literal unit) place known = (folded_unit place.unit == folded_unit unit) && known.moves

-- the symbol that the rest of n units begins with, n being above 0
abbrev pub symbol_at : List ℕ → ℕ → Symbol
symbol_at pattern n = symbol_of (slice_index pattern (length pattern - n))

-- the answer for the rest of n units at a unit; the rest of none matches no unit
abbrev pub rest_answer : List ℕ → Place → ℕ → Known → Bool
rest_answer pattern place n known = if n == 0 then false else answer_of (symbol_at pattern n) place known

-- the rest of n units begins with a symbol that passes a test
abbrev pub begins : (Symbol → Bool) → List ℕ → ℕ → Bool
begins test pattern n = if n == 0 then false else test (symbol_at pattern n)
