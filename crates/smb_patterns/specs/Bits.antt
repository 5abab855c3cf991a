-- For the proofs; nothing here need be believed.
-- Bits of words, and answers by them.
use Rattle.std.specs.Prelude.{◌≡◌, ℕ, ◌+◌, ◌-◌, ◌*◌, ◌/◌, ◌%◌, ◌<◌, ◌≤◌, ◌⊎◌, Bool, true, false, not, ◌==◌, ◌&&◌, ◌||◌, nat_le, if◌then◌else◌, List, slice_index}
use Rattle.std.specs.Int.{bit_at}
use Rattle.smb_wire.specs.Names.{folded_unit}
use Rattle.smb_patterns.specs.PatternRows.{Known, begins}
use Rattle.smb_patterns.specs.declared.symbol.Symbol.{Symbol}
use Rattle.smb_patterns.specs.declared.symbol.Symbol.TheVariants.{Asterisk, QuestionMark, DosStar, DosQm, DosDot, Literal}
use Rattle.smb_patterns.specs.declared.rests.Rests.{Rests}
use Rattle.smb_patterns.specs.declared.byte_table.ByteTable.{ByteTable}
use Rattle.smb_patterns.specs.declared.symbols.Symbols.{Symbols}
use Rattle.smb_patterns.specs.declared.step.Step.{Step}
use Rattle.smb_patterns.specs.declared.rows.Place.{Place}

-- bit i of a word is 1
unfoldable pub bit : ℕ → ℕ → Bool
bit word i = bit_at word i == 1

-- bit n of a row of words is 1
unfoldable pub has_bit : List ℕ → ℕ → Bool
has_bit words n = bit (slice_index words (n / 64)) (n % 64)

-- the rest of n units is one of these
abbrev pub has : Rests → ℕ → Bool
has rests n = has_bit rests.words n

-- the rest of n units is one of those for this byte
abbrev pub has_for : ByteTable → ℕ → ℕ → Bool
has_for table byte n = has_bit table.words (256 * byte + n)

-- what a test says one place below, and of the lowest place this
abbrev pub below : Bool → (ℕ → Bool) → ℕ → Bool
below first test n = if n == 0 then first else test (n - 1)

-- the answer of a symbol that may take the unit and no more, take it and go on, or take nothing
abbrev pub answer_by : Bool → Bool → Bool → Known → Bool
answer_by takes stays skips known = ((takes && known.moves) || (stays && known.stays)) || (skips && known.skips)

-- what is known of the rest of n units, by the row behind a unit and the row from it on
abbrev pub known_at : (ℕ → Bool) → (ℕ → Bool) → ℕ → Known
known_at old new n = record { moves = below false old n; stays = old n; skips = below false new n }

-- which of the symbols one is
abbrev pub kind : Symbol → ℕ
kind Asterisk = 0
kind QuestionMark = 1
kind DosStar = 2
kind DosQm = 3
kind DosDot = 4
kind (Literal unit) = 5

-- the symbol stands for itself, and this is its low byte, folded
abbrev pub has_low : ℕ → Symbol → Bool
has_low byte Asterisk = false
has_low byte QuestionMark = false
has_low byte DosStar = false
has_low byte DosQm = false
has_low byte DosDot = false
has_low byte (Literal unit) = folded_unit unit % 256 == byte

-- the same of its high byte
abbrev pub has_high : ℕ → Symbol → Bool
has_high byte Asterisk = false
has_high byte QuestionMark = false
has_high byte DosStar = false
has_high byte DosQm = false
has_high byte DosDot = false
has_high byte (Literal unit) = folded_unit unit / 256 == byte

-- one rest more, where it passes a test
abbrev pub IsMore : Bool → ℕ → (ℕ → Bool) → (ℕ → Bool) → Type 0
IsMore test n old new = (m : ℕ) → m < 256 → new m ≡ (((m == n) && test) || old m)

-- the rest of n units is added, which begins with this symbol
pub record IsAdded (symbol : Symbol) (n : ℕ) (old new : Symbols) : Type 0 where
  pub asterisk : IsMore (kind symbol == 0) n (has old.asterisk) (has new.asterisk)
  pub question_mark : IsMore (kind symbol == 1) n (has old.question_mark) (has new.question_mark)
  pub dos_star : IsMore (kind symbol == 2) n (has old.dos_star) (has new.dos_star)
  pub dos_qm : IsMore (kind symbol == 3) n (has old.dos_qm) (has new.dos_qm)
  pub dos_dot : IsMore (kind symbol == 4) n (has old.dos_dot) (has new.dos_dot)
  pub lows : (byte : ℕ) → byte < 256 → IsMore (has_low byte symbol) n (has_for old.lows byte) (has_for new.lows byte)
  pub highs : (byte : ℕ) → byte < 256 → IsMore (has_high byte symbol) n (has_for old.highs byte) (has_for new.highs byte)

-- the rests whose first symbol takes a unit, and no more
abbrev pub takes_at : Symbols → Place → ℕ → Bool
takes_at symbols place n =
    (has symbols.question_mark n || (has_for symbols.lows (folded_unit place.unit % 256) n && has_for symbols.highs (folded_unit place.unit / 256) n))
    || (if place.unit == 46 then has symbols.dos_dot n else has symbols.dos_qm n)

-- the rests whose first symbol takes a unit and may go on
abbrev pub stays_at : Symbols → Place → ℕ → Bool
stays_at symbols place n = has symbols.asterisk n || (not place.is_last_dot && has symbols.dos_star n)

-- the rests whose first symbol takes nothing before a unit
abbrev pub skips_at : Symbols → Place → ℕ → Bool
skips_at symbols place n = (has symbols.asterisk n || has symbols.dos_star n) || ((place.unit == 46) && has symbols.dos_qm n)

-- 64 of these tests, from the rest of 64 * at units on
pub record IsStep (symbols : Symbols) (place : Place) (at : ℕ) (step : Step) : Type 0 where
  pub takes : (i : ℕ) → i < 64 → bit step.takes i ≡ takes_at symbols place (64 * at + i)
  pub stays : (i : ℕ) → i < 64 → bit step.stays i ≡ stays_at symbols place (64 * at + i)
  pub skips : (i : ℕ) → i < 64 → bit step.skips i ≡ skips_at symbols place (64 * at + i)

-- the answers for the rest of n units, by the row behind a unit and the row from it on
abbrev pub carried_at : Symbols → Place → (ℕ → Bool) → (ℕ → Bool) → ℕ → Bool
carried_at symbols place old new n =
    answer_by (takes_at symbols place n) (stays_at symbols place n) (skips_at symbols place n) (known_at old new n)

-- 64 answers from a unit on, from the rest of 64 * at units on, by those behind it;
-- `old` and `new` are the answers for the rest one shorter, behind the unit and from it on
abbrev pub IsCarried : Symbols → Place → ℕ → ℕ → Bool → Bool → ℕ → Type 0
IsCarried symbols place at word old new carried =
    (i : ℕ) → i < 64 → bit carried i ≡
    answer_by (takes_at symbols place (64 * at + i)) (stays_at symbols place (64 * at + i)) (skips_at symbols place (64 * at + i))
    (record { moves = below old (bit word) i; stays = bit word i; skips = below new (bit carried) i })

-- in this word of a row a rest is set that begins with `*`, if it is not the first word
abbrev pub HasAsterisk : Symbols → (ℕ → Bool) → ℕ → Type 0
HasAsterisk symbols row at =
    (at ≡ 0) ⊎ ((n : ℕ) × (64 * at ≤ n) × (n < 256) × (has symbols.asterisk n ≡ true) × (row n ≡ true))

-- a row keeps the rests of at least this many units, where the rest of so many begins with `*` and is set, or all are kept
pub record IsNarrowed (symbols : Symbols) (old new : ℕ → Bool) : Type 0 where
  pub shortest : ℕ
  pub few : shortest < 256
  pub kept : (n : ℕ) → shortest ≤ n → new n ≡ old n
  pub set : (shortest ≡ 0) ⊎ ((has symbols.asterisk shortest ≡ true) × (old shortest ≡ true))

-- the rests of at most `count` units that pass a test, by the symbol that each begins with
abbrev pub IsShown : (Symbol → Bool) → List ℕ → ℕ → (ℕ → Bool) → Type 0
IsShown test pattern count shown = (n : ℕ) → n < 256 → shown n ≡ (nat_le n count && begins test pattern n)

-- the rests of at most `count` units, by the symbol that each begins with
pub record AreShown (pattern : List ℕ) (count : ℕ) (symbols : Symbols) : Type 0 where
  pub asterisk : IsShown (λ s. kind s == 0) pattern count (has symbols.asterisk)
  pub question_mark : IsShown (λ s. kind s == 1) pattern count (has symbols.question_mark)
  pub dos_star : IsShown (λ s. kind s == 2) pattern count (has symbols.dos_star)
  pub dos_qm : IsShown (λ s. kind s == 3) pattern count (has symbols.dos_qm)
  pub dos_dot : IsShown (λ s. kind s == 4) pattern count (has symbols.dos_dot)
  pub lows : (byte : ℕ) → byte < 256 → IsShown (has_low byte) pattern count (has_for symbols.lows byte)
  pub highs : (byte : ℕ) → byte < 256 → IsShown (has_high byte) pattern count (has_for symbols.highs byte)
