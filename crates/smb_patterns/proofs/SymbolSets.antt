-- The answer for a symbol at a unit of a name, by the sets of rests that it is in.
use Rattle.std.proofs.Common.{◌≡◌, ◌≢◌, ℕ, suc, zero, ◌+◌, ◌/◌, ◌%◌, ◌<◌, ◌≤◌, Bool, true, false, not, cond, ◌==◌, ◌&&◌, ◌||◌, List, length, inl, inr, refl, sym, ap, subst, ◌∙◌, arith}
use Rattle.std.specs.Prelude.{nat_le}
use Rattle.std.proofs.lemmas.Bool.{cases_eq, cases_lt, eq-eqb, ne_eqb, and_left, and_right, cases_Bool, le-leb, lt-leb}
use Rattle.smb_wire.specs.Names.{folded_unit}
use Rattle.smb_patterns.specs.PatternRows.{Known, answer_of, rest_answer, symbol_at, begins}
use Rattle.smb_patterns.specs.Bits.{has, has_for, kind, has_low, has_high, answer_by, known_at, carried_at, IsMore, IsAdded, IsShown, AreShown}
use Rattle.smb_patterns.specs.declared.symbol.Symbol.{Symbol}
use Rattle.smb_patterns.specs.declared.symbol.Symbol.TheVariants.{Asterisk, QuestionMark, DosStar, DosQm, DosDot, Literal}
use Rattle.smb_patterns.specs.declared.symbols.Symbols.{Symbols}
use Rattle.smb_patterns.specs.declared.rows.Place.{Place}
use Rattle.smb_patterns.proofs.Words.{above_zero, or-false, or_turned}

-- two units are one where both bytes are
both_bytes : (u v : ℕ) → ((v % 256 == u % 256) && (v / 256 == u / 256)) ≡ (u == v)
both_bytes u v = elim (cases_eq u v) [
  | inl e ↦
      ap (λ (b : Bool). b && (v / 256 == u / 256)) (eq-eqb (v % 256) (u % 256) (ap (λ (x : ℕ). x % 256) (sym e)))
      ∙ eq-eqb (v / 256) (u / 256) (ap (λ (x : ℕ). x / 256) (sym e))
      ∙ sym (eq-eqb u v e)
  | inr n ↦ elim (cases_eq (v % 256) (u % 256)) [
    | inl low ↦ and_right (v % 256 == u % 256) (v / 256 == u / 256) (ne_eqb (v / 256) (u / 256) (λ f. n (omega arith))) ∙ sym (ne_eqb u v n)
    | inr low ↦ and_left (v % 256 == u % 256) (v / 256 == u / 256) (ne_eqb (v % 256) (u % 256) low) ∙ sym (ne_eqb u v n)
  ]
]

-- d: the unit is a dot; l: it is the last one; m, s, k: the answers that are known
asterisk_case : (d l m s k : Bool) → ((cond d false false && m) || ((true || (not l && false)) && s)) || k ≡ k || s
asterisk_case true l m s k = or_turned s k
asterisk_case false l m s k = or_turned s k

question_case : (d l m s k : Bool) → (m || ((not l && false) && s)) || ((d && false) && k) ≡ m
question_case true true m s k = or-false (m || false) ∙ or-false m
question_case true false m s k = or-false (m || false) ∙ or-false m
question_case false true m s k = or-false (m || false) ∙ or-false m
question_case false false m s k = or-false (m || false) ∙ or-false m

dos_star_case : (d l m s k : Bool) → ((cond d false false && m) || ((not l && true) && s)) || k ≡ k || (s && not l)
dos_star_case true true m true k = sym (or-false k)
dos_star_case true true m false k = sym (or-false k)
dos_star_case true false m true k = or_turned true k
dos_star_case true false m false k = sym (or-false k)
dos_star_case false true m true k = sym (or-false k)
dos_star_case false true m false k = sym (or-false k)
dos_star_case false false m true k = or_turned true k
dos_star_case false false m false k = sym (or-false k)

dos_qm_case : (d l m s k : Bool) → ((cond d false true && m) || ((not l && false) && s)) || ((d && true) && k) ≡ cond d k m
dos_qm_case true true m s k = refl
dos_qm_case true false m s k = refl
dos_qm_case false true m s k = or-false (m || false) ∙ or-false m
dos_qm_case false false m s k = or-false (m || false) ∙ or-false m

dos_dot_case : (d l m s k : Bool) → ((cond d true false && m) || ((not l && false) && s)) || ((d && false) && k) ≡ d && m
dos_dot_case true true m s k = or-false (m || false) ∙ or-false m
dos_dot_case true false m s k = or-false (m || false) ∙ or-false m
dos_dot_case false true m s k = refl
dos_dot_case false false m s k = refl

literal_case : (b d l m s k : Bool) → (((b || cond d false false) && m) || ((not l && false) && s)) || ((d && false) && k) ≡ b && m
literal_case true true true m s k = or-false (m || false) ∙ or-false m
literal_case true true false m s k = or-false (m || false) ∙ or-false m
literal_case true false true m s k = or-false (m || false) ∙ or-false m
literal_case true false false m s k = or-false (m || false) ∙ or-false m
literal_case false true true m s k = refl
literal_case false true false m s k = refl
literal_case false false true m s k = refl
literal_case false false false m s k = refl

-- the answer by the sets that a symbol is in
by_sets : Symbol → Place → Known → Bool
by_sets s place known =
    answer_by
    ((kind s == 1 || (has_low (folded_unit place.unit % 256) s && has_high (folded_unit place.unit / 256) s)) || cond (place.unit == 46) (kind s == 4) (kind s == 3))
    (kind s == 0 || (not place.is_last_dot && kind s == 2))
    ((kind s == 0 || kind s == 2) || ((place.unit == 46) && kind s == 3))
    known

set_answer : (s : Symbol) (place : Place) (k : Known) → by_sets s place k ≡ answer_of s place k
unfolding by_sets
set_answer Asterisk place k = asterisk_case (place.unit == 46) place.is_last_dot k.moves k.stays k.skips
set_answer QuestionMark place k = question_case (place.unit == 46) place.is_last_dot k.moves k.stays k.skips
set_answer DosStar place k = dos_star_case (place.unit == 46) place.is_last_dot k.moves k.stays k.skips
set_answer DosQm place k = dos_qm_case (place.unit == 46) place.is_last_dot k.moves k.stays k.skips
set_answer DosDot place k = dos_dot_case (place.unit == 46) place.is_last_dot k.moves k.stays k.skips
set_answer (Literal v) place k =
    literal_case ((folded_unit v % 256 == folded_unit place.unit % 256) && (folded_unit v / 256 == folded_unit place.unit / 256)) (place.unit == 46) place.is_last_dot k.moves k.stays k.skips
    ∙ ap (λ (b : Bool). b && k.moves) (both_bytes (folded_unit place.unit) (folded_unit v))

-- ---- the sets of a pattern

within : (test : Symbol → Bool) (ps : List ℕ) (shown : ℕ → Bool) (n : ℕ) → IsShown test ps (length ps) shown → n ≤ length ps → length ps < 256 → shown n ≡ begins test ps n
within test ps shown n h f g = h n (omega arith) ∙ ap (λ (b : Bool). b && begins test ps n) (le-leb n (length ps) f)

begins_none : (test : Symbol → Bool) (ps : List ℕ) (shown : ℕ → Bool) → IsShown test ps (length ps) shown → length ps < 256 → shown 0 ≡ false
begins_none test ps shown h g = within test ps shown 0 h (omega arith) g

begins_suc : (test : Symbol → Bool) (ps : List ℕ) (shown : ℕ → Bool) (n : ℕ) → IsShown test ps (length ps) shown → suc n ≤ length ps → length ps < 256 → shown (suc n) ≡ test (symbol_at ps (suc n))
begins_suc test ps shown n h f g =
    within test ps shown (suc n) h f g ∙ ap (λ (b : Bool). cond b false (test (symbol_at ps (suc n)))) (above_zero n)

low_below : (u : ℕ) → u % 256 < 256
low_below u = omega arith

high_below : (u : ℕ) → u < 65536 → folded_unit u / 256 < 256
high_below u h = elim (cases_Bool (nat_le 97 u && nat_le u 122)) [
  | inl e ↦ rw e (omega arith)
  | inr e ↦ rw e (omega arith)
]

-- the answer by the sets that the rest of some units is in
set_by : (q l h d o a s : Bool) → Place → Known → Bool
set_by q l h d o a s place known =
    answer_by ((q || (l && h)) || cond (place.unit == 46) d o) (a || (not place.is_last_dot && s)) ((a || s) || ((place.unit == 46) && o)) known

same_sets : (q l h d o a s q' l' h' d' o' a' s' : Bool) (place : Place) (known : Known) → q ≡ q' → l ≡ l' → h ≡ h' → d ≡ d' → o ≡ o' → a ≡ a' → s ≡ s' → set_by q l h d o a s place known ≡ set_by q' l' h' d' o' a' s' place known
same_sets q l h d o a s q' l' h' d' o' a' s' place known eq el eh ed eo ea es = cc

in_none : (place : Place) (known : Known) → set_by false false false false false false false place known ≡ false
unfolding set_by
in_none place known = literal_case false (place.unit == 46) place.is_last_dot known.moves known.stays known.skips

set_of : Symbols → Place → Known → ℕ → Bool
set_of symbols place known n =
    set_by (has symbols.question_mark n) (has_for symbols.lows (folded_unit place.unit % 256) n) (has_for symbols.highs (folded_unit place.unit / 256) n) (has symbols.dos_dot n) (has symbols.dos_qm n) (has symbols.asterisk n) (has symbols.dos_star n) place known

set_carried : (symbols : Symbols) (place : Place) (old new : ℕ → Bool) (n : ℕ) → carried_at symbols place old new n ≡ set_of symbols place (known_at old new n) n
unfolding set_of set_by
set_carried symbols place old new n = refl

symbol_sets : (s : Symbol) (place : Place) (known : Known) → set_by (kind s == 1) (has_low (folded_unit place.unit % 256) s) (has_high (folded_unit place.unit / 256) s) (kind s == 4) (kind s == 3) (kind s == 0) (kind s == 2) place known ≡ answer_of s place known
unfolding set_by by_sets
symbol_sets s place known = set_answer s place known

set_none : (ps : List ℕ) (symbols : Symbols) (place : Place) (known : Known) → AreShown ps (length ps) symbols → length ps < 256 → place.unit < 65536 → set_of symbols place known 0 ≡ false
unfolding set_of
set_none ps symbols place known a f u =
    let low : ℕ = folded_unit place.unit % 256 in
    let high : ℕ = folded_unit place.unit / 256 in
    same_sets (has symbols.question_mark 0) (has_for symbols.lows low 0) (has_for symbols.highs high 0) (has symbols.dos_dot 0) (has symbols.dos_qm 0) (has symbols.asterisk 0) (has symbols.dos_star 0)
    false false false false false false false place known
    (begins_none (λ s. kind s == 1) ps (has symbols.question_mark) a.question_mark f)
    (begins_none (has_low low) ps (has_for symbols.lows low) (a.lows low (low_below (folded_unit place.unit))) f)
    (begins_none (has_high high) ps (has_for symbols.highs high) (a.highs high (high_below place.unit u)) f)
    (begins_none (λ s. kind s == 4) ps (has symbols.dos_dot) a.dos_dot f)
    (begins_none (λ s. kind s == 3) ps (has symbols.dos_qm) a.dos_qm f)
    (begins_none (λ s. kind s == 0) ps (has symbols.asterisk) a.asterisk f)
    (begins_none (λ s. kind s == 2) ps (has symbols.dos_star) a.dos_star f)
    ∙ in_none place known

set_suc : (ps : List ℕ) (symbols : Symbols) (place : Place) (known : Known) (n : ℕ) → AreShown ps (length ps) symbols → length ps < 256 → place.unit < 65536 → suc n ≤ length ps → set_of symbols place known (suc n) ≡ answer_of (symbol_at ps (suc n)) place known
unfolding set_of
set_suc ps symbols place known n a f u h =
    let low : ℕ = folded_unit place.unit % 256 in
    let high : ℕ = folded_unit place.unit / 256 in
    let s : Symbol = symbol_at ps (suc n) in
    same_sets (has symbols.question_mark (suc n)) (has_for symbols.lows low (suc n)) (has_for symbols.highs high (suc n)) (has symbols.dos_dot (suc n)) (has symbols.dos_qm (suc n)) (has symbols.asterisk (suc n)) (has symbols.dos_star (suc n))
    (kind s == 1) (has_low low s) (has_high high s) (kind s == 4) (kind s == 3) (kind s == 0) (kind s == 2) place known
    (begins_suc (λ s. kind s == 1) ps (has symbols.question_mark) n a.question_mark h f)
    (begins_suc (has_low low) ps (has_for symbols.lows low) n (a.lows low (low_below (folded_unit place.unit))) h f)
    (begins_suc (has_high high) ps (has_for symbols.highs high) n (a.highs high (high_below place.unit u)) h f)
    (begins_suc (λ s. kind s == 4) ps (has symbols.dos_dot) n a.dos_dot h f)
    (begins_suc (λ s. kind s == 3) ps (has symbols.dos_qm) n a.dos_qm h f)
    (begins_suc (λ s. kind s == 0) ps (has symbols.asterisk) n a.asterisk h f)
    (begins_suc (λ s. kind s == 2) ps (has symbols.dos_star) n a.dos_star h f)
    ∙ symbol_sets s place known

-- what carries a row is the answer for the symbol that each rest begins with
pub shown_answer : (ps : List ℕ) (symbols : Symbols) (place : Place) (old new : ℕ → Bool) (n : ℕ) → AreShown ps (length ps) symbols → length ps < 256 → place.unit < 65536 → n ≤ length ps → carried_at symbols place old new n ≡ rest_answer ps place n (known_at old new n)
shown_answer ps symbols place old new zero a f u h =
    set_carried symbols place old new 0 ∙ set_none ps symbols place (known_at old new 0) a f u
shown_answer ps symbols place old new (suc n) a f u h =
    let known : Known = known_at old new (suc n) in
    set_carried symbols place old new (suc n)
    ∙ set_suc ps symbols place known n a f u h
    ∙ sym (ap (λ (b : Bool). cond b false (answer_of (symbol_at ps (suc n)) place known)) (above_zero n))

-- ---- one rest more

more_here : (test : Symbol → Bool) (ps : List ℕ) (n : ℕ) (s : Symbol) (b : Bool) → b ≡ false → s ≡ symbol_at ps (n + 1) → (((n + 1 == n + 1) && test s) || b) ≡ (nat_le (n + 1) (n + 1) && begins test ps (n + 1))
more_here test ps n s b none e =
    let above : n + 1 ≡ suc n = omega arith in
    let one : (n + 1 == n + 1) ≡ true = eq-eqb (n + 1) (n + 1) refl in
    let all : nat_le (n + 1) (n + 1) ≡ true = le-leb (n + 1) (n + 1) (omega arith) in
    let some : (n + 1 == 0) ≡ false = ap (λ (m : ℕ). m == 0) above ∙ above_zero n in
    ap (λ (x : Bool). (x && test s) || b) one
    ∙ ap (λ (x : Bool). test s || x) none
    ∙ or-false (test s)
    ∙ ap test e
    ∙ sym (ap (λ (x : Bool). x && begins test ps (n + 1)) all ∙ ap (λ (x : Bool). cond x false (test (symbol_at ps (n + 1)))) some)

le_other : (k n : ℕ) → k ≢ n + 1 → nat_le k n ≡ nat_le k (n + 1)
le_other k n h = elim (cases_lt n k) [
  | inl f ↦ lt-leb k n f ∙ sym (lt-leb k (n + 1) (omega arith))
  | inr f ↦ le-leb k n f ∙ sym (le-leb k (n + 1) (omega arith))
]

pub shown_more : (test : Symbol → Bool) (ps : List ℕ) (n : ℕ) (s : Symbol) (old new : ℕ → Bool) → IsShown test ps n old → IsMore (test s) (n + 1) old new → n < length ps → length ps < 256 → s ≡ symbol_at ps (n + 1) → IsShown test ps (n + 1) new
shown_more test ps n s old new o m h f e =
    λ k g. m k g ∙ elim (cases_eq k (n + 1)) [
      | inl same ↦
          let none : old (n + 1) ≡ false = o (n + 1) (omega arith) ∙ ap (λ (b : Bool). b && begins test ps (n + 1)) (lt-leb (n + 1) n (omega arith)) in
          subst (λ (j : ℕ). (((j == n + 1) && test s) || old j) ≡ (nat_le j (n + 1) && begins test ps j)) (sym same) (more_here test ps n s (old (n + 1)) none e)
      | inr other ↦
          ap (λ (b : Bool). (b && test s) || old k) (ne_eqb k (n + 1) other)
          ∙ o k g
          ∙ ap (λ (b : Bool). b && begins test ps k) (le_other k n other)
    ]

pub added_shown : (ps : List ℕ) (n : ℕ) (s : Symbol) (old new : Symbols) → AreShown ps n old → IsAdded s (n + 1) old new → n < length ps → length ps < 256 → s ≡ symbol_at ps (n + 1) → AreShown ps (n + 1) new
added_shown ps n s old new o m h f e = record {
  asterisk = shown_more (λ s. kind s == 0) ps n s (has old.asterisk) (has new.asterisk) o.asterisk m.asterisk h f e;
  question_mark = shown_more (λ s. kind s == 1) ps n s (has old.question_mark) (has new.question_mark) o.question_mark m.question_mark h f e;
  dos_star = shown_more (λ s. kind s == 2) ps n s (has old.dos_star) (has new.dos_star) o.dos_star m.dos_star h f e;
  dos_qm = shown_more (λ s. kind s == 3) ps n s (has old.dos_qm) (has new.dos_qm) o.dos_qm m.dos_qm h f e;
  dos_dot = shown_more (λ s. kind s == 4) ps n s (has old.dos_dot) (has new.dos_dot) o.dos_dot m.dos_dot h f e;
  lows = λ byte g. shown_more (has_low byte) ps n s (has_for old.lows byte) (has_for new.lows byte) (o.lows byte g) (m.lows byte g) h f e;
  highs = λ byte g. shown_more (has_high byte) ps n s (has_for old.highs byte) (has_for new.highs byte) (o.highs byte g) (m.highs byte g) h f e;
}

-- no rest is shown of none
pub none_shown : (test : Symbol → Bool) (ps : List ℕ) (shown : ℕ → Bool) → ((n : ℕ) → shown n ≡ false) → IsShown test ps 0 shown
none_shown test ps shown h = λ n g. h n ∙ sym (at_none test ps n)
  where
    at_none : (test : Symbol → Bool) (ps : List ℕ) (n : ℕ) → (nat_le n 0 && begins test ps n) ≡ false
    at_none test ps zero = refl
    at_none test ps (suc n) = and_left (nat_le (suc n) 0) (begins test ps (suc n)) (lt-leb (suc n) 0 (omega arith))
