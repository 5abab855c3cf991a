-- Rows of answers, word by word.
use Rattle.std.proofs.Common.{◌≡◌, ◌≢◌, ℕ, zero, suc, ◌+◌, ◌-◌, ◌*◌, ◌<◌, ◌≤◌, Bool, true, false, not, cond, ◌&&◌, ◌||◌, inl, inr, refl, sym, ap, subst, ◌∙◌, arith}
use Rattle.std.specs.Prelude.{bit_and, bit_or}
use Rattle.std.proofs.lemmas.Bool.{cases_lt, or_from, and_parts, and_right}
use Rattle.std.proofs.lemmas.Nat.{le_or_l, le_or_r, and_le_l}
use Rattle.smb_patterns.specs.Bits.{bit, has, HasAsterisk, below, answer_by, takes_at, stays_at, skips_at, carried_at, IsCarried, IsStep}
use Rattle.smb_patterns.specs.declared.symbols.Symbols.{Symbols}
use Rattle.smb_patterns.specs.declared.rows.Place.{Place}
use Rattle.smb_patterns.specs.declared.step.Step.{Step}
use Rattle.smb_patterns.proofs.Words.{bit-and, bit-or, bit-zero, below-suc, some_bit}

-- ---- the words of a step

pub takes_bit : (question low high other i : ℕ) (q l h o : Bool) → bit question i ≡ q → bit low i ≡ l → bit high i ≡ h → bit other i ≡ o → bit (bit_or (bit_or question (bit_and low high)) other) i ≡ ((q || (l && h)) || o)
takes_bit question low high other i q l h o eq el eh eo =
    let whole = bit-or (bit_or question (bit_and low high)) other i in
    let front = bit-or question (bit_and low high) i in
    let both = bit-and low high i in
    cc

pub either_bit : (left right i : ℕ) (l r : Bool) → bit left i ≡ l → bit right i ≡ r → bit (bit_or left right) i ≡ (l || r)
either_bit left right i l r el er = let whole = bit-or left right i in cc

-- ---- the words of a row

-- what is below a bit of a word is below that of the row
below_word : (row word : ℕ → Bool) (first : Bool) (at i : ℕ) → first ≡ below false row (64 * at) → ((j : ℕ) → j < 64 → word j ≡ row (64 * at + j)) → i < 64 → below first word i ≡ below false row (64 * at + i)
below_word row word first at zero e w h =
    let here : 64 * at ≡ 64 * at + 0 = omega arith in
    e ∙ ap (below false row) here
below_word row word first at (suc j) e w h =
    let up : suc (64 * at + j) ≡ 64 * at + suc j = omega arith in
    below-suc first word j ∙ w j (omega arith) ∙ sym (below-suc false row (64 * at + j)) ∙ ap (below false row) up

below_same : (old new : ℕ → Bool) (n : ℕ) → ((m : ℕ) → m < n → old m ≡ new m) → below false old n ≡ below false new n
below_same old new zero h = refl
below_same old new (suc n) h = below-suc false old n ∙ h n (omega arith) ∙ sym (below-suc false new n)

pub same_answer : (t s k t' s' k' m y p m' y' p' : Bool) → t ≡ t' → s ≡ s' → k ≡ k' → m ≡ m' → y ≡ y' → p ≡ p' → ((t && m) || (s && y)) || (k && p) ≡ ((t' && m') || (s' && y')) || (k' && p')
same_answer t s k t' s' k' m y p m' y' p' et es ek em ey ep = cc

-- an empty word into which nothing is carried stays empty
pub empty_carried : (symbols : Symbols) (place : Place) (at word : ℕ) (old new : Bool) → word ≡ 0 → old ≡ false → new ≡ false → IsCarried symbols place at word old new 0
empty_carried symbols place at word old new e f g = λ i h.
    let t : Bool = takes_at symbols place (64 * at + i) in
    let s : Bool = stays_at symbols place (64 * at + i) in
    let k : Bool = skips_at symbols place (64 * at + i) in
    let none : (first : Bool) (w : ℕ) → first ≡ false → w ≡ 0 → below first (bit w) i ≡ false = λ first w x y. nothing_below first w i x y in
    bit-zero i
    ∙ sym (or_from ((t && below old (bit word) i) || (s && bit word i)) (k && below new (bit 0) i)
    (or_from (t && below old (bit word) i) (s && bit word i)
    (and_right t (below old (bit word) i) (none old word f e))
    (and_right s (bit word i) (ap (λ (w : ℕ). bit w i) e ∙ bit-zero i)))
    (and_right k (below new (bit 0) i) (none new 0 g refl)))
  where
    nothing_below : (first : Bool) (w i : ℕ) → first ≡ false → w ≡ 0 → below first (bit w) i ≡ false
    nothing_below first w zero x y = x
    nothing_below first w (suc j) x y = below-suc first (bit w) j ∙ ap (λ (v : ℕ). bit v j) y ∙ bit-zero j

-- a word is carried by the step of its rests
pub step_carried : (symbols : Symbols) (place : Place) (at word carried : ℕ) (old new : Bool) (step : Step) → IsStep symbols place at step → ((i : ℕ) → i < 64 → bit carried i ≡ answer_by (bit step.takes i) (bit step.stays i) (bit step.skips i) (record { moves = below old (bit word) i; stays = bit word i; skips = below new (bit carried) i })) → IsCarried symbols place at word old new carried
step_carried symbols place at word carried old new step by answers = λ i h.
    answers i h
    ∙ same_answer (bit step.takes i) (bit step.stays i) (bit step.skips i) (takes_at symbols place (64 * at + i)) (stays_at symbols place (64 * at + i)) (skips_at symbols place (64 * at + i))
    (below old (bit word) i) (bit word i) (below new (bit carried) i) (below old (bit word) i) (bit word i) (below new (bit carried) i)
    (by.takes i h) (by.stays i h) (by.skips i h) refl refl refl

-- the words before `at` are carried, the others are as they were
pub record Carrying (symbols : Symbols) (place : Place) (old new : ℕ → Bool) (at : ℕ) (moved skipped : Bool) (left : ℕ) : Type 0 where
  pub done : (n : ℕ) → n < 64 * at → new n ≡ carried_at symbols place old new n
  pub kept : (n : ℕ) → 64 * at ≤ n → new n ≡ old n
  pub behind : moved ≡ below false old (64 * at)
  pub from_on : skipped ≡ below false new (64 * at)
  pub none : left ≡ 0 → (n : ℕ) → n < 64 * at → new n ≡ false

-- a word of a row is carried
pub record CarriesWord (symbols : Symbols) (place : Place) (old new : ℕ → Bool) (at : ℕ) (moved skipped : Bool) (word carried : ℕ) : Type 0 where
  pub was : (i : ℕ) → i < 64 → bit word i ≡ old (64 * at + i)
  pub answers : IsCarried symbols place at word moved skipped carried
  pub here : (i : ℕ) → i < 64 → new (64 * at + i) ≡ bit carried i
  pub shorter : (n : ℕ) → n < 64 * at → new n ≡ old n
  pub longer : (n : ℕ) → 64 * at + 64 ≤ n → new n ≡ old n

-- where the row behind the unit is `first`
word_done : (symbols : Symbols) (place : Place) (first old new : ℕ → Bool) (at i : ℕ) (moved skipped : Bool) (left word carried : ℕ) → Carrying symbols place first old at moved skipped left → CarriesWord symbols place old new at moved skipped word carried → i < 64 → new (64 * at + i) ≡ carried_at symbols place first new (64 * at + i)
word_done symbols place first old new at i moved skipped left word carried c w h =
    let was : (j : ℕ) → j < 64 → bit word j ≡ first (64 * at + j) = λ j f. w.was j f ∙ c.kept (64 * at + j) (omega arith) in
    let begins : skipped ≡ below false new (64 * at) = c.from_on ∙ below_same old new (64 * at) (λ m f. sym (w.shorter m f)) in
    w.here i h ∙ w.answers i h
    ∙ same_answer (takes_at symbols place (64 * at + i)) (stays_at symbols place (64 * at + i)) (skips_at symbols place (64 * at + i)) (takes_at symbols place (64 * at + i)) (stays_at symbols place (64 * at + i)) (skips_at symbols place (64 * at + i))
    (below moved (bit word) i) (bit word i) (below skipped (bit carried) i) (below false first (64 * at + i)) (first (64 * at + i)) (below false new (64 * at + i))
    refl refl refl
    (below_word first (bit word) moved at i c.behind was h)
    (was i h)
    (below_word new (bit carried) skipped at i begins (λ j f. sym (w.here j f)) h)

before_done : (symbols : Symbols) (place : Place) (first old new : ℕ → Bool) (at n : ℕ) (moved skipped : Bool) (left word carried : ℕ) → Carrying symbols place first old at moved skipped left → CarriesWord symbols place old new at moved skipped word carried → n < 64 * at → new n ≡ carried_at symbols place first new n
before_done symbols place first old new at n moved skipped left word carried c w h =
    w.shorter n h ∙ c.done n h
    ∙ ap (λ (b : Bool). ((takes_at symbols place n && below false first n) || (stays_at symbols place n && first n)) || (skips_at symbols place n && b))
    (below_same old new n (λ m f. sym (w.shorter m (omega arith))))

-- the place in its word
place_in : (at n : ℕ) → 64 * at ≤ n → n < 64 * (at + 1) → (i : ℕ) × (i < 64) × (n ≡ 64 * at + i)
place_in at n h f = (n - 64 * at, omega arith, omega arith)

top_of : (row : ℕ → Bool) (word at : ℕ) → ((j : ℕ) → j < 64 → bit word j ≡ row (64 * at + j)) → bit word 63 ≡ below false row (64 * (at + 1))
top_of row word at w =
    let next : 64 * (at + 1) ≡ suc (64 * at + 63) = omega arith in
    w 63 (omega arith) ∙ sym (ap (below false row) next ∙ below-suc false row (64 * at + 63))

pub carrying_more : (symbols : Symbols) (place : Place) (first old new : ℕ → Bool) (at : ℕ) (moved skipped : Bool) (left word carried : ℕ) → Carrying symbols place first old at moved skipped left → CarriesWord symbols place old new at moved skipped word carried → Carrying symbols place first new (at + 1) (bit word 63) (bit carried 63) (bit_or left carried)
carrying_more symbols place first old new at moved skipped left word carried c w = record {
  done = λ n h. elim (cases_lt n (64 * at)) [
    | inl f ↦ before_done symbols place first old new at n moved skipped left word carried c w f
    | inr f ↦
        let p = place_in at n f h in
        subst (λ (m : ℕ). new m ≡ carried_at symbols place first new m) (sym p.2) (word_done symbols place first old new at p.0 moved skipped left word carried c w p.1)
  ];
  kept = λ n h. w.longer n (omega arith) ∙ c.kept n (omega arith);
  behind = top_of first word at (λ j f. w.was j f ∙ c.kept (64 * at + j) (omega arith));
  from_on = top_of new carried at (λ j f. sym (w.here j f));
  none = λ e n h.
      let l : left ≡ 0 = omega (arith, le_or_l left carried, e) in
      let k : carried ≡ 0 = omega (arith, le_or_r left carried, e) in
      elim (cases_lt n (64 * at)) [
        | inl f ↦ w.shorter n f ∙ c.none l n f
        | inr f ↦
            let p = place_in at n f h in
            ap new p.2 ∙ w.here p.0 p.1 ∙ ap (λ (x : ℕ). bit x p.0) k ∙ bit-zero p.0
      ];
}

-- where a word of a row and the word of the rests that begin with `*` have a bit in common, such a rest is set
pub asterisk_set : (symbols : Symbols) (row : ℕ → Bool) (at word asterisk : ℕ) → at < 4 → bit_and word asterisk ≢ 0 → word < 18446744073709551616 → ((i : ℕ) → i < 64 → bit word i ≡ row (64 * at + i)) → ((i : ℕ) → i < 64 → bit asterisk i ≡ has symbols.asterisk (64 * at + i)) → HasAsterisk symbols row at
asterisk_set symbols row at word asterisk h some f w a =
    let common : (i : ℕ) × (i < 64) × (bit (bit_and word asterisk) i ≡ true) = some_bit (bit_and word asterisk) (omega arith) (omega (arith, and_le_l word asterisk)) in
    let both = and_parts (bit word common.0) (bit asterisk common.0) (sym (bit-and word asterisk common.0) ∙ common.2) in
    inr (64 * at + common.0, omega arith, omega arith, sym (a common.0 common.1) ∙ both.1, sym (w common.0 common.1) ∙ both.0)

-- ---- words that are chosen by a test

pub chosen_bit : (word left right i : ℕ) (b l r : Bool) → word ≡ cond b left right → bit left i ≡ l → bit right i ≡ r → bit word i ≡ cond b l r
chosen_bit word left right i true l r e x y = ap (λ (w : ℕ). bit w i) e ∙ x
chosen_bit word left right i false l r e x y = ap (λ (w : ℕ). bit w i) e ∙ y

pub kept_bit : (word kept i : ℕ) (b k : Bool) → word ≡ cond b kept 0 → bit kept i ≡ k → bit word i ≡ (b && k)
kept_bit word kept i true k e x = ap (λ (w : ℕ). bit w i) e ∙ x
kept_bit word kept i false k e x = ap (λ (w : ℕ). bit w i) e ∙ bit-zero i

pub unless_bit : (word kept i : ℕ) (b k : Bool) → word ≡ cond b 0 kept → bit kept i ≡ k → bit word i ≡ (not b && k)
unless_bit word kept i true k e x = ap (λ (w : ℕ). bit w i) e ∙ bit-zero i
unless_bit word kept i false k e x = ap (λ (w : ℕ). bit w i) e ∙ x
