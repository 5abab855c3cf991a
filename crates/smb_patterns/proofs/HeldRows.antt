-- Rows of answers that are right from some rest on: the rests that are shorter no longer matter.
use Rattle.std.proofs.Common.{◌≡◌, ℕ, zero, suc, ◌+◌, ◌-◌, ◌<◌, ◌≤◌, Bool, true, false, not, cond, ◌==◌, ◌&&◌, ◌⊎◌, List, [], ◌∷◌, ◌++◌, length, get_or, take, drop, inl, inr, refl, sym, ap, subst, ◌∙◌, arith, append_assoc, take-append-drop}
use Rattle.std.specs.Prelude.{nat_le}
use Rattle.std.specs.Bool.{Decides}
use Rattle.std.proofs.lemmas.Bool.{cases_lt, or_right, and_parts, false≢true, leb-true}
use Rattle.std.proofs.lemmas.List.{drop_more}
use Rattle.smb_patterns.specs.Patterns.{has_dot, Takes, Matches}
use Rattle.smb_patterns.specs.PatternRows.{IsRow, IsPatternPlace, answer_of, symbol_at, begins}
use Rattle.smb_patterns.specs.Bits.{has, kind, known_at, AreShown, IsNarrowed}
use Rattle.smb_patterns.specs.declared.rows.Place.{Place}
use Rattle.smb_patterns.specs.declared.symbols.Symbols.{Symbols}
use Rattle.smb_patterns.specs.declared.symbol.Symbol.{Symbol}
use Rattle.smb_patterns.specs.declared.symbol.Symbol.TheVariants.{Asterisk, QuestionMark, DosStar, DosQm, DosDot, Literal}
use Rattle.smb_patterns.proofs.Words.{above_zero}
use Rattle.smb_patterns.proofs.RowSteps.{rest, one_more, Answers, answer_is, answered_more, answered_none, none_matches, all_of}

-- ---- the rests that begin with `*`

-- the rest of n units begins with `*`
pub record IsStar (ps : List ℕ) (n : ℕ) : Type 0 where
  pub some : 0 < n
  pub few : n ≤ length ps
  pub first : symbol_at ps n ≡ Asterisk

is_asterisk : (s : Symbol) → (kind s == 0) ≡ true → s ≡ Asterisk
is_asterisk Asterisk e = refl
is_asterisk QuestionMark e = absurd (false≢true e)
is_asterisk DosStar e = absurd (false≢true e)
is_asterisk DosQm e = absurd (false≢true e)
is_asterisk DosDot e = absurd (false≢true e)
is_asterisk (Literal unit) e = absurd (false≢true e)

begins_star : (ps : List ℕ) (n : ℕ) → n ≤ length ps → begins (λ s. kind s == 0) ps n ≡ true → IsStar ps n
begins_star ps zero h e = absurd (false≢true e)
begins_star ps (suc n) h e = record {
  some = omega arith;
  few = h;
  first = is_asterisk (symbol_at ps (suc n)) (sym (ap (λ (b : Bool). cond b false (kind (symbol_at ps (suc n)) == 0)) (above_zero n)) ∙ e);
}

pub shown_star : (ps : List ℕ) (symbols : Symbols) (n : ℕ) → AreShown ps (length ps) symbols → n < 256 → has symbols.asterisk n ≡ true → IsStar ps n
shown_star ps symbols n a h e =
    let both = and_parts (nat_le n (length ps)) (begins (λ s. kind s == 0) ps n) (sym (a.asterisk n h) ∙ e) in
    begins_star ps n (leb-true n (length ps) both.0) both.1

-- such a rest matches more units where it matches these
star_more : (ps xs us : List ℕ) (n : ℕ) → IsStar ps n → Matches (rest ps n) us → Matches (rest ps n) (xs ++ us)
star_more ps xs us zero s m = absurd (let none : 0 < 0 = s.some in omega arith)
star_more ps xs us (suc n) s m =
    let unit : ℕ = get_or ps (length ps - suc n) 0 in
    let here : Matches (unit ∷ rest ps n) us = subst (λ (ys : List ℕ). Matches ys us) (one_more ps n s.few) m in
    let more : Matches (unit ∷ rest ps n) (xs ++ us) =
    (xs ++ here.0, here.1, ap (λ (ys : List ℕ). xs ++ ys) here.2 ∙ sym (append_assoc xs here.0 here.1), subst (λ (t : Symbol). Takes t (xs ++ here.0) here.1) (sym s.first) tt, here.4) in
    subst (λ (ys : List ℕ). Matches ys (xs ++ us)) (sym (one_more ps n s.few)) more

-- its answer stays
star_stays : (ps : List ℕ) (place : Place) (old new : ℕ → Bool) (n : ℕ) → Answers ps place old new → IsStar ps n → old n ≡ true → new n ≡ true
star_stays ps place old new zero a s e = absurd (let none : 0 < 0 = s.some in omega arith)
star_stays ps place old new (suc n) a s e =
    answer_is ps place old new n a s.few
    ∙ ap (λ (t : Symbol). answer_of t place (known_at old new (suc n))) s.first
    ∙ or_right (known_at old new (suc n)).skips (old (suc n)) e

-- ---- rows that are right from some rest on

-- the answers are right from the rest of `from` units on, and that begins with `*` and is set, or it is the rest of none
pub record HeldRow (ps us : List ℕ) (row : ℕ → Bool) : Type 0 where
  pub from : ℕ
  pub few : from ≤ length ps
  pub right : (n : ℕ) → from ≤ n → n ≤ length ps → Decides (row n) (Matches (rest ps n) us)
  pub over : (from ≡ 0) ⊎ (IsStar ps from × (row from ≡ true))

pub held_whole : (ps us : List ℕ) (row : ℕ → Bool) → IsRow ps us row → HeldRow ps us row
held_whole ps us row r = record { from = 0; few = omega arith; right = λ n g h. r n h; over = inl refl }

-- where a row is right from the rest of n + 1 units on, that begins with `*` and is set
carried_star : (ps us : List ℕ) (place : Place) (old new : ℕ → Bool) (n : ℕ) → Answers ps place old new → IsStar ps n → old n ≡ true → Decides (old n) (Matches (rest ps n) us) → Decides (new n) (Matches (rest ps n) (place.unit ∷ us))
carried_star ps us place old new n a s e d =
    (λ t. star_more ps (place.unit ∷ []) us n s (d.0 e), λ m. star_stays ps place old new n a s e)

carried_right : (ps us : List ℕ) (place : Place) (old new : ℕ → Bool) → IsPatternPlace place us → (r : HeldRow ps us old) → Answers ps place old new → (n : ℕ) → r.from ≤ n → n ≤ length ps → Decides (new n) (Matches (rest ps n) (place.unit ∷ us))
carried_right ps us place old new p r a zero g h = answered_none ps us place old new a
carried_right ps us place old new p r a (suc n) g h = elim (cases_lt r.from (suc n)) [
  | inl f ↦
      answered_more ps us place old new n p a h (r.right (suc n) g h) (r.right n (omega arith) (omega arith))
      (carried_right ps us place old new p r a n (omega arith) (omega arith))
  | inr f ↦ elim r.over [
    | inl e ↦ absurd (omega arith)
    | inr s ↦
        let same : r.from ≡ suc n = omega arith in
        carried_star ps us place old new (suc n) a (subst (λ (k : ℕ). IsStar ps k) same s.0) (subst (λ (k : ℕ). old k ≡ true) same s.1) (r.right (suc n) g h)
  ]
]

held_carried : (ps us : List ℕ) (place : Place) (old new : ℕ → Bool) → IsPatternPlace place us → HeldRow ps us old → Answers ps place old new → HeldRow ps (place.unit ∷ us) new
held_carried ps us place old new p r a = record {
  from = r.from;
  few = r.few;
  right = carried_right ps us place old new p r a;
  over = elim r.over [ inl e ↦ inl e | inr s ↦ inr (s.0, star_stays ps place old new r.from a s.0 s.1) ];
}

-- the row in front of a unit of a name
pub held_before : (ps us : List ℕ) (at next : ℕ) (place : Place) (has_dots : Bool) (old new : ℕ → Bool) → next ≡ at + 1 → at < length us → place.unit ≡ get_or us at 0 → place.is_last_dot ≡ ((get_or us at 0 == 46) && not has_dots) → has_dots ≡ has_dot (drop next us) → HeldRow ps (drop next us) old → Answers ps place old new → HeldRow ps (drop at us) new
held_before ps us at next place has_dots old new s h u d e r a =
    let back : List ℕ = drop next us in
    let here : IsPatternPlace place back = d ∙ ap (λ (b : Bool). (get_or us at 0 == 46) && not b) e ∙ ap (λ (x : ℕ). (x == 46) && not (has_dot back)) (sym u) in
    let whole : drop at us ≡ place.unit ∷ back = drop_more us at 0 h ∙ ap (λ (k : ℕ). get_or us at 0 ∷ drop k us) (sym s) ∙ ap (λ (x : ℕ). x ∷ back) (sym u) in
    subst (λ (xs : List ℕ). HeldRow ps xs new) (sym whole) (held_carried ps back place old new here r a)

-- ---- rests that are taken out

held_same : (ps us : List ℕ) (old new : ℕ → Bool) → (r : HeldRow ps us old) → ((n : ℕ) → r.from ≤ n → new n ≡ old n) → HeldRow ps us new
held_same ps us old new r same = record {
  from = r.from;
  few = r.few;
  right = λ n g h. subst (λ (b : Bool). Decides b (Matches (rest ps n) us)) (sym (same n g)) (r.right n g h);
  over = elim r.over [ inl e ↦ inl e | inr s ↦ inr (s.0, same r.from (omega arith) ∙ s.1) ];
}

pub held_narrowed : (ps us : List ℕ) (symbols : Symbols) (old new : ℕ → Bool) → AreShown ps (length ps) symbols → HeldRow ps us old → IsNarrowed symbols old new → HeldRow ps us new
held_narrowed ps us symbols old new a r w = elim (cases_lt r.from w.shortest) [
  | inl f ↦ elim w.set [
    | inl e ↦ absurd (omega arith)
    | inr s ↦
        let star : IsStar ps w.shortest = shown_star ps symbols w.shortest a w.few s.0 in
        record {
          from = w.shortest;
          few = star.few;
          right = λ n g h. subst (λ (b : Bool). Decides b (Matches (rest ps n) us)) (sym (w.kept n g)) (r.right n (omega arith) h);
          over = inr (star, w.kept w.shortest (omega arith) ∙ s.1);
        }
  ]
  | inr f ↦ held_same ps us old new r (λ n g. w.kept n (omega arith))
]

-- ---- what a row says of the whole pattern

pub held_all : (ps us : List ℕ) (row : ℕ → Bool) → HeldRow ps us row → Decides (row (length ps)) (Matches ps us)
held_all ps us row r = all_of ps us (row (length ps)) (r.right (length ps) r.few (omega arith))

-- where no rest is left, the pattern does not match
pub held_none : (ps us : List ℕ) (at : ℕ) (row : ℕ → Bool) → HeldRow ps (drop at us) row → ((n : ℕ) → n ≤ length ps → row n ≡ false) → Matches ps us → ⊥
held_none ps us at row r z m = elim r.over [
  | inl e ↦ none_matches ps us at row (λ n h. r.right n (omega arith) h) z m
  | inr s ↦ absurd (false≢true (sym (z r.from r.few) ∙ s.1))
]

-- where the whole pattern begins with `*` and is set, it matches whatever is in front
pub held_star : (ps us : List ℕ) (at : ℕ) (row : ℕ → Bool) → HeldRow ps (drop at us) row → IsStar ps (length ps) → row (length ps) ≡ true → Matches ps us
held_star ps us at row r s e =
    let here : Matches (rest ps (length ps)) (drop at us) = (r.right (length ps) r.few (omega arith)).0 e in
    let more : Matches (rest ps (length ps)) us =
    subst (λ (xs : List ℕ). Matches (rest ps (length ps)) xs) (take-append-drop at us) (star_more ps (take at us) (drop at us) (length ps) s here) in
    (all_of ps us true (λ t. more, λ m. refl)).0 refl
