-- Rows of answers: which rests of a pattern match a name from one place on.
use Rattle.std.proofs.Common.{◌≡◌, ℕ, zero, suc, ◌+◌, ◌-◌, ◌<◌, ◌≤◌, Bool, true, false, not, cond, ◌==◌, ◌&&◌, ◌||◌, List, [], ◌∷◌, ◌++◌, length, get_or, take, drop, inl, inr, refl, sym, ap, subst, ◌∙◌, arith, take-append-drop}
use Rattle.std.specs.Bool.{Decides}
use Rattle.std.proofs.lemmas.Bool.{cases_eq, eq-eqb, ne_eqb, or_from, and_left, and_right, false≢true}
use Rattle.std.proofs.lemmas.Bool.Decides.{Decides-like, Decides-and}
use Rattle.std.proofs.lemmas.List.{drop_all, drop_more}
use Rattle.smb_patterns.specs.Patterns.{has_dot, Takes, Matches}
use Rattle.smb_patterns.specs.PatternRows.{Known, IsRow, IsPatternPlace, answer_of, rest_answer, symbol_at}
use Rattle.smb_patterns.specs.Bits.{known_at}
use Rattle.smb_patterns.specs.declared.rows.Place.{Place}
use Rattle.smb_patterns.specs.declared.symbol.Symbol.{Symbol}
use Rattle.smb_patterns.specs.declared.symbol.Symbol.TheVariants.{Asterisk, QuestionMark, DosStar, DosQm, DosDot, Literal}
use Rattle.smb_wire.specs.Names.{folded_unit}
use Rattle.smb_patterns.proofs.Words.{above_zero, below-suc, or-false}
use Rattle.smb_patterns.proofs.PatternSteps.{Taken, skipped, taken_end, answered}

-- the last n units of a pattern
abbrev pub rest : List ℕ → ℕ → List ℕ
rest ps n = drop (length ps - n) ps

-- the rest of one unit more is that unit and the rest
pub one_more : (ps : List ℕ) (n : ℕ) → suc n ≤ length ps → rest ps (suc n) ≡ get_or ps (length ps - suc n) 0 ∷ rest ps n
one_more ps n h =
    let next : length ps - suc n + 1 ≡ length ps - n = omega arith in
    drop_more ps (length ps - suc n) 0 (omega arith) ∙ ap (λ (j : ℕ). get_or ps (length ps - suc n) 0 ∷ drop j ps) next

from_rest : (ps us : List ℕ) (b : Bool) (n : ℕ) → suc n ≤ length ps → Decides b (Taken (symbol_at ps (suc n)) (rest ps n) us) → Decides b (Matches (rest ps (suc n)) us)
from_rest ps us b n h d = subst (λ (xs : List ℕ). Decides b (Matches xs us)) (sym (one_more ps n h)) d

at_rest : (ps us : List ℕ) (b : Bool) (n : ℕ) → suc n ≤ length ps → Decides b (Matches (rest ps (suc n)) us) → Decides b (Taken (symbol_at ps (suc n)) (rest ps n) us)
at_rest ps us b n h d = subst (λ (xs : List ℕ). Decides b (Matches xs us)) (one_more ps n h) d

pub no_unit : (ps us : List ℕ) (u : ℕ) → Decides false (Matches (rest ps 0) (u ∷ us))
no_unit ps us u = subst (λ (xs : List ℕ). Decides false (Matches xs (u ∷ us))) (sym (drop_all (length ps - 0) ps (omega arith))) (λ e. absurd (false≢true e), λ e. cc)

-- ---- a row carried over a unit

-- the answers of a row are those of the symbols, by the row behind the unit and by this one
abbrev pub Answers : List ℕ → Place → (ℕ → Bool) → (ℕ → Bool) → Type 0
Answers ps place old new = (n : ℕ) → n ≤ length ps → new n ≡ rest_answer ps place n (known_at old new n)

pub answer_is : (ps : List ℕ) (place : Place) (old new : ℕ → Bool) (n : ℕ) → Answers ps place old new → suc n ≤ length ps → new (suc n) ≡ answer_of (symbol_at ps (suc n)) place (known_at old new (suc n))
answer_is ps place old new n a h =
    a (suc n) h ∙ ap (λ (b : Bool). cond b false (answer_of (symbol_at ps (suc n)) place (known_at old new (suc n)))) (above_zero n)

-- the rest of one unit more is answered right where the row behind the unit is right for both, and this one for the shorter
pub answered_more : (ps us : List ℕ) (place : Place) (old new : ℕ → Bool) (n : ℕ) → IsPatternPlace place us → Answers ps place old new → suc n ≤ length ps → Decides (old (suc n)) (Matches (rest ps (suc n)) us) → Decides (old n) (Matches (rest ps n) us) → Decides (new n) (Matches (rest ps n) (place.unit ∷ us)) → Decides (new (suc n)) (Matches (rest ps (suc n)) (place.unit ∷ us))
answered_more ps us place old new n p a h stays moves skips =
    let s : Symbol = symbol_at ps (suc n) in
    let known : Known = known_at old new (suc n) in
    let stay : Decides known.stays (Taken s (rest ps n) us) = at_rest ps us (old (suc n)) n h stays in
    let move : Decides known.moves (Matches (rest ps n) us) =
    subst (λ (b : Bool). Decides b (Matches (rest ps n) us)) (sym (below-suc false old n)) moves in
    let skip : Decides known.skips (Matches (rest ps n) (place.unit ∷ us)) =
    subst (λ (b : Bool). Decides b (Matches (rest ps n) (place.unit ∷ us))) (sym (below-suc false new n)) skips in
    from_rest ps (place.unit ∷ us) (new (suc n)) n h
    (subst (λ (b : Bool). Decides b (Taken s (rest ps n) (place.unit ∷ us))) (sym (answer_is ps place old new n a h)) (answered s (rest ps n) place us known p stay move skip))

-- the rest of no unit
pub answered_none : (ps us : List ℕ) (place : Place) (old new : ℕ → Bool) → Answers ps place old new → Decides (new 0) (Matches (rest ps 0) (place.unit ∷ us))
answered_none ps us place old new a =
    subst (λ (b : Bool). Decides b (Matches (rest ps 0) (place.unit ∷ us))) (sym (a 0 (omega arith))) (no_unit ps us place.unit)

pub carried_row : (ps us : List ℕ) (place : Place) (old new : ℕ → Bool) → IsPatternPlace place us → IsRow ps us old → Answers ps place old new → IsRow ps (place.unit ∷ us) new
carried_row ps us place old new p r a zero h = answered_none ps us place old new a
carried_row ps us place old new p r a (suc n) h =
    answered_more ps us place old new n p a h (r (suc n) h) (r n (omega arith)) (carried_row ps us place old new p r a n (omega arith))

-- ---- the row at the end of a name

-- the rests of at most n units are answered, and no other is in the row
pub record EndRow (ps : List ℕ) (n : ℕ) (row : ℕ → Bool) : Type 0 where
  pub done : (m : ℕ) → m ≤ n → m ≤ length ps → Decides (row m) (Matches (rest ps m) [])
  pub left : (m : ℕ) → n < m → row m ≡ false

pub ends_none : (ps : List ℕ) (row none : ℕ → Bool) → ((m : ℕ) → row m ≡ ((m == 0) || none m)) → ((m : ℕ) → none m ≡ false) → EndRow ps 0 row
ends_none ps row none h z = record {
  done = λ m f g.
      let first : m ≡ 0 = omega arith in
      let set : row 0 ≡ true = h 0 in
      let all : Decides true (Matches (rest ps 0) []) = subst (λ (xs : List ℕ). Decides true (Matches xs [])) (sym (drop_all (length ps - 0) ps (omega arith))) (λ _. refl, λ _. refl) in
      subst (λ (k : ℕ). Decides (row k) (Matches (rest ps k) [])) (sym first) (subst (λ (b : Bool). Decides b (Matches (rest ps 0) [])) (sym set) all);
  left = λ m f. h m ∙ ap (λ (b : Bool). b || none m) (ne_eqb m 0 (λ e. absurd (omega (arith, e)))) ∙ z m;
}

-- the rest of one unit more matches the empty name where this one does, and its first symbol takes nothing
one_longer : (ps : List ℕ) (n : ℕ) (b t : Bool) → suc n ≤ length ps → Decides b (Matches (rest ps n) []) → Decides t (Takes (symbol_at ps (suc n)) [] []) → Decides (b && t) (Matches (rest ps (suc n)) [])
one_longer ps n b t h d e =
    let s : Symbol = symbol_at ps (suc n) in
    from_rest ps [] (b && t) n h
    (Decides-like (b && t)
    (λ p. skipped s (rest ps n) [] p.1 p.0)
    (λ m. let q = taken_end s (rest ps n) m in (q.1, q.0))
    (Decides-and b t d e))

pub ends_more : (ps : List ℕ) (n : ℕ) (old new : ℕ → Bool) (b t : Bool) → EndRow ps n old → n < length ps → b ≡ old n → Decides t (Takes (symbol_at ps (suc n)) [] []) → ((m : ℕ) → new m ≡ (((m == n + 1) && (b && t)) || old m)) → EndRow ps (n + 1) new
ends_more ps n old new b t e h q d w = record {
  done = λ m f g. elim (cases_eq m (n + 1)) [
    | inl same ↦
        let up : m ≡ suc n = omega arith in
        let here : new m ≡ (b && t) = w m ∙ ap (λ (x : Bool). (x && (b && t)) || old m) (eq-eqb m (n + 1) same) ∙ ap (λ (x : Bool). (b && t) || x) (e.left m (omega arith)) ∙ or-false (b && t) in
        let behind : Decides b (Matches (rest ps n) []) = subst (λ (x : Bool). Decides x (Matches (rest ps n) [])) (sym q) (e.done n (omega arith) (omega arith)) in
        subst (λ (x : Bool). Decides x (Matches (rest ps m) [])) (sym here)
        (subst (λ (k : ℕ). Decides (b && t) (Matches (rest ps k) [])) (sym up) (one_longer ps n b t (omega arith) behind d))
    | inr other ↦
        let here : new m ≡ old m = w m ∙ ap (λ (x : Bool). (x && (b && t)) || old m) (ne_eqb m (n + 1) other) in
        subst (λ (x : Bool). Decides x (Matches (rest ps m) [])) (sym here) (e.done m (omega arith) g)
  ];
  left = λ m f. w m ∙ ap (λ (x : Bool). (x && (b && t)) || old m) (ne_eqb m (n + 1) (λ x. absurd (omega (arith, x)))) ∙ e.left m (omega arith);
}

and-true : (x : Bool) → (x && true) ≡ x
and-true true = refl
and-true false = refl

pub ends_then : (ps : List ℕ) (n : ℕ) (old new : ℕ → Bool) (t : Bool) → EndRow ps n old → n < length ps → Decides t (Takes (symbol_at ps (suc n)) [] []) → t ≡ true → old n ≡ true → ((m : ℕ) → new m ≡ ((m == n + 1) || old m)) → EndRow ps (n + 1) new
ends_then ps n old new t e h d y q w =
    let both : (old n && t) ≡ true = ap (λ (b : Bool). b && t) q ∙ y in
    ends_more ps n old new (old n) t e h refl d
    (λ m. w m ∙ sym (ap (λ (b : Bool). ((m == n + 1) && b) || old m) both ∙ ap (λ (b : Bool). b || old m) (and-true (m == n + 1))))

pub ends_else : (ps : List ℕ) (n : ℕ) (old : ℕ → Bool) (t : Bool) → EndRow ps n old → n < length ps → Decides t (Takes (symbol_at ps (suc n)) [] []) → (old n && t) ≡ false → EndRow ps (n + 1) old
ends_else ps n old t e h d none =
    ends_more ps n old old (old n) t e h refl d
    (λ m. sym (ap (λ (b : Bool). ((m == n + 1) && b) || old m) none ∙ ap (λ (b : Bool). b || old m) (and_right (m == n + 1) false refl)))

pub ends_all : (ps : List ℕ) (n : ℕ) (row : ℕ → Bool) → n ≡ length ps → EndRow ps n row → IsRow ps [] row
ends_all ps n row e r = λ m h. r.done m (omega arith) h

-- ---- a row without rests

nothing_known : (s : Symbol) (place : Place) (k : Known) → k.stays ≡ false → k.moves ≡ false → k.skips ≡ false → answer_of s place k ≡ false
nothing_known Asterisk place k stays moves skips = or_from k.skips k.stays skips stays
nothing_known QuestionMark place k stays moves skips = moves
nothing_known DosStar place k stays moves skips = or_from k.skips (k.stays && not place.is_last_dot) skips (and_left k.stays (not place.is_last_dot) stays)
nothing_known DosQm place k stays moves skips = either (place.unit == 46) k.skips k.moves skips moves
  where
    either : (d x y : Bool) → x ≡ false → y ≡ false → cond d x y ≡ false
    either true x y e f = e
    either false x y e f = f
nothing_known DosDot place k stays moves skips = and_right (place.unit == 46) k.moves moves
nothing_known (Literal v) place k stays moves skips = and_right (folded_unit place.unit == folded_unit v) k.moves moves

no_rest : ℕ → Bool
no_rest n = false

nothing_answered : (ps : List ℕ) (place : Place) → Answers ps place no_rest no_rest
unfolding no_rest
nothing_answered ps place zero h = refl
nothing_answered ps place (suc n) h =
    sym (ap (λ (b : Bool). cond b false (answer_of (symbol_at ps (suc n)) place (known_at no_rest no_rest (suc n)))) (above_zero n)
    ∙ nothing_known (symbol_at ps (suc n)) place (known_at no_rest no_rest (suc n)) refl (below-suc false no_rest n) (below-suc false no_rest n))

-- where no rest matches, none does at more units in front
stays_none : (ps xs us : List ℕ) → IsRow ps us no_rest → IsRow ps (xs ++ us) no_rest
stays_none ps [] us r = r
stays_none ps (x ∷ xs) us r =
    carried_row ps (xs ++ us) (record { unit = x; is_last_dot = (x == 46) && not (has_dot (xs ++ us)) }) no_rest no_rest refl (stays_none ps xs us r) (nothing_answered ps (record { unit = x; is_last_dot = (x == 46) && not (has_dot (xs ++ us)) }))

pub all_of : (ps us : List ℕ) (b : Bool) → Decides b (Matches (rest ps (length ps)) us) → Decides b (Matches ps us)
all_of ps us b d =
    let none : length ps - length ps ≡ 0 = omega arith in
    subst (λ (k : ℕ). Decides b (Matches (drop k ps) us)) none d

pub none_matches : (ps us : List ℕ) (at : ℕ) (row : ℕ → Bool) → IsRow ps (drop at us) row → ((n : ℕ) → n ≤ length ps → row n ≡ false) → Matches ps us → ⊥
unfolding no_rest
none_matches ps us at row r z m =
    let empty : IsRow ps (drop at us) no_rest = λ n h. subst (λ (b : Bool). Decides b (Matches (rest ps n) (drop at us))) (z n h) (r n h) in
    let whole : IsRow ps us no_rest = subst (λ (xs : List ℕ). IsRow ps xs no_rest) (take-append-drop at us) (stays_none ps (take at us) (drop at us) empty) in
    false≢true ((all_of ps us false (whole (length ps) (omega arith))).1 m)

-- ---- a row from one unit of a name to the next

pub dots_before : (us : List ℕ) (at next : ℕ) (b d : Bool) → next ≡ at + 1 → at < length us → b ≡ has_dot (drop next us) → d ≡ ((get_or us at 0 == 46) && not b) → (b || d) ≡ has_dot (drop at us)
dots_before us at next b d s h e f =
    f_of b d (get_or us at 0 == 46) f
    ∙ ap (λ (x : Bool). (get_or us at 0 == 46) || x) (e ∙ ap (λ (k : ℕ). has_dot (drop k us)) s)
    ∙ sym (ap has_dot (drop_more us at 0 h))
  where
    f_of : (b d p : Bool) → d ≡ (p && not b) → (b || d) ≡ (p || b)
    f_of true d true f = refl
    f_of true d false f = refl
    f_of false d true f = f
    f_of false d false f = f

pub nothing_behind : (us : List ℕ) (at : ℕ) → at ≡ length us → drop at us ≡ []
nothing_behind us at e = drop_all at us (omega arith)
