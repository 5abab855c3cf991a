-- A pattern at a name of one unit more, symbol by symbol.
use Rattle.std.proofs.Common.{◌≡◌, ℕ, Bool, true, false, not, cond, ◌==◌, ◌&&◌, ◌||◌, ◌⊎◌, inl, inr, List, [], ◌∷◌, ◌++◌, refl, sym, ap, ◌∙◌, subst, arith}
use Rattle.std.specs.Bool.{Decides}
use Rattle.std.proofs.lemmas.Bool.{false≢true, true≢false, eqb-true, eq-eqb, or_left, or_right, not-true, not_from_false, not_from_true, cases_Bool}
use Rattle.std.proofs.lemmas.Bool.Decides.{Decides-like, Decides-or, Decides-and, Decides-eqb}
use Rattle.std.proofs.lemmas.List.{nil_from_length}
use Rattle.smb_wire.specs.Names.{folded, folded_unit}
use Rattle.smb_patterns.specs.Patterns.{has_dot, Takes, Matches}
use Rattle.smb_patterns.specs.PatternRows.{Known, IsPatternPlace, answer_of}
use Rattle.smb_patterns.specs.declared.rows.Place.{Place}
use Rattle.smb_patterns.specs.declared.symbol.Symbol.{Symbol}
use Rattle.smb_patterns.specs.declared.symbol.Symbol.TheVariants.{Asterisk, QuestionMark, DosStar, DosQm, DosDot, Literal}

-- a symbol takes a run at the front of a name, and the pattern behind it matches the rest
abbrev pub Taken : Symbol → List ℕ → List ℕ → Type 0
Taken s ps name = (run : List ℕ) × (rest : List ℕ) × (name ≡ run ++ rest) × Takes s run rest × Matches ps rest

-- the run has the first unit of the name, and more
abbrev pub TakenOn : Symbol → List ℕ → ℕ → List ℕ → Type 0
TakenOn s ps u us = (more : List ℕ) × (rest : List ℕ) × (us ≡ more ++ rest) × Takes s (u ∷ more) rest × Matches ps rest

pub skipped : (s : Symbol) (ps name : List ℕ) → Takes s [] name → Matches ps name → Taken s ps name
skipped s ps name t m = ([], name, refl, t, m)

pub taken_on : (s : Symbol) (ps : List ℕ) (u : ℕ) (us : List ℕ) → TakenOn s ps u us → Taken s ps (u ∷ us)
taken_on s ps u us t = (u ∷ t.0, t.1, ap (λ (xs : List ℕ). u ∷ xs) t.2, t.3, t.4)

split_by : (s : Symbol) (ps : List ℕ) (u : ℕ) (us run rest : List ℕ) → u ∷ us ≡ run ++ rest → Takes s run rest → Matches ps rest → (Takes s [] (u ∷ us) × Matches ps (u ∷ us)) ⊎ TakenOn s ps u us
split_by s ps u us [] rest e t m =
    inl (subst (λ (xs : List ℕ). Takes s [] xs) (sym e) t, subst (λ (xs : List ℕ). Matches ps xs) (sym e) m)
split_by s ps u us (v ∷ run) rest e t m =
    let a : v ≡ u = cc in
    let b : us ≡ run ++ rest = cc in
    inr (run, rest, b, subst (λ (w : ℕ). Takes s (w ∷ run) rest) a t, m)

-- either nothing is taken, or the first unit
pub split : (s : Symbol) (ps : List ℕ) (u : ℕ) (us : List ℕ) → Taken s ps (u ∷ us) → (Takes s [] (u ∷ us) × Matches ps (u ∷ us)) ⊎ TakenOn s ps u us
split s ps u us t = split_by s ps u us t.0 t.1 t.2 t.3 t.4

-- where one unit alone is taken, the rest is all behind it
pub matched_rest : (ps us more rest : List ℕ) → us ≡ more ++ rest → more ≡ [] → Matches ps rest → Matches ps us
matched_rest ps us more rest e n m =
    let f : us ≡ rest = e ∙ ap (λ (xs : List ℕ). xs ++ rest) n in
    subst (λ (xs : List ℕ). Matches ps xs) (sym f) m

nil_parts : (run rest : List ℕ) → [] ≡ run ++ rest → (run ≡ []) × (rest ≡ [])
nil_parts [] rest e = (refl, sym e)
nil_parts (v ∷ run) rest e = cc

-- at the end of a name nothing is left to be taken
pub taken_end : (s : Symbol) (ps : List ℕ) → Taken s ps [] → Takes s [] [] × Matches ps []
taken_end s ps t =
    let n = nil_parts t.0 t.1 t.2 in
    let a : Takes s [] t.1 = subst (λ (xs : List ℕ). Takes s xs t.1) n.0 t.3 in
    (subst (λ (xs : List ℕ). Takes s [] xs) n.1 a, subst (λ (xs : List ℕ). Matches ps xs) n.1 t.4)

-- dots of a name in two parts
pub dots-append : (xs ys : List ℕ) → has_dot (xs ++ ys) ≡ (has_dot xs || has_dot ys)
dots-append [] ys = refl
dots-append (x ∷ xs) ys = grind (arith, dots-append xs ys)

-- d: the unit is a dot; r: its run has one behind it; s: the rest has one; w: all that is behind the unit has one
no_last_dot : (d r s w : Bool) → (d && not w) ≡ false → w ≡ (r || s) → (r ≡ true → s ≡ true) → (d || r) ≡ true → s ≡ true
no_last_dot d true s w n e h f = h refl
no_last_dot true false true w n e h f = refl
no_last_dot true false false w n e h f = absurd (true≢false (rw e at n))
no_last_dot false false s w n e h f = absurd (false≢true f)

last_dot_kept : (d r s w : Bool) → w ≡ (r || s) → ((d || r) ≡ true → s ≡ true) → (d && not w) ≡ false
last_dot_kept false r s w e h = refl
last_dot_kept true r s w e h = rw (e, h refl) (not_from_true (r || true) (or_right r true refl))

later_dot : (d r s : Bool) → ((d || r) ≡ true → s ≡ true) → r ≡ true → s ≡ true
later_dot d r s h e = h (or_right d r e)

-- a test decides that it is true
itself : (b : Bool) → Decides b (b ≡ true)
itself b = (λ e. e, λ e. e)

asterisk_at : (ps : List ℕ) (u : ℕ) (us : List ℕ) (k : Known) → Decides k.stays (Taken Asterisk ps us) → Decides k.skips (Matches ps (u ∷ us)) → Decides (k.skips || k.stays) (Taken Asterisk ps (u ∷ us))
asterisk_at ps u us k stays skips =
    Decides-like (k.skips || k.stays)
    (λ w. elim w [ inl m ↦ skipped Asterisk ps (u ∷ us) tt m | inr t ↦ taken_on Asterisk ps u us (t.0, t.1, t.2, tt, t.4) ])
    (λ t. elim (split Asterisk ps u us t) [ inl h ↦ inl h.1 | inr h ↦ inr (h.0, h.1, h.2, tt, h.4) ])
    (Decides-or k.skips k.stays skips stays)

question_at : (ps : List ℕ) (u : ℕ) (us : List ℕ) (k : Known) → Decides k.moves (Matches ps us) → Decides k.moves (Taken QuestionMark ps (u ∷ us))
question_at ps u us k moves =
    Decides-like k.moves
    (λ m. taken_on QuestionMark ps u us ([], us, refl, refl, m))
    (λ t. elim (split QuestionMark ps u us t) [
      | inl h ↦ absurd (omega (arith, h.0))
      | inr h ↦ matched_rest ps us h.0 h.1 h.2 (nil_from_length h.0 (omega (arith, h.3))) h.4
    ])
    moves

dos_star_at : (ps : List ℕ) (u : ℕ) (us : List ℕ) (k : Known) (last : Bool) → last ≡ ((u == 46) && not (has_dot us)) → Decides k.stays (Taken DosStar ps us) → Decides k.skips (Matches ps (u ∷ us)) → Decides (k.skips || (k.stays && not last)) (Taken DosStar ps (u ∷ us))
dos_star_at ps u us k last l stays skips =
    Decides-like (k.skips || (k.stays && not last))
    (λ w. elim w [
      | inl m ↦ skipped DosStar ps (u ∷ us) (λ e. absurd (false≢true e)) m
      | inr q ↦
          let n : ((u == 46) && not (has_dot us)) ≡ false = sym l ∙ not-true last q.1 in
          let dots : has_dot us ≡ (has_dot q.0.0 || has_dot q.0.1) = ap has_dot q.0.2 ∙ dots-append q.0.0 q.0.1 in
          taken_on DosStar ps u us (q.0.0, q.0.1, q.0.2, no_last_dot (u == 46) (has_dot q.0.0) (has_dot q.0.1) (has_dot us) n dots q.0.3, q.0.4)
    ])
    (λ t. elim (split DosStar ps u us t) [
      | inl h ↦ inl h.1
      | inr h ↦
          let dots : has_dot us ≡ (has_dot h.0 || has_dot h.1) = ap has_dot h.2 ∙ dots-append h.0 h.1 in
          let n : last ≡ false = l ∙ last_dot_kept (u == 46) (has_dot h.0) (has_dot h.1) (has_dot us) dots h.3 in
          inr ((h.0, h.1, h.2, later_dot (u == 46) (has_dot h.0) (has_dot h.1) h.3, h.4), not_from_false last n)
    ])
    (Decides-or k.skips (k.stays && not last) skips (Decides-and k.stays (not last) stays (itself (not last))))

dos_qm_dot : (ps : List ℕ) (u : ℕ) (us : List ℕ) → (u == 46) ≡ true → (Matches ps (u ∷ us) → Taken DosQm ps (u ∷ us)) × (Taken DosQm ps (u ∷ us) → Matches ps (u ∷ us))
dos_qm_dot ps u us d = (
  λ m. skipped DosQm ps (u ∷ us) (inr (refl, d)) m,
  λ t. elim (split DosQm ps u us t) [
    | inl h ↦ h.1
    | inr h ↦ elim h.3 [ inl a ↦ absurd (true≢false (sym (or_left (u == 46) (has_dot h.0) d) ∙ a.1)) | inr a ↦ cc ]
  ],
)

dos_qm_other : (ps : List ℕ) (u : ℕ) (us : List ℕ) → (u == 46) ≡ false → (Matches ps us → Taken DosQm ps (u ∷ us)) × (Taken DosQm ps (u ∷ us) → Matches ps us)
dos_qm_other ps u us d = (
  λ m. taken_on DosQm ps u us ([], us, refl, inl (refl, rw d refl), m),
  λ t. elim (split DosQm ps u us t) [
    | inl h ↦ elim h.0 [ inl a ↦ absurd (omega (arith, a.0)) | inr a ↦ absurd (false≢true (sym d ∙ a.1)) ]
    | inr h ↦ elim h.3 [
      | inl a ↦ matched_rest ps us h.0 h.1 h.2 (nil_from_length h.0 (omega (arith, a.0))) h.4
      | inr a ↦ cc
    ]
  ],
)

dos_qm_at : (ps : List ℕ) (u : ℕ) (us : List ℕ) (k : Known) → Decides k.moves (Matches ps us) → Decides k.skips (Matches ps (u ∷ us)) → Decides (cond (u == 46) k.skips k.moves) (Taken DosQm ps (u ∷ us))
dos_qm_at ps u us k moves skips = elim (cases_Bool (u == 46)) [
  | inl d ↦
      let w = dos_qm_dot ps u us d in
      rw d (Decides-like k.skips w.0 w.1 skips)
  | inr d ↦
      let w = dos_qm_other ps u us d in
      rw d (Decides-like k.moves w.0 w.1 moves)
]

dos_dot_at : (ps : List ℕ) (u : ℕ) (us : List ℕ) (k : Known) → Decides k.moves (Matches ps us) → Decides ((u == 46) && k.moves) (Taken DosDot ps (u ∷ us))
dos_dot_at ps u us k moves =
    Decides-like ((u == 46) && k.moves)
    (λ q.
    let one : u ∷ [] ≡ 46 ∷ [] = ap (λ (x : ℕ). x ∷ []) (eqb-true u 46 q.0) in
    taken_on DosDot ps u us ([], us, refl, inl one, q.1))
    (λ t. elim (split DosDot ps u us t) [
      | inl h ↦ elim h.0 [ inl a ↦ cc | inr a ↦ cc ]
      | inr h ↦ elim h.3 [
        | inl a ↦
            let e : u ≡ 46 = cc in
            let n : h.0 ≡ [] = cc in
            (eq-eqb u 46 e, matched_rest ps us h.0 h.1 h.2 n h.4)
        | inr a ↦ cc
      ]
    ])
    (Decides-and (u == 46) k.moves (itself (u == 46)) moves)

pub folded_nil : (us : List ℕ) → folded us ≡ [] → us ≡ []
folded_nil [] e = refl
folded_nil (u ∷ us) e = cc

literal_at : (v : ℕ) (ps : List ℕ) (u : ℕ) (us : List ℕ) (k : Known) → Decides k.moves (Matches ps us) → Decides ((folded_unit u == folded_unit v) && k.moves) (Taken (Literal v) ps (u ∷ us))
literal_at v ps u us k moves =
    Decides-like ((folded_unit u == folded_unit v) && k.moves)
    (λ q.
    let one : folded_unit u ∷ [] ≡ folded_unit v ∷ [] = ap (λ (x : ℕ). x ∷ []) q.0 in
    taken_on (Literal v) ps u us ([], us, refl, one, q.1))
    (λ t. elim (split (Literal v) ps u us t) [
      | inl h ↦
          let no : [] ≡ folded_unit v ∷ [] = h.0 in
          cc
      | inr h ↦
          let whole : folded_unit u ∷ folded h.0 ≡ folded_unit v ∷ [] = h.3 in
          let first : folded_unit u ≡ folded_unit v = cc in
          let none : folded h.0 ≡ [] = cc in
          (first, matched_rest ps us h.0 h.1 h.2 (folded_nil h.0 none) h.4)
    ])
    (Decides-and (folded_unit u == folded_unit v) k.moves (Decides-eqb (folded_unit u) (folded_unit v)) moves)

-- the answer for a symbol is right where the answers that it goes by are
pub answered : (s : Symbol) (ps : List ℕ) (place : Place) (us : List ℕ) (k : Known) → IsPatternPlace place us → Decides k.stays (Taken s ps us) → Decides k.moves (Matches ps us) → Decides k.skips (Matches ps (place.unit ∷ us)) → Decides (answer_of s place k) (Taken s ps (place.unit ∷ us))
answered Asterisk ps place us k p stays moves skips = asterisk_at ps place.unit us k stays skips
answered QuestionMark ps place us k p stays moves skips = question_at ps place.unit us k moves
answered DosStar ps place us k p stays moves skips = dos_star_at ps place.unit us k place.is_last_dot p stays skips
answered DosQm ps place us k p stays moves skips = dos_qm_at ps place.unit us k moves skips
answered DosDot ps place us k p stays moves skips = dos_dot_at ps place.unit us k moves
answered (Literal v) ps place us k p stays moves skips = literal_at v ps place.unit us k moves
