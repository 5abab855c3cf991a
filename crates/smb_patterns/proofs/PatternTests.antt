-- The test of a pattern decides the relation.
use Rattle.std.proofs.Common.{◌≡◌, ℕ, Bool, true, false, not, ◌==◌, ◌&&◌, ◌||◌, inl, inr, List, [], ◌∷◌, ◌++◌, length, map, nat_eq, refl, sym, ap, ◌∙◌}
use Rattle.std.specs.Bool.{Decides}
use Rattle.std.specs.List.{list_any}
use Rattle.std.specs.Cmp.Lexicographic.{pointwise, bytes_decides}
use Rattle.std.proofs.lemmas.Bool.{false≢true, true≢false, or_left, or_right, or_cases}
use Rattle.std.proofs.lemmas.Bool.Decides.{Decides-like, Decides-or, Decides-and, Decides-eqb}
use Rattle.std.proofs.lemmas.List.{nil_from_length}
use Rattle.smb_wire.specs.Names.{folded}
use Rattle.smb_patterns.specs.Patterns.{symbol_of, has_dot, is_end_or_dot, Takes, Matches, takes, cuts, is_match}
use Rattle.smb_patterns.specs.declared.symbol.Symbol.{Symbol}
use Rattle.smb_patterns.specs.declared.symbol.Symbol.TheVariants.{Asterisk, QuestionMark, DosStar, DosQm, DosDot, Literal}

itself : (b : Bool) → Decides b (b ≡ true)
itself b = (λ e. e, λ e. e)

is_false : (b : Bool) → Decides (not b) (b ≡ false)
is_false true = (λ e. absurd (false≢true e), λ e. absurd (true≢false e))
is_false false = (λ e. refl, λ e. refl)

one_gives_other : (a b : Bool) → Decides (not a || b) (a ≡ true → b ≡ true)
one_gives_other true true = (λ e f. refl, λ f. refl)
one_gives_other true false = (λ e. absurd (false≢true e), λ f. f refl)
one_gives_other false b = (λ e f. absurd (false≢true f), λ f. refl)

is_nil : (xs : List ℕ) → Decides (length xs == 0) (xs ≡ [])
is_nil xs = Decides-like (length xs == 0) (nil_from_length xs) (λ e. ap length e) (Decides-eqb (length xs) 0)

takes_decides : (s : Symbol) (run rest : List ℕ) → Decides (takes s run rest) (Takes s run rest)
takes_decides Asterisk run rest = (λ e. tt, λ t. refl)
takes_decides QuestionMark run rest = Decides-eqb (length run) 1
takes_decides DosStar run rest = one_gives_other (has_dot run) (has_dot rest)
takes_decides DosQm run rest =
    Decides-or ((length run == 1) && not (has_dot run)) ((length run == 0) && is_end_or_dot rest)
    (Decides-and (length run == 1) (not (has_dot run)) (Decides-eqb (length run) 1) (is_false (has_dot run)))
    (Decides-and (length run == 0) (is_end_or_dot rest) (is_nil run) (itself (is_end_or_dot rest)))
takes_decides DosDot run rest =
    Decides-or (pointwise nat_eq run (46 ∷ [])) ((length run == 0) && (length rest == 0))
    (bytes_decides run (46 ∷ []))
    (Decides-and (length run == 0) (length rest == 0) (is_nil run) (is_nil rest))
takes_decides (Literal unit) run rest = bytes_decides (folded run) (folded (unit ∷ []))

-- a run and a rest that pass a test
abbrev Cut : (List ℕ × List ℕ → Bool) → List ℕ → Type 0
Cut p name = (run : List ℕ) × (rest : List ℕ) × (name ≡ run ++ rest) × (p (run, rest) ≡ true)

any_map : (p : List ℕ × List ℕ → Bool) (u : ℕ) (xs : List (List ℕ × List ℕ)) → list_any p (map (λ cut. (u ∷ cut.0, cut.1)) xs) ≡ list_any (λ cut. p (u ∷ cut.0, cut.1)) xs
any_map p u [] = refl
any_map p u (x ∷ xs) = ap (λ (b : Bool). p (u ∷ x.0, x.1) || b) (any_map p u xs)

cut_found : (p : List ℕ × List ℕ → Bool) (name : List ℕ) → list_any p (cuts name) ≡ true → Cut p name
cut_found p [] e = elim (or_cases (p ([], [])) false e) [ inl q ↦ ([], [], refl, q) | inr q ↦ absurd (false≢true q) ]
cut_found p (u ∷ us) e =
    elim (or_cases (p ([], u ∷ us)) (list_any p (map (λ cut. (u ∷ cut.0, cut.1)) (cuts us))) e) [
      | inl q ↦ ([], u ∷ us, refl, q)
      | inr q ↦
          let more = cut_found (λ cut. p (u ∷ cut.0, cut.1)) us (sym (any_map p u (cuts us)) ∙ q) in
          (u ∷ more.0, more.1, ap (λ (xs : List ℕ). u ∷ xs) more.2, more.3)
    ]

cut_made : (p : List ℕ × List ℕ → Bool) (run rest : List ℕ) → p (run, rest) ≡ true → list_any p (cuts (run ++ rest)) ≡ true
cut_made p [] [] e = or_left (p ([], [])) false e
cut_made p [] (v ∷ vs) e = or_left (p ([], v ∷ vs)) (list_any p (map (λ cut. (v ∷ cut.0, cut.1)) (cuts vs))) e
cut_made p (u ∷ run) rest e =
    or_right (p ([], u ∷ (run ++ rest))) (list_any p (map (λ cut. (u ∷ cut.0, cut.1)) (cuts (run ++ rest))))
    (any_map p u (cuts (run ++ rest)) ∙ cut_made (λ cut. p (u ∷ cut.0, cut.1)) run rest e)

cut_decides : (p : List ℕ × List ℕ → Bool) (name : List ℕ) → Decides (list_any p (cuts name)) (Cut p name)
cut_decides p name =
    (cut_found p name, λ c. ap (λ (xs : List ℕ). list_any p (cuts xs)) c.2 ∙ cut_made p c.0 c.1 c.3)

pub match_decides : (pattern name : List ℕ) → Decides (is_match pattern name) (Matches pattern name)
unfolding is_match
match_decides [] name = is_nil name
match_decides (unit ∷ pattern) name =
    let s : Symbol = symbol_of unit in
    let part = λ (run : List ℕ) (rest : List ℕ). Decides-and (takes s run rest) (is_match pattern rest) (takes_decides s run rest) (match_decides pattern rest) in
    Decides-like (list_any (λ cut. takes s cut.0 cut.1 && is_match pattern cut.1) (cuts name))
    (λ c. let both = (part c.0 c.1).0 c.3 in (c.0, c.1, c.2, both.0, both.1))
    (λ m. (m.0, m.1, m.2, (part m.0 m.1).1 (m.3, m.4)))
    (cut_decides (λ cut. takes s cut.0 cut.1 && is_match pattern cut.1) name)
