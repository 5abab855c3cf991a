-- A scan that goes on behind a front of what it finds finds what is left.
use Rattle.std.proofs.Common.{◌≡◌, ℕ, zero, suc, ◌+◌, ◌≤◌, Bool, true, false, cond, List, [], ◌∷◌, ◌++◌, length, take, filter, ◌⊎◌, inl, inr, refl, sym, ap, ◌∙◌, subst, arith}
use Rattle.std.proofs.lemmas.List.{take_all, take-take, length-take}
use Rattle.std.proofs.lemmas.Bool.Decides.{leb_tells}
use Rattle.std.proofs.Math.Seq.{take-append-add}
use Rattle.smb_info.specs.Candidates.{Candidate}
use Rattle.smb_info.specs.Parts.{at_most_one, reached}
use Rattle.smb_access.specs.declared.scan.ScanLast.{ScanLast}

no_front : (n : ℕ) → ◌≡◌ {A = List Candidate} (take n []) []
no_front n = let none : List Candidate = [] in take_all n none (omega arith)

module _ (behind : ScanLast → List Candidate) (p : Candidate → Bool) where
  -- what is left behind so many of those found from a place
  abbrev IsLeft : ScanLast → ℕ → List Candidate → Type 0
  IsLeft at n found = found ≡ take n found ++ filter p (behind (reached at (take n found)))

  abbrev with_first : Candidate → Bool → List Candidate
  with_first c b = cond b (c ∷ filter p (behind c.behind)) (filter p (behind c.behind))

  later : (at : ScanLast) (c : Candidate) (n : ℕ) (front found : List Candidate) → filter p (behind at) ≡ found → found ≡ front ++ filter p (behind (reached c.behind front)) → found ≡ front ++ filter p (behind (reached at front))
  later at c n [] found e h = sym e
  later at c n (x ∷ front) found e h = h

  first_left : (at : ScanLast) (c : Candidate) (b : Bool) (n : ℕ) → filter p (behind at) ≡ with_first c b → ((m : ℕ) → IsLeft c.behind m (filter p (behind c.behind))) → IsLeft at n (with_first c b)
  first_left at c true zero e h = sym e
  first_left at c true (suc n) e h = ap (λ (cs : List Candidate). c ∷ cs) (h n)
  first_left at c false n e h = later at c n (take n (filter p (behind c.behind))) (filter p (behind c.behind)) e (h n)

  none_left : (at : ScanLast) (n : ℕ) → behind at ≡ [] → IsLeft at n (filter p (behind at))
  none_left at n none =
      let found : filter p (behind at) ≡ [] = ap (filter p) none in
      let nothing : IsLeft at n [] = sym (ap (λ (front : List Candidate). front ++ filter p (behind (reached at front))) (no_front n) ∙ found) in
      subst (IsLeft at n) (sym found) nothing

  some_left : (at : ScanLast) (c : Candidate) (n : ℕ) → behind at ≡ c ∷ behind c.behind → ((m : ℕ) → IsLeft c.behind m (filter p (behind c.behind))) → IsLeft at n (filter p (behind at))
  some_left at c n e h =
      let found : filter p (behind at) ≡ with_first c (p c) = ap (filter p) e in
      subst (IsLeft at n) (sym found) (first_left at c (p c) n found h)

  pub left_by : (fuel : ℕ) (at : ScanLast) → ((at : ScanLast) → (behind at ≡ []) ⊎ ((c : Candidate) × (behind at ≡ c ∷ behind c.behind))) → length (behind at) ≤ fuel → (n : ℕ) → IsLeft at n (filter p (behind at))
  left_by zero at steps short n = elim (steps at) [
    | inl none ↦ none_left at n none
    | inr some ↦ absurd (omega (arith, ap length some.1, short))
  ]
  left_by (suc fuel) at steps short n = elim (steps at) [
    | inl none ↦ none_left at n none
    | inr some ↦ some_left at some.0 n some.1 (λ m. left_by fuel some.0.behind steps (omega (arith, ap length some.1, short)) m)
  ]

-- a front of a front is a front
pub front_of : (n m : ℕ) (cs : List Candidate) → (k : ℕ) × (take n (take m cs) ≡ take k cs)
front_of n m cs = elim (leb_tells n m) [
  | inl h ↦ (n, take-take n m cs h.1)
  | inr h ↦ (m, take_all n (take m cs) (omega (arith, h.1, length-take m cs)))
]

pub one_front : (single : Bool) (cs : List Candidate) → (k : ℕ) × (at_most_one single cs ≡ take k cs)
one_front true cs = (1, refl)
one_front false cs = (length cs, sym (take_all (length cs) cs (omega arith)))

-- two fronts, the second of what the first leaves
pub two_fronts : (n k : ℕ) (all left one two : List Candidate) → all ≡ one ++ left → two ≡ take k left → one ++ two ≡ take (length one + k) all
two_fronts n k all left one two e f =
    ap (λ (cs : List Candidate). one ++ cs) f ∙ sym (take-append-add one left k) ∙ sym (ap (take (length one + k)) e)
