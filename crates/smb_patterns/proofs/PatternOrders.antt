-- How a name and the names that a pattern matches are ordered, found unit by unit.
use Rattle.std.proofs.Common.{◌≡◌, ◌≢◌, ℕ, suc, zero, ◌+◌, ◌<◌, List, [], ◌∷◌, ◌++◌, length, get_or, drop, refl, sym, ap, subst, arith, ◌∙◌, drop-cons, add-one, Ordering, Less, Equal, Greater}
use Rattle.std.proofs.lemmas.List.{map-append}
use Rattle.std.specs.Ordering.{nat_cmp, ordering_then}
use Rattle.std.specs.Cmp.Lexicographic.{slice_cmp}
use Rattle.smb_wire.specs.Names.{folded, folded_unit}
use Rattle.smb_patterns.specs.Patterns.{symbol_of, Takes, Matches}
use Rattle.smb_patterns.specs.PatternOrders.{HasOrder}
use Rattle.smb_patterns.specs.declared.symbol.Symbol.{Symbol}
use Rattle.smb_patterns.specs.declared.symbol.Symbol.TheVariants.{Literal}

-- what a name has for an order to each name that the pattern matches, it has from a place on to a rest that the pattern matches from there on
abbrev pub OrderedFrom : ℕ → List ℕ → List ℕ → Type 0
OrderedFrom i pattern name =
    (other : List ℕ) → Matches pattern other → (rest : List ℕ) × Matches (drop i pattern) rest × (slice_cmp nat_cmp (drop i name) (folded rest) ≡ slice_cmp nat_cmp name (folded other))

pub ordered_first : (pattern name : List ℕ) → OrderedFrom 0 pattern name
ordered_first pattern name other m = (other, m, refl)

then_first : (o p : Ordering) → o ≢ Equal → ordering_then o p ≡ o
then_first Less p h = refl
then_first Equal p h = absurd (h refl)
then_first Greater p h = refl

then_more : (o p : Ordering) → o ≡ Equal → ordering_then o p ≡ p
then_more o p e = ap (λ (q : Ordering). ordering_then q p) e

drop_whole : (n : ℕ) (xs : List ℕ) → n ≡ length xs → drop n xs ≡ []
drop_whole zero [] e = refl
drop_whole zero (x ∷ xs) e = absurd (omega arith)
drop_whole (suc n) [] e = refl
drop_whole (suc n) (x ∷ xs) e = drop_whole n xs (omega arith)

-- at a place where a unit of the pattern stands for itself: n is the name's unit, and o its order to that one
module _ (ps ns : List ℕ) (i unit n : ℕ) (o : Ordering) (h : i < length ps) (k : i < length ns) (s : Literal unit ≡ symbol_of (get_or ps i 0)) (f : n ≡ get_or ns i 0) (e : o ≡ nat_cmp n (folded_unit unit)) where
  one_taken : (rest : List ℕ) → Matches (drop i ps) rest → (behind : List ℕ) × Matches (drop (i + 1) ps) behind × (folded rest ≡ folded_unit unit ∷ folded behind)
  one_taken rest m =
      let whole : Matches (get_or ps i 0 ∷ drop (suc i) ps) rest = subst (λ (xs : List ℕ). Matches xs rest) (drop-cons ps i 0 h) m in
      let first : folded whole.0 ≡ folded (unit ∷ []) = subst (λ (t : Symbol). Takes t whole.0 whole.1) (sym s) whole.3 in (
        whole.1,
        subst (λ (j : ℕ). Matches (drop j ps) whole.1) (let one : suc i ≡ i + 1 = omega arith in one) whole.4,
        ap folded whole.2 ∙ map-append folded_unit whole.0 whole.1 ∙ ap (λ (xs : List ℕ). xs ++ folded whole.1) first,
      )

  at_unit : (rest behind : List ℕ) → folded rest ≡ folded_unit unit ∷ folded behind → slice_cmp nat_cmp (drop i ns) (folded rest) ≡ ordering_then o (slice_cmp nat_cmp (drop (i + 1) ns) (folded behind))
  at_unit rest behind q = rw (add-one, drop-cons ns i 0 k, ← f, q, e) refl

  pub order_here : o ≢ Equal → OrderedFrom i ps ns → HasOrder ps ns o
  order_here d from other m =
      let at = from other m in
      let taken = one_taken at.0 at.1 in
      sym at.2 ∙ at_unit at.0 taken.0 taken.2 ∙ then_first o _ d

  pub order_later : o ≡ Equal → OrderedFrom i ps ns → OrderedFrom (i + 1) ps ns
  order_later d from other m =
      let at = from other m in
      let taken = one_taken at.0 at.1 in
      (taken.0, taken.1, sym (then_more o _ d) ∙ sym (at_unit at.0 taken.0 taken.2) ∙ at.2)

-- where the pattern ends without a wildcard, and the name goes on
pub order_longer : (ps ns : List ℕ) (i : ℕ) → i ≡ length ps → i < length ns → OrderedFrom i ps ns → HasOrder ps ns Greater
order_longer ps ns i e k from other m =
    let at = from other m in
    let none : at.0 ≡ [] = subst (λ (xs : List ℕ). Matches xs at.0) (drop_whole i ps e) at.1 in
    sym at.2 ∙ rw (none, drop-cons ns i 0 k) refl
