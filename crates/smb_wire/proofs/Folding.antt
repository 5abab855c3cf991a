-- The order of folded names, found unit by unit.
use Rattle.std.proofs.Common.{◌≡◌, ◌≢◌, ℕ, zero, suc, ◌+◌, ◌<◌, List, [], ◌∷◌, length, get_or, drop, refl, sym, arith, ◌∙◌, drop-cons, add-one, Ordering, Less, Equal, Greater, min}
use Rattle.std.proofs.lemmas.List.{length-map}
use Rattle.std.proofs.lemmas.Bool.Decides.{nat_tests}
use Rattle.std.specs.Ordering.{nat_cmp, ordering_then}
use Rattle.std.specs.Cmp.Lexicographic.{slice_cmp}
use Rattle.smb_wire.specs.Names.{folded, folded_unit}

then_first : (o p : Ordering) → o ≢ Equal → ordering_then o p ≡ o
then_first Less p h = refl
then_first Equal p h = absurd (h refl)
then_first Greater p h = refl

-- two lists compared from a place on
order_at : (xs ys : List ℕ) (i : ℕ) → i < length xs → i < length ys → nat_cmp (get_or xs i 0) (get_or ys i 0) ≢ Equal → slice_cmp nat_cmp (drop i xs) (drop i ys) ≡ nat_cmp (get_or xs i 0) (get_or ys i 0)
order_at xs ys i h k e = rw (drop-cons xs i 0 h, drop-cons ys i 0 k) (then_first _ _ e)

order_more : (xs ys : List ℕ) (i : ℕ) → i < length xs → i < length ys → nat_cmp (get_or xs i 0) (get_or ys i 0) ≡ Equal → slice_cmp nat_cmp (drop (i + 1) xs) (drop (i + 1) ys) ≡ slice_cmp nat_cmp (drop i xs) (drop i ys)
order_more xs ys i h k e = rw (add-one, drop-cons xs i 0 h, drop-cons ys i 0 k, e) refl

order_end : (xs ys : List ℕ) (i : ℕ) → i ≡ min (length xs) (length ys) → slice_cmp nat_cmp (drop i xs) (drop i ys) ≡ nat_cmp (length xs) (length ys)
order_end [] [] zero h = refl
order_end [] [] (suc i) h = refl
order_end [] (y ∷ ys) zero h = grind (arith, nat_tests)
order_end [] (y ∷ ys) (suc i) h = absurd (omega arith)
order_end (x ∷ xs) [] zero h = grind (arith, nat_tests)
order_end (x ∷ xs) [] (suc i) h = absurd (omega arith)
order_end (x ∷ xs) (y ∷ ys) zero h = absurd (omega arith)
order_end (x ∷ xs) (y ∷ ys) (suc i) h = grind (arith, nat_tests, order_end xs ys i (omega arith))

pub get_folded : (ts : List ℕ) (i : ℕ) → i < length ts → get_or (folded ts) i 0 ≡ folded_unit (get_or ts i 0)
get_folded (t ∷ ts) zero h = refl
get_folded (t ∷ ts) (suc i) h = get_folded ts i (omega arith)
get_folded [] i h = absurd (omega arith)

-- of two names, folded unit by unit: a and b are the folded units at i, and o is their order
module _ (ls rs : List ℕ) (i a b : ℕ) (o : Ordering) (h : i < length ls) (k : i < length rs) (p : a ≡ folded_unit (get_or ls i 0)) (q : b ≡ folded_unit (get_or rs i 0)) (e : o ≡ nat_cmp a b) where
  order_is : nat_cmp (get_or (folded ls) i 0) (get_or (folded rs) i 0) ≡ o
  order_is = rw (get_folded ls i h, get_folded rs i k, ← p, ← q) (sym e)

  pub names_at : o ≢ Equal → o ≡ slice_cmp nat_cmp (drop i (folded ls)) (drop i (folded rs))
  names_at n = sym (order_at (folded ls) (folded rs) i (rw length-map h) (rw length-map k) (rw order_is n) ∙ order_is)

  pub names_more : o ≡ Equal → slice_cmp nat_cmp (drop (i + 1) (folded ls)) (drop (i + 1) (folded rs)) ≡ slice_cmp nat_cmp (drop i (folded ls)) (drop i (folded rs))
  names_more n = order_more (folded ls) (folded rs) i (rw length-map h) (rw length-map k) (order_is ∙ n)

pub names_end : (ls rs : List ℕ) (i : ℕ) → i ≡ min (length ls) (length rs) → nat_cmp (length ls) (length rs) ≡ slice_cmp nat_cmp (drop i (folded ls)) (drop i (folded rs))
names_end ls rs i h = sym (order_end (folded ls) (folded rs) i (rw (length-map ls folded_unit, length-map rs folded_unit) h) ∙ rw (length-map ls folded_unit, length-map rs folded_unit) refl)
