-- Going through a list by places.
use Rattle.std.proofs.Common.{◌||◌, ◌≡◌, ℕ, zero, suc, ◌+◌, Bool, true, false, List, [], ◌∷◌, drop, Some, None, refl, sym, ◌∙◌, arith}
use Rattle.std.specs.Prelude.{slice_get}
use Rattle.std.specs.List.{list_any}

-- the element at a place stands first in what is left there
pub drop_found : {X : Type 0} (xs : List X) (i : ℕ) (x : X) → slice_get xs i ≡ Some x → drop i xs ≡ x ∷ drop (i + 1) xs
drop_found [] i x h = cc
drop_found (y ∷ xs) zero x h = let e : y ≡ x = cc in rw e refl
drop_found (y ∷ xs) (suc i) x h = let e : suc i + 1 ≡ suc (i + 1) = omega arith in rw e (drop_found xs i x h)

-- past the end nothing is left
pub drop_past : {X : Type 0} (xs : List X) (i : ℕ) → slice_get xs i ≡ None → drop i xs ≡ []
drop_past [] zero h = refl
drop_past [] (suc i) h = refl
drop_past (y ∷ xs) zero h = cc
drop_past (y ∷ xs) (suc i) h = drop_past xs i h

-- what is left has an element that is looked for: it stands at this place, or behind it
pub any_found : {X : Type 0} (test : X → Bool) (xs : List X) (i : ℕ) (x : X) → slice_get xs i ≡ Some x →
    list_any test (drop i xs) ≡ list_any test xs → test x ≡ true → true ≡ list_any test xs
any_found test xs i x at h e = sym (sym h ∙ rw (drop_found xs i x at, e) refl)

pub any_passed : {X : Type 0} (test : X → Bool) (xs : List X) (i : ℕ) (x : X) → slice_get xs i ≡ Some x →
    list_any test (drop i xs) ≡ list_any test xs → test x ≡ false → list_any test (drop (i + 1) xs) ≡ list_any test xs
any_passed test xs i x at h e =
    let step : list_any test (drop i xs) ≡ list_any test (drop (i + 1) xs) = rw (drop_found xs i x at, e) refl in
    sym step ∙ h

-- the same, where one was found before or not
pub any_or_found : {X : Type 0} (before : Bool) (test : X → Bool) (xs : List X) (i : ℕ) (x : X) → slice_get xs i ≡ Some x →
    (before || list_any test (drop i xs)) ≡ list_any test xs → test x ≡ true → true ≡ list_any test xs
any_or_found true test xs i x at h e = h
any_or_found false test xs i x at h e = any_found test xs i x at h e

pub any_or_passed : {X : Type 0} (before : Bool) (test : X → Bool) (xs : List X) (i : ℕ) (x : X) → slice_get xs i ≡ Some x →
    (before || list_any test (drop i xs)) ≡ list_any test xs → test x ≡ false → (before || list_any test (drop (i + 1) xs)) ≡ list_any test xs
any_or_passed true test xs i x at h e = h
any_or_passed false test xs i x at h e = any_passed test xs i x at h e

pub none_found : {X : Type 0} (test : X → Bool) (xs : List X) (i : ℕ) → slice_get xs i ≡ None →
    list_any test (drop i xs) ≡ list_any test xs → false ≡ list_any test xs
none_found test xs i past h = let step : list_any test (drop i xs) ≡ false = rw (drop_past xs i past) refl in sym step ∙ h
