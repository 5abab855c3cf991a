-- What is kept in mind of an address, by its place in the list, and what stays of others where it is taken out.
use Rattle.std.proofs.Common.{◌≡◌, ◌≢◌, ◌==◌, ◌<◌, ◌≤◌, ℕ, zero, suc, Bool, true, false, cond, nat_lt, List, [], ◌∷◌, get_or, length, take, Some, None, refl, ap, arith, ◌∙◌}
use Rattle.std.specs.List.{find, position, position_or_len, slice_get, remove}
use Rattle.std.proofs.lemmas.Bool.Decides.{nat_tests}
use Rattle.std.proofs.lemmas.List.Quantifiers.{position-Some}
use Rattle.std.proofs.lemmas.List.Sums.{position_or_len_is}
use Rattle.std.proofs.lemmas.List.Folds.{find_at}
use Rattle.std.proofs.lemmas.Option.{slice_get-get_or, slice_get_past}
use Rattle.smb_tcp.specs.declared.login_delay.Tries.{Tries}
use Rattle.smb_tcp.specs.LoginDelays.{tries_of, kept_beside}

module _ {X : Type 0} (p : X → Bool) where
  found_at : (xs : List X) (i : ℕ) (d : X) → position p xs ≡ Some i → find p xs ≡ Some (get_or xs i d)
  found_at xs i d e =
      let s = position-Some p xs i d e in
      let at : position_or_len p xs ≡ i = position_or_len_is p xs i d (omega (arith, s.0)) s.2 (λ _. s.1) in
      find_at p xs ∙ ap (λ (n : ℕ). slice_get xs n) at ∙ slice_get-get_or xs i d s.0

  none_by : (xs : List X) (b : Bool) → nat_lt (position_or_len p xs) (length xs) ≡ b → position p xs ≡ None → find p xs ≡ None
  none_by xs true t h = let some : position p xs ≡ Some (position_or_len p xs) = rw t refl in cc
  none_by xs false t h =
      let far : length xs ≤ position_or_len p xs = grind (arith, nat_tests, t) in
      find_at p xs ∙ slice_get_past xs (position_or_len p xs) far

  -- one that does not pass is not found
  beside : (xs : List X) (i : ℕ) (d : X) → p (get_or xs i d) ≡ false → i < length xs → find p (remove xs i) ≡ find p xs
  beside [] i d f l = absurd (omega (arith, l))
  beside (x ∷ xs) zero d f l = rw f refl
  beside (x ∷ xs) (suc i) d f l = ap (λ rest. cond (p x) (Some x) rest) (beside xs i d f (omega (arith, l)))

pub tries_at : (key : ℕ) (list : List Tries) (i : ℕ) (d : Tries) → position (λ tries. tries.key == key) list ≡ Some i → tries_of key list ≡ Some (get_or list i d)
tries_at key list i d e = found_at (λ tries. tries.key == key) list i d e

pub no_tries : (key : ℕ) (list : List Tries) → position (λ tries. tries.key == key) list ≡ None → tries_of key list ≡ None
no_tries key list e = none_by (λ tries. tries.key == key) list (nat_lt (position_or_len (λ tries. tries.key == key) list) (length list)) refl e

pub beside_one : (key : ℕ) (list : List Tries) (i : ℕ) (d : Tries) → position (λ tries. tries.key == key) list ≡ Some i → (other : ℕ) → other ≢ key →
    tries_of other (remove list i) ≡ tries_of other (kept_beside key list)
beside_one key list i d e other differs =
    let s = position-Some (λ (tries : Tries). tries.key == key) list i d e in
    let not : ((get_or list i d).key == other) ≡ false = grind (arith, nat_tests, s.1, differs) in
    rw (tries_at key list i d e) (beside (λ tries. tries.key == other) list i d not s.0)

pub beside_none : (key : ℕ) (list : List Tries) → position (λ tries. tries.key == key) list ≡ None → (other : ℕ) →
    tries_of other (take 4095 list) ≡ tries_of other (kept_beside key list)
beside_none key list e other = rw (no_tries key list e) refl
