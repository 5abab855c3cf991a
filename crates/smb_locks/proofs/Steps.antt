-- The place of the oldest lock that passes a test, and what `retain` leaves.
use Rattle.std.proofs.Common.{◌≡◌, ℕ, zero, suc, ◌+◌, ◌<◌, Bool, true, false, List, [], ◌∷◌, length, get_or, nat_lt, position, remove, None, Some, refl, sym, ap, ◌∙◌, subst, arith}
use Rattle.std.proofs.lemmas.Bool.Decides.{nat_tests}
use Rattle.std.proofs.lemmas.List.Folds.{list_any_at}
use Rattle.std.proofs.lemmas.List.Quantifiers.{position-Some}
use Rattle.std.specs.List.{list_any, position_or_len}
use Rattle.std.specs.Map.Calls.{RetainsPairs}
use Rattle.smb_locks.specs.declared.lock.Lock.{Lock}
use Rattle.smb_locks.specs.Table.{without_holder}
use Rattle.smb_locks.specs.Laws.{others_locks}
use Rattle.smb_locks.specs.Parts.{without_oldest}

-- the place of the oldest
module _ (p : Lock → Bool) where
  any_at : (x : Lock) (xs : List Lock) (b : Bool) → p x ≡ b → nat_lt (position_or_len p xs) (length xs) ≡ list_any p xs → nat_lt (position_or_len p (x ∷ xs)) (length (x ∷ xs)) ≡ list_any p (x ∷ xs)
  any_at x xs true t ih = rw t (grind (arith, nat_tests))
  any_at x xs false t ih = rw t (behind (position_or_len p xs) (length xs) ∙ ih)
    where
      behind : (m n : ℕ) → nat_lt (1 + m) (suc n) ≡ nat_lt m n
      behind m n = grind (arith, nat_tests)

  found_any : (xs : List Lock) → nat_lt (position_or_len p xs) (length xs) ≡ list_any p xs
  found_any [] = refl
  found_any (x ∷ xs) = any_at x xs (p x) refl (found_any xs)

  none_by : (xs : List Lock) (b : Bool) → nat_lt (position_or_len p xs) (length xs) ≡ b → position p xs ≡ None → list_any p xs ≡ false
  none_by xs true t h = let some : position p xs ≡ Some (position_or_len p xs) = rw t refl in cc
  none_by xs false t h = sym (found_any xs) ∙ t

  pub oldest_none : (xs : List Lock) → position p xs ≡ None → list_any p xs ≡ false
  oldest_none xs h = none_by xs (nat_lt (position_or_len p xs) (length xs)) refl h

  removed_oldest : (xs : List Lock) (i : ℕ) (d : Lock) → i < length xs → p (get_or xs i d) ≡ true → ((k : ℕ) → k < i → p (get_or xs k d) ≡ false) → remove xs i ≡ without_oldest p xs
  removed_oldest [] i d l t h = absurd (omega arith)
  removed_oldest (x ∷ xs) zero d l t h = rw t refl
  removed_oldest (x ∷ xs) (suc i) d l t h =
      let first : p x ≡ false = h 0 (omega arith) in
      rw first (ap (λ (r : List Lock). x ∷ r) (removed_oldest xs i d (omega arith) t (λ k m. h (suc k) (omega arith))))

  -- taking out what is there
  pub record IsOldest (xs : List Lock) (i : ℕ) : Type 0 where
    pub within : i < length xs
    pub removed : remove xs i ≡ without_oldest p xs
    pub some : list_any p xs ≡ true

  pub oldest_place : (xs : List Lock) (i : ℕ) → position p xs ≡ Some i → IsOldest xs i
  oldest_place [] i h = cc
  oldest_place (x ∷ xs) i h =
      let w = position-Some p (x ∷ xs) i x h in
      record {
        within = w.0;
        removed = removed_oldest (x ∷ xs) i x w.0 w.1 w.2;
        some = list_any_at p (x ∷ xs) i x w.0 w.1;
      }

-- what `retain` leaves
module _ {F : Type 0} (T : F → ℕ → List Lock → Bool → List Lock → F → Type 0) (holder : ℕ) (f : F)
    (step : (file : ℕ) (locks : List Lock) (b : Bool) (left : List Lock) (g : F) → T f file locks b left g → (b ≡ nat_lt 0 (length (others_locks holder locks))) × (left ≡ others_locks holder locks) × (g ≡ f)) where
  pub retained : (table kept : List (ℕ × List Lock)) → RetainsPairs T f table kept → kept ≡ without_holder holder table
  retained [] kept h = h
  retained (entry ∷ table) kept h =
      let s = step entry.0 entry.1 h.0 h.1 h.2 h.4 in
      let P : F → Type 0 = λ g. RetainsPairs T g table h.3 in
      let rest = retained table h.3 (subst P s.2 h.5) in
      h.6 ∙ rw (s.0, s.1, rest) refl
