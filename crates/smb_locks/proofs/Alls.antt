-- What holds of each element of a list.
use Rattle.std.proofs.Common.{◌≡◌, Bool, true, false, List, [], ◌∷◌, ◌++◌, filter, refl}
use Rattle.std.specs.List.{AllByRecursion}
use Rattle.smb_locks.specs.declared.lock.Lock.{Lock}
use Rattle.smb_locks.specs.Parts.{without_oldest}

module _ {X : Type 0} (P : X → Type 0) where
  pub all-append : (xs ys : List X) → AllByRecursion P xs → AllByRecursion P ys → AllByRecursion P (xs ++ ys)
  all-append [] ys h g = g
  all-append (x ∷ xs) ys h g = (h.0, all-append xs ys h.1 g)

  filtered_at : (p : X → Bool) (x : X) (xs : List X) (b : Bool) → p x ≡ b → P x → AllByRecursion P (filter p xs) → AllByRecursion P (filter p (x ∷ xs))
  filtered_at p x xs true t h ih = rw t (h, ih)
  filtered_at p x xs false t h ih = rw t ih

  pub all-filter : (p : X → Bool) (xs : List X) → AllByRecursion P xs → AllByRecursion P (filter p xs)
  all-filter p [] h = tt
  all-filter p (x ∷ xs) h = filtered_at p x xs (p x) refl h.0 (all-filter p xs h.1)

pub all-weaker : {X : Type 0} (P Q : X → Type 0) (xs : List X) → ((x : X) → P x → Q x) → AllByRecursion P xs → AllByRecursion Q xs
all-weaker P Q [] step h = tt
all-weaker P Q (x ∷ xs) step h = (step x h.0, all-weaker P Q xs step h.1)

module _ (P : Lock → Type 0) where
  without_at : (p : Lock → Bool) (x : Lock) (xs : List Lock) (b : Bool) → p x ≡ b → P x → AllByRecursion P xs → AllByRecursion P (without_oldest p xs) → AllByRecursion P (without_oldest p (x ∷ xs))
  without_at p x xs true t h hs ih = rw t hs
  without_at p x xs false t h hs ih = rw t (h, ih)

  pub all-without : (p : Lock → Bool) (xs : List Lock) → AllByRecursion P xs → AllByRecursion P (without_oldest p xs)
  all-without p [] h = tt
  all-without p (x ∷ xs) h = without_at p x xs (p x) refl h.0 h.1 (all-without p xs h.1)
