-- Entries by number.
use Rattle.std.proofs.Common.{◌≡◌, ℕ, ◌<◌, ◌==◌, Bool, true, false, List, [], ◌∷◌, ◌++◌, map, Some, None, is_some, refl, sym, ap, ◌∙◌, arith}
use Rattle.std.proofs.lemmas.Bool.{eqb-true}
use Rattle.std.proofs.lemmas.Bool.Decides.{nat_tests}
use Rattle.std.specs.List.{AllByRecursion}
use Rattle.std.specs.Map.{lookup, set_value, remove_entry}
use Rattle.std.specs.BTreeMap.{is_at, insert_entry}
use Rattle.std.specs.Ordering.{nat_cmp}
use Rattle.std.specs.Cmp.{nat_cmp_is}
use Rattle.std.specs.declared.cmp.Ordering.TheVariants.{Equal, Greater}
use Rattle.smb_session.specs.Numbers.{contains}
use Rattle.smb_session.specs.Table.{changed_at}

-- the test of a query by number
pub at-eq : (n m : ℕ) → is_at (nat_cmp n) m ≡ (n == m)
at-eq n m = grind (arith, nat_tests)

pub same_number : (n m : ℕ) (b : Bool) → is_at (nat_cmp n) m ≡ b → (n == m) ≡ b
same_number n m b h = sym (at-eq n m) ∙ h

module _ {X : Type 0} where
  -- all entries, by what is done to one
  module _ (P : ℕ × X → Type 0) where
    set_at : (f : X → X) (n : ℕ) (e : ℕ × X) (es : List (ℕ × X)) (b : Bool) → (n == e.0) ≡ b → P (e.0, f e.1) → P e → AllByRecursion P es → AllByRecursion P (changed_at f n es) → AllByRecursion P (changed_at f n (e ∷ es))
    set_at f n e es true t v w ws ih = rw t (v, ws)
    set_at f n e es false t v w ws ih = rw t (w, ih)

    pub all-changed : (f : X → X) (n : ℕ) (es : List (ℕ × X)) → ((e : ℕ × X) → P e → P (e.0, f e.1)) → AllByRecursion P es → AllByRecursion P (changed_at f n es)
    all-changed f n [] step w = tt
    all-changed f n (e ∷ es) step w = set_at f n e es (n == e.0) refl (step e w.0) w.0 w.1 (all-changed f n es step w.1)

    remove_at : (test : ℕ → Bool) (e : ℕ × X) (es : List (ℕ × X)) (b : Bool) → test e.0 ≡ b → P e → AllByRecursion P es → AllByRecursion P (remove_entry test es) → AllByRecursion P (remove_entry test (e ∷ es))
    remove_at test e es true t w ws ih = rw t ws
    remove_at test e es false t w ws ih = rw t (w, ih)

    pub all-removed : (test : ℕ → Bool) (es : List (ℕ × X)) → AllByRecursion P es → AllByRecursion P (remove_entry test es)
    all-removed test [] w = w
    all-removed test (e ∷ es) w = remove_at test e es (test e.0) refl w.0 w.1 (all-removed test es w.1)

  module _ (P : X → Type 0) where
    -- what holds of all but for one that is changed, where it comes to hold of that one
    one_at : (f : X → X) (n : ℕ) (e : ℕ × X) (es : List (ℕ × X)) (x : X) (b : Bool) → is_at (nat_cmp n) e.0 ≡ b → (P x → P (f x)) → P e.1 → AllByRecursion (λ e. P e.1) es →
        (lookup (is_at (nat_cmp n)) es ≡ Some x → AllByRecursion (λ e. P e.1) (changed_at f n es)) → lookup (is_at (nat_cmp n)) (e ∷ es) ≡ Some x → AllByRecursion (λ e. P e.1) (changed_at f n (e ∷ es))
    one_at f n e es x true t step w ws ih h =
        let s : (n == e.0) ≡ true = same_number n e.0 true t in
        let same : e.1 ≡ x = cc in
        rw s (rw same (step (rw (← same) w)), ws)
    one_at f n e es x false t step w ws ih h =
        let s : (n == e.0) ≡ false = same_number n e.0 false t in
        rw s (w, ih (rw t at h))

    pub all-changed-one : (f : X → X) (n : ℕ) (es : List (ℕ × X)) (x : X) → (P x → P (f x)) → AllByRecursion (λ e. P e.1) es → lookup (is_at (nat_cmp n)) es ≡ Some x → AllByRecursion (λ e. P e.1) (changed_at f n es)
    all-changed-one f n [] x step w h = tt
    all-changed-one f n (e ∷ es) x step w h = one_at f n e es x (is_at (nat_cmp n) e.0) refl step w.0 w.1 (all-changed-one f n es x step w.1) h

  -- what a write through `get_mut` leaves
  set_is : (f : X → X) (n : ℕ) (e : ℕ × X) (es : List (ℕ × X)) (x : X) (b : Bool) → is_at (nat_cmp n) e.0 ≡ b → (lookup (is_at (nat_cmp n)) es ≡ Some x → set_value (is_at (nat_cmp n)) es (f x) ≡ changed_at f n es) →
      lookup (is_at (nat_cmp n)) (e ∷ es) ≡ Some x → set_value (is_at (nat_cmp n)) (e ∷ es) (f x) ≡ changed_at f n (e ∷ es)
  set_is f n e es x true t ih h =
      let s : (n == e.0) ≡ true = same_number n e.0 true t in
      let same : e.1 ≡ x = cc in
      rw (t, s) (ap (λ v. (e.0, f v) ∷ es) (sym same))
  set_is f n e es x false t ih h =
      let s : (n == e.0) ≡ false = same_number n e.0 false t in
      rw (t, s) (ap (λ r. e ∷ r) (ih (rw t at h)))

  pub set-changed : (f : X → X) (n : ℕ) (es : List (ℕ × X)) (x : X) → lookup (is_at (nat_cmp n)) es ≡ Some x → set_value (is_at (nat_cmp n)) es (f x) ≡ changed_at f n es
  set-changed f n [] x h = cc
  set-changed f n (e ∷ es) x h = set_is f n e es x (is_at (nat_cmp n) e.0) refl (set-changed f n es x) h

  none_at : (f : X → X) (n : ℕ) (e : ℕ × X) (es : List (ℕ × X)) (b : Bool) → is_at (nat_cmp n) e.0 ≡ b → (lookup (is_at (nat_cmp n)) es ≡ None → changed_at f n es ≡ es) →
      lookup (is_at (nat_cmp n)) (e ∷ es) ≡ None → changed_at f n (e ∷ es) ≡ e ∷ es
  none_at f n e es true t ih h = cc
  none_at f n e es false t ih h =
      let s : (n == e.0) ≡ false = same_number n e.0 false t in
      rw s (ap (λ r. e ∷ r) (ih (rw t at h)))

  pub changed-none : (f : X → X) (n : ℕ) (es : List (ℕ × X)) → lookup (is_at (nat_cmp n)) es ≡ None → changed_at f n es ≡ es
  changed-none f n [] h = refl
  changed-none f n (e ∷ es) h = none_at f n e es (is_at (nat_cmp n) e.0) refl (changed-none f n es) h

  -- taking out what does not stand
  absent_at : (test : ℕ → Bool) (e : ℕ × X) (es : List (ℕ × X)) (b : Bool) → test e.0 ≡ b → (lookup test es ≡ None → remove_entry test es ≡ es) → lookup test (e ∷ es) ≡ None → remove_entry test (e ∷ es) ≡ e ∷ es
  absent_at test e es true t ih h = cc
  absent_at test e es false t ih h = rw t (ap (λ r. e ∷ r) (ih (rw t at h)))

  pub removed-none : (test : ℕ → Bool) (es : List (ℕ × X)) → lookup test es ≡ None → remove_entry test es ≡ es
  removed-none test [] h = refl
  removed-none test (e ∷ es) h = absent_at test e es (test e.0) refl (removed-none test es) h

  -- a number above all goes last, and comes off again
  pub insert-last : (es : List (ℕ × X)) (n : ℕ) (x : X) → AllByRecursion (λ e. e.0 < n) es → insert_entry nat_cmp es n x ≡ es ++ (n, x) ∷ []
  insert-last [] n x u = refl
  insert-last (e ∷ es) n x u = rw (← nat_cmp_is n e.0 Greater u.0) (ap (λ (r : List (ℕ × X)). e ∷ r) (insert-last es n x u.1))

  pub remove-last : (es : List (ℕ × X)) (n : ℕ) (x : X) → AllByRecursion (λ e. e.0 < n) es → remove_entry (is_at (nat_cmp n)) (es ++ (n, x) ∷ []) ≡ es
  remove-last [] n x u = rw (← nat_cmp_is n n Equal refl) refl
  remove-last (e ∷ es) n x u = rw (← nat_cmp_is n e.0 Greater u.0) (ap (λ (r : List (ℕ × X)). e ∷ r) (remove-last es n x u.1))

  -- keys
  keys_at : (f : X → X) (n : ℕ) (e : ℕ × X) (es : List (ℕ × X)) (b : Bool) → (n == e.0) ≡ b → map (λ e. e.0) (changed_at f n es) ≡ map (λ e. e.0) es → map (λ e. e.0) (changed_at f n (e ∷ es)) ≡ map (λ e. e.0) (e ∷ es)
  keys_at f n e es true t ih = rw t refl
  keys_at f n e es false t ih = rw t (ap (λ ks. e.0 ∷ ks) ih)

  pub keys-changed : (f : X → X) (n : ℕ) (es : List (ℕ × X)) → map (λ e. e.0) (changed_at f n es) ≡ map (λ e. e.0) es
  keys-changed f n [] = refl
  keys-changed f n (e ∷ es) = keys_at f n e es (n == e.0) refl (keys-changed f n es)

  -- a number is known where something is found
  known_at : (n : ℕ) (e : ℕ × X) (es : List (ℕ × X)) (b : Bool) → is_at (nat_cmp n) e.0 ≡ b → is_some (lookup (is_at (nat_cmp n)) es) ≡ contains (map (λ e. e.0) es) n →
      is_some (lookup (is_at (nat_cmp n)) (e ∷ es)) ≡ contains (map (λ e. e.0) (e ∷ es)) n
  known_at n e es true t ih =
      let s : e.0 ≡ n = sym (eqb-true n e.0 (same_number n e.0 true t)) in
      let s' : (e.0 == n) ≡ true = grind (arith, nat_tests) in
      rw (t, s') refl
  known_at n e es false t ih =
      let s : (n == e.0) ≡ false = same_number n e.0 false t in
      let s' : (e.0 == n) ≡ false = grind (arith, nat_tests) in
      rw (t, s') ih

  pub keys-known : (n : ℕ) (es : List (ℕ × X)) → is_some (lookup (is_at (nat_cmp n)) es) ≡ contains (map (λ e. e.0) es) n
  keys-known n [] = refl
  keys-known n (e ∷ es) = known_at n e es (is_at (nat_cmp n) e.0) refl (keys-known n es)
