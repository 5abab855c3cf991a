-- Entries by number: one more, one less, one changed.
use Rattle.std.proofs.Common.{◌≡◌, ℕ, ◌<◌, ◌==◌, Bool, true, false, List, [], ◌∷◌, map, nat_lt, Some, None, refl, sym, ap, ◌∙◌, arith}
use Rattle.std.proofs.lemmas.Bool.{eqb-true, eqb-false, ne_eqb, ltb-true}
use Rattle.std.proofs.lemmas.Bool.Decides.{nat_tests}
use Rattle.std.specs.List.{AllByRecursion}
use Rattle.std.specs.Map.{lookup, set_value, remove_entry}
use Rattle.std.specs.BTreeMap.{is_at, insert_entry}
use Rattle.std.specs.Ordering.{nat_cmp}
use Rattle.smb_locks.specs.Parts.{IsAscending}
use Rattle.smb_locks.proofs.Alls.{all-weaker}

-- the test of a query by number
at-eq : (n m : ℕ) → is_at (nat_cmp n) m ≡ (n == m)
at-eq n m = grind (arith, nat_tests)

pub same_number : (n m : ℕ) (b : Bool) → is_at (nat_cmp n) m ≡ b → (n == m) ≡ b
same_number n m b h = sym (at-eq n m) ∙ h

pub at_same : (n m : ℕ) (b : Bool) → (n == m) ≡ b → is_at (nat_cmp n) m ≡ b
at_same n m b h = at-eq n m ∙ h

above_differs : (n m : ℕ) → n < m → (n == m) ≡ false
above_differs n m h = ne_eqb n m (λ e. omega arith)

between : (n m : ℕ) → nat_lt n m ≡ false → (n == m) ≡ false → m < n
between n m t s = grind (arith, nat_tests)

module _ {X : Type 0} where
  -- the numbers of the entries
  abbrev keys : List (ℕ × X) → List ℕ
  keys es = map (λ e. e.0) es

  -- what holds of a value put in and of all others
  inserted_at : (P : X → Type 0) (n : ℕ) (x : X) (e : ℕ × X) (es : List (ℕ × X)) (b c : Bool) → nat_lt n e.0 ≡ b → (n == e.0) ≡ c → P x → P e.1 → AllByRecursion (λ e. P e.1) es →
      AllByRecursion (λ e. P e.1) (insert_entry nat_cmp es n x) → AllByRecursion (λ e. P e.1) (insert_entry nat_cmp (e ∷ es) n x)
  inserted_at P n x e es true c t s here there h ih = rw t (here, (there, h))
  inserted_at P n x e es false true t s here there h ih = rw (t, s) (here, h)
  inserted_at P n x e es false false t s here there h ih = rw (t, s) (there, ih)

  pub all-inserted : (P : X → Type 0) (n : ℕ) (x : X) (es : List (ℕ × X)) → P x → AllByRecursion (λ e. P e.1) es → AllByRecursion (λ e. P e.1) (insert_entry nat_cmp es n x)
  all-inserted P n x [] here h = (here, tt)
  all-inserted P n x (e ∷ es) here h = inserted_at P n x e es (nat_lt n e.0) (n == e.0) refl refl here h.0 h.1 (all-inserted P n x es here h.1)

  -- and of all but one that is taken out
  removed_at : (P : X → Type 0) (n : ℕ) (e : ℕ × X) (es : List (ℕ × X)) (b : Bool) → is_at (nat_cmp n) e.0 ≡ b → P e.1 → AllByRecursion (λ e. P e.1) es →
      AllByRecursion (λ e. P e.1) (remove_entry (is_at (nat_cmp n)) es) → AllByRecursion (λ e. P e.1) (remove_entry (is_at (nat_cmp n)) (e ∷ es))
  removed_at P n e es true t there h ih = rw t h
  removed_at P n e es false t there h ih = rw t (there, ih)

  pub all-removed : (P : X → Type 0) (n : ℕ) (es : List (ℕ × X)) → AllByRecursion (λ e. P e.1) es → AllByRecursion (λ e. P e.1) (remove_entry (is_at (nat_cmp n)) es)
  all-removed P n [] h = tt
  all-removed P n (e ∷ es) h = removed_at P n e es (is_at (nat_cmp n) e.0) refl h.0 h.1 (all-removed P n es h.1)

  -- numbers stay above a number
  above_inserted_at : (m n : ℕ) (x : X) (e : ℕ × X) (es : List (ℕ × X)) (b c : Bool) → nat_lt n e.0 ≡ b → (n == e.0) ≡ c → m < n → m < e.0 → AllByRecursion (λ k. m < k) (keys es) →
      AllByRecursion (λ k. m < k) (keys (insert_entry nat_cmp es n x)) → AllByRecursion (λ k. m < k) (keys (insert_entry nat_cmp (e ∷ es) n x))
  above_inserted_at m n x e es true c t s lt there h ih = rw t (lt, (there, h))
  above_inserted_at m n x e es false true t s lt there h ih = rw (t, s) (there, h)
  above_inserted_at m n x e es false false t s lt there h ih = rw (t, s) (there, ih)

  above-inserted : (m n : ℕ) (x : X) (es : List (ℕ × X)) → m < n → AllByRecursion (λ k. m < k) (keys es) → AllByRecursion (λ k. m < k) (keys (insert_entry nat_cmp es n x))
  above-inserted m n x [] lt h = (lt, tt)
  above-inserted m n x (e ∷ es) lt h = above_inserted_at m n x e es (nat_lt n e.0) (n == e.0) refl refl lt h.0 h.1 (above-inserted m n x es lt h.1)

  above_removed_at : (m n : ℕ) (e : ℕ × X) (es : List (ℕ × X)) (b : Bool) → is_at (nat_cmp n) e.0 ≡ b → m < e.0 → AllByRecursion (λ k. m < k) (keys es) →
      AllByRecursion (λ k. m < k) (keys (remove_entry (is_at (nat_cmp n)) es)) → AllByRecursion (λ k. m < k) (keys (remove_entry (is_at (nat_cmp n)) (e ∷ es)))
  above_removed_at m n e es true t there h ih = rw t h
  above_removed_at m n e es false t there h ih = rw t (there, ih)

  above-removed : (m n : ℕ) (es : List (ℕ × X)) → AllByRecursion (λ k. m < k) (keys es) → AllByRecursion (λ k. m < k) (keys (remove_entry (is_at (nat_cmp n)) es))
  above-removed m n [] h = tt
  above-removed m n (e ∷ es) h = above_removed_at m n e es (is_at (nat_cmp n) e.0) refl h.0 h.1 (above-removed m n es h.1)

  -- and rising
  rising_inserted_at : (n : ℕ) (x : X) (e : ℕ × X) (es : List (ℕ × X)) (b c : Bool) → nat_lt n e.0 ≡ b → (n == e.0) ≡ c → AllByRecursion (λ k. e.0 < k) (keys es) → IsAscending (keys es) →
      IsAscending (keys (insert_entry nat_cmp es n x)) → IsAscending (keys (insert_entry nat_cmp (e ∷ es) n x))
  rising_inserted_at n x e es true c t s above h ih =
      let lt = ltb-true n e.0 t in
      rw t ((lt, all-weaker _ _ (keys es) (λ k l. omega arith) above), (above, h))
  rising_inserted_at n x e es false true t s above h ih = rw (t, s) (above, h)
  rising_inserted_at n x e es false false t s above h ih = rw (t, s) (above-inserted e.0 n x es (between n e.0 t s) above, ih)

  pub rising-inserted : (n : ℕ) (x : X) (es : List (ℕ × X)) → IsAscending (keys es) → IsAscending (keys (insert_entry nat_cmp es n x))
  rising-inserted n x [] h = (tt, tt)
  rising-inserted n x (e ∷ es) h = rising_inserted_at n x e es (nat_lt n e.0) (n == e.0) refl refl h.0 h.1 (rising-inserted n x es h.1)

  rising_removed_at : (n : ℕ) (e : ℕ × X) (es : List (ℕ × X)) (b : Bool) → is_at (nat_cmp n) e.0 ≡ b → AllByRecursion (λ k. e.0 < k) (keys es) → IsAscending (keys es) →
      IsAscending (keys (remove_entry (is_at (nat_cmp n)) es)) → IsAscending (keys (remove_entry (is_at (nat_cmp n)) (e ∷ es)))
  rising_removed_at n e es true t above h ih = rw t h
  rising_removed_at n e es false t above h ih = rw t (above-removed e.0 n es above, ih)

  pub rising-removed : (n : ℕ) (es : List (ℕ × X)) → IsAscending (keys es) → IsAscending (keys (remove_entry (is_at (nat_cmp n)) es))
  rising-removed n [] h = tt
  rising-removed n (e ∷ es) h = rising_removed_at n e es (is_at (nat_cmp n) e.0) refl h.0 h.1 (rising-removed n es h.1)

  -- nothing is found below all
  pub lookup-above : (n : ℕ) (es : List (ℕ × X)) → AllByRecursion (λ k. n < k) (keys es) → lookup (is_at (nat_cmp n)) es ≡ None
  lookup-above n [] h = refl
  lookup-above n (e ∷ es) h = rw (at_same n e.0 false (above_differs n e.0 h.0)) (lookup-above n es h.1)

  -- what is found after one was put in
  found_inserted_at : (n : ℕ) (x : X) (e : ℕ × X) (es : List (ℕ × X)) (b c : Bool) → nat_lt n e.0 ≡ b → (n == e.0) ≡ c →
      lookup (is_at (nat_cmp n)) (insert_entry nat_cmp es n x) ≡ Some x → lookup (is_at (nat_cmp n)) (insert_entry nat_cmp (e ∷ es) n x) ≡ Some x
  found_inserted_at n x e es true c t s ih = rw (t, at_same n n true (own n)) refl
    where
      own : (n : ℕ) → (n == n) ≡ true
      own n = grind (arith, nat_tests)
  found_inserted_at n x e es false true t s ih = rw (t, s, at_same n e.0 true s) refl
  found_inserted_at n x e es false false t s ih = rw (t, s, at_same n e.0 false s) ih

  pub found-inserted : (n : ℕ) (x : X) (es : List (ℕ × X)) → lookup (is_at (nat_cmp n)) (insert_entry nat_cmp es n x) ≡ Some x
  found-inserted n x [] = let own : (n == n) ≡ true = grind (arith, nat_tests) in rw (at_same n n true own) refl
  found-inserted n x (e ∷ es) = found_inserted_at n x e es (nat_lt n e.0) (n == e.0) refl refl (found-inserted n x es)

  other_inserted_at : (n m : ℕ) (x : X) (e : ℕ × X) (es : List (ℕ × X)) (b c d : Bool) → nat_lt n e.0 ≡ b → (n == e.0) ≡ c → (m == e.0) ≡ d → (m == n) ≡ false →
      lookup (is_at (nat_cmp m)) (insert_entry nat_cmp es n x) ≡ lookup (is_at (nat_cmp m)) es → lookup (is_at (nat_cmp m)) (insert_entry nat_cmp (e ∷ es) n x) ≡ lookup (is_at (nat_cmp m)) (e ∷ es)
  other_inserted_at n m x e es true c d t s r apart ih = rw (t, at_same m n false apart) refl
  other_inserted_at n m x e es false true true t s r apart ih =
      let one = eqb-true n e.0 s in
      let two = eqb-true m e.0 r in
      absurd (eqb-false m n apart (two ∙ sym one))
  other_inserted_at n m x e es false true false t s r apart ih = rw (t, s, at_same m e.0 false r) refl
  other_inserted_at n m x e es false false true t s r apart ih = rw (t, s, at_same m e.0 true r) refl
  other_inserted_at n m x e es false false false t s r apart ih = rw (t, s, at_same m e.0 false r) ih

  pub other-inserted : (n m : ℕ) (x : X) (es : List (ℕ × X)) → (m == n) ≡ false → lookup (is_at (nat_cmp m)) (insert_entry nat_cmp es n x) ≡ lookup (is_at (nat_cmp m)) es
  other-inserted n m x [] apart = rw (at_same m n false apart) refl
  other-inserted n m x (e ∷ es) apart = other_inserted_at n m x e es (nat_lt n e.0) (n == e.0) (m == e.0) refl refl refl apart (other-inserted n m x es apart)

  -- and after one was taken out
  found_removed_at : (n : ℕ) (e : ℕ × X) (es : List (ℕ × X)) (b : Bool) → is_at (nat_cmp n) e.0 ≡ b → AllByRecursion (λ k. e.0 < k) (keys es) →
      lookup (is_at (nat_cmp n)) (remove_entry (is_at (nat_cmp n)) es) ≡ None → lookup (is_at (nat_cmp n)) (remove_entry (is_at (nat_cmp n)) (e ∷ es)) ≡ None
  found_removed_at n e es true t above ih =
      let same = eqb-true n e.0 (same_number n e.0 true t) in
      rw t (lookup-above n es (rw (← same) at above))
  found_removed_at n e es false t above ih = rw (t, t) ih

  pub found-removed : (n : ℕ) (es : List (ℕ × X)) → IsAscending (keys es) → lookup (is_at (nat_cmp n)) (remove_entry (is_at (nat_cmp n)) es) ≡ None
  found-removed n [] h = refl
  found-removed n (e ∷ es) h = found_removed_at n e es (is_at (nat_cmp n) e.0) refl h.0 (found-removed n es h.1)

  other_removed_at : (n m : ℕ) (e : ℕ × X) (es : List (ℕ × X)) (b c : Bool) → is_at (nat_cmp n) e.0 ≡ b → is_at (nat_cmp m) e.0 ≡ c → (m == n) ≡ false →
      lookup (is_at (nat_cmp m)) (remove_entry (is_at (nat_cmp n)) es) ≡ lookup (is_at (nat_cmp m)) es → lookup (is_at (nat_cmp m)) (remove_entry (is_at (nat_cmp n)) (e ∷ es)) ≡ lookup (is_at (nat_cmp m)) (e ∷ es)
  other_removed_at n m e es true true t s apart ih =
      let one = eqb-true n e.0 (same_number n e.0 true t) in
      let two = eqb-true m e.0 (same_number m e.0 true s) in
      absurd (eqb-false m n apart (two ∙ sym one))
  other_removed_at n m e es true false t s apart ih = rw (t, s) refl
  other_removed_at n m e es false true t s apart ih = rw (t, s) refl
  other_removed_at n m e es false false t s apart ih = rw (t, s) ih

  pub other-removed : (n m : ℕ) (es : List (ℕ × X)) → (m == n) ≡ false → lookup (is_at (nat_cmp m)) (remove_entry (is_at (nat_cmp n)) es) ≡ lookup (is_at (nat_cmp m)) es
  other-removed n m [] apart = refl
  other-removed n m (e ∷ es) apart = other_removed_at n m e es (is_at (nat_cmp n) e.0) (is_at (nat_cmp m) e.0) refl refl apart (other-removed n m es apart)

  -- taking out what is not there
  absent_at : (n : ℕ) (e : ℕ × X) (es : List (ℕ × X)) (b : Bool) → is_at (nat_cmp n) e.0 ≡ b → (lookup (is_at (nat_cmp n)) es ≡ None → remove_entry (is_at (nat_cmp n)) es ≡ es) →
      lookup (is_at (nat_cmp n)) (e ∷ es) ≡ None → remove_entry (is_at (nat_cmp n)) (e ∷ es) ≡ e ∷ es
  absent_at n e es true t ih h = cc
  absent_at n e es false t ih h = rw t (ap (λ (r : List (ℕ × X)). e ∷ r) (ih (rw t at h)))

  pub removed-none : (n : ℕ) (es : List (ℕ × X)) → lookup (is_at (nat_cmp n)) es ≡ None → remove_entry (is_at (nat_cmp n)) es ≡ es
  removed-none n [] h = refl
  removed-none n (e ∷ es) h = absent_at n e es (is_at (nat_cmp n) e.0) refl (removed-none n es) h

  -- a write through `get_mut` is as if the value were put in
  set_at : (n : ℕ) (w : X) (e : ℕ × X) (es : List (ℕ × X)) (v : X) (b : Bool) → is_at (nat_cmp n) e.0 ≡ b → AllByRecursion (λ k. e.0 < k) (keys es) →
      (lookup (is_at (nat_cmp n)) es ≡ Some v → set_value (is_at (nat_cmp n)) es w ≡ insert_entry nat_cmp es n w) →
      lookup (is_at (nat_cmp n)) (e ∷ es) ≡ Some v → set_value (is_at (nat_cmp n)) (e ∷ es) w ≡ insert_entry nat_cmp (e ∷ es) n w
  set_at n w e es v true t above ih h =
      let s = same_number n e.0 true t in
      let same = eqb-true n e.0 s in
      let not_below : nat_lt n e.0 ≡ false = grind (arith, nat_tests) in
      rw (t, not_below, s) refl
  set_at n w e es v false t above ih h =
      let s = same_number n e.0 false t in
      let found = rw t at h in
      let gt = found_behind n v es e.0 above found in
      let not_below : nat_lt n e.0 ≡ false = grind (arith, nat_tests) in
      rw (t, not_below, s) (ap (λ (r : List (ℕ × X)). e ∷ r) (ih found))
    where
      behind_at : (n : ℕ) (v : X) (e : ℕ × X) (es : List (ℕ × X)) (m : ℕ) (b : Bool) → is_at (nat_cmp n) e.0 ≡ b → m < e.0 → (lookup (is_at (nat_cmp n)) es ≡ Some v → m < n) → lookup (is_at (nat_cmp n)) (e ∷ es) ≡ Some v → m < n
      behind_at n v e es m true t lt ih h = let same = eqb-true n e.0 (same_number n e.0 true t) in omega arith
      behind_at n v e es m false t lt ih h = ih (rw t at h)

      found_behind : (n : ℕ) (v : X) (es : List (ℕ × X)) (m : ℕ) → AllByRecursion (λ k. m < k) (keys es) → lookup (is_at (nat_cmp n)) es ≡ Some v → m < n
      found_behind n v [] m above h = cc
      found_behind n v (e ∷ es) m above h = behind_at n v e es m (is_at (nat_cmp n) e.0) refl above.0 (found_behind n v es m above.1) h

  pub set-inserted : (n : ℕ) (w : X) (es : List (ℕ × X)) (v : X) → IsAscending (keys es) → lookup (is_at (nat_cmp n)) es ≡ Some v → set_value (is_at (nat_cmp n)) es w ≡ insert_entry nat_cmp es n w
  set-inserted n w [] v r h = cc
  set-inserted n w (e ∷ es) v r h = set_at n w e es v (is_at (nat_cmp n) e.0) refl r.0 (set-inserted n w es v r.1) h

  -- and what is taken out then is what was there
  removed_set_at : (n : ℕ) (w : X) (e : ℕ × X) (es : List (ℕ × X)) (b : Bool) → is_at (nat_cmp n) e.0 ≡ b → remove_entry (is_at (nat_cmp n)) (set_value (is_at (nat_cmp n)) es w) ≡ remove_entry (is_at (nat_cmp n)) es →
      remove_entry (is_at (nat_cmp n)) (set_value (is_at (nat_cmp n)) (e ∷ es) w) ≡ remove_entry (is_at (nat_cmp n)) (e ∷ es)
  removed_set_at n w e es true t ih = rw (t, t) refl
  removed_set_at n w e es false t ih = rw (t, t) (ap (λ (r : List (ℕ × X)). e ∷ r) ih)

  pub removed-set : (n : ℕ) (w : X) (es : List (ℕ × X)) → remove_entry (is_at (nat_cmp n)) (set_value (is_at (nat_cmp n)) es w) ≡ remove_entry (is_at (nat_cmp n)) es
  removed-set n w [] = refl
  removed-set n w (e ∷ es) = removed_set_at n w e es (is_at (nat_cmp n) e.0) refl (removed-set n w es)

  -- what is found holds what all hold
  found_all_at : (P : X → Type 0) (n : ℕ) (x : X) (e : ℕ × X) (es : List (ℕ × X)) (b : Bool) → is_at (nat_cmp n) e.0 ≡ b → P e.1 → (lookup (is_at (nat_cmp n)) es ≡ Some x → P x) → lookup (is_at (nat_cmp n)) (e ∷ es) ≡ Some x → P x
  found_all_at P n x e es true t there ih h = let same : e.1 ≡ x = cc in rw same at there
  found_all_at P n x e es false t there ih h = ih (rw t at h)

  pub found-all : (P : X → Type 0) (n : ℕ) (x : X) (es : List (ℕ × X)) → AllByRecursion (λ e. P e.1) es → lookup (is_at (nat_cmp n)) es ≡ Some x → P x
  found-all P n x [] h found = cc
  found-all P n x (e ∷ es) h found = found_all_at P n x e es (is_at (nat_cmp n) e.0) refl h.0 (found-all P n x es h.1) found
