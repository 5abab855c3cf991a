-- Lists of numbers, and the numbers of a connection's sessions.
use Rattle.std.proofs.Common.{◌≡◌, ℕ, ◌<◌, ◌==◌, ◌||◌, Bool, true, false, List, [], ◌∷◌, ◌++◌, map, Some, nat_lt, if◌then◌else◌, refl, sym, ap, ◌∙◌, arith}
use Rattle.std.proofs.lemmas.Bool.{eqb-true, eqb-false, ne_eqb, ltb-true}
use Rattle.std.proofs.lemmas.Bool.Decides.{nat_tests}
use Rattle.std.specs.List.{AllByRecursion}
use Rattle.std.specs.Map.{lookup, remove_entry}
use Rattle.std.specs.BTreeMap.{is_at, insert_entry}
use Rattle.std.specs.Ordering.{nat_cmp}
use Rattle.smb_session.specs.Numbers.{contains, IsRising, with_number, without_number}
use Rattle.smb_session.specs.Session.{SessionState}
use Rattle.smb_session.specs.Table.{changed_at, numbers_on}
use Rattle.smb_session.proofs.Windows.{all-more}
use Rattle.smb_session.proofs.Entries.{same_number}

pub equal_back : (n m : ℕ) (b : Bool) → (n == m) ≡ b → (m == n) ≡ b
equal_back n m true h = let e : n ≡ m = eqb-true n m h in grind (arith, nat_tests)
equal_back n m false h = ne_eqb m n (λ e. eqb-false n m h (sym e))

pub above_differs : (n m : ℕ) → n < m → (m == n) ≡ false
above_differs n m h = ne_eqb m n (λ e. omega arith)

-- without a number that does not stand
pub without-above : (n : ℕ) (ns : List ℕ) → AllByRecursion (λ m. n < m) ns → without_number ns n ≡ ns
without-above n [] h = refl
without-above n (m ∷ ns) h = let s : (m == n) ≡ false = above_differs n m h.0 in rw s (ap (λ r. m ∷ r) (without-above n ns h.1))

-- with a number more
all_with : (P : ℕ → Type 0) (m n : ℕ) (ns : List ℕ) (b : Bool) → nat_lt n m ≡ b → P n → P m → AllByRecursion P ns → AllByRecursion P (with_number ns n) → AllByRecursion P (with_number (m ∷ ns) n)
all_with P m n ns true t here there h ih = rw t (here, (there, h))
all_with P m n ns false t here there h ih = rw t (there, ih)

pub all-with : (P : ℕ → Type 0) (ns : List ℕ) (n : ℕ) → P n → AllByRecursion P ns → AllByRecursion P (with_number ns n)
all-with P [] n here h = (here, tt)
all-with P (m ∷ ns) n here h = all_with P m n ns (nat_lt n m) refl here h.0 h.1 (all-with P ns n here h.1)

-- a number that does not stand is none of them
pub not_first : (n m : ℕ) (ns : List ℕ) (b : Bool) → (m == n) ≡ b → contains (m ∷ ns) n ≡ false → (m == n) ≡ false
not_first n m ns true t h = let e : contains (m ∷ ns) n ≡ true = rw t refl in cc
not_first n m ns false t h = t

pub not_behind : (n m : ℕ) (ns : List ℕ) → (m == n) ≡ false → contains (m ∷ ns) n ≡ false → contains ns n ≡ false
not_behind n m ns t h = rw t at h

rising_with : (m n : ℕ) (ns : List ℕ) (b : Bool) → nat_lt n m ≡ b → (m == n) ≡ false → AllByRecursion (λ k. m < k) ns → IsRising ns → IsRising (with_number ns n) → IsRising (with_number (m ∷ ns) n)
rising_with m n ns true t d above h ih =
    let lt : n < m = ltb-true n m t in
    rw t ((lt, all-more _ _ ns (λ k l. omega arith) above), (above, h))
rising_with m n ns false t d above h ih =
    let gt : m < n = grind (arith, nat_tests) in
    rw t (all-with _ ns n gt above, ih)

pub rising-with : (ns : List ℕ) (n : ℕ) → IsRising ns → contains ns n ≡ false → IsRising (with_number ns n)
rising-with [] n h absent = (tt, tt)
rising-with (m ∷ ns) n h absent =
    let d = not_first n m ns (m == n) refl absent in
    rising_with m n ns (nat_lt n m) refl d h.0 h.1 (rising-with ns n h.1 (not_behind n m ns d absent))

or_right : (a b : Bool) → b ≡ true → (a || b) ≡ true
or_right true b h = refl
or_right false b h = h

contains_with : (m n k : ℕ) (ns : List ℕ) (b c : Bool) → nat_lt n m ≡ b → (m == k) ≡ c → (contains ns k ≡ true → contains (with_number ns n) k ≡ true) → contains (m ∷ ns) k ≡ true → contains (with_number (m ∷ ns) n) k ≡ true
contains_with m n k ns true c t e ih h = rw t (or_right (n == k) (contains (m ∷ ns) k) h)
contains_with m n k ns false true t e ih h = rw (t, e) refl
contains_with m n k ns false false t e ih h = rw (t, e) (ih (rw e at h))

-- what stood still stands
pub contains-with : (ns : List ℕ) (n k : ℕ) → contains ns k ≡ true → contains (with_number ns n) k ≡ true
contains-with [] n k h = cc
contains-with (m ∷ ns) n k h = contains_with m n k ns (nat_lt n m) (m == k) refl refl (contains-with ns n k) h

contains_without : (m n k : ℕ) (ns : List ℕ) (b c : Bool) → (m == n) ≡ b → (m == k) ≡ c → (k == n) ≡ false → (contains ns k ≡ true → contains (without_number ns n) k ≡ true) → contains (m ∷ ns) k ≡ true → contains (without_number (m ∷ ns) n) k ≡ true
contains_without m n k ns true true t e d ih h =
    let one = eqb-true m n t in
    let two = eqb-true m k e in
    absurd (eqb-false k n d (sym two ∙ one))
contains_without m n k ns true false t e d ih h = rw t (ih (rw e at h))
contains_without m n k ns false true t e d ih h = rw (t, e) refl
contains_without m n k ns false false t e d ih h = rw (t, e) (ih (rw e at h))

-- and but for the one that is taken out
pub contains-without : (ns : List ℕ) (n k : ℕ) → (k == n) ≡ false → contains ns k ≡ true → contains (without_number ns n) k ≡ true
contains-without [] n k d h = cc
contains-without (m ∷ ns) n k d h = contains_without m n k ns (m == n) (m == k) refl refl d (contains-without ns n k d) h

module _ {X : Type 0} where
  -- the keys of a map with an entry more
  keys_inserted : (n : ℕ) (x : X) (e : ℕ × X) (es : List (ℕ × X)) (b : Bool) → nat_lt n e.0 ≡ b → (n == e.0) ≡ false → map (λ e. e.0) (insert_entry nat_cmp es n x) ≡ with_number (map (λ e. e.0) es) n →
      map (λ e. e.0) (insert_entry nat_cmp (e ∷ es) n x) ≡ with_number (map (λ e. e.0) (e ∷ es)) n
  keys_inserted n x e es true t d ih = rw t refl
  keys_inserted n x e es false t d ih = rw (t, d) (ap (λ ks. e.0 ∷ ks) ih)

  pub keys-inserted : (n : ℕ) (x : X) (es : List (ℕ × X)) → contains (map (λ e. e.0) es) n ≡ false → map (λ e. e.0) (insert_entry nat_cmp es n x) ≡ with_number (map (λ e. e.0) es) n
  keys-inserted n x [] absent = refl
  keys-inserted n x (e ∷ es) absent =
      let d = not_first n e.0 (map (λ e. e.0) es) (e.0 == n) refl absent in
      keys_inserted n x e es (nat_lt n e.0) refl (equal_back e.0 n false d) (keys-inserted n x es (not_behind n e.0 (map (λ e. e.0) es) d absent))

  -- what holds of all entries, and of a new one
  all_inserted : (P : ℕ × X → Type 0) (n : ℕ) (x : X) (e : ℕ × X) (es : List (ℕ × X)) (b : Bool) → nat_lt n e.0 ≡ b → (n == e.0) ≡ false → P (n, x) → P e → AllByRecursion P es →
      AllByRecursion P (insert_entry nat_cmp es n x) → AllByRecursion P (insert_entry nat_cmp (e ∷ es) n x)
  all_inserted P n x e es true t d here there h ih = rw t (here, (there, h))
  all_inserted P n x e es false t d here there h ih = rw (t, d) (there, ih)

  pub all-inserted : (P : ℕ × X → Type 0) (n : ℕ) (x : X) (es : List (ℕ × X)) → contains (map (λ e. e.0) es) n ≡ false → P (n, x) → AllByRecursion P es → AllByRecursion P (insert_entry nat_cmp es n x)
  all-inserted P n x [] absent here h = (here, tt)
  all-inserted P n x (e ∷ es) absent here h =
      let d = not_first n e.0 (map (λ e. e.0) es) (e.0 == n) refl absent in
      all_inserted P n x e es (nat_lt n e.0) refl (equal_back e.0 n false d) here h.0 h.1 (all-inserted P n x es (not_behind n e.0 (map (λ e. e.0) es) d absent) here h.1)

  -- and with one less
  keys_removed : (n : ℕ) (e : ℕ × X) (es : List (ℕ × X)) (b : Bool) → is_at (nat_cmp n) e.0 ≡ b → AllByRecursion (λ k. e.0 < k) (map (λ e. e.0) es) →
      map (λ e. e.0) (remove_entry (is_at (nat_cmp n)) es) ≡ without_number (map (λ e. e.0) es) n → map (λ e. e.0) (remove_entry (is_at (nat_cmp n)) (e ∷ es)) ≡ without_number (map (λ e. e.0) (e ∷ es)) n
  keys_removed n e es true t above ih =
      let s = same_number n e.0 true t in
      let back = equal_back n e.0 true s in
      let same = eqb-true n e.0 s in
      rw (t, back) (sym (without-above n (map (λ e. e.0) es) (rw (← same) at above)))
  keys_removed n e es false t above ih =
      let back = equal_back n e.0 false (same_number n e.0 false t) in
      rw (t, back) (ap (λ ks. e.0 ∷ ks) ih)

  pub keys-removed : (n : ℕ) (es : List (ℕ × X)) → IsRising (map (λ e. e.0) es) → map (λ e. e.0) (remove_entry (is_at (nat_cmp n)) es) ≡ without_number (map (λ e. e.0) es) n
  keys-removed n [] h = refl
  keys-removed n (e ∷ es) h = keys_removed n e es (is_at (nat_cmp n) e.0) refl h.0 (keys-removed n es h.1)

  -- what was taken out does not stand
  gone_at : (n : ℕ) (e : ℕ × X) (es : List (ℕ × X)) (b : Bool) → is_at (nat_cmp n) e.0 ≡ b → AllByRecursion (λ k. e.0 < k) (map (λ e. e.0) es) →
      AllByRecursion (λ e. (e.0 == n) ≡ false) (remove_entry (is_at (nat_cmp n)) es) → AllByRecursion (λ e. (e.0 == n) ≡ false) (remove_entry (is_at (nat_cmp n)) (e ∷ es))
  gone_at n e es true t above ih =
      let same = eqb-true n e.0 (same_number n e.0 true t) in
      rw t (apart n es (rw (← same) at above))
    where
      apart : (n : ℕ) (es : List (ℕ × X)) → AllByRecursion (λ k. n < k) (map (λ e. e.0) es) → AllByRecursion (λ e. (e.0 == n) ≡ false) es
      apart n [] h = tt
      apart n (e ∷ es) h = (above_differs n e.0 h.0, apart n es h.1)
  gone_at n e es false t above ih = rw t (equal_back n e.0 false (same_number n e.0 false t), ih)

  pub all-gone : (n : ℕ) (es : List (ℕ × X)) → IsRising (map (λ e. e.0) es) → AllByRecursion (λ e. (e.0 == n) ≡ false) (remove_entry (is_at (nat_cmp n)) es)
  all-gone n [] h = tt
  all-gone n (e ∷ es) h = gone_at n e es (is_at (nat_cmp n) e.0) refl h.0 (all-gone n es h.1)

-- the numbers of a connection's sessions, with a session more
snoc_at : (e : ℕ × SessionState) (es : List (ℕ × SessionState)) (n : ℕ) (s : SessionState) (c : ℕ) (b : Bool) → (e.1.connection == c) ≡ b →
    numbers_on (es ++ (n, s) ∷ []) c ≡ numbers_on es c ++ (if s.connection == c then n ∷ [] else []) →
    numbers_on (e ∷ (es ++ (n, s) ∷ [])) c ≡ numbers_on (e ∷ es) c ++ (if s.connection == c then n ∷ [] else [])
snoc_at e es n s c true t ih = rw t (ap (λ ns. e.0 ∷ ns) ih)
snoc_at e es n s c false t ih = rw t ih

pub numbers-snoc : (es : List (ℕ × SessionState)) (n : ℕ) (s : SessionState) (c : ℕ) → numbers_on (es ++ (n, s) ∷ []) c ≡ numbers_on es c ++ (if s.connection == c then n ∷ [] else [])
numbers-snoc [] n s c = refl
numbers-snoc (e ∷ es) n s c = snoc_at e es n s c (e.1.connection == c) refl (numbers-snoc es n s c)

-- with one changed
changed_step : (f : SessionState → SessionState) → ((s : SessionState) → (f s).connection ≡ s.connection) → (n : ℕ) (e : ℕ × SessionState) (es : List (ℕ × SessionState)) (c : ℕ) (b : Bool) → (n == e.0) ≡ b →
    numbers_on (changed_at f n es) c ≡ numbers_on es c → numbers_on (changed_at f n (e ∷ es)) c ≡ numbers_on (e ∷ es) c
changed_step f stays n e es c true t ih = rw (t, stays e.1) refl
changed_step f stays n e es c false t ih = rw t (ap (λ ns. if e.1.connection == c then e.0 ∷ ns else ns) ih)

pub numbers-changed : (f : SessionState → SessionState) → ((s : SessionState) → (f s).connection ≡ s.connection) → (n : ℕ) (es : List (ℕ × SessionState)) (c : ℕ) → numbers_on (changed_at f n es) c ≡ numbers_on es c
numbers-changed f stays n [] c = refl
numbers-changed f stays n (e ∷ es) c = changed_step f stays n e es c (n == e.0) refl (numbers-changed f stays n es c)

-- with one less
all_numbers : (P : ℕ → Type 0) (e : ℕ × SessionState) (es : List (ℕ × SessionState)) (c : ℕ) (b : Bool) → (e.1.connection == c) ≡ b → P e.0 → AllByRecursion P (numbers_on es c) → AllByRecursion P (numbers_on (e ∷ es) c)
all_numbers P e es c true t h ih = rw t (h, ih)
all_numbers P e es c false t h ih = rw t ih

pub all-numbers : (P : ℕ → Type 0) (es : List (ℕ × SessionState)) (c : ℕ) → AllByRecursion P (map (λ e. e.0) es) → AllByRecursion P (numbers_on es c)
all-numbers P [] c h = tt
all-numbers P (e ∷ es) c h = all_numbers P e es c (e.1.connection == c) refl h.0 (all-numbers P es c h.1)

removed_at : (n : ℕ) (e : ℕ × SessionState) (es : List (ℕ × SessionState)) (c : ℕ) (a b : Bool) → is_at (nat_cmp n) e.0 ≡ a → (e.1.connection == c) ≡ b → AllByRecursion (λ k. e.0 < k) (map (λ e. e.0) es) →
    numbers_on (remove_entry (is_at (nat_cmp n)) es) c ≡ without_number (numbers_on es c) n → numbers_on (remove_entry (is_at (nat_cmp n)) (e ∷ es)) c ≡ without_number (numbers_on (e ∷ es) c) n
removed_at n e es c true true t u above ih =
    let s = same_number n e.0 true t in
    let back = equal_back n e.0 true s in
    let same = eqb-true n e.0 s in
    rw (t, u, back) (sym (without-above n (numbers_on es c) (all-numbers _ es c (rw (← same) at above))))
removed_at n e es c true false t u above ih =
    let same = eqb-true n e.0 (same_number n e.0 true t) in
    rw (t, u) (sym (without-above n (numbers_on es c) (all-numbers _ es c (rw (← same) at above))))
removed_at n e es c false true t u above ih =
    let back = equal_back n e.0 false (same_number n e.0 false t) in
    rw (t, u, back) (ap (λ ns. e.0 ∷ ns) ih)
removed_at n e es c false false t u above ih = rw (t, u) ih

pub numbers-removed : (n : ℕ) (es : List (ℕ × SessionState)) (c : ℕ) → IsRising (map (λ e. e.0) es) → numbers_on (remove_entry (is_at (nat_cmp n)) es) c ≡ without_number (numbers_on es c) n
numbers-removed n [] c h = refl
numbers-removed n (e ∷ es) c h = removed_at n e es c (is_at (nat_cmp n) e.0) (e.1.connection == c) refl refl h.0 (numbers-removed n es c h.1)

other_at : (n : ℕ) (s : SessionState) (e : ℕ × SessionState) (es : List (ℕ × SessionState)) (c : ℕ) (b : Bool) → is_at (nat_cmp n) e.0 ≡ b → (s.connection == c) ≡ false →
    (lookup (is_at (nat_cmp n)) es ≡ Some s → numbers_on (remove_entry (is_at (nat_cmp n)) es) c ≡ numbers_on es c) → lookup (is_at (nat_cmp n)) (e ∷ es) ≡ Some s →
    numbers_on (remove_entry (is_at (nat_cmp n)) (e ∷ es)) c ≡ numbers_on (e ∷ es) c
other_at n s e es c true t d ih h =
    let same : e.1 ≡ s = cc in
    let u : (e.1.connection == c) ≡ false = rw same d in
    rw (t, u) refl
other_at n s e es c false t d ih h = rw t (ap (λ ns. if e.1.connection == c then e.0 ∷ ns else ns) (ih (rw t at h)))

pub numbers-removed-other : (n : ℕ) (s : SessionState) (es : List (ℕ × SessionState)) (c : ℕ) → (s.connection == c) ≡ false → lookup (is_at (nat_cmp n)) es ≡ Some s → numbers_on (remove_entry (is_at (nat_cmp n)) es) c ≡ numbers_on es c
numbers-removed-other n s [] c d h = cc
numbers-removed-other n s (e ∷ es) c d h = other_at n s e es c (is_at (nat_cmp n) e.0) refl d (numbers-removed-other n s es c d) h

-- a connection that is not known has no session
no_number : (known : List ℕ) (e : ℕ × SessionState) (es : List (ℕ × SessionState)) (c : ℕ) (b : Bool) → (e.1.connection == c) ≡ b → contains known c ≡ false → contains known e.1.connection ≡ true → numbers_on es c ≡ [] → numbers_on (e ∷ es) c ≡ []
no_number known e es c true t absent h ih =
    let same = eqb-true e.1.connection c t in
    let here : contains known c ≡ true = rw (← same) h in
    cc
no_number known e es c false t absent h ih = rw t ih

pub numbers-none : (known : List ℕ) (es : List (ℕ × SessionState)) (c : ℕ) → contains known c ≡ false → AllByRecursion (λ e. contains known e.1.connection ≡ true) es → numbers_on es c ≡ []
numbers-none known [] c absent h = refl
numbers-none known (e ∷ es) c absent h = no_number known e es c (e.1.connection == c) refl absent h.0 (numbers-none known es c absent h.1)

-- and each session is on another than a connection that has none
others_at : (e : ℕ × SessionState) (es : List (ℕ × SessionState)) (c : ℕ) (b : Bool) → (e.1.connection == c) ≡ b → (numbers_on es c ≡ [] → AllByRecursion (λ e. (e.1.connection == c) ≡ false) es) →
    numbers_on (e ∷ es) c ≡ [] → AllByRecursion (λ e. (e.1.connection == c) ≡ false) (e ∷ es)
others_at e es c true t ih h = let h' = rw t at h in cc
others_at e es c false t ih h = (t, ih (rw t at h))

pub others-all : (es : List (ℕ × SessionState)) (c : ℕ) → numbers_on es c ≡ [] → AllByRecursion (λ e. (e.1.connection == c) ≡ false) es
others-all [] c h = tt
others-all (e ∷ es) c h = others_at e es c (e.1.connection == c) refl (others-all es c) h
