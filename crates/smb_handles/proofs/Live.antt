-- Slots that an index of numbers leads to.
use Rattle.std.proofs.Common.{◌≡◌, ◌≢◌, ◌==◌, ◌<◌, ℕ, slice_get, nat_lt, Bool, true, false, cond, Option, None, Some, IsSome, IsSomeAnd, List, [], ◌∷◌, ◌++◌, refl, sym, ap, subst, arith, ◌∙◌}
use Rattle.std.proofs.lemmas.Bool.Decides.{nat_tests}
use Rattle.std.specs.List.{AllByRecursion, cons_option, find}
use Rattle.std.specs.Option.{option_map}
use Rattle.std.specs.Ordering.{nat_cmp}
use Rattle.std.specs.BTreeMap.{is_at}
use Rattle.std.specs.Map.{lookup, remove_entry}
use Rattle.smb_access.specs.Numbers.{AreRising}
use Rattle.smb_access.specs.Opens.{AreAllBelow, is_above, open_after, open_numbers, open_of, with_scan, without_open}
use Rattle.smb_access.specs.declared.open_row.OpenRow.{OpenRow}
use Rattle.smb_access.specs.declared.scan.Scan.{Scan}
use Rattle.smb_handles.specs.Table.{rows_of, AreLive}
use Rattle.smb_handles.proofs.Sets.{at_is}

-- a slot holds an open of this number
abbrev pub Holds : Option OpenRow → ℕ → Type 0
Holds o n = IsSomeAnd o (λ row. row.number ≡ n)

holds_same : (o : Option OpenRow) (m n : ℕ) → Holds o m → Holds o n → m ≡ n
holds_same None m n h k = absurd h
holds_same (Some row) m n h k = sym h ∙ k

pub holds_some : (o : Option OpenRow) (n : ℕ) → Holds o n → IsSome o
holds_some None n h = absurd h
holds_some (Some row) n h = refl

pub holds_number : (o : Option OpenRow) (n : ℕ) (row : OpenRow) → Holds o n → o ≡ Some row → row.number ≡ n
holds_number o n row h e = subst (λ (p : Option OpenRow). Holds p n) e h

flip : (n k : ℕ) → (k == n) ≡ (n == k)
flip n k = grind (arith, nat_tests)

test_is : (n k : ℕ) (b : Bool) → is_at (nat_cmp n) k ≡ b → (k == n) ≡ b
test_is n k b t = flip n k ∙ sym (at_is n k) ∙ t

tested : (n k : ℕ) → (k == n) ≡ true → k ≡ n
tested n k t = grind (arith, nat_tests, t)

not_tested : (n k : ℕ) → (k == n) ≡ false → k ≢ n
not_tested n k t e = grind (arith, nat_tests, t, e)

number_test : (row : OpenRow) (m n : ℕ) (b : Bool) → row.number ≡ m → (m == n) ≡ b → (row.number == n) ≡ b
number_test row m n b e t = ap (λ (k : ℕ). k == n) e ∙ t

-- ---- the first slot

head_other : (o : Option OpenRow) (rows : List OpenRow) (n m : ℕ) → Holds o m → (m == n) ≡ false → open_of (cons_option o rows) n ≡ open_of rows n
head_other None rows n m h t = absurd h
head_other (Some row) rows n m h t = rw (number_test row m n false h t) refl

head_found : (o : Option OpenRow) (rows : List OpenRow) (n m : ℕ) → Holds o m → (m == n) ≡ true → open_of (cons_option o rows) n ≡ o
head_found None rows n m h t = absurd h
head_found (Some row) rows n m h t = rw (number_test row m n true h t) refl

head_without : (o : Option OpenRow) (rows : List OpenRow) (n m : ℕ) → Holds o m → (m == n) ≡ true → without_open n rows ≡ rows → without_open n (cons_option o rows) ≡ rows
head_without None rows n m h t e = absurd h
head_without (Some row) rows n m h t e = rw (number_test row m n true h t) e

head_stays : (o : Option OpenRow) (rows : List OpenRow) (n m : ℕ) → Holds o m → (m == n) ≡ false → without_open n (cons_option o rows) ≡ cons_option o (without_open n rows)
head_stays None rows n m h t = absurd h
head_stays (Some row) rows n m h t = rw (number_test row m n false h t) refl

head_unscanned : (o : Option OpenRow) (rows : List OpenRow) (n m : ℕ) (scan : Scan) → Holds o m → (m == n) ≡ false → with_scan n scan (cons_option o rows) ≡ cons_option o (with_scan n scan rows)
head_unscanned None rows n m scan h t = absurd h
head_unscanned (Some row) rows n m scan h t = rw (number_test row m n false h t) refl

head_scanned : (row : OpenRow) (rows : List OpenRow) (n : ℕ) (scan : Scan) → (row.number == n) ≡ true → with_scan n scan rows ≡ rows → with_scan n scan (row ∷ rows) ≡ record row { scan = scan } ∷ rows
head_scanned row rows n scan t e = rw t (ap (λ (rest : List OpenRow). record row { scan = scan } ∷ rest) e)

-- the open in a slot
pub held : (o : Option OpenRow) (n : ℕ) → Holds o n → (row : OpenRow) × (o ≡ Some row) × (row.number ≡ n)
held None n h = absurd h
held (Some row) n h = (row, refl, h)

-- none of the later opens has this number
pub kept_above : (n : ℕ) (rows : List OpenRow) → AllByRecursion (λ j. n < j) (open_numbers rows) → without_open n rows ≡ rows
kept_above n [] a = refl
kept_above n (row ∷ rows) a =
    let other : (row.number == n) ≡ false = (let above = a.0 in grind (arith, nat_tests, above)) in
    rw other (ap (λ (rest : List OpenRow). row ∷ rest) (kept_above n rows a.1))

head_below : (o : Option OpenRow) (rows : List OpenRow) (n m : ℕ) → Holds o m → AreAllBelow n (cons_option o rows) → (m < n) × AreAllBelow n rows
head_below None rows n m h b = absurd h
head_below (Some row) rows n m h b = (subst (λ (k : ℕ). k < n) h b.0, b.1)

head_later : (o : Option OpenRow) (rows : List OpenRow) (m k : ℕ) → Holds o k → m < k → AllByRecursion (λ j. m < j) (open_numbers rows) → AllByRecursion (λ j. m < j) (open_numbers (cons_option o rows))
head_later None rows m k h l a = absurd h
head_later (Some row) rows m k h l a = (subst (λ (j : ℕ). m < j) (sym h) l, a)

head_rising : (o : Option OpenRow) (rows : List OpenRow) (m : ℕ) → Holds o m → AllByRecursion (λ j. m < j) (open_numbers rows) → AreRising (open_numbers rows) → AreRising (open_numbers (cons_option o rows))
head_rising None rows m h a r = absurd h
head_rising (Some row) rows m h a r = (subst (λ (k : ℕ). AllByRecursion (λ j. k < j) (open_numbers rows)) (sym h) a, r)

head_after : (o : Option OpenRow) (rows : List OpenRow) (after : Option ℕ) (m : ℕ) → Holds o m → is_above after m ≡ true → open_after (cons_option o rows) after ≡ Some m
head_after None rows after m h t = absurd h
head_after (Some row) rows after m h t =
    let test : is_above after row.number ≡ true = ap (is_above after) h ∙ t in
    rw test (ap (λ (k : ℕ). Some k) h)

head_passed : (o : Option OpenRow) (rows : List OpenRow) (after : Option ℕ) (m : ℕ) → Holds o m → is_above after m ≡ false → open_after (cons_option o rows) after ≡ open_after rows after
head_passed None rows after m h t = absurd h
head_passed (Some row) rows after m h t =
    let test : is_above after row.number ≡ false = ap (is_above after) h ∙ t in
    rw test refl

head_pushed : (o : Option OpenRow) (xs ys : List OpenRow) (row : OpenRow) → xs ≡ ys ++ row ∷ [] → cons_option o xs ≡ cons_option o ys ++ row ∷ []
head_pushed None xs ys row e = e
head_pushed (Some x) xs ys row e = ap (λ (rows : List OpenRow). x ∷ rows) e

-- ---- look-ups

pub found_none : (s : ℕ → Option OpenRow) (es : List (ℕ × ℕ)) (n : ℕ) → AreLive s es → lookup (is_at (nat_cmp n)) es ≡ None → open_of (rows_of s es) n ≡ None
found_none s [] n l e = refl
found_none s (x ∷ es) n l e =
    elim (is_at (nat_cmp n) x.0) as (λ b. is_at (nat_cmp n) x.0 ≡ b → cond b (Some x.1) (lookup (is_at (nat_cmp n)) es) ≡ None → open_of (rows_of s (x ∷ es)) n ≡ None) [
      | true ↦ λ t f. cc
      | false ↦ λ t f. head_other (s x.1) (rows_of s es) n x.0 l.0 (test_is n x.0 false t) ∙ found_none s es n l.2 f
    ] refl e

pub found_some : (s : ℕ → Option OpenRow) (es : List (ℕ × ℕ)) (n slot : ℕ) → AreLive s es → lookup (is_at (nat_cmp n)) es ≡ Some slot → open_of (rows_of s es) n ≡ s slot
found_some s [] n slot l e = cc
found_some s (x ∷ es) n slot l e =
    elim (is_at (nat_cmp n) x.0) as (λ b. is_at (nat_cmp n) x.0 ≡ b → cond b (Some x.1) (lookup (is_at (nat_cmp n)) es) ≡ Some slot → open_of (rows_of s (x ∷ es)) n ≡ s slot) [
      | true ↦ λ t f. (let here : x.1 ≡ slot = cc in head_found (s x.1) (rows_of s es) n x.0 l.0 (test_is n x.0 true t) ∙ ap s here)
      | false ↦ λ t f. head_other (s x.1) (rows_of s es) n x.0 l.0 (test_is n x.0 false t) ∙ found_some s es n slot l.2 f
    ] refl e

-- the slot that a number leads to holds its open
pub live_at : (s : ℕ → Option OpenRow) (es : List (ℕ × ℕ)) (n slot : ℕ) → AreLive s es → lookup (is_at (nat_cmp n)) es ≡ Some slot → Holds (s slot) n
live_at s [] n slot l e = cc
live_at s (x ∷ es) n slot l e =
    elim (is_at (nat_cmp n) x.0) as (λ b. is_at (nat_cmp n) x.0 ≡ b → cond b (Some x.1) (lookup (is_at (nat_cmp n)) es) ≡ Some slot → Holds (s slot) n) [
      | true ↦ λ t f. (
          let here : x.1 ≡ slot = cc in
          subst (λ (z : ℕ). Holds (s z) n) here (subst (λ (k : ℕ). Holds (s x.1) k) (tested n x.0 (test_is n x.0 true t)) l.0))
      | false ↦ λ t f. live_at s es n slot l.2 f
    ] refl e

pub rows_later : (s : ℕ → Option OpenRow) (es : List (ℕ × ℕ)) (m : ℕ) → AreLive s es → AllByRecursion (λ later. m < later.0) es → AllByRecursion (λ j. m < j) (open_numbers (rows_of s es))
rows_later s [] m l a = tt
rows_later s (x ∷ es) m l a = head_later (s x.1) (rows_of s es) m x.0 l.0 a.0 (rows_later s es m l.2 a.1)

pub rows_rising : (s : ℕ → Option OpenRow) (es : List (ℕ × ℕ)) → AreLive s es → AreRising (open_numbers (rows_of s es))
rows_rising s [] l = tt
rows_rising s (x ∷ es) l = head_rising (s x.1) (rows_of s es) x.0 l.0 (rows_later s es x.0 l.2 l.1) (rows_rising s es l.2)

pub next_is : (s : ℕ → Option OpenRow) (es : List (ℕ × ℕ)) (n : ℕ) → AreLive s es → option_map (λ (e : ℕ × ℕ). e.0) (find (λ (e : ℕ × ℕ). nat_lt n e.0) es) ≡ open_after (rows_of s es) (Some n)
next_is s [] n l = refl
next_is s (x ∷ es) n l =
    elim (nat_lt n x.0) as (λ b. nat_lt n x.0 ≡ b → option_map (λ (e : ℕ × ℕ). e.0) (cond b (Some x) (find (λ (e : ℕ × ℕ). nat_lt n e.0) es)) ≡ open_after (rows_of s (x ∷ es)) (Some n)) [
      | true ↦ λ t. sym (head_after (s x.1) (rows_of s es) (Some n) x.0 l.0 t)
      | false ↦ λ t. next_is s es n l.2 ∙ sym (head_passed (s x.1) (rows_of s es) (Some n) x.0 l.0 t)
    ] refl

pub after_is : (a b : Option ℕ) (rows now : List OpenRow) (r : Option ℕ) → a ≡ b → r ≡ open_after rows b → rows ≡ now → r ≡ open_after now a
after_is a b rows now r e f g = f ∙ ap (λ (l : List OpenRow). open_after l b) g ∙ ap (open_after now) (sym e)

pub first_is : (s : ℕ → Option OpenRow) (es : List (ℕ × ℕ)) → AreLive s es → option_map (λ (e : ℕ × ℕ). e.0) (slice_get es 0) ≡ open_after (rows_of s es) None
first_is s [] l = refl
first_is s (x ∷ es) l = sym (head_after (s x.1) (rows_of s es) None x.0 l.0 refl)

-- ---- slots that stay as they were

abbrev pub AreKept : (s t : ℕ → Option OpenRow) → List (ℕ × ℕ) → Type 0
AreKept s t = AllByRecursion (λ e. t e.1 ≡ s e.1)

pub rows_kept : (s t : ℕ → Option OpenRow) (es : List (ℕ × ℕ)) → AreKept s t es → rows_of t es ≡ rows_of s es
rows_kept s t [] k = refl
rows_kept s t (x ∷ es) k = let rest = rows_kept s t es k.1 in λ i. cons_option (k.0 i) (rest i)

pub live_kept : (s t : ℕ → Option OpenRow) (es : List (ℕ × ℕ)) → AreKept s t es → AreLive s es → AreLive t es
live_kept s t [] k l = tt
live_kept s t (x ∷ es) k l = (subst (λ (o : Option OpenRow). Holds o x.0) (sym k.0) l.0, l.1, live_kept s t es k.1 l.2)

-- slots of opens that have other numbers are other slots
apart : (s : ℕ → Option OpenRow) (one slot m n : ℕ) → Holds (s one) m → Holds (s slot) n → m ≢ n → one ≢ slot
apart s one slot m n h k d q = d (holds_same (s slot) m n (subst (λ (z : ℕ). Holds (s z) m) q h) k)

above_is_other : (n k : ℕ) → n < k → k ≢ n
above_is_other n k l e = omega (arith, l, e)

pub kept_later : (s t : ℕ → Option OpenRow) (es : List (ℕ × ℕ)) (n slot : ℕ) → AreLive s es → AllByRecursion (λ later. n < later.0) es → Holds (s slot) n → ((other : ℕ) → other ≢ slot → t other ≡ s other) → AreKept s t es
kept_later s t [] n slot l a h o = tt
kept_later s t (x ∷ es) n slot l a h o = (o x.1 (apart s x.1 slot x.0 n l.0 h (above_is_other n x.0 a.0)), kept_later s t es n slot l.2 a.1 h o)

-- ---- an open more

pub below_index : (s : ℕ → Option OpenRow) (es : List (ℕ × ℕ)) (n : ℕ) → AreLive s es → AreAllBelow n (rows_of s es) → AllByRecursion (λ (e : ℕ × ℕ). e.0 < n) es
below_index s [] n l b = tt
below_index s (x ∷ es) n l b = let both = head_below (s x.1) (rows_of s es) n x.0 l.0 b in (both.0, below_index s es n l.2 both.1)

later_pushed : (es : List (ℕ × ℕ)) (m : ℕ) (e : ℕ × ℕ) → AllByRecursion (λ later. m < later.0) es → m < e.0 → AllByRecursion (λ later. m < later.0) (es ++ e ∷ [])
later_pushed [] m e a l = (l, tt)
later_pushed (x ∷ es) m e a l = (a.0, later_pushed es m e a.1 l)

pub live_pushed : (t : ℕ → Option OpenRow) (es : List (ℕ × ℕ)) (n slot : ℕ) → Holds (t slot) n → AllByRecursion (λ (e : ℕ × ℕ). e.0 < n) es → AreLive t es → AreLive t (es ++ (n, slot) ∷ [])
live_pushed t [] n slot h b l = (h, tt, tt)
live_pushed t (x ∷ es) n slot h b l = (l.0, later_pushed es x.0 (n, slot) l.1 b.0, live_pushed t es n slot h b.1 l.2)

pub rows_pushed : (t : ℕ → Option OpenRow) (es : List (ℕ × ℕ)) (n slot : ℕ) (row : OpenRow) → t slot ≡ Some row → rows_of t (es ++ (n, slot) ∷ []) ≡ rows_of t es ++ row ∷ []
rows_pushed t [] n slot row q = ap (λ (o : Option OpenRow). cons_option o []) q
rows_pushed t (x ∷ es) n slot row q = head_pushed (t x.1) (rows_of t (es ++ (n, slot) ∷ [])) (rows_of t es) row (rows_pushed t es n slot row q)

-- a vacant slot is none of the index
pub kept_vacant : (s t : ℕ → Option OpenRow) (es : List (ℕ × ℕ)) (slot : ℕ) → AreLive s es → s slot ≡ None → ((other : ℕ) → other ≢ slot → t other ≡ s other) → AreKept s t es
kept_vacant s t [] slot l v o = tt
kept_vacant s t (x ∷ es) slot l v o =
    (o x.1 (λ q. subst (λ (p : Option OpenRow). Holds p x.0) (ap s q ∙ v) l.0), kept_vacant s t es slot l.2 v o)

-- ---- an open less

later_removed : (es : List (ℕ × ℕ)) (m n : ℕ) → AllByRecursion (λ later. m < later.0) es → AllByRecursion (λ later. m < later.0) (remove_entry (is_at (nat_cmp n)) es)
later_removed [] m n a = a
later_removed (e ∷ es) m n a =
    elim (is_at (nat_cmp n) e.0) as (λ b. AllByRecursion (λ (later : ℕ × ℕ). m < later.0) (cond b es (e ∷ remove_entry (is_at (nat_cmp n)) es))) [ true ↦ a.1 | false ↦ (a.0, later_removed es m n a.1) ]

same_number : (es : List (ℕ × ℕ)) (m n : ℕ) → m ≡ n → AllByRecursion (λ later. m < later.0) es → AllByRecursion (λ later. n < later.0) es
same_number es m n e a = subst (λ (k : ℕ). AllByRecursion (λ (later : ℕ × ℕ). k < later.0) es) e a

module _ (s t : ℕ → Option OpenRow) (n slot : ℕ) (h : Holds (s slot) n) (o : (other : ℕ) → other ≢ slot → t other ≡ s other) where
  pub live_removed : (es : List (ℕ × ℕ)) → AreLive s es → AreLive t (remove_entry (is_at (nat_cmp n)) es)
  live_removed [] l = tt
  live_removed (x ∷ es) l =
      elim (is_at (nat_cmp n) x.0) as (λ b. is_at (nat_cmp n) x.0 ≡ b → AreLive t (cond b es (x ∷ remove_entry (is_at (nat_cmp n)) es))) [
        | true ↦ λ e. (
            let same = tested n x.0 (test_is n x.0 true e) in
            live_kept s t es (kept_later s t es n slot l.2 (same_number es x.0 n same l.1) h o) l.2)
        | false ↦ λ e. (
            let stays = o x.1 (apart s x.1 slot x.0 n l.0 h (not_tested n x.0 (test_is n x.0 false e))) in
            (subst (λ (p : Option OpenRow). Holds p x.0) (sym stays) l.0, later_removed es x.0 n l.1, live_removed es l.2))
      ] refl

  pub rows_removed : (es : List (ℕ × ℕ)) → AreLive s es → rows_of t (remove_entry (is_at (nat_cmp n)) es) ≡ without_open n (rows_of s es)
  rows_removed [] l = refl
  rows_removed (x ∷ es) l =
      elim (is_at (nat_cmp n) x.0) as (λ b. is_at (nat_cmp n) x.0 ≡ b → rows_of t (cond b es (x ∷ remove_entry (is_at (nat_cmp n)) es)) ≡ without_open n (rows_of s (x ∷ es))) [
        | true ↦ λ e. (
            let test = test_is n x.0 true e in
            let later = same_number es x.0 n (tested n x.0 test) l.1 in
            let gone = head_without (s x.1) (rows_of s es) n x.0 l.0 test (kept_above n (rows_of s es) (rows_later s es n l.2 later)) in
            rows_kept s t es (kept_later s t es n slot l.2 later h o) ∙ sym gone)
        | false ↦ λ e. (
            let test = test_is n x.0 false e in
            let stays = o x.1 (apart s x.1 slot x.0 n l.0 h (not_tested n x.0 test)) in
            let rest = rows_removed es l.2 in
            let front : cons_option (t x.1) (rows_of t (remove_entry (is_at (nat_cmp n)) es)) ≡ cons_option (s x.1) (without_open n (rows_of s es)) = λ i. cons_option (stays i) (rest i) in
            front ∙ sym (head_stays (s x.1) (rows_of s es) n x.0 l.0 test))
      ] refl

-- ---- an open's scan

absent_here : (row : OpenRow) (rows : List OpenRow) (n : ℕ) → open_of (row ∷ rows) n ≡ None → ((row.number == n) ≡ false) × (open_of rows n ≡ None)
absent_here row rows n e =
    elim (row.number == n) as (λ b. cond b (Some row) (open_of rows n) ≡ None → (b ≡ false) × (open_of rows n ≡ None)) [ true ↦ λ f. cc | false ↦ λ f. (refl, f) ] e

pub absent_without : (rows : List OpenRow) (n : ℕ) → open_of rows n ≡ None → without_open n rows ≡ rows
absent_without [] n e = refl
absent_without (row ∷ rows) n e =
    let both = absent_here row rows n e in
    rw both.0 (ap (λ (rest : List OpenRow). row ∷ rest) (absent_without rows n both.1))

pub absent_scan : (rows : List OpenRow) (n : ℕ) (scan : Scan) → open_of rows n ≡ None → with_scan n scan rows ≡ rows
absent_scan [] n scan e = refl
absent_scan (row ∷ rows) n scan e =
    let both = absent_here row rows n e in
    rw both.0 (ap (λ (rest : List OpenRow). row ∷ rest) (absent_scan rows n scan both.1))

later_scan : (rows : List OpenRow) (n : ℕ) (scan : Scan) → AllByRecursion (λ j. n < j) (open_numbers rows) → with_scan n scan rows ≡ rows
later_scan [] n scan a = refl
later_scan (row ∷ rows) n scan a =
    let other : (row.number == n) ≡ false = (let above = a.0 in grind (arith, nat_tests, above)) in
    rw other (ap (λ (rest : List OpenRow). row ∷ rest) (later_scan rows n scan a.1))

module _ (s t : ℕ → Option OpenRow) (n slot : ℕ) (row : OpenRow) (scan : Scan) (is : s slot ≡ Some row) (number : row.number ≡ n) (set : t slot ≡ Some (record row { scan = scan })) (o : (other : ℕ) → other ≢ slot → t other ≡ s other) where
  holds : Holds (s slot) n
  holds = subst (λ (p : Option OpenRow). Holds p n) (sym is) number

  holds_set : Holds (t slot) n
  holds_set = subst (λ (p : Option OpenRow). Holds p n) (sym set) number

  row_test : (row.number == n) ≡ true
  row_test = grind (arith, nat_tests, number)

  pub live_scanned : (es : List (ℕ × ℕ)) → AreLive s es → lookup (is_at (nat_cmp n)) es ≡ Some slot → AreLive t es
  live_scanned [] l f = tt
  live_scanned (x ∷ es) l f =
      elim (is_at (nat_cmp n) x.0) as (λ b. is_at (nat_cmp n) x.0 ≡ b → cond b (Some x.1) (lookup (is_at (nat_cmp n)) es) ≡ Some slot → AreLive t (x ∷ es)) [
        | true ↦ λ e g. (
            let here : slot ≡ x.1 = cc in
            let same = tested n x.0 (test_is n x.0 true e) in
            let first = subst (λ (z : ℕ). Holds (t z) x.0) here (subst (λ (k : ℕ). Holds (t slot) k) (sym same) holds_set) in
            (first, l.1, live_kept s t es (kept_later s t es n slot l.2 (same_number es x.0 n same l.1) holds o) l.2))
        | false ↦ λ e g. (
            let stays = o x.1 (apart s x.1 slot x.0 n l.0 holds (not_tested n x.0 (test_is n x.0 false e))) in
            (subst (λ (p : Option OpenRow). Holds p x.0) (sym stays) l.0, l.1, live_scanned es l.2 g))
      ] refl f

  pub rows_scanned : (es : List (ℕ × ℕ)) → AreLive s es → lookup (is_at (nat_cmp n)) es ≡ Some slot → rows_of t es ≡ with_scan n scan (rows_of s es)
  rows_scanned [] l f = cc
  rows_scanned (x ∷ es) l f =
      elim (is_at (nat_cmp n) x.0) as (λ b. is_at (nat_cmp n) x.0 ≡ b → cond b (Some x.1) (lookup (is_at (nat_cmp n)) es) ≡ Some slot → rows_of t (x ∷ es) ≡ with_scan n scan (rows_of s (x ∷ es))) [
        | true ↦ λ e g. (
            let here : x.1 ≡ slot = cc in
            let later = same_number es x.0 n (tested n x.0 (test_is n x.0 true e)) l.1 in
            let old : s x.1 ≡ Some row = ap s here ∙ is in
            let new : t x.1 ≡ Some (record row { scan = scan }) = ap t here ∙ set in
            let rest = rows_kept s t es (kept_later s t es n slot l.2 later holds o) in
            let front : cons_option (t x.1) (rows_of t es) ≡ record row { scan = scan } ∷ rows_of s es = λ i. cons_option (new i) (rest i) in
            let back : with_scan n scan (cons_option (s x.1) (rows_of s es)) ≡ with_scan n scan (row ∷ rows_of s es) = ap (λ (p : Option OpenRow). with_scan n scan (cons_option p (rows_of s es))) old in
            front ∙ sym (back ∙ head_scanned row (rows_of s es) n scan row_test (later_scan (rows_of s es) n scan (rows_later s es n l.2 later))))
        | false ↦ λ e g. (
            let test = test_is n x.0 false e in
            let stays = o x.1 (apart s x.1 slot x.0 n l.0 holds (not_tested n x.0 test)) in
            let rest = rows_scanned es l.2 g in
            let front : cons_option (t x.1) (rows_of t es) ≡ cons_option (s x.1) (with_scan n scan (rows_of s es)) = λ i. cons_option (stays i) (rest i) in
            front ∙ sym (head_unscanned (s x.1) (rows_of s es) n x.0 scan l.0 test))
      ] refl f
