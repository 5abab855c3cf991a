-- The numbers of runs: each a first number, and how many there are from it upward.
use Rattle.std.proofs.Common.{◌≡◌, ℕ, nat_lt, nat_le, max, length, take, drop, slice_index_or, zero, suc, ◌+◌, ◌-◌, ◌≤◌, ◌<◌, ◌==◌, ◌&&◌, ◌||◌, not, Bool, true, false, List, [], ◌∷◌, ◌++◌, refl, sym, ap, ◌∙◌, arith}
use Rattle.std.proofs.lemmas.Bool.{ne_eqb, eqb-true, ltb-true, and_parts}
use Rattle.std.proofs.lemmas.Bool.Decides.{nat_tests}
use Rattle.std.proofs.lemmas.List.{take_all}
use Rattle.std.specs.List.{list_all, AllByRecursion}
use Rattle.smb_session.specs.Numbers.{contains, IsRising}
use Rattle.smb_session.specs.Held.{are_apart}
use Rattle.smb_session.specs.Window.{upward, numbers_of, are_distinct}
use Rattle.smb_session.proofs.Windows.{upward-above, all-more}

-- a number stands in one of two lists
contains_append : (n x : ℕ) (xs ys : List ℕ) (b : Bool) → (x == n) ≡ b → contains (xs ++ ys) n ≡ (contains xs n || contains ys n) → contains (x ∷ (xs ++ ys)) n ≡ (contains (x ∷ xs) n || contains ys n)
contains_append n x xs ys true t ih = rw t refl
contains_append n x xs ys false t ih = rw t ih

pub contains-append : (n : ℕ) (xs ys : List ℕ) → contains (xs ++ ys) n ≡ (contains xs n || contains ys n)
contains-append n [] ys = refl
contains-append n (x ∷ xs) ys = contains_append n x xs ys (x == n) refl (contains-append n xs ys)

-- a test of all of two lists
all_of_append : (p : ℕ → Bool) (x : ℕ) (xs ys : List ℕ) (b : Bool) → p x ≡ b → list_all p (xs ++ ys) ≡ (list_all p xs && list_all p ys) → list_all p (x ∷ (xs ++ ys)) ≡ (list_all p (x ∷ xs) && list_all p ys)
all_of_append p x xs ys true t ih = rw t ih
all_of_append p x xs ys false t ih = rw t refl

pub all-of-append : (p : ℕ → Bool) (xs ys : List ℕ) → list_all p (xs ++ ys) ≡ (list_all p xs && list_all p ys)
all-of-append p [] ys = refl
all-of-append p (x ∷ xs) ys = all_of_append p x xs ys (p x) refl (all-of-append p xs ys)

-- which numbers are those of a run
in_at : (count first n : ℕ) (b : Bool) → (first == n) ≡ b → first ≤ n → (first + 1 ≤ n → contains (upward (first + 1) count) n ≡ true) → contains (upward first (suc count)) n ≡ true
in_at count first n true t l ih = rw t refl
in_at count first n false t l ih = let above : first + 1 ≤ n = grind (arith, nat_tests) in rw t (ih above)

pub in-upward : (count first n : ℕ) → first ≤ n → n < first + count → contains (upward first count) n ≡ true
in-upward zero first n l g = absurd (omega (arith, l, g))
in-upward (suc count) first n l g = in_at count first n (first == n) refl l (λ above. in-upward count (first + 1) n above (omega (arith, g)))

pub absent : (n : ℕ) (ns : List ℕ) → AllByRecursion (λ m. n < m) ns → contains ns n ≡ false
absent n [] h = refl
absent n (m ∷ ns) h = let less = h.0 in let d : (m == n) ≡ false = ne_eqb m n (λ e. omega arith) in rw d (absent n ns h.1)

pub not-below : (count first n : ℕ) → n < first → contains (upward first count) n ≡ false
not-below count first n l = absent n (upward first count) (all-more _ _ (upward first count) (λ m above. omega (arith, l, above)) (upward-above count first))

pub not-above : (count first n : ℕ) → first + count ≤ n → contains (upward first count) n ≡ false
not-above zero first n l = refl
not-above (suc count) first n l =
    let d : (first == n) ≡ false = ne_eqb first n (λ e. omega (arith, l, e)) in
    rw d (not-above count (first + 1) n (omega (arith, l)))

-- numbers above another are looked for behind it
pub skip-all : (n : ℕ) (ns ms : List ℕ) → AllByRecursion (λ m. n < m) ms → list_all (contains (n ∷ ns)) ms ≡ list_all (contains ns) ms
skip-all n ns [] h = refl
skip-all n ns (m ∷ ms) h =
    let less = h.0 in
    let d : (n == m) ≡ false = ne_eqb n m (λ e. omega arith) in
    rw d (ap (λ b. contains ns m && b) (skip-all n ns ms h.1))

-- so many numbers of a run were found, and the others are looked for in the rest
pub record FoundSoFar (usable rest : List ℕ) (first count found : ℕ) : Type 0 where
  pub few : found ≤ count
  pub rising : IsRising rest
  pub above : AllByRecursion (λ n. found ≤ n - first) rest
  pub left : list_all (contains rest) (upward (first + found) (count - found)) ≡ list_all (contains usable) (upward first count)

all_above_none : (first : ℕ) (ns : List ℕ) → AllByRecursion (λ n. 0 ≤ n - first) ns
all_above_none first [] = tt
all_above_none first (n ∷ ns) = (omega arith, all_above_none first ns)

pub found_begin : (usable : List ℕ) (first count : ℕ) → IsRising usable → FoundSoFar usable usable first count 0
found_begin usable first count h = record {
  few = omega arith;
  rising = h;
  above = all_above_none first usable;
  left = let e : first + 0 ≡ first = omega arith in let f : count - 0 ≡ count = omega arith in rw (e, f) refl;
}

pub found_skip : (usable others : List ℕ) (number first count found : ℕ) → number < first → FoundSoFar usable (number ∷ others) first count found → FoundSoFar usable others first count found
found_skip usable others number first count found l h = record {
  few = h.few;
  rising = h.rising.1;
  above = h.above.1;
  left = sym (skip-all number others (upward (first + found) (count - found))
      (all-more _ _ (upward (first + found) (count - found)) (λ m above. omega (arith, l, above)) (upward-above (count - found) (first + found)))) ∙ h.left;
}

-- one more is looked for
one_more : (first count found : ℕ) → found < count → upward (first + found) (count - found) ≡ (first + found) ∷ upward (first + found + 1) (count - (found + 1))
one_more first count found l = let e : count - found ≡ suc (count - (found + 1)) = omega (arith, l) in rw e refl

pub found_next : (usable others : List ℕ) (number first count found : ℕ) → found < count → first ≤ number → number - first ≡ found →
    FoundSoFar usable (number ∷ others) first count found → FoundSoFar usable others first count (found + 1)
found_next usable others number first count found l f e h =
    let n : first + found ≡ number = omega (arith, f, e) in
    let here : (number == number) ≡ true = grind (arith, nat_tests) in
    let behind : list_all (contains (number ∷ others)) (upward (number + 1) (count - (found + 1))) ≡ list_all (contains others) (upward (number + 1) (count - (found + 1))) =
    skip-all number others (upward (number + 1) (count - (found + 1)))
    (all-more _ _ (upward (number + 1) (count - (found + 1))) (λ m above. omega (arith, above)) (upward-above (count - (found + 1)) (number + 1))) in
    let split : list_all (contains (number ∷ others)) (upward (first + found) (count - found)) ≡ list_all (contains (number ∷ others)) (upward (number + 1) (count - (found + 1))) =
    rw (one_more first count found l, n, here) refl in
    let place : first + (found + 1) ≡ number + 1 = omega (arith, n) in
    record {
      few = omega (arith, l);
      rising = h.rising.1;
      above = all-more _ _ others (λ m more. omega (arith, more, f, e)) h.rising.0;
      left = rw place (sym behind ∙ sym split ∙ h.left);
    }

pub found_other : (usable others : List ℕ) (number first count found : ℕ) → found < count → first ≤ number → (number - first ≡ found → ⊥) →
    FoundSoFar usable (number ∷ others) first count found → false ≡ list_all (contains usable) (upward first count)
found_other usable others number first count found l f e h =
    let least = h.above.0 in
    let more : first + found < number = grind (arith, least, f, e) in
    let gone : contains (number ∷ others) (first + found) ≡ false =
    absent (first + found) (number ∷ others) (more, all-more _ _ others (λ m above. omega (arith, above, more)) h.rising.0) in
    let split : list_all (contains (number ∷ others)) (upward (first + found) (count - found)) ≡ false = rw (one_more first count found l, gone) refl in
    sym split ∙ h.left

pub found_none : (usable : List ℕ) (first count found : ℕ) → found < count → FoundSoFar usable [] first count found → false ≡ list_all (contains usable) (upward first count)
found_none usable first count found l h =
    let split : list_all (contains []) (upward (first + found) (count - found)) ≡ false = rw (one_more first count found l) refl in
    sym split ∙ h.left

pub found_all : (usable rest : List ℕ) (first count found : ℕ) → count ≤ found → FoundSoFar usable rest first count found → true ≡ list_all (contains usable) (upward first count)
found_all usable rest first count found l h =
    let none : count - found ≡ 0 = omega (arith, l) in
    let split : list_all (contains rest) (upward (first + found) (count - found)) ≡ true = rw none refl in
    sym split ∙ h.left

-- a list that is not empty is its first number and the others
pub tail_of : {X : Type 0} (x : X) (xs : List X) → take (length (x ∷ xs) - 1) (drop 1 (x ∷ xs)) ≡ xs
tail_of x xs = let n : suc (length xs) - 1 ≡ length xs = omega arith in rw n (take_all (length xs) xs (omega arith))

pub opened : (usable ns : List ℕ) (first count found : ℕ) → 1 ≤ length ns → FoundSoFar usable ns first count found →
    FoundSoFar usable (slice_index_or ns 0 0 ∷ take (length ns - 1) (drop 1 ns)) first count found
opened usable [] first count found l h = absurd (omega (arith, l))
opened usable (n ∷ ns) first count found l h = rw (tail_of n ns) h

-- the numbers of runs are tried run by run
pub all-of-runs : (p : ℕ → Bool) (run : ℕ × ℕ) (runs : List (ℕ × ℕ)) → list_all p (numbers_of (run ∷ runs)) ≡ (list_all p (upward run.0 run.1) && list_all p (numbers_of runs))
all-of-runs p run runs = all-of-append p (upward run.0 run.1) (numbers_of runs)

pub number-of-runs : (n : ℕ) (run : ℕ × ℕ) (runs : List (ℕ × ℕ)) → contains (numbers_of (run ∷ runs)) n ≡ (contains (upward run.0 run.1) n || contains (numbers_of runs) n)
number-of-runs n run runs = contains-append n (upward run.0 run.1) (numbers_of runs)

-- a run behind which none of its numbers stands
pub distinct_front : (count first : ℕ) (ns : List ℕ) → ((m : ℕ) → first ≤ m → m < first + count → contains ns m ≡ false) → are_distinct (upward first count ++ ns) ≡ are_distinct ns
distinct_front zero first ns h = refl
distinct_front (suc count) first ns h =
    let here : contains (upward (first + 1) count) first ≡ false = not-below count (first + 1) first (omega arith) in
    let there : contains ns first ≡ false = h first (omega arith) (omega arith) in
    let none : contains (upward (first + 1) count ++ ns) first ≡ false = contains-append first (upward (first + 1) count) ns ∙ rw (here, there) refl in
    rw none (distinct_front count (first + 1) ns (λ m l g. h m (omega (arith, l)) (omega (arith, g))))

-- and one of which a number stands behind it
twice_at : (count first : ℕ) (ns : List ℕ) (m : ℕ) (b : Bool) → (first == m) ≡ b → contains ns m ≡ true → (first ≤ m) → (first + 1 ≤ m → are_distinct (upward (first + 1) count ++ ns) ≡ false) →
    are_distinct (upward first (suc count) ++ ns) ≡ false
twice_at count first ns m true t c l ih =
    let same : first ≡ m = eqb-true first m t in
    let there : contains ns first ≡ true = rw same c in
    let both : contains (upward (first + 1) count ++ ns) first ≡ true = contains-append first (upward (first + 1) count) ns ∙ rw there (or_true (contains (upward (first + 1) count) first)) in
    rw both refl
  where
    or_true : (a : Bool) → (a || true) ≡ true
    or_true true = refl
    or_true false = refl
twice_at count first ns m false t c l ih =
    let above : first + 1 ≤ m = grind (arith, nat_tests) in
    rw (ih above) (and_false (not (contains (upward (first + 1) count ++ ns) first)))
  where
    and_false : (a : Bool) → (a && false) ≡ false
    and_false true = refl
    and_false false = refl

pub distinct_not : (count first : ℕ) (ns : List ℕ) (m : ℕ) → first ≤ m → m < first + count → contains ns m ≡ true → are_distinct (upward first count ++ ns) ≡ false
distinct_not zero first ns m l g c = absurd (omega (arith, l, g))
distinct_not (suc count) first ns m l g c = twice_at count first ns m (first == m) refl c l (λ above. distinct_not count (first + 1) ns m above (omega (arith, g)) c)

-- runs that have no number in common, one of which has so many
apart_here : (run other : ℕ × ℕ) (m : ℕ) → are_apart run other ≡ true → run.0 ≤ m → m < run.0 + run.1 → contains (upward other.0 other.1) m ≡ false
apart_here run other m a l g =
    when (nat_lt m other.0) refl
  where
    when : (b : Bool) → nat_lt m other.0 ≡ b → contains (upward other.0 other.1) m ≡ false
    when true t = not-below other.1 other.0 m (ltb-true m other.0 t)
    when false t = not-above other.1 other.0 m (grind (arith, nat_tests))

pub apart_from_all : (run : ℕ × ℕ) (others : List (ℕ × ℕ)) (m : ℕ) → list_all (are_apart run) others ≡ true → run.0 ≤ m → m < run.0 + run.1 → contains (numbers_of others) m ≡ false
apart_from_all run [] m a l g = refl
apart_from_all run (other ∷ others) m a l g =
    let parts = and_parts (are_apart run other) (list_all (are_apart run) others) a in
    contains-append m (upward other.0 other.1) (numbers_of others) ∙ rw (apart_here run other m parts.0 l g, apart_from_all run others m parts.1 l g) refl

pub distinct_behind : (run : ℕ × ℕ) (others : List (ℕ × ℕ)) → list_all (are_apart run) others ≡ true → are_distinct (numbers_of (run ∷ others)) ≡ are_distinct (numbers_of others)
distinct_behind run others a = distinct_front run.1 run.0 (numbers_of others) (λ m l g. apart_from_all run others m a l g)

-- a number that a run has in common with one of others
pub record Common (run : ℕ × ℕ) (others : List (ℕ × ℕ)) : Type 0 where
  pub number : ℕ
  pub from : run.0 ≤ number
  pub below : number < run.0 + run.1
  pub there : contains (numbers_of others) number ≡ true

or_first : (a b : Bool) → a ≡ true → (a || b) ≡ true
or_first true b h = refl
or_first false b h = cc

or_second : (a b : Bool) → b ≡ true → (a || b) ≡ true
or_second true b h = refl
or_second false b h = h

common_at : (run other : ℕ × ℕ) (others : List (ℕ × ℕ)) (b : Bool) → are_apart run other ≡ b → (list_all (are_apart run) others ≡ false → Common run others) →
    list_all (are_apart run) (other ∷ others) ≡ false → Common run (other ∷ others)
common_at run other others true t ih h =
    let c = ih (rw t at h) in
    record {
      number = c.number;
      from = c.from;
      below = c.below;
      there = contains-append c.number (upward other.0 other.1) (numbers_of others) ∙ or_second (contains (upward other.0 other.1) c.number) (contains (numbers_of others) c.number) c.there;
    }
common_at run other others false t ih h =
    let m = max run.0 other.0 in
    let inside : contains (upward other.0 other.1) m ≡ true = in-upward other.1 other.0 m (omega arith) (grind (arith, nat_tests)) in
    record {
      number = m;
      from = omega arith;
      below = grind (arith, nat_tests);
      there = contains-append m (upward other.0 other.1) (numbers_of others) ∙ or_first (contains (upward other.0 other.1) m) (contains (numbers_of others) m) inside;
    }

common : (run : ℕ × ℕ) (others : List (ℕ × ℕ)) → list_all (are_apart run) others ≡ false → Common run others
common run [] h = cc
common run (other ∷ others) h = common_at run other others (are_apart run other) refl (common run others) h

pub not_distinct : (run : ℕ × ℕ) (others : List (ℕ × ℕ)) → list_all (are_apart run) others ≡ false → are_distinct (numbers_of (run ∷ others)) ≡ false
not_distinct run others h =
    let c = common run others h in
    distinct_not run.1 run.0 (numbers_of others) c.number c.from c.below c.there

-- which numbers a run has, by comparing
pub in_run : (run : ℕ × ℕ) (n : ℕ) → run.0 ≤ n → nat_lt (n - run.0) run.1 ≡ contains (upward run.0 run.1) n
in_run run n l = when (nat_lt (n - run.0) run.1) refl
  where
    when : (b : Bool) → nat_lt (n - run.0) run.1 ≡ b → nat_lt (n - run.0) run.1 ≡ contains (upward run.0 run.1) n
    when true t = t ∙ sym (in-upward run.1 run.0 n l (grind (arith, nat_tests)))
    when false t = t ∙ sym (not-above run.1 run.0 n (grind (arith, nat_tests)))

pub below_run : (run : ℕ × ℕ) (n : ℕ) → n < run.0 → nat_le run.0 n ≡ contains (upward run.0 run.1) n
below_run run n l = let no : nat_le run.0 n ≡ false = grind (arith, nat_tests) in no ∙ sym (not-below run.1 run.0 n l)

-- several runs: the first of them, and the others
pub distinct_rest : (runs : List (ℕ × ℕ)) → 1 ≤ length runs → list_all (are_apart (slice_index_or runs 0 (0, 0))) (take (length runs - 1) (drop 1 runs)) ≡ true →
    are_distinct (numbers_of (take (length runs - 1) (drop 1 runs))) ≡ are_distinct (numbers_of runs)
distinct_rest [] l a = absurd (omega (arith, l))
distinct_rest (run ∷ runs) l a = let same = tail_of run runs in rw same (sym (distinct_behind run runs (rw same at a)))

pub distinct_none : (runs : List (ℕ × ℕ)) → 1 ≤ length runs → list_all (are_apart (slice_index_or runs 0 (0, 0))) (take (length runs - 1) (drop 1 runs)) ≡ false → are_distinct (numbers_of runs) ≡ false
distinct_none [] l a = absurd (omega (arith, l))
distinct_none (run ∷ runs) l a = let same = tail_of run runs in not_distinct run runs (rw same at a)

pub all_rest : (p : ℕ → Bool) (runs : List (ℕ × ℕ)) → 1 ≤ length runs → list_all p (upward (slice_index_or runs 0 (0, 0)).0 (slice_index_or runs 0 (0, 0)).1) ≡ true →
    list_all p (numbers_of (take (length runs - 1) (drop 1 runs))) ≡ list_all p (numbers_of runs)
all_rest p [] l a = absurd (omega (arith, l))
all_rest p (run ∷ runs) l a = let same = tail_of run runs in rw same (sym (all-of-runs p run runs ∙ rw a refl))

pub all_none : (p : ℕ → Bool) (runs : List (ℕ × ℕ)) → 1 ≤ length runs → list_all p (upward (slice_index_or runs 0 (0, 0)).0 (slice_index_or runs 0 (0, 0)).1) ≡ false → list_all p (numbers_of runs) ≡ false
all_none p [] l a = absurd (omega (arith, l))
all_none p (run ∷ runs) l a = all-of-runs p run runs ∙ rw a refl

pub number_rest : (n : ℕ) (runs : List (ℕ × ℕ)) → 1 ≤ length runs → contains (upward (slice_index_or runs 0 (0, 0)).0 (slice_index_or runs 0 (0, 0)).1) n ≡ false →
    contains (numbers_of (take (length runs - 1) (drop 1 runs))) n ≡ contains (numbers_of runs) n
number_rest n [] l a = absurd (omega (arith, l))
number_rest n (run ∷ runs) l a = let same = tail_of run runs in rw same (sym (number-of-runs n run runs ∙ rw a refl))

pub number_first : (n : ℕ) (runs : List (ℕ × ℕ)) → 1 ≤ length runs → contains (upward (slice_index_or runs 0 (0, 0)).0 (slice_index_or runs 0 (0, 0)).1) n ≡ true → contains (numbers_of runs) n ≡ true
number_first n [] l a = absurd (omega (arith, l))
number_first n (run ∷ runs) l a = number-of-runs n run runs ∙ rw a refl
