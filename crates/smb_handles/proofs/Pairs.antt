-- The numbers of all groups in one ordered set, each with its group's name.
use Rattle.std.proofs.Common.{◌≡◌, ◌≢◌, ◌==◌, ◌<◌, ◌&&◌, ℕ, zero, suc, nat_lt, slice_get, Some, Bool, true, false, not, cond, Result, Ok, Err, OnOk, OnErr, List, [], ◌∷◌, ◌++◌, filter, map, refl, sym, ap, ◌∙◌, arith}
use Rattle.std.proofs.lemmas.Bool.Decides.{nat_tests}
use Rattle.std.specs.declared.cmp.Ordering.{Ordering}
use Rattle.std.specs.declared.cmp.Ordering.TheVariants.{Less, Equal, Greater}
use Rattle.std.specs.Ordering.{nat_cmp, is_eq, is_le, is_lt, ordering_then, match_ordering}
use Rattle.std.specs.Option.{option_map}
use Rattle.std.specs.BTreeMap.Range.{range_contains}
use Rattle.std.specs.declared.ops.Bound.TheVariants.{Excluded, Included}
use Rattle.std.specs.List.{AllByRecursion, find, list_all, list_any}
use Rattle.std.specs.List.Sorted.{IsStrictlySortedBy}
use Rattle.std.specs.BTreeMap.{is_at}
use Rattle.std.specs.BTreeSet.{insert_key}
use Rattle.std.specs.Set.{remove_key}
use Rattle.smb_access.specs.Parts.{AreNumbersBelow}
use Rattle.smb_handles.specs.declared.key.GroupKey.{GroupKey}
use Rattle.smb_handles.specs.contracts.key.GroupKeyOrd.TheImpl.{cmp-value}
use Rattle.smb_handles.specs.Groups.{is_kept_in, kept_in, without_number}
use Rattle.smb_handles.proofs.Keys.{at_itself, at_no_other, exact, ties}

-- the order in which they are kept
abbrev pub pair_cmp : GroupKey × ℕ → GroupKey × ℕ → Ordering
pair_cmp x y = ordering_then (cmp-value.it x.0 y.0) (nat_cmp x.1 y.1)

-- ---- one number beside another

less_in : (n m : ℕ) (o : Ordering) → ordering_then o (nat_cmp n m) ≡ Less → is_eq o ≡ true → n < m
less_in n m Less h t = cc
less_in n m Equal h t = grind (arith, nat_tests, h)
less_in n m Greater h t = cc

equal_in : (n m : ℕ) (o : Ordering) → ordering_then o (nat_cmp n m) ≡ Equal → (is_eq o ≡ true) × (n ≡ m)
equal_in n m Less h = cc
equal_in n m Equal h = (refl, grind (arith, nat_tests, h))
equal_in n m Greater h = cc

at_in : (n m : ℕ) (o : Ordering) → is_eq (ordering_then o (nat_cmp n m)) ≡ (is_eq o && (n == m))
at_in n m Less = refl
at_in n m Equal = grind (arith, nat_tests)
at_in n m Greater = refl

at_pair : (key : GroupKey) (n : ℕ) (p : GroupKey × ℕ) → is_at (pair_cmp (key, n)) p ≡ (is_kept_in key p && (n == p.1))
at_pair key n p = at_in n p.1 (cmp-value.it key p.0)

-- what is of one group is of no other
of_no_other : (key other : GroupKey) (p : GroupKey × ℕ) → other ≢ key → is_kept_in key p ≡ true → is_kept_in other p ≡ false
of_no_other key other p d t =
    let same : key ≡ p.0 = exact key p.0 (ties (cmp-value.it key p.0) t) in
    rw (← same) (at_no_other other key (λ e. d (sym e)))

-- ---- a number more

none_behind : (key : GroupKey) (n : ℕ) (ps : List (GroupKey × ℕ)) → AllByRecursion (λ p. pair_cmp (key, n) p ≡ Less) ps → AreNumbersBelow n (kept_in ps key) → kept_in ps key ≡ []
none_behind key n [] a b = refl
none_behind key n (p ∷ ps) a b =
    elim (is_kept_in key p) as (λ v. is_kept_in key p ≡ v → AreNumbersBelow n (map (λ (pair : GroupKey × ℕ). pair.1) (cond v (p ∷ filter (is_kept_in key) ps) (filter (is_kept_in key) ps))) → map (λ (pair : GroupKey × ℕ). pair.1) (cond v (p ∷ filter (is_kept_in key) ps) (filter (is_kept_in key) ps)) ≡ []) [
      | true ↦ λ t h. let above = less_in n p.1 (cmp-value.it key p.0) a.0 t in let below = h.0 in absurd (omega arith)
      | false ↦ λ t h. none_behind key n ps a.1 h
    ] refl b

first_of : (key : GroupKey) (n : ℕ) (ps : List (GroupKey × ℕ)) → kept_in ps key ≡ [] → kept_in ((key, n) ∷ ps) key ≡ kept_in ps key ++ n ∷ []
first_of key n ps e = rw (at_itself key, e) refl

skipped : (key : GroupKey) (n : ℕ) (p : GroupKey × ℕ) (xs ys : List (GroupKey × ℕ)) → kept_in xs key ≡ kept_in ys key ++ n ∷ [] → kept_in (p ∷ xs) key ≡ kept_in (p ∷ ys) key ++ n ∷ []
skipped key n p xs ys e =
    elim (is_kept_in key p) as (λ v. map (λ (pair : GroupKey × ℕ). pair.1) (cond v (p ∷ filter (is_kept_in key) xs) (filter (is_kept_in key) xs)) ≡ map (λ (pair : GroupKey × ℕ). pair.1) (cond v (p ∷ filter (is_kept_in key) ys) (filter (is_kept_in key) ys)) ++ n ∷ []) [
      | true ↦ ap (λ (ms : List ℕ). p.1 ∷ ms) e
      | false ↦ e
    ]

below_rest : (key : GroupKey) (n : ℕ) (p : GroupKey × ℕ) (ps : List (GroupKey × ℕ)) → AreNumbersBelow n (kept_in (p ∷ ps) key) → AreNumbersBelow n (kept_in ps key)
below_rest key n p ps b =
    elim (is_kept_in key p) as (λ v. AreNumbersBelow n (map (λ (pair : GroupKey × ℕ). pair.1) (cond v (p ∷ filter (is_kept_in key) ps) (filter (is_kept_in key) ps))) → AreNumbersBelow n (kept_in ps key)) [
      | true ↦ λ h. h.1
      | false ↦ λ h. h
    ] b

not_there : (key : GroupKey) (n : ℕ) (p : GroupKey × ℕ) (ps : List (GroupKey × ℕ)) → is_kept_in key p ≡ true → n ≡ p.1 → AreNumbersBelow n (kept_in (p ∷ ps) key) → ⊥
not_there key n p ps t e b =
    let h : AreNumbersBelow n (p.1 ∷ kept_in ps key) = rw t at b in
    let below = h.0 in
    omega arith

pub added_here : (key : GroupKey) (n : ℕ) (ps : List (GroupKey × ℕ)) → IsStrictlySortedBy pair_cmp (insert_key pair_cmp ps (key, n)) → AreNumbersBelow n (kept_in ps key) → kept_in (insert_key pair_cmp ps (key, n)) key ≡ kept_in ps key ++ n ∷ []
unfolding IsStrictlySortedBy
added_here key n [] s b = first_of key n [] refl
added_here key n (p ∷ ps) s b =
    elim (pair_cmp (key, n) p) as (λ o. pair_cmp (key, n) p ≡ o → IsStrictlySortedBy pair_cmp (match_ordering o ((key, n) ∷ p ∷ ps) (p ∷ ps) (p ∷ insert_key pair_cmp ps (key, n))) → kept_in (match_ordering o ((key, n) ∷ p ∷ ps) (p ∷ ps) (p ∷ insert_key pair_cmp ps (key, n))) key ≡ kept_in (p ∷ ps) key ++ n ∷ []) [
      | Less ↦ λ e h. first_of key n (p ∷ ps) (none_behind key n (p ∷ ps) h.0 b)
      | Equal ↦ λ e h. let w = equal_in n p.1 (cmp-value.it key p.0) e in absurd (not_there key n p ps w.0 w.1 b)
      | Greater ↦ λ e h. skipped key n p (insert_key pair_cmp ps (key, n)) ps (added_here key n ps h.1 (below_rest key n p ps b))
    ] refl s

same_behind : (other : GroupKey) (p : GroupKey × ℕ) (xs ys : List (GroupKey × ℕ)) → kept_in xs other ≡ kept_in ys other → kept_in (p ∷ xs) other ≡ kept_in (p ∷ ys) other
same_behind other p xs ys e =
    elim (is_kept_in other p) as (λ v. map (λ (pair : GroupKey × ℕ). pair.1) (cond v (p ∷ filter (is_kept_in other) xs) (filter (is_kept_in other) xs)) ≡ map (λ (pair : GroupKey × ℕ). pair.1) (cond v (p ∷ filter (is_kept_in other) ys) (filter (is_kept_in other) ys))) [
      | true ↦ ap (λ (ms : List ℕ). p.1 ∷ ms) e
      | false ↦ e
    ]

pub added_others : (key other : GroupKey) (n : ℕ) (ps : List (GroupKey × ℕ)) → other ≢ key → kept_in (insert_key pair_cmp ps (key, n)) other ≡ kept_in ps other
added_others key other n [] d = rw (of_no_other key other (key, n) d (at_itself key)) refl
added_others key other n (p ∷ ps) d =
    elim (pair_cmp (key, n) p) as (λ o. kept_in (match_ordering o ((key, n) ∷ p ∷ ps) (p ∷ ps) (p ∷ insert_key pair_cmp ps (key, n))) other ≡ kept_in (p ∷ ps) other) [
      | Less ↦ rw (of_no_other key other (key, n) d (at_itself key)) refl
      | Equal ↦ refl
      | Greater ↦ same_behind other p (insert_key pair_cmp ps (key, n)) ps (added_others key other n ps d)
    ]

-- ---- a number less

none_of_it : (key : GroupKey) (n : ℕ) (ps : List (GroupKey × ℕ)) → list_any (is_at (pair_cmp (key, n))) ps ≡ false → without_number n (kept_in ps key) ≡ kept_in ps key
none_of_it key n [] e = refl
none_of_it key n (p ∷ ps) e =
    let at = at_pair key n p in
    let rest : list_any (is_at (pair_cmp (key, n))) ps ≡ false = grind (arith, nat_tests, e) in
    let here : is_at (pair_cmp (key, n)) p ≡ false = grind (arith, nat_tests, e) in
    elim (is_kept_in key p) as (λ v. is_kept_in key p ≡ v → without_number n (map (λ (pair : GroupKey × ℕ). pair.1) (cond v (p ∷ filter (is_kept_in key) ps) (filter (is_kept_in key) ps))) ≡ map (λ (pair : GroupKey × ℕ). pair.1) (cond v (p ∷ filter (is_kept_in key) ps) (filter (is_kept_in key) ps))) [
      | true ↦ λ t.
          let apart : (n == p.1) ≡ false = grind (arith, nat_tests, at, here, t) in
          let back : (p.1 == n) ≡ false = grind (arith, nat_tests, apart) in
          rw back (ap (λ (ms : List ℕ). p.1 ∷ ms) (none_of_it key n ps rest))
      | false ↦ λ t. none_of_it key n ps rest
    ] refl

dropped : (key : GroupKey) (n : ℕ) (p : GroupKey × ℕ) (ps : List (GroupKey × ℕ)) → is_at (pair_cmp (key, n)) p ≡ true → without_number n (kept_in (p ∷ ps) key) ≡ without_number n (kept_in ps key)
dropped key n p ps h =
    let at = at_pair key n p in
    let t : is_kept_in key p ≡ true = grind (arith, nat_tests, at, h) in
    let e : (n == p.1) ≡ true = grind (arith, nat_tests, at, h) in
    let back : (p.1 == n) ≡ true = grind (arith, nat_tests, e) in
    rw (t, back) refl

stays : (key : GroupKey) (n : ℕ) (p : GroupKey × ℕ) (xs ys : List (GroupKey × ℕ)) → is_at (pair_cmp (key, n)) p ≡ false → kept_in xs key ≡ without_number n (kept_in ys key) → kept_in (p ∷ xs) key ≡ without_number n (kept_in (p ∷ ys) key)
stays key n p xs ys here e =
    let at = at_pair key n p in
    elim (is_kept_in key p) as (λ v. is_kept_in key p ≡ v → map (λ (pair : GroupKey × ℕ). pair.1) (cond v (p ∷ filter (is_kept_in key) xs) (filter (is_kept_in key) xs)) ≡ without_number n (map (λ (pair : GroupKey × ℕ). pair.1) (cond v (p ∷ filter (is_kept_in key) ys) (filter (is_kept_in key) ys)))) [
      | true ↦ λ t.
          let apart : (n == p.1) ≡ false = grind (arith, nat_tests, at, here, t) in
          let back : (p.1 == n) ≡ false = grind (arith, nat_tests, apart) in
          rw back (ap (λ (ms : List ℕ). p.1 ∷ ms) e)
      | false ↦ λ t. e
    ] refl

pub removed_here : (key : GroupKey) (n : ℕ) (ps : List (GroupKey × ℕ)) → list_any (is_at (pair_cmp (key, n))) (remove_key (is_at (pair_cmp (key, n))) ps) ≡ false → kept_in (remove_key (is_at (pair_cmp (key, n))) ps) key ≡ without_number n (kept_in ps key)
removed_here key n [] e = refl
removed_here key n (p ∷ ps) e =
    elim (is_at (pair_cmp (key, n)) p) as (λ v. is_at (pair_cmp (key, n)) p ≡ v → list_any (is_at (pair_cmp (key, n))) (cond v ps (p ∷ remove_key (is_at (pair_cmp (key, n))) ps)) ≡ false → kept_in (cond v ps (p ∷ remove_key (is_at (pair_cmp (key, n))) ps)) key ≡ without_number n (kept_in (p ∷ ps) key)) [
      | true ↦ λ t h. sym (none_of_it key n ps h) ∙ sym (dropped key n p ps t)
      | false ↦ λ t h.
          let rest : list_any (is_at (pair_cmp (key, n))) (remove_key (is_at (pair_cmp (key, n))) ps) ≡ false = grind (arith, nat_tests, h) in
          stays key n p (remove_key (is_at (pair_cmp (key, n))) ps) ps t (removed_here key n ps rest)
    ] refl e

pub removed_others : (key other : GroupKey) (n : ℕ) (ps : List (GroupKey × ℕ)) → other ≢ key → kept_in (remove_key (is_at (pair_cmp (key, n))) ps) other ≡ kept_in ps other
removed_others key other n [] d = refl
removed_others key other n (p ∷ ps) d =
    elim (is_at (pair_cmp (key, n)) p) as (λ v. is_at (pair_cmp (key, n)) p ≡ v → kept_in (cond v ps (p ∷ remove_key (is_at (pair_cmp (key, n))) ps)) other ≡ kept_in (p ∷ ps) other) [
      | true ↦ λ t.
          let at = at_pair key n p in
          let here : is_kept_in key p ≡ true = grind (arith, nat_tests, at, t) in
          rw (of_no_other key other p d here) refl
      | false ↦ λ t. same_behind other p (remove_key (is_at (pair_cmp (key, n))) ps) ps (removed_others key other n ps d)
    ] refl

-- ---- numbers of 64 bits

abbrev pub AreNumbers : List (GroupKey × ℕ) → Type 0
AreNumbers = AllByRecursion (λ (p : GroupKey × ℕ). p.1 < 18446744073709551616)

pub from_test : (ps : List (GroupKey × ℕ)) → list_all (λ (p : GroupKey × ℕ). nat_lt p.1 18446744073709551616) ps ≡ true → AreNumbers ps
from_test [] e = tt
from_test (p ∷ ps) e = (grind (arith, nat_tests, e), from_test ps (grind (arith, nat_tests, e)))

pub to_test : (ps : List (GroupKey × ℕ)) → AreNumbers ps → list_all (λ (p : GroupKey × ℕ). nat_lt p.1 18446744073709551616) ps ≡ true
to_test [] f = refl
to_test (p ∷ ps) f = grind (arith, nat_tests, f.0, to_test ps f.1)

-- ---- what is asked of a group

-- the greatest number of 64 bits
abbrev pub greatest : ℕ
greatest = 18446744073709551615

from_first : (m : ℕ) (o : Ordering) → m < 18446744073709551616 → (is_le (ordering_then o (nat_cmp 0 m)) && not (is_lt (ordering_then o (nat_cmp greatest m)))) ≡ is_eq o
from_first m Less f = refl
from_first m Equal f = grind (arith, nat_tests, f)
from_first m Greater f = refl

behind_one : (n m : ℕ) (o : Ordering) → m < 18446744073709551616 → (is_lt (ordering_then o (nat_cmp n m)) && not (is_lt (ordering_then o (nat_cmp greatest m)))) ≡ (is_eq o && nat_lt n m)
behind_one n m Less f = refl
behind_one n m Equal f = grind (arith, nat_tests, f)
behind_one n m Greater f = refl

pub in_group : (key : GroupKey) (ps : List (GroupKey × ℕ)) → AreNumbers ps → filter (range_contains pair_cmp (Included (key, 0)) (Included (key, greatest))) ps ≡ filter (is_kept_in key) ps
in_group key [] f = refl
in_group key (p ∷ ps) f =
    let same : range_contains pair_cmp (Included (key, 0)) (Included (key, greatest)) p ≡ is_kept_in key p = from_first p.1 (cmp-value.it key p.0) f.0 in
    ap (λ (v : Bool). cond v (p ∷ filter (range_contains pair_cmp (Included (key, 0)) (Included (key, greatest))) ps) (filter (range_contains pair_cmp (Included (key, 0)) (Included (key, greatest))) ps)) same
    ∙ ap (λ (qs : List (GroupKey × ℕ)). cond (is_kept_in key p) (p ∷ qs) qs) (in_group key ps f.1)

pub number_at : (ps : List (GroupKey × ℕ)) (i : ℕ) → option_map (λ (p : GroupKey × ℕ). p.1) (slice_get ps i) ≡ slice_get (map (λ (p : GroupKey × ℕ). p.1) ps) i
number_at [] i = refl
number_at (p ∷ ps) zero = refl
number_at (p ∷ ps) (suc i) = number_at ps i

pub nth_in : (key : GroupKey) (ps : List (GroupKey × ℕ)) (i : ℕ) → AreNumbers ps → option_map (λ (p : GroupKey × ℕ). p.1) (slice_get (filter (range_contains pair_cmp (Included (key, 0)) (Included (key, greatest))) ps) i) ≡ slice_get (kept_in ps key) i
nth_in key ps i f = rw (in_group key ps f) (number_at (filter (is_kept_in key) ps) i)

pub after_in : (key : GroupKey) (n : ℕ) (ps : List (GroupKey × ℕ)) → AreNumbers ps → option_map (λ (p : GroupKey × ℕ). p.1) (slice_get (filter (range_contains pair_cmp (Excluded (key, n)) (Included (key, greatest))) ps) 0) ≡ find (nat_lt n) (kept_in ps key)
after_in key n [] f = refl
after_in key n (p ∷ ps) f =
    let same : range_contains pair_cmp (Excluded (key, n)) (Included (key, greatest)) p ≡ (is_kept_in key p && nat_lt n p.1) = behind_one n p.1 (cmp-value.it key p.0) f.0 in
    let rest = after_in key n ps f.1 in
    ap (λ (v : Bool). option_map (λ (p : GroupKey × ℕ). p.1) (slice_get (cond v (p ∷ filter (range_contains pair_cmp (Excluded (key, n)) (Included (key, greatest))) ps) (filter (range_contains pair_cmp (Excluded (key, n)) (Included (key, greatest))) ps)) 0)) same
    ∙ elim (is_kept_in key p) as (λ v. option_map (λ (p : GroupKey × ℕ). p.1) (slice_get (cond (v && nat_lt n p.1) (p ∷ filter (range_contains pair_cmp (Excluded (key, n)) (Included (key, greatest))) ps) (filter (range_contains pair_cmp (Excluded (key, n)) (Included (key, greatest))) ps)) 0) ≡ find (nat_lt n) (map (λ (p : GroupKey × ℕ). p.1) (cond v (p ∷ filter (is_kept_in key) ps) (filter (is_kept_in key) ps)))) [
      | true ↦ elim (nat_lt n p.1) as (λ w. option_map (λ (p : GroupKey × ℕ). p.1) (slice_get (cond w (p ∷ filter (range_contains pair_cmp (Excluded (key, n)) (Included (key, greatest))) ps) (filter (range_contains pair_cmp (Excluded (key, n)) (Included (key, greatest))) ps)) 0) ≡ cond w (Some p.1) (find (nat_lt n) (kept_in ps key))) [
        | true ↦ refl
        | false ↦ rest
      ]
      | false ↦ rest
    ]

-- ---- and of what is kept

pub fit_added : (key : GroupKey) (n : ℕ) (ps : List (GroupKey × ℕ)) → n < 18446744073709551616 → AreNumbers ps → AreNumbers (insert_key pair_cmp ps (key, n))
fit_added key n [] l f = (l, tt)
fit_added key n (p ∷ ps) l f =
    elim (pair_cmp (key, n) p) as (λ o. AreNumbers (match_ordering o ((key, n) ∷ p ∷ ps) (p ∷ ps) (p ∷ insert_key pair_cmp ps (key, n)))) [
      | Less ↦ (l, f)
      | Equal ↦ f
      | Greater ↦ (f.0, fit_added key n ps l f.1)
    ]

pub fit_removed : (test : GroupKey × ℕ → Bool) (ps : List (GroupKey × ℕ)) → AreNumbers ps → AreNumbers (remove_key test ps)
fit_removed test [] f = tt
fit_removed test (p ∷ ps) f =
    elim (test p) as (λ v. AreNumbers (cond v ps (p ∷ remove_key test ps))) [
      | true ↦ f.1
      | false ↦ (f.0, fit_removed test ps f.1)
    ]

pub either_way : {X E : Type 0} (r : Result X E) (P Q R : Type 0) → OnOk r P → OnErr r Q → (P → R) → (Q → R) → R
either_way (Ok x) P Q R p q f g = f p
either_way (Err e) P Q R p q f g = g q
