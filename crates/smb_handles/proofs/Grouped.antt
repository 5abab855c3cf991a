-- The numbers of the opens in a group.
use Rattle.std.proofs.Common.{◌≡◌, ◌==◌, ◌&&◌, ◌<◌, ℕ, slice_get, nat_lt, Bool, true, false, not, cond, Option, Some, List, [], ◌∷◌, ◌++◌, filter, refl, sym, ap, subst, arith, ◌∙◌}
use Rattle.std.proofs.lemmas.Bool.Decides.{nat_tests}
use Rattle.std.specs.List.{AllByRecursion, find}
use Rattle.smb_access.specs.Numbers.{AreRising}
use Rattle.smb_access.specs.Parts.{AreNumbersBelow}
use Rattle.smb_access.specs.Opens.{AreAllBelow, first_held_by, number_of, open_numbers, open_of, open_on_entry_after, with_scan, without_open}
use Rattle.smb_access.specs.declared.open_row.OpenRow.{OpenRow}
use Rattle.smb_access.specs.declared.open_row.Owner.{Owner}
use Rattle.smb_access.specs.declared.open_row.Owner.TheVariants as owner
use Rattle.smb_access.specs.declared.scan.Scan.{Scan}
use Rattle.smb_handles.specs.declared.key.GroupKey.{GroupKey}
use Rattle.smb_handles.specs.declared.key.GroupKey.TheVariants.{Entry, Session, Tree}
use Rattle.smb_handles.specs.Groups.{is_in, group_of, numbers_in, without_number, noted, forgotten}
use Rattle.smb_handles.proofs.Live.{kept_above}

-- ---- what is asked of a group

first_in : (rows : List OpenRow) (key : GroupKey) → slice_get (numbers_in rows key) 0 ≡ number_of (find (is_in key) rows)
first_in [] key = refl
first_in (x ∷ rows) key =
    elim (is_in key x) as (λ b. slice_get (open_numbers (cond b (x ∷ filter (is_in key) rows) (filter (is_in key) rows))) 0 ≡ number_of (cond b (Some x) (find (is_in key) rows))) [ true ↦ refl | false ↦ first_in rows key ]

pub owner_first : (holder : Owner) (rows : List OpenRow) → slice_get (numbers_in rows (group_of holder)) 0 ≡ first_held_by holder rows
owner_first (owner.Session session) rows = first_in rows (Session session)
owner_first (owner.Tree session tree) rows = first_in rows (Tree session tree)

taken : (b : Bool) (x : OpenRow) (o : Option OpenRow) (p : Option ℕ) → p ≡ number_of o → cond b (Some x.number) p ≡ number_of (cond b (Some x) o)
taken true x o p e = refl
taken false x o p e = e

pub after_in : (rows : List OpenRow) (entry n : ℕ) → find (nat_lt n) (numbers_in rows (Entry entry)) ≡ open_on_entry_after rows entry n
after_in [] entry n = refl
after_in (x ∷ rows) entry n =
    let rest = after_in rows entry n in
    elim (x.entry == entry) as (λ b. find (nat_lt n) (open_numbers (cond b (x ∷ filter (is_in (Entry entry)) rows) (filter (is_in (Entry entry)) rows))) ≡ number_of (cond (b && nat_lt n x.number) (Some x) (find (λ row. row.entry == entry && nat_lt n row.number) rows))) [
      | true ↦ taken (nat_lt n x.number) x (find (λ row. row.entry == entry && nat_lt n row.number) rows) (find (nat_lt n) (numbers_in rows (Entry entry))) rest
      | false ↦ rest
    ]

-- ---- an open more

pub numbers_below : (rows : List OpenRow) (key : GroupKey) (n : ℕ) → AreAllBelow n rows → AreNumbersBelow n (numbers_in rows key)
numbers_below [] key n b = tt
numbers_below (x ∷ rows) key n b =
    elim (is_in key x) as (λ v. AreNumbersBelow n (open_numbers (cond v (x ∷ filter (is_in key) rows) (filter (is_in key) rows)))) [
      | true ↦ (b.0, numbers_below rows key n b.1)
      | false ↦ numbers_below rows key n b.1
    ]

cons_added : (b : Bool) (m n : ℕ) (xs ys : List ℕ) → xs ≡ cond b (ys ++ n ∷ []) ys → m ∷ xs ≡ cond b ((m ∷ ys) ++ n ∷ []) (m ∷ ys)
cons_added true m n xs ys e = ap (λ (ks : List ℕ). m ∷ ks) e
cons_added false m n xs ys e = ap (λ (ks : List ℕ). m ∷ ks) e

pub numbers_pushed : (rows : List OpenRow) (row : OpenRow) (key : GroupKey) → numbers_in (rows ++ row ∷ []) key ≡ noted (numbers_in rows) row key
numbers_pushed [] row key =
    elim (is_in key row) as (λ b. open_numbers (cond b (row ∷ []) []) ≡ cond b (row.number ∷ []) []) [ true ↦ refl | false ↦ refl ]
numbers_pushed (x ∷ rows) row key =
    let rest = numbers_pushed rows row key in
    elim (is_in key x) as (λ b. open_numbers (cond b (x ∷ filter (is_in key) (rows ++ row ∷ [])) (filter (is_in key) (rows ++ row ∷ []))) ≡ cond (is_in key row) (open_numbers (cond b (x ∷ filter (is_in key) rows) (filter (is_in key) rows)) ++ row.number ∷ []) (open_numbers (cond b (x ∷ filter (is_in key) rows) (filter (is_in key) rows)))) [
      | true ↦ cons_added (is_in key row) x.number row.number (numbers_in (rows ++ row ∷ []) key) (numbers_in rows key) rest
      | false ↦ rest
    ]

-- ---- an open less

above_without : (n : ℕ) (ks : List ℕ) → AllByRecursion (λ j. n < j) ks → without_number n ks ≡ ks
above_without n [] a = refl
above_without n (k ∷ ks) a =
    let other : (k == n) ≡ false = (let above = a.0 in grind (arith, nat_tests, above)) in
    rw other (ap (λ (rest : List ℕ). k ∷ rest) (above_without n ks a.1))

above_in : (rows : List OpenRow) (key : GroupKey) (n : ℕ) → AllByRecursion (λ j. n < j) (open_numbers rows) → AllByRecursion (λ j. n < j) (numbers_in rows key)
above_in [] key n a = tt
above_in (x ∷ rows) key n a =
    elim (is_in key x) as (λ b. AllByRecursion (λ (j : ℕ). n < j) (open_numbers (cond b (x ∷ filter (is_in key) rows) (filter (is_in key) rows)))) [
      | true ↦ (a.0, above_in rows key n a.1)
      | false ↦ above_in rows key n a.1
    ]

itself : (n : ℕ) → (n == n) ≡ true
itself n = grind (arith, nat_tests)

other_test : (m n k : ℕ) → k ≡ n → (m == n) ≡ false → (m == k) ≡ false
other_test m n k e t = ap (λ (j : ℕ). m == j) e ∙ t

-- the first open goes
first_gone : (x : OpenRow) (rows : List OpenRow) (key : GroupKey) → AllByRecursion (λ j. x.number < j) (open_numbers rows) → numbers_in rows key ≡ forgotten (numbers_in (x ∷ rows)) x key
first_gone x rows key a =
    elim (is_in key x) as (λ b. numbers_in rows key ≡ cond b (without_number x.number (open_numbers (cond b (x ∷ filter (is_in key) rows) (filter (is_in key) rows)))) (open_numbers (cond b (x ∷ filter (is_in key) rows) (filter (is_in key) rows)))) [
      | true ↦ (let same = itself x.number in rw same (sym (above_without x.number (numbers_in rows key) (above_in rows key x.number a))))
      | false ↦ refl
    ]

cons_taken : (b : Bool) (m n : ℕ) (xs ys : List ℕ) → (m == n) ≡ false → xs ≡ cond b (without_number n ys) ys → m ∷ xs ≡ cond b (without_number n (m ∷ ys)) (m ∷ ys)
cons_taken true m n xs ys t e = rw t (ap (λ (ks : List ℕ). m ∷ ks) e)
cons_taken false m n xs ys t e = ap (λ (ks : List ℕ). m ∷ ks) e

pub numbers_removed : (rows : List OpenRow) (n : ℕ) (row : OpenRow) (key : GroupKey) → AreRising (open_numbers rows) → row.number ≡ n → open_of rows n ≡ Some row → numbers_in (without_open n rows) key ≡ forgotten (numbers_in rows) row key
numbers_removed [] n row key r e f = cc
numbers_removed (x ∷ rows) n row key r e f =
    elim (x.number == n) as (λ b. (x.number == n) ≡ b → cond b (Some x) (open_of rows n) ≡ Some row → numbers_in (cond (not b) (x ∷ without_open n rows) (without_open n rows)) key ≡ forgotten (numbers_in (x ∷ rows)) row key) [
      | true ↦ λ t g. (
          let same : x ≡ row = cc in
          let number : x.number ≡ n = grind (arith, nat_tests, t) in
          let kept : without_open n rows ≡ rows = kept_above n rows (subst (λ (k : ℕ). AllByRecursion (λ j. k < j) (open_numbers rows)) number r.0) in
          ap (λ (left : List OpenRow). numbers_in left key) kept ∙ first_gone x rows key r.0 ∙ ap (λ (y : OpenRow). forgotten (numbers_in (x ∷ rows)) y key) same)
      | false ↦ λ t g. (
          let rest = numbers_removed rows n row key r.1 e g in
          let other = other_test x.number n row.number e t in
          elim (is_in key x) as (λ b. open_numbers (cond b (x ∷ filter (is_in key) (without_open n rows)) (filter (is_in key) (without_open n rows))) ≡ cond (is_in key row) (without_number row.number (open_numbers (cond b (x ∷ filter (is_in key) rows) (filter (is_in key) rows)))) (open_numbers (cond b (x ∷ filter (is_in key) rows) (filter (is_in key) rows)))) [
            | true ↦ cons_taken (is_in key row) x.number row.number (numbers_in (without_open n rows) key) (numbers_in rows key) other rest
            | false ↦ rest
          ])
    ] refl f

-- ---- an open's scan

in_scanned : (key : GroupKey) (x : OpenRow) (scan : Scan) → is_in key (record x { scan = scan }) ≡ is_in key x
in_scanned (Entry entry) x scan = refl
in_scanned (Session session) x scan = refl
in_scanned (Tree session tree) x scan = refl

same_numbers : (b c : Bool) (x y : OpenRow) (xs ys : List OpenRow) → b ≡ c → x.number ≡ y.number → open_numbers xs ≡ open_numbers ys → open_numbers (cond b (x ∷ xs) xs) ≡ open_numbers (cond c (y ∷ ys) ys)
same_numbers true true x y xs ys q e f = λ i. e i ∷ f i
same_numbers true false x y xs ys q e f = cc
same_numbers false true x y xs ys q e f = cc
same_numbers false false x y xs ys q e f = f

pub numbers_scanned : (rows : List OpenRow) (n : ℕ) (scan : Scan) (key : GroupKey) → numbers_in (with_scan n scan rows) key ≡ numbers_in rows key
numbers_scanned [] n scan key = refl
numbers_scanned (x ∷ rows) n scan key =
    let rest = numbers_scanned rows n scan key in
    elim (x.number == n) as (λ b. numbers_in (cond b (record x { scan = scan }) x ∷ with_scan n scan rows) key ≡ numbers_in (x ∷ rows) key) [
      | true ↦ same_numbers (is_in key (record x { scan = scan })) (is_in key x) (record x { scan = scan }) x (filter (is_in key) (with_scan n scan rows)) (filter (is_in key) rows) (in_scanned key x scan) refl rest
      | false ↦ same_numbers (is_in key x) (is_in key x) x x (filter (is_in key) (with_scan n scan rows)) (filter (is_in key) rows) refl refl rest
    ]
