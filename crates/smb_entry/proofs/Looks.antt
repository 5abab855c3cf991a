-- All opens, one after the other.
use Rattle.std.proofs.Common.{◌≡◌, ◌==◌, ◌<◌, ℕ, List, [], ◌∷◌, Bool, true, false, cond, ◌&&◌, nat_lt, Option, None, Some, refl, sym, ap, subst, arith, ◌∙◌}
use Rattle.std.proofs.lemmas.Bool.Decides.{nat_tests}
use Rattle.std.specs.List.{AllByRecursion, list_any}
use Rattle.smb_access.specs.declared.open_row.OpenRow.{OpenRow}
use Rattle.smb_access.specs.Numbers.{AreRising}
use Rattle.smb_access.specs.Opens.{open_of, open_numbers, open_after}
use Rattle.smb_access.proofs.Seen.{found_above, left_after, fewer_from, some_left}

-- how far the opens were looked at: the next is that of this number, or none is left; none before it counts
abbrev pub IsLooked : (OpenRow → Bool) → List OpenRow → Option ℕ → Type 0
IsLooked p rows None = list_any p rows ≡ false
IsLooked p rows (Some n) = (list_any (λ row. p row && nat_lt row.number n) rows ≡ false) × ((row : OpenRow) × (open_of rows n ≡ Some row))

none_below : (p : OpenRow → Bool) (rows : List OpenRow) (n : ℕ) → AllByRecursion (λ k. n < k) (open_numbers rows) → list_any (λ row. p row && nat_lt row.number n) rows ≡ false
none_below p [] n h = refl
none_below p (x ∷ rows) n h = grind (arith, nat_tests, h.0, none_below p rows n h.1)

here : (p : OpenRow → Bool) (x : OpenRow) (rows : List OpenRow) → AllByRecursion (λ k. x.number < k) (open_numbers rows) → IsLooked p (x ∷ rows) (Some x.number)
here p x rows h =
    let none = none_below p rows x.number h in
    let same : x.number == x.number ≡ true = grind (arith, nat_tests) in
    (grind (arith, nat_tests, none), (x, rw same refl))

pub first_looked : (p : OpenRow → Bool) (rows : List OpenRow) → AreRising (open_numbers rows) → IsLooked p rows (open_after rows None)
first_looked p [] r = refl
first_looked p (x ∷ rows) r = here p x rows r.0

-- where all are above a number, the next above it is the first
above_looked : (p : OpenRow → Bool) (rows : List OpenRow) (n : ℕ) → AreRising (open_numbers rows) → AllByRecursion (λ k. n < k) (open_numbers rows) → IsLooked p rows (open_after rows (Some n))
above_looked p [] n r h = refl
above_looked p (x ∷ rows) n r h =
    let above : nat_lt n x.number ≡ true = grind (arith, nat_tests, h.0) in
    rw above (here p x rows r.0)

-- an open that does not count is passed
pass : (p : OpenRow → Bool) (x : OpenRow) (rows : List OpenRow) (next : Option ℕ) → p x ≡ false → AllByRecursion (λ k. x.number < k) (open_numbers rows) → IsLooked p rows next → IsLooked p (x ∷ rows) next
pass p x rows None e h s = rw e s
pass p x rows (Some n) e h s =
    let above : x.number < n = found_above rows x.number n s.1.0 h s.1.1 in
    let other : x.number == n ≡ false = grind (arith, nat_tests, above) in
    (rw e s.0, (s.1.0, rw other s.1.1))

next_looked : (p : OpenRow → Bool) (rows : List OpenRow) (n : ℕ) (row : OpenRow) → AreRising (open_numbers rows) → list_any (λ row. p row && nat_lt row.number n) rows ≡ false → open_of rows n ≡ Some row → p row ≡ false → IsLooked p rows (open_after rows (Some n))
next_looked p [] n row r h e q = refl
next_looked p (x ∷ rows) n row r h e q =
    elim (x.number == n) as (λ b. x.number == n ≡ b → (cond b (Some x) (open_of rows n)) ≡ Some row → IsLooked p (x ∷ rows) (open_after (x ∷ rows) (Some n))) [
      | true ↦ λ t f. (let same : x ≡ row = cc in let none : p x ≡ false = ap p same ∙ q in let number : x.number ≡ n = grind (arith, nat_tests, t) in let not_above : nat_lt n x.number ≡ false = grind (arith, nat_tests, number) in rw not_above (pass p x rows (open_after rows (Some n)) none r.0 (above_looked p rows n r.1 (subst (λ (m : ℕ). AllByRecursion (λ k. m < k) (open_numbers rows)) number r.0))))
      | false ↦ λ t f. (let above : x.number < n = found_above rows x.number n row r.0 f in let lt : nat_lt x.number n ≡ true = grind (arith, nat_tests, above) in let not_above : nat_lt n x.number ≡ false = grind (arith, nat_tests, above) in let off : p x ≡ false = grind (arith, lt, h) in rw not_above (pass p x rows (open_after rows (Some n)) off r.0 (next_looked p rows n row r.1 (grind (arith, h)) f q)))
    ] refl e

-- an open that is found counts
pub hit : (p : OpenRow → Bool) (rows : List OpenRow) (n : ℕ) (row : OpenRow) → open_of rows n ≡ Some row → p row ≡ true → list_any p rows ≡ true
hit p [] n row e q = cc
hit p (x ∷ rows) n row e q =
    elim (x.number == n) as (λ b. (cond b (Some x) (open_of rows n)) ≡ Some row → list_any p (x ∷ rows) ≡ true) [
      | true ↦ λ f. (let same : x ≡ row = cc in let yes : p x ≡ true = ap p same ∙ q in rw yes refl)
      | false ↦ λ f. (let rest = hit p rows n row f q in grind (arith, rest))
    ] e

-- the next open exists
pub looked_there : (p : OpenRow → Bool) (rows : List OpenRow) (next : Option ℕ) (n : ℕ) → IsLooked p rows next → next ≡ Some n → (row : OpenRow) × (open_of rows n ≡ Some row)
looked_there p rows next n s e = (let t : IsLooked p rows (Some n) = subst (IsLooked p rows) e s in t.1)

-- an open that is looked at, and does not count
pub passed_looked : (p : OpenRow → Bool) (rows : List OpenRow) (next after : Option ℕ) (n : ℕ) (row : OpenRow) → AreRising (open_numbers rows) → IsLooked p rows next → next ≡ Some n → open_of rows n ≡ Some row → p row ≡ false → after ≡ open_after rows (Some n) → IsLooked p rows after
passed_looked p rows next after n row r s e f q a =
    let t : IsLooked p rows (Some n) = subst (IsLooked p rows) e s in
    subst (IsLooked p rows) (sym a) (next_looked p rows n row r t.0 f q)

-- none is left
pub none_looked : (p : OpenRow → Bool) (rows : List OpenRow) (next : Option ℕ) → IsLooked p rows next → next ≡ None → false ≡ list_any p rows
none_looked p rows next s e = (let t : IsLooked p rows None = subst (IsLooked p rows) e s in sym t)

-- the number above is above
after_above : (rows : List OpenRow) (n m : ℕ) → open_after rows (Some n) ≡ Some m → n < m
after_above [] n m e = cc
after_above (x ∷ rows) n m e = grind (arith, nat_tests, e, after_above rows n m)

pub fewer_left : (rows : List OpenRow) (n : ℕ) (next after : Option ℕ) (row : OpenRow) → next ≡ Some n → open_of rows n ≡ Some row → after ≡ open_after rows (Some n) → left_after rows after < left_after rows next
fewer_left rows n next None row s e a = rw s (some_left rows n row e)
fewer_left rows n next (Some m) row s e a = rw s (fewer_from rows n m row e (after_above rows n m (sym a)))
