-- Numbers that go into an ordered set above all others, and out of it.
use Rattle.std.proofs.Common.{◌≡◌, ◌==◌, ◌<◌, ℕ, slice_get, nat_lt, List, [], ◌∷◌, ◌++◌, refl, ap, arith}
use Rattle.std.proofs.lemmas.Bool.Decides.{nat_tests}
use Rattle.std.specs.declared.cmp.Ordering.TheVariants.{Equal, Greater}
use Rattle.std.specs.Ordering.{nat_cmp}
use Rattle.std.specs.Cmp.{nat_cmp_is}
use Rattle.std.specs.List.{AllByRecursion, filter, find}
use Rattle.std.specs.BTreeMap.Range.{range_contains}
use Rattle.std.specs.declared.ops.Bound.TheVariants.{Excluded, Unbounded}
use Rattle.std.specs.BTreeMap.{is_at, insert_entry}
use Rattle.std.specs.Map.{remove_entry}
use Rattle.smb_access.specs.Parts.{AreNumbersBelow}
use Rattle.smb_handles.specs.Groups.{without_number}

pub at_is : (n k : ℕ) → is_at (nat_cmp n) k ≡ (n == k)
at_is n k = grind (arith, nat_tests)

-- a number above all is not among them
pub not_among : (n : ℕ) (ks : List ℕ) → AreNumbersBelow n ks → without_number n ks ≡ ks
not_among n [] b = refl
not_among n (k ∷ ks) b = grind (arith, nat_tests, b.0, not_among n ks b.1)

-- and is taken away again after it was added
pub taken_back : (n : ℕ) (ks : List ℕ) → AreNumbersBelow n ks → without_number n (ks ++ n ∷ []) ≡ ks
taken_back n [] b = grind (arith, nat_tests)
taken_back n (k ∷ ks) b = grind (arith, nat_tests, b.0, taken_back n ks b.1)

pub insert_entry_last : (es : List (ℕ × ℕ)) (n s : ℕ) → AllByRecursion (λ (e : ℕ × ℕ). e.0 < n) es → insert_entry nat_cmp es n s ≡ es ++ (n, s) ∷ []
insert_entry_last [] n s u = refl
insert_entry_last (e ∷ es) n s u = rw (← nat_cmp_is n e.0 Greater u.0) (ap (λ (xs : List (ℕ × ℕ)). e ∷ xs) (insert_entry_last es n s u.1))

pub remove_entry_last : (es : List (ℕ × ℕ)) (n s : ℕ) → AllByRecursion (λ (e : ℕ × ℕ). e.0 < n) es → remove_entry (is_at (nat_cmp n)) (es ++ (n, s) ∷ []) ≡ es
remove_entry_last [] n s u = rw (← nat_cmp_is n n Equal refl) refl
remove_entry_last (e ∷ es) n s u = rw (← nat_cmp_is n e.0 Greater u.0) (ap (λ (xs : List (ℕ × ℕ)). e ∷ xs) (remove_entry_last es n s u.1))

-- the first entry above a number
pub first_entry_above : (es : List (ℕ × ℕ)) (n : ℕ) → slice_get (filter (λ (e : ℕ × ℕ). range_contains nat_cmp (Excluded n) Unbounded e.0) es) 0 ≡ find (λ (e : ℕ × ℕ). nat_lt n e.0) es
first_entry_above [] n = refl
first_entry_above (e ∷ es) n = grind (arith, nat_tests, first_entry_above es n)
