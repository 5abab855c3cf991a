-- The space that entries use, before and after a change of one.
use Rattle.std.proofs.Common.{◌≡◌, ℕ, zero, suc, ◌+◌, ◌<◌, ◌≤◌, List, [], ◌∷◌, ◌++◌, length, get_or, sum_by, Some, ap, arith}
use Rattle.std.specs.List.{remove}
use Rattle.std.proofs.lemmas.List.Sums.{sum_by-cons, sum_by_push}
use Rattle.smb_tree.specs.declared.stored.Stored.{Stored}
use Rattle.smb_tree.specs.Entries.{Entry, allocation_size}
use Rattle.smb_tree.specs.Plain.{row_of, rows_of}
use Rattle.smb_tree.specs.Content.{Row, numbered, changed, used_space}

sum_changed : (g : Row → ℕ) (f : Entry → Entry) (rows : List Row) (n : ℕ) (row : Row) → numbered rows n ≡ Some row → sum_by g (changed f rows n) + g row ≡ sum_by g rows + g (row.0, f row.1)
sum_changed g f [] n row h = cc
sum_changed g f (x ∷ rows) n row h =
    grind (arith, h, sum_by-cons g x rows, sum_by-cons g (x.0, f x.1) rows, sum_by-cons g x (changed f rows n), sum_changed g f rows n row)

sum_within : (g : Row → ℕ) (rows : List Row) (n : ℕ) (row : Row) → numbered rows n ≡ Some row → g row ≤ sum_by g rows
sum_within g [] n row h = cc
sum_within g (x ∷ rows) n row h = grind (arith, h, sum_by-cons g x rows, sum_within g rows n row)

-- what the others use, with what the entry used, and with what it uses afterwards
pub space_changed : (f : Entry → Entry) (rows : List Row) (n : ℕ) (row : Row) → numbered rows n ≡ Some row → used_space (changed f rows n) + allocation_size (length row.1.bytes) ≡ used_space rows + allocation_size (length (f row.1).bytes)
space_changed f rows n row h = sum_changed (λ row. allocation_size (length row.1.bytes)) f rows n row h

pub space_within : (rows : List Row) (n : ℕ) (row : Row) → numbered rows n ≡ Some row → allocation_size (length row.1.bytes) ≤ used_space rows
space_within rows n row h = sum_within (λ row. allocation_size (length row.1.bytes)) rows n row h

pub space_more : (rows : List Row) (row : Row) → used_space (rows ++ row ∷ []) ≡ used_space rows + allocation_size (length row.1.bytes)
space_more rows row = sum_by_push (λ row. allocation_size (length row.1.bytes)) rows row

-- what is left without the entry at a place uses what that one did not
pub space_removed : (xs : List Stored) (i : ℕ) (x : Stored) → i < length xs → x ≡ get_or xs i x → used_space (rows_of (remove xs i)) + allocation_size (length x.bytes.items) ≡ used_space (rows_of xs)
space_removed [] i x h e = absurd (omega arith)
space_removed (y ∷ xs) zero x h e =
    let first = sum_by-cons (λ (row : Row). allocation_size (length row.1.bytes)) (row_of y) (rows_of xs) in
    let same = ap (λ (z : Stored). allocation_size (length z.bytes.items)) e in
    omega (arith, first, same)
space_removed (y ∷ xs) (suc i) x h e =
    let more = sum_by-cons (λ (row : Row). allocation_size (length row.1.bytes)) (row_of y) (rows_of xs) in
    let less = sum_by-cons (λ (row : Row). allocation_size (length row.1.bytes)) (row_of y) (rows_of (remove xs i)) in
    omega (arith, more, less, space_removed xs i x (omega arith) e)
