-- The opens one after the other, by their numbers.
use Rattle.std.proofs.Common.{◌≡◌, ◌<◌, ◌≤◌, ℕ, List, [], ◌∷◌, nat_le, length, Option, None, Some, filter, arith}
use Rattle.std.proofs.lemmas.Bool.Decides.{nat_tests}
use Rattle.std.specs.List.{AllByRecursion}
use Rattle.smb_access.specs.declared.open_row.OpenRow.{OpenRow}
use Rattle.smb_access.specs.Opens.{open_of, open_numbers}

-- an open that is found among opens above a number has a number above it
pub found_above : (rows : List OpenRow) (m n : ℕ) (row : OpenRow) → AllByRecursion (λ k. m < k) (open_numbers rows) → open_of rows n ≡ Some row → m < n
found_above [] m n row h e = cc
found_above (x ∷ rows) m n row h e = grind (arith, nat_tests, h.0, e, found_above rows m n row h.1)

-- a measure: how many opens are not yet passed
abbrev pub left_after : List OpenRow → Option ℕ → ℕ
left_after rows None = 0
left_after rows (Some n) = length (filter (λ row. nat_le n row.number) rows)

fewer_above : (rows : List OpenRow) (n m : ℕ) → n < m → length (filter (λ row. nat_le m row.number) rows) ≤ length (filter (λ row. nat_le n row.number) rows)
fewer_above [] n m h = omega arith
fewer_above (x ∷ rows) n m h = grind (arith, nat_tests, h, fewer_above rows n m h)

pub fewer_from : (rows : List OpenRow) (n m : ℕ) (row : OpenRow) → open_of rows n ≡ Some row → n < m → length (filter (λ row. nat_le m row.number) rows) < length (filter (λ row. nat_le n row.number) rows)
fewer_from [] n m row e h = cc
fewer_from (x ∷ rows) n m row e h = grind (arith, nat_tests, e, h, fewer_above rows n m h, fewer_from rows n m row)

pub some_left : (rows : List OpenRow) (n : ℕ) (row : OpenRow) → open_of rows n ≡ Some row → 0 < length (filter (λ row. nat_le n row.number) rows)
some_left [] n row e = cc
some_left (x ∷ rows) n row e = grind (arith, nat_tests, e, some_left rows n row)
