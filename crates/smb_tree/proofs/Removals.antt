-- What a removal leaves at a path, at a number and of the space.
use Rattle.std.proofs.Common.{◌≡◌, ℕ, ◌+◌, ◌==◌, true, false, if◌then◌else◌, List, [], ◌∷◌, length, sum_by, Some, None, refl, arith}
use Rattle.std.proofs.lemmas.List.Sums.{sum_by-cons}
use Rattle.smb_tree.specs.Entries.{Entry, allocation_size}
use Rattle.smb_tree.specs.Content.{Path, Row, is_same_path, entry_at, numbered, without, used_space}
use Rattle.smb_tree.specs.Laws.{AreApart}
use Rattle.smb_tree.proofs.Keys.{same_path-eq}
use Rattle.smb_tree.proofs.Apart.{at-from_numbered}

pub at-without : (es : List Row) (p q : Path) (e : Entry) (n : ℕ) → AreApart es → numbered es n ≡ Some (p, e) → entry_at (without es n) q ≡ (if is_same_path p q then None else entry_at es q)
at-without [] p q e n a h = cc
at-without (x ∷ es) p q e n a h = grind (arith, a.0, a.1, a.2, h, same_path-eq p q, same_path-eq x.0 q, at-from_numbered es p e n a.2, at-without es p q e n a.2)

pub at-without_none : (es : List Row) (p : Path) (n : ℕ) → entry_at es p ≡ None → entry_at (without es n) p ≡ None
at-without_none [] p n h = refl
at-without_none (x ∷ es) p n h = grind (arith, h, at-without_none es p n)

numbered-without_none : (es : List Row) (m n : ℕ) → numbered es m ≡ None → numbered (without es n) m ≡ None
numbered-without_none [] m n h = refl
numbered-without_none (x ∷ es) m n h = grind (arith, h, numbered-without_none es m n)

pub apart_removed : (es : List Row) (n : ℕ) → AreApart es → AreApart (without es n)
apart_removed [] n a = tt
apart_removed (x ∷ es) n a =
    elim (x.1.number == n) as (λ b. AreApart (if b then es else x ∷ without es n)) [
      | true ↦ a.2
      | false ↦ (at-without_none es x.0 n a.0, numbered-without_none es x.1.number n a.1, apart_removed es n a.2)
    ]

sum_without : (g : Row → ℕ) (rows : List Row) (n : ℕ) (row : Row) → numbered rows n ≡ Some row → sum_by g (without rows n) + g row ≡ sum_by g rows
sum_without g [] n row h = cc
sum_without g (x ∷ rows) n row h = grind (arith, h, sum_by-cons g x rows, sum_by-cons g x (without rows n), sum_without g rows n row)

-- what is left uses what the removed entry did not
pub space_without : (rows : List Row) (n : ℕ) (row : Row) → numbered rows n ≡ Some row → used_space (without rows n) + allocation_size (length row.1.bytes) ≡ used_space rows
space_without rows n row h = sum_without (λ row. allocation_size (length row.1.bytes)) rows n row h
