-- A content as a finite map from paths to entries, and what holds between paths and numbers.
use Rattle.std.specs.Prelude.{◌≡◌, ℕ, ◌<◌, ◌++◌, ◌∷◌, List, [], None, Some}
use Rattle.std.specs.List.{AllByRecursion}
use Rattle.std.specs.Ordering.{nat_cmp}
use Rattle.std.specs.Cmp.Lexicographic.{slice_cmp}
use Rattle.std.specs.declared.cmp.Ordering.{Ordering}
use Rattle.std.specs.FinMap.{FinMap, from_entries, get, insert, remove}
use Rattle.smb_tree.specs.Entries.{Entry}
use Rattle.smb_tree.specs.Content.{Path, Row, entry_at, numbered, changed, without}

-- the order of paths: component by component, each by its units
abbrev pub path_order : Path → Path → Ordering
path_order = slice_cmp (slice_cmp nat_cmp)

-- the entries as a finite map from their paths
abbrev pub as_map : List Row → FinMap path_order Entry
as_map rows = from_entries rows

-- no path and no number stands twice
abbrev pub AreApart : List Row → Type 0
AreApart [] = Unit {0}
AreApart (row ∷ rows) = (entry_at rows row.0 ≡ None) × (numbered rows row.1.number ≡ None) × AreApart rows

-- the entry at a path is that of the map; an entry at a path where there was none is one more in it; and where no path
-- and no number is there twice, a change of the entry of a number is one of the map at its path alone, and a removal takes
-- this entry out of the map, and no other
abbrev pub EntriesAreAMap : Type 0
EntriesAreAMap =
    (rows : List Row) (path : Path) →
    (get (as_map rows) path ≡ entry_at rows path)
    × ((entry : Entry) → entry_at rows path ≡ None →
    as_map (rows ++ (path, entry) ∷ []) ≡ insert (as_map rows) path entry)
    × (AreApart rows → (number : ℕ) (entry : Entry) → numbered rows number ≡ Some (path, entry) →
    ((change : Entry → Entry) → as_map (changed change rows number) ≡ insert (as_map rows) path (change entry))
    × (as_map (without rows number) ≡ remove (as_map rows) path))

-- the entry at a path is the one of its number, and the entry of a number is the one at its path
abbrev pub PathsAndNumbersAgree : Type 0
PathsAndNumbersAgree =
    (rows : List Row) (path : Path) (entry : Entry) → AreApart rows →
    (entry_at rows path ≡ Some entry → numbered rows entry.number ≡ Some (path, entry)) ×
    ((number : ℕ) → numbered rows number ≡ Some (path, entry) → entry_at rows path ≡ Some entry)

-- paths and numbers stay apart: with an addition under a number above all, at a path where there was no entry; with a
-- change that leaves the number; and with a removal
abbrev pub PathsAndNumbersStayApart : Type 0
PathsAndNumbersStayApart =
    (rows : List Row) → AreApart rows →
    ((path : Path) (entry : Entry) → AllByRecursion (λ row. row.1.number < entry.number) rows →
    entry_at rows path ≡ None → AreApart (rows ++ (path, entry) ∷ []))
    × ((change : Entry → Entry) (number : ℕ) → ((entry : Entry) → (change entry).number ≡ entry.number) →
    AreApart (changed change rows number))
    × ((number : ℕ) → AreApart (without rows number))
