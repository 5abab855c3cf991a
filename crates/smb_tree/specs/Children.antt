-- Children: the entries that stand in a folder, in the order of their folded names ([MS-SMB2] 3.3.5.18).
use Rattle.std.specs.Prelude.{ℕ, Bool, true, ◌&&◌, nat_lt, if◌then◌else◌, List, [], ◌∷◌, length, filter, Option, None, Some}
use Rattle.std.specs.Option.{option_map, option_map_or, option_and_then}
use Rattle.std.specs.Ordering.{nat_cmp, is_lt}
use Rattle.std.specs.Cmp.Lexicographic.{slice_cmp}
use Rattle.smb_tree.specs.Entries.{last_part}
use Rattle.smb_tree.specs.Content.{Path, Row, is_same_path, numbered, parent}

-- an entry's name: the last component of its path, folded
abbrev pub name_of : Row → List ℕ
name_of row = last_part row.0

-- whether an entry stands in the folder at a path; the root stands in none
abbrev pub is_child : Path → Row → Bool
is_child folder row = nat_lt 0 (length row.0) && is_same_path (parent row.0) folder

-- whether a name comes before another: unit by unit, and of two where one begins the other the shorter
abbrev pub is_before : List ℕ → List ℕ → Bool
is_before left right = is_lt (slice_cmp nat_cmp left right)

-- of entries the one whose name comes first
abbrev pub first_by_name : List Row → Option Row
first_by_name [] = None
first_by_name (row ∷ rows) =
    let nearer = λ (other : Row). if is_before (name_of other) (name_of row) then other else row in
    Some (option_map_or nearer (first_by_name rows) row)

-- the number of the child of the entry of this number whose name comes next after a given one, or first where none is
-- given
abbrev pub child_after : List Row → ℕ → Option (List ℕ) → Option ℕ
child_after rows number after = option_and_then
    (λ (folder : Row).
    let comes_after = λ (row : Row). option_map_or (λ name. is_before name (name_of row)) after true in
    option_map (λ row. row.1.number) (first_by_name (filter (λ row. is_child folder.0 row && comes_after row) rows)))
    (numbered rows number)
