-- A move: an entry, with all that lies beneath it, gets another path ([MS-FSA] 2.1.5.15.11, FileRenameInformation).
use Rattle.std.specs.Prelude.{ℕ, Bool, false, ◌==◌, nat_eq, is_some, if◌then◌else◌, List, [], ◌∷◌, ◌++◌, map, Option, None, Some}
use Rattle.std.specs.Option.{option_map_or}
use Rattle.std.specs.Cmp.Lexicographic.{pointwise}
use Rattle.smb_wire.specs.Paths.{folded_path}
use Rattle.smb_tree.specs.Entries.{Entry, last_part}
use Rattle.smb_tree.specs.Content.{Path, Row, Content, is_same_path, entry_at, numbered, without}

-- what of a path is left behind another one that stands at its head
abbrev pub rest_behind : Path → Path → Option Path
rest_behind [] path = Some path
rest_behind (name ∷ head) [] = None
rest_behind (name ∷ head) (other ∷ path) = if pointwise nat_eq name other then rest_behind head path else None

-- whether a path is another one, or lies beneath it
abbrev pub is_within : Path → Path → Bool
is_within head path = is_some (rest_behind head path)

-- whether the entry of one number is that of another, or lies beneath it; neither where one of them is not there
abbrev pub is_row_within : Option Row → Option Row → Bool
is_row_within None row = false
is_row_within (Some head) None = false
is_row_within (Some head) (Some row) = is_within head.0 row.0

-- a path with `from` at its head replaced by `to`; one that isn't within `from` as it is
abbrev pub replaced : Path → Path → Path → Path
replaced from to path = option_map_or (λ rest. to ++ rest) (rest_behind from path) path

-- the entry of a number moved, with all that lies beneath it, to the path that these components spell, the last of which
-- spells it: another entry (a file) at that path is gone; numbers, bytes, times, attributes, marks and the order of the
-- rows stay; where no entry has the number, nothing is moved
abbrev pub moved : Content → ℕ → List (List ℕ) → Content
moved content number parts =
    let rows = content.rows in
    let to = folded_path parts in
    let others = option_map_or (λ (entry : Entry). if entry.number == number then rows else without rows entry.number)
    (entry_at rows to) rows in
    let moved_from : Path → Row → Row = λ from row. (
      replaced from to row.0,
      if is_same_path row.0 from then record row.1 { spelling = last_part parts } else row.1,
    ) in
    record content { rows = option_map_or (λ (row : Row). map (moved_from row.0) others) (numbered rows number) rows }
