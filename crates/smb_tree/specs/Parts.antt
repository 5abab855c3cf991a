-- For the proofs; nothing here need be believed.
-- Steps of contents, children, moves and refusals, each with a name.
use Rattle.std.specs.Prelude.{ℕ, ◌<◌, ◌-◌, Bool, true, false, not, ◌&&◌, ◌||◌, ◌==◌, nat_le, nat_lt, is_some, if◌then◌else◌, List, [], ◌∷◌, length, map, filter, take, drop, Option, None, Some}
use Rattle.std.specs.List.{AllByRecursion, list_any}
use Rattle.std.specs.Option.{option_map_or}
use Rattle.smb_wire.specs.Counters.{is_spent}
use Rattle.smb_wire.specs.Limits.{most_components}
use Rattle.smb_wire.specs.Pairs.{unit_bytes}
use Rattle.smb_wire.specs.Paths.{folded_path, joined_by_separators}
use Rattle.smb_tree.specs.declared.entry.Basic.{Basic}
use Rattle.smb_tree.specs.declared.fault.TreeFault.{TreeFault}
use Rattle.smb_tree.specs.declared.fault.TreeFault.TheVariants.{Absent, ParentAbsent, Exists, NotEmpty, TooDeep, Full}
use Rattle.smb_tree.specs.Entries.{Entry, is_folder, is_folder_kind, kept_attributes, kept_basic, last_part}
use Rattle.smb_tree.specs.Content.{Path, Row, Content, is_same_path, entry_at, parent, used_space, bytes_of, changed_in, resized, without, written}
use Rattle.smb_tree.specs.Children.{name_of, is_child, is_before, first_by_name}
use Rattle.smb_tree.specs.Faults.{basic_fault}
use Rattle.smb_tree.specs.Good.{IsLawfulRow}
use Rattle.smb_tree.specs.Moves.{is_within, replaced}
use Rattle.smb_tree.specs.WholeNames.{spellings_from, Copied}

-- four times this moment, and the kept ones of these attributes
abbrev pub new_basic : ℕ → ℕ → Basic
new_basic attributes moment = record {
  creation_time = moment;
  last_access_time = moment;
  last_write_time = moment;
  change_time = moment;
  attributes = record { 0 = kept_attributes attributes };
}

-- the file of this number with another size
abbrev pub with_size : Content → ℕ → ℕ → Content
with_size content number size = changed_in (λ entry. record entry { bytes = resized size entry.bytes }) content number

-- the entry of this number with other times and attributes
abbrev pub with_basic : Content → ℕ → Basic → Content
with_basic content number basic = changed_in (λ entry. record entry { basic = kept_basic basic }) content number

-- the entry of this number marked, or its mark taken away
abbrev pub with_mark : Content → ℕ → Bool → Content
with_mark content number mark = changed_in (λ entry. record entry { mark = mark }) content number

-- the file of this number with bytes put at an offset
abbrev pub with_bytes : Content → ℕ → ℕ → List ℕ → Content
with_bytes content number offset buffer =
    changed_in (λ entry. record entry { bytes = written offset buffer entry.bytes }) content number

-- the entry of this number taken out
abbrev pub removed : Content → ℕ → Content
removed content number = record content { rows = without content.rows number }

-- of bytes those from an offset on, at most so many
abbrev pub part : ℕ → ℕ → List ℕ → List ℕ
part offset count bytes = take count (drop offset bytes)

-- what a read of the file of this number gives
abbrev pub bytes_read : List Row → ℕ → ℕ → ℕ → List ℕ
bytes_read rows number offset count = part offset count (bytes_of rows number)

-- each number is below the next
abbrev pub AreBelow : List Row → ℕ → Type 0
AreBelow rows next = AllByRecursion (λ row. row.1.number < next) rows

-- all entries are lawful
abbrev pub AreLawful : List Row → Type 0
AreLawful = AllByRecursion IsLawfulRow

-- whether entries stand in the folder at a path
abbrev pub has_children : List Row → Path → Bool
has_children rows folder = list_any (is_child folder) rows

-- whether a name comes after a given one; where none is given, each does
abbrev pub is_after : Option (List ℕ) → List ℕ → Bool
is_after after name = option_map_or (λ other. is_before other name) after true

-- the children of a folder whose names come after a given one
abbrev pub children_after : List Row → Path → Option (List ℕ) → List Row
children_after rows folder after = filter (λ row. is_child folder row && is_after after (name_of row)) rows

-- of an entry and perhaps another the one whose name comes first
abbrev pub first_of_two : Row → Option Row → Row
first_of_two row found = option_map_or (λ other. if is_before (name_of other) (name_of row) then other else row) found row

-- the child of the folder at a path whose name comes next after a given one, or first
abbrev pub next_child : List Row → Path → Option (List ℕ) → Option Row
next_child rows folder after = first_by_name (children_after rows folder after)

-- a row, and what follows it
abbrev pub and_on : (Option (List ℕ) → List Row) → Option Row → List Row
and_on rest found = option_map_or (λ row. row ∷ rest (Some (name_of row))) found []

-- an entry that stands at this path spelled as a path's last component, if it stands at `from` itself
abbrev pub respelled : Path → List (List ℕ) → Path → Entry → Entry
respelled from parts path entry = if is_same_path path from then record entry { spelling = last_part parts } else entry

-- a row once what is within `from` was moved to the path that these components spell
abbrev pub moved_row : Path → List (List ℕ) → Row → Row
moved_row from parts row = (replaced from (folded_path parts) row.0, respelled from parts row.0 row.1)

-- rows once what is within `from` was moved
abbrev pub renamed : Path → List (List ℕ) → List Row → List Row
renamed from parts = map (moved_row from parts)

-- the rows without the entry that stood where that of a number goes; where it is that one itself it stays
abbrev pub without_other : List Row → ℕ → Option Entry → List Row
without_other rows number target =
    option_map_or (λ (entry : Entry). if entry.number == number then rows else without rows entry.number) target rows

-- the row of a number, if there is one, moved with all that lies beneath it to the path that these components spell
abbrev pub moved_rows : List Row → ℕ → List (List ℕ) → Option Row → List Row
moved_rows rows number parts found = option_map_or
    (λ (row : Row). renamed row.0 parts (without_other rows number (entry_at rows (folded_path parts)))) found rows

-- how the entry at a path is spelled
abbrev pub spelling_at : List Row → Path → List ℕ
spelling_at rows path = option_map_or (λ entry. entry.spelling) (entry_at rows path) []

-- the whole name of the entry at a path: the spellings on the way from the root, a separator between each two
abbrev pub whole_name : List Row → Path → List ℕ
whole_name rows path = joined_by_separators (spellings_from rows [] path)

-- what is copied of an entry at its path
abbrev pub row_copied : List Row → Row → Copied
row_copied rows row = record {
  number = row.1.number;
  kind = row.1.kind;
  basic = row.1.basic;
  size = length row.1.bytes;
  mark = row.1.mark;
  name = unit_bytes (whole_name rows row.0);
}

-- of an entry that would be added at a path, by what stands where, how many entries there may be and are, and the next
-- number
abbrev pub add_fault_by : (Path → Option Entry) → ℕ → ℕ → ℕ → Path → Option TreeFault
add_fault_by entry_at_path most count next path =
    if not (is_folder (entry_at_path (parent path))) then Some ParentAbsent else
    if is_some (entry_at_path path) then Some Exists else
    if nat_le most (count - 1) || is_spent 64 next then Some Full else None

-- of a size that an entry would get
abbrev pub size_fault_of : Content → ℕ → ℕ → Option Row → Option TreeFault
size_fault_of content number size found = option_map_or
    (λ (row : Row). if is_folder_kind row.1.kind then Some Absent else
    if nat_lt content.limits.file_bytes size || nat_lt content.capacity (used_space (with_size content number size).rows)
    then Some Full else None) found (Some Absent)

-- of another mark that an entry would get
abbrev pub mark_fault : Content → ℕ → Option TreeFault
mark_fault = basic_fault

-- of a file that would be read
abbrev pub read_fault_of : Option Row → Option TreeFault
read_fault_of found = option_map_or (λ (row : Row). if is_folder_kind row.1.kind then Some Absent else None) found (Some Absent)

-- of an entry that would be removed
abbrev pub remove_fault_of : List Row → Option Row → Option TreeFault
remove_fault_of rows found =
    option_map_or (λ (row : Row). if has_children rows row.0 then Some NotEmpty else None) found (Some Absent)

-- of an entry that would be copied
abbrev pub copy_fault : Content → ℕ → Option TreeFault
copy_fault = basic_fault

-- whether there is a folder, and it isn't the entry of this number
abbrev pub is_other_folder : ℕ → Option Entry → Bool
is_other_folder number found =
    option_map_or (λ (entry : Entry). is_folder_kind entry.kind && not (entry.number == number)) found false

-- whether what is within `from` would have a path of more than 32 components once it was moved to `to`
abbrev pub would_be_too_deep : List Row → Path → Path → Bool
would_be_too_deep rows from to =
    list_any (λ row. is_within from row.0 && nat_lt most_components (length (replaced from to row.0))) rows

-- of the entry of a number at `from` that would be moved to `to`
abbrev pub move_fault_between : List Row → ℕ → Path → Path → Option TreeFault
move_fault_between rows number from to =
    if not (is_folder (entry_at rows (parent to))) || is_within from (parent to) then Some ParentAbsent else
    if is_other_folder number (entry_at rows to) then Some Exists else
    if would_be_too_deep rows from to then Some TooDeep else None

-- of the entry of a number, if there is one, that would be moved
abbrev pub move_fault_of : List Row → ℕ → Path → Option Row → Option TreeFault
move_fault_of rows number to found =
    option_map_or (λ (row : Row). move_fault_between rows number row.0 to) found (Some Absent)
