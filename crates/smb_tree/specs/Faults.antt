-- Why a change of a tree is refused: the first reason that holds. Want of memory stands apart.
use Rattle.std.specs.Prelude.{ℕ, ◌+◌, ◌-◌, max, not, ◌&&◌, ◌||◌, ◌==◌, false, nat_le, nat_lt, is_some, if◌then◌else◌, length, Option, None, Some}
use Rattle.std.specs.List.{list_any}
use Rattle.std.specs.Option.{option_map_or}
use Rattle.smb_wire.specs.Limits.{most_components}
use Rattle.smb_wire.specs.Counters.{is_spent}
use Rattle.smb_tree.specs.declared.fault.TreeFault.{TreeFault}
use Rattle.smb_tree.specs.declared.fault.TreeFault.TheVariants.{Absent, ParentAbsent, Exists, NotEmpty, TooDeep, Full}
use Rattle.smb_tree.specs.Entries.{Entry, is_folder, is_folder_kind}
use Rattle.smb_tree.specs.Content.{Path, Row, Content, entry_at, numbered, parent, used_space, changed_in, resized, bytes_of}
use Rattle.smb_tree.specs.Children.{is_child}
use Rattle.smb_tree.specs.Moves.{is_within, replaced}

-- of an entry that would be added at a path: the folder around that is there, and no entry at it; besides the root there
-- are fewer entries than the limits let be, and a number is left. (The path of a name has at most 32 components.)
abbrev pub add_fault : Content → Path → Option TreeFault
add_fault content path =
    if not (is_folder (entry_at content.rows (parent path))) then Some ParentAbsent else
    if is_some (entry_at content.rows path) then Some Exists else
    if nat_le content.limits.entries (length content.rows - 1) || is_spent 64 content.next then Some Full else None

-- of a size that an entry would get: it is within the limit of a file, and the space used afterwards is within the
-- capacity; a folder has no bytes
abbrev pub size_fault : Content → ℕ → ℕ → Option TreeFault
size_fault content number size = option_map_or
    (λ (row : Row).
    let after = changed_in (λ entry. record entry { bytes = resized size entry.bytes }) content number in
    if is_folder_kind row.1.kind then Some Absent else
    if nat_lt content.limits.file_bytes size || nat_lt content.capacity (used_space after.rows) then Some Full else None)
    (numbered content.rows number) (Some Absent)

-- of times and attributes or a mark that an entry would get, and of an entry that would be copied
abbrev pub basic_fault : Content → ℕ → Option TreeFault
basic_fault content number = if is_some (numbered content.rows number) then None else Some Absent

-- of a file that would be read: a folder has no bytes
abbrev pub read_fault : Content → ℕ → Option TreeFault
read_fault content number = option_map_or (λ (row : Row). if is_folder_kind row.1.kind then Some Absent else None)
    (numbered content.rows number) (Some Absent)

-- of so many bytes that would be put into a file at an offset: that of the size which the file would get
abbrev pub write_fault : Content → ℕ → ℕ → ℕ → Option TreeFault
write_fault content number offset count =
    size_fault content number (max (length (bytes_of content.rows number)) (offset + count))

-- of an entry that would be removed: one in which others stand stays
abbrev pub remove_fault : Content → ℕ → Option TreeFault
remove_fault content number = option_map_or
    (λ (row : Row). if list_any (is_child row.0) content.rows then Some NotEmpty else None)
    (numbered content.rows number) (Some Absent)

-- of an entry that would be moved to a path: the folder around that is there and outside of what is moved, no folder is
-- replaced but the entry itself, and no path gets more than 32 components ([MS-FSA] 2.1.5.15.11)
abbrev pub move_fault : Content → ℕ → Path → Option TreeFault
move_fault content number to = option_map_or
    (λ (moving : Row).
    let from = moving.0 in
    let is_other_folder = λ (entry : Entry). is_folder_kind entry.kind && not (entry.number == number) in
    let is_too_deep = λ (row : Row). is_within from row.0 && nat_lt most_components (length (replaced from to row.0)) in
    if not (is_folder (entry_at content.rows (parent to))) || is_within from (parent to) then Some ParentAbsent else
    if option_map_or is_other_folder (entry_at content.rows to) false then Some Exists else
    if list_any is_too_deep content.rows then Some TooDeep else None)
    (numbered content.rows number) (Some Absent)
