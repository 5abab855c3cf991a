-- What the calls of a tree change of its files: each is one change, a move one or two; and what the files tell.
use Rattle.std.specs.Prelude.{◌≡◌, ◌≢◌, ℕ, ◌==◌, if◌then◌else◌, Bool, List, [], ◌∷◌, ◌++◌, None, Some}
use Rattle.std.specs.List.{AllByRecursion}
use Rattle.std.specs.Option.{option_map_or}
use Rattle.smb_wire.specs.Paths.{folded_path}
use Rattle.smb_tree.specs.declared.entry.Basic.{Basic}
use Rattle.smb_tree.specs.declared.entry.Kind.{Kind}
use Rattle.smb_tree.specs.Entries.{kept_basic}
use Rattle.smb_tree.specs.Content.{Path, Row, Content, entry_at, numbered, number_at}
use Rattle.smb_tree.specs.Content.{added, changed_in, without, resized, written}
use Rattle.smb_tree.specs.Faults.{add_fault, remove_fault, move_fault}
use Rattle.smb_tree.specs.Moves.{moved}
use Rattle.smb_tree.specs.Good.{GoodContent, IsLawfulRow}
use Rattle.smb_files.specs.Files.{Change, sets, writes, resizes, removes, changed_by, replayed}
use Rattle.smb_files.specs.Contents.{about_of, parent_number, files_of}

-- the change by which the entry of a number is as it is in a content
abbrev pub entry_change : Content → ℕ → Change
entry_change content number = option_map_or
    (λ (row : Row). sets number (parent_number content.rows row) (about_of row.1))
    (numbered content.rows number) (removes number)

-- the changes of a move: the file that it replaces is gone, and the entry is where and as it then is
abbrev pub move_changes : Content → ℕ → List (List ℕ) → List Change
move_changes content number parts =
    let there = λ (other : ℕ). if other == number then [] else removes other ∷ [] in
    option_map_or there (number_at content.rows (folded_path parts)) []
    ++ entry_change (moved content number parts) number ∷ []

-- an addition is one change: the new entry
abbrev pub AnAdditionIsAChange : Type 0
AnAdditionIsAChange =
    (content : Content) (parts : List (List ℕ)) (kind : Kind) (attributes moment : ℕ) → GoodContent content →
    add_fault content (folded_path parts) ≡ None →
    let after = added content parts kind attributes moment in
    files_of after ≡ changed_by (files_of content) (entry_change after content.next)

-- bytes put at an offset are one change, and so is another size
abbrev pub AWriteIsAChange : Type 0
AWriteIsAChange =
    (content : Content) (number : ℕ) →
    ((offset : ℕ) (buffer : List ℕ) →
    files_of (changed_in (λ entry. record entry { bytes = written offset buffer entry.bytes }) content number)
    ≡ changed_by (files_of content) (writes number offset buffer))
    × ((size : ℕ) →
    files_of (changed_in (λ entry. record entry { bytes = resized size entry.bytes }) content number)
    ≡ changed_by (files_of content) (resizes number size))

-- other times and attributes, and a mark, are one change: the entry as it then is
abbrev pub ASettingIsAChange : Type 0
ASettingIsAChange =
    (content : Content) (number : ℕ) (row : Row) → GoodContent content → numbered content.rows number ≡ Some row →
    ((basic : Basic) →
    let after = changed_in (λ entry. record entry { basic = kept_basic basic }) content number in
    files_of after ≡ changed_by (files_of content) (entry_change after number))
    × ((mark : Bool) →
    let after = changed_in (λ entry. record entry { mark = mark }) content number in
    files_of after ≡ changed_by (files_of content) (entry_change after number))

-- a removal is one change: the entry is gone
abbrev pub ARemovalIsAChange : Type 0
ARemovalIsAChange =
    (content : Content) (number : ℕ) → GoodContent content → number ≢ 1 → remove_fault content number ≡ None →
    files_of (record content { rows = without content.rows number }) ≡ changed_by (files_of content) (removes number)

-- a move is one change, or two where it replaces a file, however much lies beneath the entry
abbrev pub AMoveIsAChange : Type 0
AMoveIsAChange =
    (content : Content) (number : ℕ) (parts : List (List ℕ)) → GoodContent content →
    move_fault content number (folded_path parts) ≡ None →
    files_of (moved content number parts) ≡ replayed (files_of content) (move_changes content number parts)

-- files tell all of a good and lawful content but its capacity, its limits and the order of its rows
abbrev pub FilesTellTheContent : Type 0
FilesTellTheContent =
    (one other : Content) → GoodContent one → GoodContent other →
    AllByRecursion IsLawfulRow one.rows → AllByRecursion IsLawfulRow other.rows → files_of one ≡ files_of other →
    ((path : Path) → entry_at one.rows path ≡ entry_at other.rows path) × (one.next ≡ other.next)
