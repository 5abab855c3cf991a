-- For the proofs; nothing here need be believed.
-- Steps of a CREATE, of a CLOSE and of what opens show, each with a name.
use Rattle.std.specs.Prelude.{ℕ, Bool, not, ◌==◌, ◌||◌, if◌then◌else◌, bit_and, ◌&&◌, true, List, false, Option, None, Some, ◌<◌, ◌≡◌, is_some}
use Rattle.smb_wire.specs.declared.access.Access.{Access}
use Rattle.smb_wire.specs.Access.{has_any, FILE_WRITE_ATTRIBUTES, FILE_SHARE_ALL}
use Rattle.smb_access.specs.Access.{is_past_reading}
use Rattle.smb_wire.specs.Dispositions.{overwrites_by, must_be_new_by, supersedes_by}
use Rattle.smb_wire.specs.CreateOptions.{FILE_DIRECTORY_FILE, FILE_NON_DIRECTORY_FILE, FILE_DELETE_ON_CLOSE, FILE_OPEN_BY_FILE_ID}
use Rattle.smb_wire.specs.Attributes.{FILE_ATTRIBUTE_READONLY}
use Rattle.smb_access.specs.Asked.{FileAsked, attributes_asked}
use Rattle.smb_tree.specs.Content.{Row, Content, changed, numbered}
use Rattle.smb_tree.specs.Parts.{has_children, with_mark, removed}
use Rattle.smb_access.specs.declared.open_row.OpenRow.{OpenRow}
use Rattle.smb_access.specs.Opens.{has_open, open_of}
use Rattle.smb_access.specs.Close.{has_mark, is_deletable}
use Rattle.smb_tree.specs.declared.entry.Basic.{Basic}
use Rattle.smb_tree.specs.declared.entry.Kind.TheVariants.{File}
use Rattle.smb_tree.specs.Entries.{kept_attributes, Entry}
use Rattle.smb_access.specs.declared.scan.Scan.{Scan}
use Rattle.smb_access.specs.declared.scan.ScanLast.TheVariants.{Start}
use Rattle.smb_wire.specs.declared.create_action.CreateAction.{CreateAction}
use Rattle.smb_wire.specs.declared.create_action.CreateAction.TheVariants.{Superseded, Opened, Overwritten}
use Rattle.smb_access.specs.Effect.{overwritten}
use Rattle.std.specs.List.{AllByRecursion, list_any}
use Rattle.smb_wire.specs.declared.access.ShareAccess.{ShareAccess}
use Rattle.smb_access.specs.Sharing.{is_conflict}
use Rattle.std.specs.Option.{option_map, option_map_or, option_and_then}
use Rattle.smb_access.specs.declared.view.View.{View}
use Rattle.smb_access.specs.Views.{view_of}

-- the rights that a session can be granted that may only read: FILE_GENERIC_READ and FILE_GENERIC_EXECUTE together
abbrev pub reader_access : ℕ
reader_access = 0x1200A9

-- no query was made yet
abbrev pub no_scan : Scan
no_scan = record { pattern = None; last = Start }

-- what the open is to share: of the mask three bits count ([MS-SMB2] 2.2.13)
abbrev pub share_asked : FileAsked → ShareAccess
share_asked ask = record { 0 = bit_and ask.share FILE_SHARE_ALL }

-- an entry's times and attributes may be set
abbrev pub is_writing_attributes : Access → Bool
is_writing_attributes access = has_any access.0 FILE_WRITE_ATTRIBUTES

-- nothing is asked for, or a bit that is not known
abbrev pub is_bad_access : ℕ → Bool
is_bad_access access = access == 0 || not (bit_and access 0xF21F01FF == access)

-- the rights that a generic right is mapped to, where its bit is set ([MS-SMB2] 2.2.13.1)
abbrev pub rights_for : ℕ → ℕ → ℕ → ℕ
rights_for access bit rights = if has_any access bit then rights else 0

-- a folder is asked for
abbrev pub asks_folder : FileAsked → Bool
asks_folder ask = has_any ask.options FILE_DIRECTORY_FILE

-- a file is asked for
abbrev pub asks_file : FileAsked → Bool
asks_file ask = has_any ask.options FILE_NON_DIRECTORY_FILE

-- the entry is asked for by its number
abbrev pub asks_by_number : FileAsked → Bool
asks_by_number ask = has_any ask.options FILE_OPEN_BY_FILE_ID

-- the entry is to be deleted when the open is closed
abbrev pub asks_delete : FileAsked → Bool
asks_delete ask = has_any ask.options FILE_DELETE_ON_CLOSE

-- FILE_ATTRIBUTE_READONLY is given
abbrev pub asks_read_only : FileAsked → Bool
asks_read_only ask = has_any ask.attributes FILE_ATTRIBUTE_READONLY

-- a session that may only read asks for more: for a right to change something, or to create or overwrite an entry
abbrev pub asks_past_reading : FileAsked → Access → Bool
asks_past_reading ask access =
    ask.read_only && (is_past_reading access || must_be_new_by ask.disposition || overwrites_by ask.disposition)

-- an entry can be deleted: it is not the root, which has number 1, and no entry is in it (none is in a file)
abbrev pub can_be_deleted : List Row → Row → Bool
can_be_deleted rows row = not (row.1.number == 1) && not (has_children rows row.0)

-- the tree once an open was taken out: its entry is marked where the open was to delete it, and it can be deleted
abbrev pub tree_marked : Content → OpenRow → Content
tree_marked tree row =
    if row.delete_on_close && is_deletable tree.rows row.entry then with_mark tree row.entry true else tree

-- an entry is to be removed: it is marked, and has no open
abbrev pub is_due : Content → List OpenRow → ℕ → Bool
is_due tree opens number = has_mark tree.rows number && not (has_open opens number)

-- the tree without the entry of a number where this is to be removed
abbrev pub tree_cleared : Content → List OpenRow → ℕ → Content
tree_cleared tree opens number = if is_due tree opens number then removed tree number else tree

-- an overwritten file's times and attributes: the attributes of a new file, and the moment for the times of
-- the last write and change; SUPERSEDE sets all four times
abbrev pub overwritten_basic : FileAsked → ℕ → Basic → Basic
overwritten_basic ask moment basic = record {
  creation_time = if supersedes_by ask.disposition then moment else basic.creation_time;
  last_access_time = if supersedes_by ask.disposition then moment else basic.last_access_time;
  last_write_time = moment;
  change_time = moment;
  attributes = record { 0 = kept_attributes (attributes_asked File ask) };
}

-- the file of a number overwritten
abbrev pub overwritten_tree : Content → FileAsked → ℕ → ℕ → Content
overwritten_tree tree ask moment number = record tree { rows = changed (overwritten ask moment) tree.rows number }

-- the tree after a CREATE that opens or overwrites an existing entry
abbrev pub standing_tree : Content → FileAsked → ℕ → ℕ → Content
standing_tree tree ask moment number = if overwrites_by ask.disposition then overwritten_tree tree ask moment number else tree

-- the CreateAction of a CREATE of an existing entry ([MS-SMB2] 2.2.14)
abbrev pub action_on : ℕ → CreateAction
action_on disposition =
    if supersedes_by disposition then Superseded else if overwrites_by disposition then Overwritten else Opened

-- the open that is made of an entry ([MS-SMB2] 3.3.1.10)
abbrev pub opened_by : FileAsked → ℕ → ℕ → Access → OpenRow
opened_by ask number entry access = record {
  number = number;
  entry = entry;
  session = ask.session;
  tree = ask.tree;
  access = access;
  share = share_asked ask;
  delete_on_close = asks_delete ask;
  scan = no_scan;
}

-- it exists, and is marked: it is removed once its last open is closed
abbrev pub is_marked : Option Entry → Bool
is_marked found = option_map_or (λ entry. entry.mark) found false

-- each is below this one
abbrev pub AreNumbersBelow : ℕ → List ℕ → Type 0
AreNumbersBelow limit = AllByRecursion (λ number. number < limit)

-- an open has this number
abbrev pub has_number : ℕ → OpenRow → Bool
has_number number row = row.number == number

-- an open is one of this entry
abbrev pub is_on_entry : ℕ → OpenRow → Bool
is_on_entry entry row = row.entry == entry

-- the entry of each open is a row of the tree
abbrev pub ArePresent : List Row → List OpenRow → Type 0
ArePresent rows = AllByRecursion (λ row. is_some (numbered rows row.entry) ≡ true)

-- what an open may do, and what it lets others do
abbrev pub Use : Type 0
Use = Access × ShareAccess

-- an open's access and sharing
abbrev pub use_of : OpenRow → Use
use_of row = (row.access, row.share)

-- some open of an entry conflicts with what is wanted
abbrev pub has_conflict : List OpenRow → ℕ → Use → Bool
has_conflict opens entry wanted = list_any (λ row. is_on_entry entry row && is_conflict wanted (use_of row)) opens

-- no two opens of one entry conflict
abbrev pub AreCompatible : List OpenRow → Type 0
AreCompatible opens =
    (one other : ℕ) (first second : OpenRow) → open_of opens one ≡ Some first → open_of opens other ≡ Some second →
    one == other ≡ false → first.entry ≡ second.entry → is_conflict (use_of first) (use_of second) ≡ false

-- the entry of a number, through an open with this access
abbrev pub view_at : List Row → ℕ → Access → Option View
view_at rows number access = option_map (λ row. view_of access row.1) (numbered rows number)

-- what an open shows
abbrev pub view_through : List Row → Option OpenRow → Option View
view_through rows row = option_and_then (λ (row : OpenRow). view_at rows row.entry row.access) row
