-- That a new file or folder can be made under every plain name, and that a file that is there can be opened, in a user's
-- words ([MS-SMB2] 3.3.5.9).
use Rattle.std.specs.Prelude.{◌≡◌, ◌⊎◌, ℕ, ◌+◌, ◌-◌, ◌^◌, ◌<◌, ◌≤◌, ◌&&◌, ◌||◌, Bool, true, false, List, [], ◌∷◌, ◌++◌}
use Rattle.std.specs.Prelude.{length, map, All, bit_and, nat_le, None, Some, if◌then◌else◌}
use Rattle.smb_wire.specs.Access.{has_any, FILE_ALL_ACCESS, MAXIMUM_ALLOWED}
use Rattle.smb_wire.specs.Access.{GENERIC_ALL, GENERIC_EXECUTE, GENERIC_WRITE, GENERIC_READ}
use Rattle.smb_wire.specs.Attributes.{FILE_ATTRIBUTE_READONLY}
use Rattle.smb_wire.specs.CreateOptions.{FILE_DIRECTORY_FILE, FILE_NON_DIRECTORY_FILE, FILE_DELETE_ON_CLOSE}
use Rattle.smb_wire.specs.CreateOptions.{FILE_OPEN_BY_FILE_ID}
use Rattle.smb_wire.specs.Dispositions.{disposition_code}
use Rattle.smb_wire.specs.Limits.{most_components}
use Rattle.smb_wire.specs.Paths.{joined_by_separators, folded_path}
use Rattle.smb_wire.specs.declared.disposition.CreateDisposition.TheVariants.{Open, Create, OpenIf}
use Rattle.smb_wire.specs.declared.nt_status.NtStatus.TheVariants.{Success}
use Rattle.smb_tree.specs.Content.{entry_at}
use Rattle.smb_tree.specs.Entries.{Entry, is_folder_kind}
use Rattle.smb_access.specs.Asked.{FileAsked}
use Rattle.smb_access.specs.Opens.{has_open}
use Rattle.smb_opens.specs.Create.{create_status}
use Rattle.smb_access.specs.Found.{path_asked}
use Rattle.smb_opens.specs.Found.{entry_asked}
use Rattle.smb_opens.specs.Good.{GoodStore}
use Rattle.smb_opens.specs.State.{StoreState}

-- a unit is a digit or a letter of ASCII, or a unit from 128 on
abbrev pub is_plain_unit : ℕ → Bool
is_plain_unit unit =
    nat_le 48 unit && nat_le unit 57 || nat_le 65 unit && nat_le unit 90 || nat_le 97 unit && nat_le unit 122
    || nat_le 128 unit

-- a part of a name is 1 to 255 of these
pub record IsPlain (part : List ℕ) : Type 0 where
  pub some : 0 < length part
  pub short : length part ≤ 255
  pub units : All (λ unit. is_plain_unit unit ≡ true) part

-- a CREATE asks for a file or a folder to be made where it is absent: with FILE_CREATE or FILE_OPEN_IF; with some
-- rights, generic ones or MAXIMUM_ALLOWED, and no other bits; as a file or as a folder, neither by its number nor to be
-- deleted on close; by a session that may write ([MS-SMB2] 2.2.13)
pub record AsksToMake (ask : FileAsked) : Type 0 where
  pub disposition : (ask.disposition ≡ disposition_code Create) ⊎ (ask.disposition ≡ disposition_code OpenIf)
  pub some : 0 < ask.access
  pub rights :
      bit_and ask.access
      (FILE_ALL_ACCESS + MAXIMUM_ALLOWED + GENERIC_ALL + GENERIC_EXECUTE + GENERIC_WRITE + GENERIC_READ)
      ≡ ask.access
  pub kind :
      (has_any ask.options FILE_DIRECTORY_FILE ≡ false) ⊎ (has_any ask.options FILE_NON_DIRECTORY_FILE ≡ false)
  pub by_name : has_any ask.options FILE_OPEN_BY_FILE_ID ≡ false
  pub stays : has_any ask.options FILE_DELETE_ON_CLOSE ≡ false
  pub writer : ask.read_only ≡ false

-- a name has at most 32 plain parts, and the folder that it is in exists and is not marked
pub record NamesPlainly (state : StoreState) (name : List ℕ) : Type 0 where
  pub above : List (List ℕ)
  pub last : List ℕ
  pub folder : Entry
  pub spelled : name ≡ joined_by_separators (above ++ last ∷ [])
  pub plain : All IsPlain (above ++ last ∷ [])
  pub few : length (above ++ last ∷ []) ≤ most_components
  pub found : entry_at state.tree.rows (folded_path above) ≡ Some folder
  pub kind : is_folder_kind folder.kind ≡ true
  pub unmarked : folder.mark ≡ false

-- a store has room for an open and for an entry more, and numbers for them
pub record HasRoom (state : StoreState) : Type 0 where
  pub opens : length state.opens < state.tree.limits.opens
  pub open_numbers : state.next < 2 ^ 64 - 1
  pub entries : length state.tree.rows ≤ state.tree.limits.entries
  pub entry_numbers : state.tree.next < 2 ^ 64 - 1

-- such a CREATE succeeds: no plain name is refused, and none where there is room ([MS-SMB2] 3.3.5.9, [MS-FSCC] 2.1.5)
abbrev pub APlainNameIsMade : Type 0
APlainNameIsMade =
    (state : StoreState) (ask : FileAsked) → GoodStore state → AsksToMake ask → NamesPlainly state ask.name →
    entry_asked state ask ≡ None → HasRoom state → create_status state ask ≡ Success

-- a CREATE asks for a file to be opened as it is: with FILE_OPEN or FILE_OPEN_IF; with some rights, generic ones or
-- MAXIMUM_ALLOWED, and no other bits; as no folder, neither by its number nor to be deleted on close; by a session that
-- may write ([MS-SMB2] 2.2.13)
pub record AsksToOpen (ask : FileAsked) : Type 0 where
  pub disposition : (ask.disposition ≡ disposition_code Open) ⊎ (ask.disposition ≡ disposition_code OpenIf)
  pub some : 0 < ask.access
  pub rights :
      bit_and ask.access
      (FILE_ALL_ACCESS + MAXIMUM_ALLOWED + GENERIC_ALL + GENERIC_EXECUTE + GENERIC_WRITE + GENERIC_READ)
      ≡ ask.access
  pub kind : has_any ask.options FILE_DIRECTORY_FILE ≡ false
  pub by_name : has_any ask.options FILE_OPEN_BY_FILE_ID ≡ false
  pub stays : has_any ask.options FILE_DELETE_ON_CLOSE ≡ false
  pub writer : ask.read_only ≡ false

-- an entry is a file with no mark and not READONLY, and nobody has it open
pub record IsFree (state : StoreState) (file : Entry) : Type 0 where
  pub kind : is_folder_kind file.kind ≡ false
  pub unmarked : file.mark ≡ false
  pub writable : has_any file.basic.attributes.0 FILE_ATTRIBUTE_READONLY ≡ false
  pub unopened : has_open state.opens file.number ≡ false

-- a file that nobody has open is opened by whoever may write, where there is room for an open ([MS-SMB2] 3.3.5.9)
abbrev pub AFreeFileIsOpened : Type 0
AFreeFileIsOpened =
    (state : StoreState) (ask : FileAsked) (file : Entry) → GoodStore state → AsksToOpen ask →
    NamesPlainly state ask.name → entry_asked state ask ≡ Some file → IsFree state file →
    length state.opens < state.tree.limits.opens → state.next < 2 ^ 64 - 1 → create_status state ask ≡ Success

-- names of plain parts find the same, in every store, where they have the same parts with a to z as A to Z, and every
-- other unit as it is; and only such names are of one path ([MS-FSCC] 2.1.5)
abbrev pub LettersOfEitherCaseAreTheSame : Type 0
LettersOfEitherCaseAreTheSame =
    (state : StoreState) (one other : FileAsked) (above beside : List (List ℕ)) (last least : List ℕ) →
    All IsPlain (above ++ last ∷ []) → All IsPlain (beside ++ least ∷ []) →
    one.name ≡ joined_by_separators (above ++ last ∷ []) → other.name ≡ joined_by_separators (beside ++ least ∷ []) →
    let capital = λ (unit : ℕ). if nat_le 97 unit && nat_le unit 122 then unit - 32 else unit in
    let capitals = λ (parts : List (List ℕ)). map (λ part. map capital part) parts in
    (capitals (above ++ last ∷ []) ≡ capitals (beside ++ least ∷ []) → entry_asked state one ≡ entry_asked state other)
    × (path_asked one ≡ path_asked other → capitals (above ++ last ∷ []) ≡ capitals (beside ++ least ∷ []))
