-- What a CREATE makes its name find, in a user's words ([MS-SMB2] 3.3.5.9).
use Rattle.std.specs.Prelude.{◌≡◌, ◌≢◌, ◌⊎◌, ℕ, ◌<◌, true, false, List, [], ◌∷◌, ◌++◌, length, All, bit_and, bit_or, None, Some}
use Rattle.smb_wire.specs.Access.{has_any}
use Rattle.smb_wire.specs.Dispositions.{overwrites_by}
use Rattle.smb_wire.specs.Paths.{is_separator}
use Rattle.smb_wire.specs.declared.nt_status.NtStatus.TheVariants.{Success}
use Rattle.smb_tree.specs.Content.{Path, is_same_path, entry_at, numbered}
use Rattle.smb_tree.specs.Entries.{Entry, is_folder_kind}
use Rattle.smb_tree.specs.declared.entry.Kind.TheVariants.{File, Folder}
use Rattle.smb_access.specs.declared.open_row.OpenRow.{OpenRow}
use Rattle.smb_access.specs.Asked.{FileAsked, kind_asked}
use Rattle.smb_access.specs.Found.{path_asked}
use Rattle.smb_access.specs.Opens.{open_of}
use Rattle.smb_access.specs.Views.{view_of}
use Rattle.smb_opens.specs.Create.{access_granted, create_status}
use Rattle.smb_opens.specs.Effect.{created, create_result}
use Rattle.smb_opens.specs.Found.{entry_asked}
use Rattle.smb_opens.specs.Good.{GoodStore}
use Rattle.smb_opens.specs.State.{StoreState}
use Rattle.smb_opens.specs.Views.{open_view}
use Rattle.smb_name_laws.specs.Settings.{HasKeptItsName}

-- once a CREATE is performed, its name finds an entry, and its open, whose number was the next, is of this entry; the view
-- that it returns is what the open shows of it
abbrev pub ACreateFindsItsEntry : Type 0
ACreateFindsItsEntry =
    (state : StoreState) (ask : FileAsked) (moment : ℕ) → GoodStore state →
    let after = created state ask moment in
    let result = create_result state ask moment in
    (entry : Entry) × (row : OpenRow) × (entry_at after.tree.rows (path_asked ask) ≡ Some entry)
    × (result.number ≡ state.next) × (open_of after.opens state.next ≡ Some row) × (row.entry ≡ entry.number)
    × (open_view after state.next ≡ Some result.view) × (result.view ≡ view_of row.access entry)

-- a CREATE that succeeds and overwrites leaves a file under its name without bytes: of the number, the spelling and the
-- mark that were there, last written and changed at the moment. Where it supersedes, by disposition 0, its creation and
-- its last access are at the moment too, and else as they were. Of the attributes READONLY 1, HIDDEN 2, SYSTEM 4 and
-- ARCHIVE 0x20 it has those that are asked for, and ARCHIVE ([MS-SMB2] 2.2.13, [MS-FSA] 2.1.5.1.2)
abbrev pub AnOverwriteRenewsItsFile : Type 0
AnOverwriteRenewsItsFile =
    (state : StoreState) (ask : FileAsked) (moment : ℕ) (before : Entry) → GoodStore state →
    create_status state ask ≡ Success → entry_asked state ask ≡ Some before → overwrites_by ask.disposition ≡ true →
    let was = before.basic in
    (after : Entry) × (entry_at (created state ask moment).tree.rows (path_asked ask) ≡ Some after)
    × (is_folder_kind after.kind ≡ false) × (after.bytes ≡ []) × HasKeptItsName after before
    × (after.basic.last_write_time ≡ moment) × (after.basic.change_time ≡ moment)
    × (after.basic.attributes.0 ≡ bit_and (bit_or ask.attributes 0x20) 0x27)
    × (ask.disposition ≡ 0 → after.basic.creation_time ≡ moment)
    × (ask.disposition ≡ 0 → after.basic.last_access_time ≡ moment)
    × (ask.disposition ≢ 0 → after.basic.creation_time ≡ was.creation_time)
    × (ask.disposition ≢ 0 → after.basic.last_access_time ≡ was.last_access_time)

-- a CREATE of a name that finds nothing makes a new entry there: of the kind that is asked for, without bytes and
-- without a mark, under a number that no entry had; its four times are the moment ([MS-FSA] 2.1.5.1.1); of the attributes
-- READONLY 1, HIDDEN 2, SYSTEM 4 and ARCHIVE 0x20 it has those that are asked for, and a file has ARCHIVE; and it is
-- spelled in the letters of the name, as the whole name or as what is behind its last separator, a backslash ([MS-FSCC]
-- 2.1.5)
abbrev pub AnAbsentEntryIsMade : Type 0
AnAbsentEntryIsMade =
    (state : StoreState) (ask : FileAsked) (moment : ℕ) → GoodStore state → entry_asked state ask ≡ None →
    (made : Entry) × (entry_at (created state ask moment).tree.rows (path_asked ask) ≡ Some made)
    × (numbered state.tree.rows made.number ≡ None) × (made.kind ≡ kind_asked ask) × (made.bytes ≡ [])
    × (made.mark ≡ false)
    × (made.basic.creation_time ≡ moment) × (made.basic.last_access_time ≡ moment)
    × (made.basic.last_write_time ≡ moment) × (made.basic.change_time ≡ moment)
    × (made.kind ≡ File → made.basic.attributes.0 ≡ bit_and (bit_or ask.attributes 0x20) 0x27)
    × (made.kind ≡ Folder → made.basic.attributes.0 ≡ bit_and ask.attributes 0x27)
    × ((front last : List ℕ) → (ask.name ≡ last) ⊎ (ask.name ≡ front ++ 92 ∷ last) → 0 < length last →
    All (λ unit. is_separator unit ≡ false) last → made.spelling ≡ last)

-- a CREATE changes no entry but the one that its name finds; and where it does not overwrite, none: where its name finds
-- an entry the tree is as it was, and where it finds none every entry that there was is at its path ([MS-FSA] 2.1.5.1.2)
abbrev pub ACreateChangesItsEntryAlone : Type 0
ACreateChangesItsEntryAlone =
    (state : StoreState) (ask : FileAsked) (moment : ℕ) →
    let after = (created state ask moment).tree in
    (GoodStore state → (other : Path) → is_same_path (path_asked ask) other ≡ false →
    entry_at after.rows other ≡ entry_at state.tree.rows other)
    × (overwrites_by ask.disposition ≡ false → (entry : Entry) → entry_asked state ask ≡ Some entry →
    after ≡ state.tree)
    × (overwrites_by ask.disposition ≡ false → (path : Path) (entry : Entry) →
    entry_at state.tree.rows path ≡ Some entry → entry_at after.rows path ≡ Some entry)

-- no CREATE succeeds by FILE_CREATE, 2, where its name finds an entry; nor by FILE_OPEN, 1, or FILE_OVERWRITE, 4, where
-- it finds none; nor of a folder with FILE_NON_DIRECTORY_FILE, 0x40, or of a file with FILE_DIRECTORY_FILE, 1; nor of a
-- file that is READONLY, 1, where it would overwrite it, or be granted FILE_WRITE_DATA, 2, or FILE_APPEND_DATA, 4
-- ([MS-SMB2] 2.2.13, [MS-FSA] 2.1.5.1)
abbrev pub ACreateIsRefused : Type 0
ACreateIsRefused =
    (state : StoreState) (ask : FileAsked) →
    let rights = (access_granted state ask).0 in
    ((entry : Entry) → entry_asked state ask ≡ Some entry →
    (ask.disposition ≡ 2 → create_status state ask ≢ Success)
    × (is_folder_kind entry.kind ≡ true → has_any ask.options 0x40 ≡ true → create_status state ask ≢ Success)
    × (is_folder_kind entry.kind ≡ false → has_any ask.options 1 ≡ true → create_status state ask ≢ Success)
    × (is_folder_kind entry.kind ≡ false → has_any entry.basic.attributes.0 1 ≡ true →
    (overwrites_by ask.disposition ≡ true) ⊎ ((has_any rights 2 ≡ true) ⊎ (has_any rights 4 ≡ true)) →
    create_status state ask ≢ Success))
    × (entry_asked state ask ≡ None → (ask.disposition ≡ 1) ⊎ (ask.disposition ≡ 4) → create_status state ask ≢ Success)
