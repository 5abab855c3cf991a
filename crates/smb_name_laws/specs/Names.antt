-- What a rename makes names find, in a user's words ([MS-FSA] 2.1.5.15.11).
use Rattle.std.specs.Prelude.{◌≡◌, ◌≢◌, ◌⊎◌, ℕ, ◌<◌, Bool, true, false, List, ◌∷◌, ◌++◌, length, All, bit_and, None, Some}
use Rattle.smb_wire.specs.Paths.{is_separator}
use Rattle.smb_wire.specs.declared.nt_status.NtStatus.TheVariants.{Success}
use Rattle.smb_tree.specs.Content.{Path, is_same_path, entry_at, numbered}
use Rattle.smb_tree.specs.Entries.{Entry, is_folder_kind}
use Rattle.smb_tree.specs.Moves.{is_within}
use Rattle.smb_access.specs.declared.open_row.OpenRow.{OpenRow}
use Rattle.smb_access.specs.Found.{is_read_only_file}
use Rattle.smb_access.specs.Opens.{open_of}
use Rattle.smb_access.specs.Views.{view_of}
use Rattle.smb_entry.specs.Rename.{path_named}
use Rattle.smb_opens.specs.Good.{GoodStore}
use Rattle.smb_opens.specs.Renames.{rename_status, renamed_through}
use Rattle.smb_opens.specs.State.{StoreState}
use Rattle.smb_opens.specs.Views.{open_view}

-- the rename of the entry at a path succeeds, through the open of a number
pub record IsRenamed (state : StoreState) (number : ℕ) (name : List ℕ) (row : OpenRow) (from : Path) (entry : Entry)
    : Type 0 where
  pub good : GoodStore state
  pub opened : open_of state.opens number ≡ Some row
  pub found : numbered state.tree.rows row.entry ≡ Some (from, entry)
  pub replace : Bool
  pub status : rename_status state number name replace ≡ Success

-- once an entry is renamed, the new name finds it, with the same number, kind and bytes, and the old name finds nothing,
-- unless the two differ in case alone; each open of it goes on, and shows it; what lay beneath a folder's old name lies
-- beneath its new one, with the same rest; and a path that is neither name, nor beneath one of them, finds what it
-- found. The entry was last changed at the moment; its mark, its other times and its attributes are as they were; and it
-- is spelled in the letters of the name, as the whole name or as what is behind its last separator, a backslash
abbrev pub ARenameMovesItsEntry : Type 0
ARenameMovesItsEntry =
    (state : StoreState) (number : ℕ) (name : List ℕ) (moment : ℕ) (row : OpenRow) (from : Path) (entry : Entry) →
    IsRenamed state number name row from entry →
    let after = renamed_through state number name moment in
    let to = path_named name in
    (moved : Entry) × (entry_at after.tree.rows to ≡ Some moved)
    × (moved.number ≡ entry.number) × (moved.kind ≡ entry.kind) × (moved.bytes ≡ entry.bytes)
    × (is_same_path from to ≡ false → entry_at after.tree.rows from ≡ None)
    × ((other : ℕ) (held : OpenRow) → open_of state.opens other ≡ Some held → held.entry ≡ row.entry →
    (open_of after.opens other ≡ Some held) × (open_view after other ≡ Some (view_of held.access moved)))
    × ((part : List ℕ) (rest : Path) →
    entry_at after.tree.rows (to ++ part ∷ rest) ≡ entry_at state.tree.rows (from ++ part ∷ rest))
    × ((path : Path) → is_within from path ≡ false → is_within to path ≡ false →
    entry_at after.tree.rows path ≡ entry_at state.tree.rows path)
    × (moved.mark ≡ entry.mark) × (moved.basic.change_time ≡ moment)
    × (moved.basic.creation_time ≡ entry.basic.creation_time)
    × (moved.basic.last_access_time ≡ entry.basic.last_access_time)
    × (moved.basic.last_write_time ≡ entry.basic.last_write_time)
    × (moved.basic.attributes.0 ≡ bit_and entry.basic.attributes.0 0x27)
    × ((front last : List ℕ) → (name ≡ last) ⊎ (name ≡ front ++ 92 ∷ last) → 0 < length last →
    All (λ unit. is_separator unit ≡ false) last → moved.spelling ≡ last)

-- a rename deletes nothing but a file that it replaces: this was at the new name, had no open and was not read-only; and
-- ReplaceIfExists was set
abbrev pub ARenameDeletesWhatItReplaces : Type 0
ARenameDeletesWhatItReplaces =
    (state : StoreState) (number : ℕ) (name : List ℕ) (moment : ℕ) (row : OpenRow) (from : Path) (entry : Entry)
    (gone : ℕ) (path : Path) (old : Entry) → (renamed : IsRenamed state number name row from entry) →
    numbered state.tree.rows gone ≡ Some (path, old) →
    numbered (renamed_through state number name moment).tree.rows gone ≡ None →
    (path ≡ path_named name) × (is_folder_kind old.kind ≡ false) × (is_read_only_file (Some old) ≡ false)
    × ((other : ℕ) (held : OpenRow) → open_of state.opens other ≡ Some held → held.entry ≢ gone)
    × (renamed.replace ≡ true)
