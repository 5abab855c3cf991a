-- Which renames succeed, in a user's words ([MS-SMB2] 3.3.5.21.1, [MS-FSA] 2.1.5.15.11).
use Rattle.std.specs.Prelude.{◌≡◌, ◌≢◌, ◌⊎◌, ℕ, ◌≤◌, Bool, true, false, List, [], ◌∷◌, ◌++◌, length, None, Some}
use Rattle.smb_wire.specs.Access.{has_any, DELETE}
use Rattle.smb_wire.specs.Limits.{most_components}
use Rattle.smb_wire.specs.declared.nt_status.NtStatus.TheVariants.{Success}
use Rattle.smb_tree.specs.Content.{Path, is_same_path, entry_at, numbered}
use Rattle.smb_tree.specs.Entries.{Entry, is_folder_kind}
use Rattle.smb_tree.specs.Moves.{is_within}
use Rattle.smb_access.specs.declared.open_row.OpenRow.{OpenRow}
use Rattle.smb_access.specs.Opens.{open_of, has_open}
use Rattle.smb_entry.specs.Rename.{path_named}
use Rattle.smb_opens.specs.Good.{GoodStore}
use Rattle.smb_opens.specs.Renames.{rename_status}
use Rattle.smb_opens.specs.State.{StoreState}
use Rattle.smb_name_laws.specs.NewNames.{NamesPlainly, IsFree}

-- what a rename needs of its open: this was granted DELETE, and the entry is neither the root nor marked
pub record MayRename (state : StoreState) (number : ℕ) (row : OpenRow) (from : Path) (entry : Entry) : Type 0 where
  pub opened : open_of state.opens number ≡ Some row
  pub access : has_any row.access.0 DELETE ≡ true
  pub found : numbered state.tree.rows row.entry ≡ Some (from, entry)
  pub inside : from ≢ []
  pub unmarked : entry.mark ≡ false

-- what it needs of the new path: this is not within the old one; nothing exists there, or a file that is free, and
-- ReplaceIfExists is set; and of what is beneath a folder, no entry has an open, nor gets a path of more than 32
-- components
pub record MayMoveTo (state : StoreState) (from : Path) (entry : Entry) (to : Path) (replace : Bool) : Type 0 where
  pub outside : is_within from to ≡ false
  pub free :
      (entry_at state.tree.rows to ≡ None)
      ⊎ ((file : Entry) × (entry_at state.tree.rows to ≡ Some file) × IsFree state file × (replace ≡ true))
  pub beneath : is_folder_kind entry.kind ≡ true → (part : List ℕ) (rest : Path) (other : Entry) →
      entry_at state.tree.rows (from ++ part ∷ rest) ≡ Some other →
      (has_open state.opens other.number ≡ false) × (length (to ++ part ∷ rest) ≤ most_components)

-- such a rename succeeds under every plain name, in the same folder or in another ([MS-FSCC] 2.4.42)
abbrev pub ARenameSucceeds : Type 0
ARenameSucceeds =
    (state : StoreState) (number : ℕ) (name : List ℕ) (replace : Bool) (row : OpenRow) (from : Path) (entry : Entry) →
    GoodStore state → MayRename state number row from entry → NamesPlainly state name →
    MayMoveTo state from entry (path_named name) replace → rename_status state number name replace ≡ Success

-- one to the same path in letters of another case succeeds too, with ReplaceIfExists or without
abbrev pub ARenameOfCaseSucceeds : Type 0
ARenameOfCaseSucceeds =
    (state : StoreState) (number : ℕ) (name : List ℕ) (replace : Bool) (row : OpenRow) (from : Path) (entry : Entry) →
    GoodStore state → MayRename state number row from entry → NamesPlainly state name →
    is_same_path from (path_named name) ≡ true → rename_status state number name replace ≡ Success
