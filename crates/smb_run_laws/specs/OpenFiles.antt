-- What a file and the number of an open keep.
use Rattle.std.specs.Prelude.{◌≡◌, ℕ, true, List, ◌∷◌, ◌++◌, Some, is_some}
use Rattle.std.specs.List.{AllByRecursion}
use Rattle.smb_tree.specs.Content.{bytes_of}
use Rattle.smb_access.specs.declared.open_row.OpenRow.{OpenRow}
use Rattle.smb_access.specs.Opens.{open_of}
use Rattle.smb_name_laws.specs.Numbers.{GivesEachOpenOnce, GivesEachEntryOnce}
use Rattle.smb_run_laws.specs.Actions.{Action, before}
use Rattle.smb_run_laws.specs.Written.{LeavesBytes}

-- a file keeps its bytes as long as an open of it is there, whatever is renamed or deleted, the file itself too; but
-- for a WRITE to it, a SET_INFO of its size and a CREATE that overwrites it
abbrev pub OpenFilesKeepTheirBytes : {S : Type 0} → List (Action S) → Type 0
OpenFilesKeepTheirBytes {S} actions =
    (front between back : List (Action S)) (first second : Action S) (number : ℕ) (row : OpenRow) →
    actions ≡ front ++ first ∷ (between ++ second ∷ back) → open_of (before first).store.opens number ≡ Some row →
    is_some (open_of (before second).store.opens number) ≡ true →
    AllByRecursion (LeavesBytes row.entry) (first ∷ between) →
    bytes_of (before second).store.tree.rows row.entry ≡ bytes_of (before first).store.tree.rows row.entry

-- no number of an open or an entry is given twice: one that names an open names no other one later, and one whose open
-- has ended names none ([MS-SMB2] 3.3.1.10)
abbrev pub NumbersAreGivenOnce : {S : Type 0} → List (Action S) → Type 0
NumbersAreGivenOnce {S} actions =
    (front between back : List (Action S)) (first second : Action S) →
    actions ≡ front ++ first ∷ (between ++ second ∷ back) →
    GivesEachOpenOnce (before first).store (before second).store
    × GivesEachEntryOnce (before first).store (before second).store
