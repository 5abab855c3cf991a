-- What the end of an open deletes, in a user's words ([MS-FSA] 2.1.5.4).
use Rattle.std.specs.Prelude.{◌≡◌, ◌≢◌, ◌⊎◌, ℕ, ◌==◌, ◌||◌, ◌&&◌, Bool, true, false, not, List, None, Some, is_some}
use Rattle.std.specs.List.{list_any}
use Rattle.smb_tree.specs.Children.{is_child}
use Rattle.smb_wire.specs.declared.nt_status.NtStatus.TheVariants.{Success}
use Rattle.smb_tree.specs.Content.{Path, Row, is_same_path, entry_at, numbered, parent}
use Rattle.smb_tree.specs.Entries.{Entry, is_folder_kind}
use Rattle.smb_access.specs.declared.open_row.OpenRow.{OpenRow}
use Rattle.smb_access.specs.declared.open_row.Owner.{Owner}
use Rattle.smb_access.specs.Asked.{FileAsked}
use Rattle.smb_access.specs.Found.{path_asked}
use Rattle.smb_access.specs.Opens.{open_of, is_held_by}
use Rattle.smb_opens.specs.Close.{closed, closed_all}
use Rattle.smb_opens.specs.Create.{create_status}
use Rattle.smb_opens.specs.Good.{GoodStore}
use Rattle.smb_opens.specs.State.{StoreState}
use Rattle.smb_opens.specs.Steps.{StoreStep, creates, writes, locks, unlocks, sets_delete, sets_size, sets_basic}
use Rattle.smb_opens.specs.Steps.{renames, sets_scan, closes, closes_all, stepped}

-- the CLOSE of an open is to delete its entry, once no other open of it is left: the entry is marked (DeletePending), or
-- the open was made with FILE_DELETE_ON_CLOSE, and the entry is a file, or a folder other than the root (which has number
-- 1) in which no entry is
abbrev pub is_to_be_deleted : List Row → OpenRow → Row → Bool
is_to_be_deleted rows closing row =
    row.1.mark
    || closing.delete_on_close
    && (not (is_folder_kind row.1.kind) || not (row.1.number == 1) && not (list_any (is_child row.0) rows))

-- an entry has no open but that of a number
abbrev pub HasNoOtherOpen : List OpenRow → ℕ → ℕ → Type 0
HasNoOtherOpen opens number entry =
    (other : ℕ) (row : OpenRow) → open_of opens other ≡ Some row → row.entry ≡ entry → other ≡ number

-- once an open is closed, its entry that is to be deleted is gone if it had no other open: neither its number nor its path
-- finds anything; and if another open of it is left, it is at its path, and marked, so that the last CLOSE deletes it.
-- Where it is not to be deleted, no entry is changed; and every other entry, and every other path, is as it was
abbrev pub ACloseDeletesWhatIsToBeDeleted : Type 0
ACloseDeletesWhatIsToBeDeleted =
    (state : StoreState) (number : ℕ) (closing : OpenRow) (path : Path) (entry : Entry) → GoodStore state →
    open_of state.opens number ≡ Some closing → numbered state.tree.rows closing.entry ≡ Some (path, entry) →
    let due = is_to_be_deleted state.tree.rows closing (path, entry) in
    let after = (closed state number).tree in
    (due ≡ true → HasNoOtherOpen state.opens number closing.entry →
    (numbered after.rows closing.entry ≡ None) × (entry_at after.rows path ≡ None))
    × (due ≡ true → (other : ℕ) (left : OpenRow) → open_of state.opens other ≡ Some left →
    left.entry ≡ closing.entry → other ≢ number →
    (numbered after.rows closing.entry ≡ Some (path, record entry { mark = true }))
    × (entry_at after.rows path ≡ Some (record entry { mark = true })))
    × (due ≡ false → after ≡ state.tree)
    × ((other : ℕ) → other ≢ closing.entry → numbered after.rows other ≡ numbered state.tree.rows other)
    × ((other : Path) → is_same_path path other ≡ false → entry_at after.rows other ≡ entry_at state.tree.rows other)

-- nothing else goes with a CLOSE: an entry that is gone afterwards was the open's own, had no other open, and was to be
-- deleted
abbrev pub NothingElseGoes : Type 0
NothingElseGoes =
    (state : StoreState) (number entry : ℕ) (row : Row) → GoodStore state →
    numbered state.tree.rows entry ≡ Some row → numbered (closed state number).tree.rows entry ≡ None →
    (closing : OpenRow) × (open_of state.opens number ≡ Some closing) × (row.1.number ≡ closing.entry)
    × HasNoOtherOpen state.opens number closing.entry × (is_to_be_deleted state.tree.rows closing row ≡ true)

-- an entry that is to be deleted is gone once all opens of an owner, a session or one of its tree connects, end, where
-- each open of it is one of these
abbrev pub AnEntryGoesWithItsOwner : Type 0
AnEntryGoesWithItsOwner =
    (state : StoreState) (owner : Owner) (number : ℕ) (row : OpenRow) (path : Path) (entry : Entry) → GoodStore state →
    open_of state.opens number ≡ Some row → numbered state.tree.rows row.entry ≡ Some (path, entry) →
    ((other : ℕ) (held : OpenRow) → open_of state.opens other ≡ Some held → held.entry ≡ row.entry →
    is_held_by owner held ≡ true) →
    is_to_be_deleted state.tree.rows row (path, entry) ≡ true →
    (numbered (closed_all state owner).tree.rows row.entry ≡ None)
    × (entry_at (closed_all state owner).tree.rows path ≡ None)

-- a request ends opens, or renames an entry, which may replace another
abbrev pub ends_or_renames : StoreStep → Bool
ends_or_renames (creates ask moment) = false
ends_or_renames (writes number offset buffer moment) = false
ends_or_renames (locks number asks) = false
ends_or_renames (unlocks number asks) = false
ends_or_renames (sets_delete number is_deleted) = false
ends_or_renames (sets_size number size is_allocation moment) = false
ends_or_renames (sets_basic number ask moment) = false
ends_or_renames (renames number name moment) = true
ends_or_renames (sets_scan number scan) = false
ends_or_renames (closes number) = true
ends_or_renames (closes_all owner) = true

-- no other request deletes an entry
abbrev pub NoOtherRequestDeletes : Type 0
NoOtherRequestDeletes =
    (state : StoreState) (step : StoreStep) (entry : ℕ) → ends_or_renames step ≡ false →
    is_some (numbered state.tree.rows entry) ≡ true → is_some (numbered (stepped state step).tree.rows entry) ≡ true

-- what is marked is not opened, and in a folder that is marked nothing is opened or made ([MS-FSA] 2.1.5.1)
abbrev pub NothingMarkedIsOpened : Type 0
NothingMarkedIsOpened =
    (state : StoreState) (ask : FileAsked) (entry : Entry) → entry.mark ≡ true →
    (entry_at state.tree.rows (path_asked ask) ≡ Some entry)
    ⊎ (entry_at state.tree.rows (parent (path_asked ask)) ≡ Some entry) →
    create_status state ask ≢ Success
