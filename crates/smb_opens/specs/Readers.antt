-- Whoever may only read changes no file.
use Rattle.std.specs.Prelude.{◌≡◌, ◌≢◌, ℕ, ◌||◌, ◌&&◌, Bool, true, false, List, [], ◌∷◌, ◌++◌, map, Some, Contains, ◌==◌}
use Rattle.std.specs.List.{list_any}
use Rattle.smb_wire.specs.declared.nt_status.NtStatus.TheVariants.{Success}
use Rattle.smb_tree.specs.Content.{Row, numbered}
use Rattle.smb_access.specs.declared.open_row.OpenRow.{OpenRow}
use Rattle.smb_access.specs.Access.{is_past_reading}
use Rattle.smb_access.specs.Asked.{FileAsked}
use Rattle.smb_access.specs.Close.{has_mark}
use Rattle.smb_access.specs.Opens.{open_of}
use Rattle.smb_entry.specs.declared.ask.BasicAsk.{BasicAsk}
use Rattle.smb_opens.specs.Bytes.{write_status}
use Rattle.smb_opens.specs.Create.{create_status}
use Rattle.smb_opens.specs.Effect.{created}
use Rattle.smb_opens.specs.Renames.{rename_status}
use Rattle.smb_opens.specs.SetInfo.{delete_status, size_status, basic_status}
use Rattle.smb_opens.specs.State.{StoreState}
use Rattle.smb_opens.specs.Steps.{StoreStep, creates, writes, locks, unlocks, sets_delete, sets_size, sets_basic, renames, sets_scan, closes, closes_all, stepped, stepped_all}

-- some open of an entry is to delete it when it is closed ([MS-SMB2] 2.2.13)
abbrev pub opens_to_delete : List OpenRow → ℕ → Bool
opens_to_delete opens entry = list_any (λ row. row.entry == entry && row.delete_on_close) opens

-- an entry is to go with its last open: it is marked, or some open is to delete it ([MS-FSA] 2.1.5.4)
abbrev pub is_to_go : StoreState → ℕ → Bool
is_to_go state number = has_mark state.tree.rows number || opens_to_delete state.opens number

-- an entry at its path, its mark aside
abbrev pub unmarked_row : Row → Row
unmarked_row row = (row.0, record row.1 { mark = false })

-- no file is changed: no other entry is to go than was before; an entry that was not to go is as it was, at its path,
-- and none is new; and of those that were to go each is gone, or is as it was but for its mark
pub record LeavesFiles (before after : StoreState) : Type 0 where
  pub due : (number : ℕ) → is_to_go after number ≡ true → is_to_go before number ≡ true
  pub same : (number : ℕ) → is_to_go before number ≡ false →
      numbered after.tree.rows number ≡ numbered before.tree.rows number
  pub going : (row : Row) → Contains (map unmarked_row after.tree.rows) row →
      Contains (map unmarked_row before.tree.rows) row

-- the open of a number may only read
abbrev pub IsReadersOpen : StoreState → ℕ → Type 0
IsReadersOpen state number =
    (row : OpenRow) × (open_of state.opens number ≡ Some row) × (is_past_reading row.access ≡ false)

-- a request that succeeds, of a session that may only read or through an open that may only read; a LOCK, a
-- QUERY_DIRECTORY or the end of opens may be anyone's
abbrev pub IsOfReader : StoreState → StoreStep → Type 0
IsOfReader state (creates ask moment) = (ask.read_only ≡ true) × (create_status state ask ≡ Success)
IsOfReader state (writes number offset buffer moment) =
    IsReadersOpen state number × ((most : ℕ) × (write_status state most number offset buffer ≡ Success))
IsOfReader state (locks number asks) = Unit {0}
IsOfReader state (unlocks number asks) = Unit {0}
IsOfReader state (sets_delete number is_deleted) =
    IsReadersOpen state number × (delete_status state number is_deleted ≡ Success)
IsOfReader state (sets_size number size is_allocation moment) =
    IsReadersOpen state number × (size_status state number size ≡ Success)
IsOfReader state (sets_basic number ask moment) =
    IsReadersOpen state number × (basic_status state number ask ≡ Success)
IsOfReader state (renames number name moment) =
    IsReadersOpen state number × ((replace : Bool) × (rename_status state number name replace ≡ Success))
IsOfReader state (sets_scan number scan) = Unit {0}
IsOfReader state (closes number) = Unit {0}
IsOfReader state (closes_all owner) = Unit {0}

-- each of these requests is such a one, from where the one before left the store
abbrev pub AreOfReaders : StoreState → List StoreStep → Type 0
AreOfReaders state [] = Unit {0}
AreOfReaders state (step ∷ steps) = IsOfReader state step × AreOfReaders (stepped state step) steps

-- whoever may only read changes no file, whatever requests are made, and whatever opens end
abbrev pub AReaderChangesNothing : Type 0
AReaderChangesNothing =
    (state : StoreState) (steps : List StoreStep) → AreOfReaders state steps →
    LeavesFiles state (stepped_all state steps)

-- through an open that may only read no WRITE and no SET_INFO succeeds
abbrev pub AReadersOpenIsRefused : Type 0
AReadersOpenIsRefused =
    (state : StoreState) (number : ℕ) (row : OpenRow) → open_of state.opens number ≡ Some row →
    is_past_reading row.access ≡ false →
    ((most offset : ℕ) (buffer : List ℕ) → write_status state most number offset buffer ≢ Success)
    × ((is_deleted : Bool) → delete_status state number is_deleted ≢ Success)
    × ((size : ℕ) → size_status state number size ≢ Success)
    × ((ask : BasicAsk) → basic_status state number ask ≢ Success)
    × ((name : List ℕ) (replace : Bool) → rename_status state number name replace ≢ Success)

-- the tree is as it was, and there is one more open, which may only read, and is not to delete its entry
pub record OpensToRead (before after : StoreState) : Type 0 where
  pub row : OpenRow
  pub tree : after.tree ≡ before.tree
  pub opens : after.opens ≡ before.opens ++ row ∷ []
  pub reads : is_past_reading row.access ≡ false
  pub keeps : row.delete_on_close ≡ false

-- a CREATE of a session that may only read opens an entry that exists to read it, and changes none
abbrev pub AReadersCreateOpens : Type 0
AReadersCreateOpens =
    (state : StoreState) (ask : FileAsked) (moment : ℕ) → ask.read_only ≡ true → create_status state ask ≡ Success →
    OpensToRead state (created state ask moment)
