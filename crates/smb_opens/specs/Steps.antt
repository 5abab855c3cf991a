-- A store over the requests that change it, one after the other.
use Rattle.std.specs.Prelude.{◌≡◌, ℕ, ◌==◌, ◌&&◌, Bool, false, List, [], ◌∷◌}
use Rattle.std.specs.Option.{option_map_or}
use Rattle.smb_wire.specs.Dispositions.{overwrites_by}
use Rattle.smb_locks.specs.declared.ask.LockAsk.{LockAsk}
use Rattle.smb_entry.specs.declared.ask.BasicAsk.{BasicAsk}
use Rattle.smb_access.specs.declared.open_row.Owner.{Owner}
use Rattle.smb_access.specs.Asked.{FileAsked}
use Rattle.smb_opens.specs.Bytes.{written_to}
use Rattle.smb_opens.specs.Close.{closed, closed_all}
use Rattle.smb_opens.specs.Effect.{created}
use Rattle.smb_opens.specs.Found.{entry_asked}
use Rattle.smb_opens.specs.Locks.{locked_through, unlocked_through}
use Rattle.smb_access.specs.Opens.{open_of}
use Rattle.smb_opens.specs.Renames.{renamed_through}
use Rattle.smb_access.specs.declared.scan.Scan.{Scan}
use Rattle.smb_opens.specs.Scans.{scan_set}
use Rattle.smb_opens.specs.SetInfo.{delete_set_through, size_set_through, basic_set_through}
use Rattle.smb_opens.specs.State.{StoreState}
use Rattle.smb_access.specs.declared.open_row.OpenRow.{OpenRow}

-- a request with what it does where it is performed (an unlock may be refused behind some of its ranges, and is the step
-- of those before): a CREATE at a moment; a WRITE of bytes at an offset through the open of a number, at a moment; a LOCK
-- through an open that locks, or one that unlocks; a SET_INFO through an open, of its entry's mark, of its file's size or
-- allocation size at a moment, of its entry's times and attributes at a moment, or of its entry's name at a moment; a
-- QUERY_DIRECTORY, which sets the scan of an open; the CLOSE of an open; the end of all opens of an owner
pub data StoreStep : Type 0 where
  creates : FileAsked → ℕ → StoreStep
  writes : ℕ → ℕ → List ℕ → ℕ → StoreStep
  locks : ℕ → List LockAsk → StoreStep
  unlocks : ℕ → List LockAsk → StoreStep
  sets_delete : ℕ → Bool → StoreStep
  sets_size : ℕ → ℕ → Bool → ℕ → StoreStep
  sets_basic : ℕ → BasicAsk → ℕ → StoreStep
  renames : ℕ → List ℕ → ℕ → StoreStep
  sets_scan : ℕ → Scan → StoreStep
  closes : ℕ → StoreStep
  closes_all : Owner → StoreStep

-- the store after a request, and after several
abbrev pub stepped : StoreState → StoreStep → StoreState
stepped state (creates ask moment) = created state ask moment
stepped state (writes number offset buffer moment) = written_to state number offset buffer moment
stepped state (locks number asks) = locked_through state number asks
stepped state (unlocks number asks) = unlocked_through state number asks
stepped state (sets_delete number is_deleted) = delete_set_through state number is_deleted
stepped state (sets_size number size is_allocation moment) = size_set_through state number size is_allocation moment
stepped state (sets_basic number ask moment) = basic_set_through state number ask moment
stepped state (renames number name moment) = renamed_through state number name moment
stepped state (sets_scan number scan) = scan_set state number scan
stepped state (closes number) = closed state number
stepped state (closes_all owner) = closed_all state owner

abbrev pub stepped_all : StoreState → List StoreStep → StoreState
stepped_all state [] = state
stepped_all state (step ∷ steps) = stepped_all (stepped state step) steps

-- a request changes the bytes of the entry of a number: it writes to it, overwrites it, or sets its size; a rename changes
-- no bytes, and what it replaces no longer exists
abbrev pub is_change_of : ℕ → StoreState → StoreStep → Bool
is_change_of entry state (creates ask moment) =
    overwrites_by ask.disposition && option_map_or (λ found. found.number == entry) (entry_asked state ask) false
is_change_of entry state (writes number offset buffer moment) =
    option_map_or (λ (row : OpenRow). row.entry == entry) (open_of state.opens number) false
is_change_of entry state (locks number asks) = false
is_change_of entry state (unlocks number asks) = false
is_change_of entry state (sets_delete number is_deleted) = false
is_change_of entry state (sets_size number size is_allocation moment) =
    option_map_or (λ (row : OpenRow). row.entry == entry) (open_of state.opens number) false
is_change_of entry state (sets_basic number ask moment) = false
is_change_of entry state (renames number name moment) = false
is_change_of entry state (sets_scan number scan) = false
is_change_of entry state (closes number) = false
is_change_of entry state (closes_all owner) = false

-- none of some requests changes the bytes of the entry of a number, each from where the one before left the store
abbrev pub NoneChanges : ℕ → StoreState → List StoreStep → Type 0
NoneChanges entry state [] = Unit {0}
NoneChanges entry state (step ∷ steps) = (is_change_of entry state step ≡ false) × NoneChanges entry (stepped state step) steps
