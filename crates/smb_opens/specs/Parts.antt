-- For the proofs; nothing here need be believed.
-- Steps of a CREATE and of a CLOSE, and parts of what holds of a store, each with a name.
use Rattle.std.specs.Prelude.{ℕ, Bool, false, ◌==◌, ◌&&◌, if◌then◌else◌, List, [], ◌∷◌, ◌+◌, ◌++◌, Option, ◌-◌, ◌||◌, nat_le, length, ◌≡◌, true, Some, Contains, fold}
use Rattle.smb_locks.specs.Table.{without_holder, Table, locks_on}
use Rattle.smb_access.specs.declared.open_row.OpenRow.{OpenRow}
use Rattle.smb_access.specs.Opens.{without_open, open_of, has_open}
use Rattle.smb_opens.specs.State.{StoreState}
use Rattle.smb_access.specs.Parts.{tree_marked, is_due, tree_cleared, opened_by, action_on}
use Rattle.smb_opens.specs.Close.{closed}
use Rattle.smb_tree.specs.Entries.{Entry}
use Rattle.smb_access.specs.declared.view.Created.{Created as CreatedOpen}
use Rattle.smb_wire.specs.declared.access.Access.{Access}
use Rattle.smb_access.specs.Asked.{FileAsked}
use Rattle.smb_access.specs.Views.{view_of}
use Rattle.smb_access.specs.declared.view.View.{View}
use Rattle.smb_tree.specs.Entries.{is_folder_kind}
use Rattle.smb_access.specs.Effect.{entry_after, tree_after}
use Rattle.smb_wire.specs.Counters.{is_spent}
use Rattle.std.specs.List.{AllByRecursion, list_any}
use Rattle.smb_access.specs.Access.{granted}
use Rattle.smb_access.specs.Found.{is_read_only_file}
use Rattle.smb_access.specs.Sharing.{use_asked, is_conflict}
use Rattle.std.specs.Option.{option_map, option_map_or}
use Rattle.smb_tree.specs.Content.{Row}
use Rattle.smb_locks.specs.declared.lock.Lock.{Lock}
use Rattle.smb_access.specs.Close.{is_deletable, has_mark}
use Rattle.smb_opens.specs.Good.{IsMasked}
use Rattle.smb_wire.specs.declared.create_action.CreateAction.TheVariants.{Created}

-- the store once one of its opens is closed: the open is taken out, with its locks; its entry is marked where the open
-- was to delete it, and it can be deleted; and a marked entry without an open is removed ([MS-FSA] 2.1.5.4)
abbrev pub closed_open : StoreState → OpenRow → StoreState
closed_open state row = record state {
  tree = tree_cleared (tree_marked state.tree row) (without_open row.number state.opens) row.entry;
  opens = without_open row.number state.opens;
  locks = without_holder row.number state.locks;
}

-- the entry of an open is removed where this is closed
abbrev pub removes_entry : StoreState → OpenRow → Bool
removes_entry state row = is_due (tree_marked state.tree row) (without_open row.number state.opens) row.entry

-- opens are closed one after the other
abbrev pub closed_each : StoreState → List ℕ → StoreState
closed_each = fold closed

-- the store afterwards, of an entry that stood or did not
abbrev pub created_by : StoreState → FileAsked → ℕ → Access → Option Entry → StoreState
created_by state ask moment access stood = record {
  tree = tree_after state.tree ask moment stood;
  opens = state.opens ++ opened_by ask state.next (entry_after state.tree ask moment stood).number access ∷ [];
  locks = state.locks;
  next = state.next + 1;
}

-- what is answered, of an entry that existed or did not
abbrev pub create_result_by : StoreState → FileAsked → ℕ → Access → Option Entry → CreatedOpen
create_result_by state ask moment access stood = record {
  number = state.next;
  action = option_map_or (λ found. action_on ask.disposition) stood Created;
  view = view_of access (entry_after state.tree ask moment stood);
}

-- the request conflicts with an open of the entry
abbrev pub conflicts : StoreState → FileAsked → Option Entry → Bool
conflicts state ask entry = option_map_or
    (λ found.
    let wanted = use_asked ask (granted ask.access ask.read_only (is_read_only_file (Some found))) in
    list_any (λ row. row.entry == found.number && is_conflict wanted (row.access, row.share)) state.opens)
    entry false

-- the store with other locks, by what the open of a number shows: without it, and of a folder, all is as it was
abbrev pub with_locks_of : (ℕ → Table) → StoreState → Option View → StoreState
with_locks_of table state view = option_map_or
    (λ (view : View). if is_folder_kind view.kind then state else record state { locks = table view.entry })
    view state

-- as many opens exist as the limits let be, or their numbers are spent
abbrev pub has_all_opens : StoreState → Bool
has_all_opens state = nat_le state.tree.limits.opens (length state.opens) || is_spent 64 state.next

-- as many entries exist besides the root as the limits let be, or their numbers are spent
abbrev pub has_all_entries : StoreState → Bool
has_all_entries state = nat_le state.tree.limits.entries (length state.tree.rows - 1) || is_spent 64 state.tree.next

-- each marked entry can be deleted, so is not the root, and has an open
abbrev pub AreMarksDue : List Row → List OpenRow → Type 0
AreMarksDue rows opens =
    (number : ℕ) → has_mark rows number ≡ true → (is_deletable rows number ≡ true) × (has_open opens number ≡ true)

-- each lock is held by an open of the file that it is on
abbrev pub AreLocksHeld : Table → List OpenRow → Type 0
AreLocksHeld locks opens =
    (file : ℕ) (lock : Lock) → Contains (locks_on locks file) lock →
    option_map (λ (row : OpenRow). row.entry) (open_of opens lock.holder) ≡ Some file

-- each open is within its masks
abbrev pub AreMasked : List OpenRow → Type 0
AreMasked = AllByRecursion IsMasked
