-- Closing opens of a store ([MS-SMB2] 3.3.5.10, [MS-FSA] 2.1.5.4).
use Rattle.std.specs.Prelude.{ℕ, Bool, false, filter, ◌&&◌, not, true, if◌then◌else◌, fold, ◌==◌}
use Rattle.std.specs.Option.{option_map_or}
use Rattle.smb_locks.specs.Table.{without_holder}
use Rattle.smb_access.specs.declared.open_row.OpenRow.{OpenRow}
use Rattle.smb_access.specs.declared.open_row.Owner.{Owner}
use Rattle.smb_access.specs.Opens.{open_of, without_open, open_numbers, is_held_by, has_open}
use Rattle.smb_opens.specs.State.{StoreState}
use Rattle.smb_access.specs.Close.{is_deletable, has_mark}
use Rattle.smb_tree.specs.Content.{changed_in, without}

-- the store once the open of a number is closed: the open is taken out, with its locks; its entry is marked where the open
-- was to delete it, and it can be deleted; and a marked entry without an open is removed ([MS-FSA] 2.1.5.4)
abbrev pub closed : StoreState → ℕ → StoreState
closed state number = option_map_or
    (λ (row : OpenRow).
    let opens = filter (λ (other : OpenRow). not (other.number == row.number)) state.opens in
    let marks = row.delete_on_close && is_deletable state.tree.rows row.entry in
    let marked = changed_in (λ entry. record entry { mark = true }) state.tree row.entry in
    let tree = if marks then marked else state.tree in
    let is_removed = has_mark tree.rows row.entry && not (has_open opens row.entry) in
    record state {
      tree = if is_removed then record tree { rows = without tree.rows row.entry } else tree;
      opens = opens;
      locks = without_holder row.number state.locks;
    })
    (open_of state.opens number) state

-- the entry is removed with the open of a number
abbrev pub is_removed_with : StoreState → ℕ → Bool
is_removed_with state number = option_map_or
    (λ (row : OpenRow).
    let marks = row.delete_on_close && is_deletable state.tree.rows row.entry in
    let marked = changed_in (λ entry. record entry { mark = true }) state.tree row.entry in
    let tree = if marks then marked else state.tree in
    has_mark tree.rows row.entry && not (has_open (without_open row.number state.opens) row.entry))
    (open_of state.opens number) false

-- an owner's opens are closed, one after the other, in rising number
abbrev pub closed_all : StoreState → Owner → StoreState
closed_all state owner = fold closed state (open_numbers (filter (is_held_by owner) state.opens))
