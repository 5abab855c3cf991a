-- A rename of a store's entry ([MS-SMB2] 3.3.5.21.1, [MS-FSA] 2.1.5.15.11). The rows are those of docs/PROFILE.md.
use Rattle.std.specs.Prelude.{ℕ, Bool, List, ◌||◌, ◌&&◌, false, not, [], ◌∷◌, slice_index, Option, None, Some, is_some, ◌==◌, length, nat_lt}
use Rattle.std.specs.Option.{option_map_or, option_and_then}
use Rattle.smb_wire.specs.declared.nt_status.NtStatus.{NtStatus}
use Rattle.smb_wire.specs.Paths.{path_spelled, is_separator, path_fault, folded_path}
use Rattle.smb_access.specs.declared.open_row.OpenRow.{OpenRow}
use Rattle.smb_access.specs.Opens.{open_of, has_open}
use Rattle.smb_opens.specs.State.{StoreState}
use Rattle.smb_opens.specs.Views.{open_view, status_through}
use Rattle.smb_refusals.specs.declared.set_info.RenameRefusal.{RenameRefusal}
use Rattle.smb_refusals.specs.declared.set_info.RenameRefusal.TheVariants.{NameBeginsWithSeparator, NameIsNoPath, DeleteNotGranted, EntryToBeDeleted, NewPathIsBeneath, PathNotFound, OpenBeneath, TargetToBeDeleted, TargetExists, TargetNotReplaceable, PathTooDeep}
use Rattle.smb_refusals.specs.declared.refusal.Refusal.{Refusal}
use Rattle.smb_refusals.specs.Rows.{DecidingRow, first_decided, with_decided_statuses}
use Rattle.smb_access.specs.declared.view.View.{View}
use Rattle.smb_access.specs.Access.{is_deleting}
use Rattle.smb_access.specs.Found.{is_read_only_file, is_pending, is_reached}
use Rattle.smb_tree.specs.Content.{Path, entry_at, is_same_path, numbered, changed, Row}
use Rattle.std.specs.List.{list_any}
use Rattle.smb_tree.specs.Entries.{is_folder_kind, kept_basic}
use Rattle.smb_tree.specs.Moves.{moved, is_within, replaced}
use Rattle.smb_wire.specs.Limits.{most_components}

-- the rows of a SET_INFO that renames the entry of an open, which shows this, to what a name spells; with the flag
-- (ReplaceIfExists) an entry that exists at the new path may be replaced
abbrev pub rename_refusals : StoreState → List ℕ → Bool → View → List (DecidingRow RenameRefusal)
rename_refusals state name replace view =
    let rows = state.tree.rows in
    let path_of : ℕ → Path = λ number. option_map_or (λ row. row.0) (numbered rows number) [] in
    let from = path_of view.entry in
    let to = folded_path (path_spelled name) in
    let is_beneath : Path → Bool = λ path. is_within from path && not (is_same_path from path) in
    -- N1. the name is empty, or begins with a separator ([MS-FSCC] 2.4.42)
    (length name == 0 || is_separator (slice_index name 0), Some NameBeginsWithSeparator)
    -- N2. the name is no path ([MS-FSCC] 2.1.5, [MS-FSA] 2.1.5.15.11)
    ∷ (is_some (path_fault name), Some NameIsNoPath)
    -- N3. the open was not granted DELETE, or the entry is the root ([MS-FSA] 2.1.5.15.11)
    ∷ (not (is_deleting view.access) || view.entry == 1, Some DeleteNotGranted)
    -- N4. the entry is marked, so it is about to be deleted ([MS-FSA] 2.1.5.15.11)
    ∷ (view.mark, Some EntryToBeDeleted)
    -- N5. the new path lies beneath the entry ([MS-FSA] 2.1.5.15.11)
    ∷ (is_beneath to, Some NewPathIsBeneath)
    -- N6. an entry above the new path is absent, or a file ([MS-FSA] 2.1.5.15.11)
    ∷ (not (is_reached rows to), Some PathNotFound)
    -- N7. the new path is the old one, but for how it is spelled: nothing more is asked ([MS-FSA] 2.1.5.15.11)
    ∷ (is_same_path from to, None)
    -- N8. the entry is a folder, and an entry beneath it has an open ([MS-FSA] 2.1.5.15.11)
    ∷ (
      is_folder_kind view.kind
          && list_any (λ (row : OpenRow). is_beneath (path_of row.entry)) state.opens,
      Some OpenBeneath,
    )
    -- N9. the entry at the new path, or its folder, is marked ([MS-FSA] 2.1.5.15.11)
    ∷ (is_pending rows to, Some TargetToBeDeleted)
    -- N10. an entry exists at the new path, and ReplaceIfExists is not set ([MS-FSCC] 2.4.42)
    ∷ (is_some (entry_at rows to) && not replace, Some TargetExists)
    -- N11. it is a folder, a read-only file, or has an open ([MS-FSA] 2.1.5.15.11)
    ∷ (
      option_map_or
          (λ entry. is_folder_kind entry.kind || is_read_only_file (Some entry) || has_open state.opens entry.number)
          (entry_at rows to) false,
      Some TargetNotReplaceable,
    )
    -- N12. a path would have more than 32 components ([MS-FSCC] 2.1.5)
    ∷ (
      list_any (λ (row : Row). is_within from row.0 && nat_lt most_components (length (replaced from to row.0))) rows,
      Some PathTooDeep,
    )
    ∷ []

-- why it is refused, if it is
abbrev pub rename_refusal : StoreState → ℕ → List ℕ → Bool → Option RenameRefusal
rename_refusal state number name replace =
    option_and_then (λ view. first_decided (rename_refusals state name replace view)) (open_view state number)

-- its status
abbrev pub rename_status : StoreState → ℕ → List ℕ → Bool → NtStatus
rename_status state number name replace = status_through state number
    (λ view. with_decided_statuses (λ refusal. Refusal.Rename refusal) (rename_refusals state name replace view))

-- the store afterwards: the entry is moved, with all that lies beneath it, to the path that the name spells, where a file
-- is gone; its time of the last change is the moment; opens and locks are of entries, by their numbers, and stay
abbrev pub renamed_through : StoreState → ℕ → List ℕ → ℕ → StoreState
renamed_through state number name moment = option_map_or
    (λ (row : OpenRow).
    let tree = moved state.tree row.entry (path_spelled name) in
    record state {
      tree = record tree {
        rows = changed (λ entry. record entry { basic = kept_basic (record entry.basic { change_time = moment }) })
            tree.rows row.entry;
      };
    })
    (open_of state.opens number) state
