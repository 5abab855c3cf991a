-- For the proofs; nothing here need be believed.
-- What the code finds where a rename leads, and the rows over that.
use Rattle.std.specs.Prelude.{◌≡◌, ◌≢◌, ℕ, ◌==◌, ◌||◌, ◌&&◌, Bool, false, not, List, [], ◌∷◌, length, slice_index, Option, None, Some, is_some, if◌then◌else◌}
use Rattle.std.specs.Option.{option_map, option_map_or}
use Rattle.smb_refusals.specs.declared.refused_by.RefusedBy.{RefusedBy}
use Rattle.smb_refusals.specs.declared.refused_by.RefusedBy.TheVariants.{Row as ByRow, NoMemory}
use Rattle.smb_refusals.specs.declared.set_info.RenameRefusal.{RenameRefusal}
use Rattle.smb_refusals.specs.declared.set_info.RenameRefusal.TheVariants.{NameBeginsWithSeparator, NameIsNoPath, DeleteNotGranted, EntryToBeDeleted, NewPathIsBeneath, PathNotFound, OpenBeneath, TargetToBeDeleted, TargetExists, TargetNotReplaceable, PathTooDeep}
use Rattle.smb_wire.specs.Paths.{is_separator, path_fault}
use Rattle.smb_tree.specs.Entries.{is_folder_kind}
use Rattle.smb_tree.specs.declared.fault.TreeFault.{TreeFault}
use Rattle.smb_tree.specs.Content.{Path, Row, entry_at}
use Rattle.smb_access.specs.declared.open_row.OpenRow.{OpenRow}
use Rattle.smb_access.specs.declared.found.Target.{Target}
use Rattle.smb_entry.specs.declared.rename.RenameLookup.{RenameLookup}
use Rattle.smb_access.specs.declared.view.View.{View}
use Rattle.smb_access.specs.Access.{is_deleting}
use Rattle.smb_refusals.specs.Rows.{DecidingRow}
use Rattle.smb_access.specs.Found.{is_pending, is_reached}
use Rattle.smb_access.specs.Looked.{target_of, is_read_only_target}
use Rattle.smb_access.specs.Opens.{has_open}
use Rattle.smb_entry.specs.Parts.{has_open_beneath, is_beneath, path_numbered}

-- what is found between two paths
abbrev pub way_between : List Row → Path → Path → RenameLookup
way_between rows from to = record {
  beneath = is_beneath from to;
  reached = is_reached rows to;
  pending = is_pending rows to;
  target = option_map target_of (entry_at rows to);
}

-- the entry of a number is the target
abbrev pub is_own_target : ℕ → Option Target → Bool
is_own_target entry target = option_map_or (λ (t : Target). t.number == entry) target false

-- how many entries are taken out where it gets the target's place
abbrev pub count_replaced : ℕ → Option Target → ℕ
count_replaced entry target = if option_map_or (λ (t : Target). not (t.number == entry)) target false then 1 else 0

abbrev pub is_kept_target : List OpenRow → Option Target → Bool
is_kept_target opens None = false
is_kept_target opens (Some target) =
    is_folder_kind target.kind || is_read_only_target (Some target) || has_open opens target.number

-- rows 1 and 2, which need the name alone
abbrev pub name_rows : List ℕ → List (DecidingRow RenameRefusal)
name_rows name =
    (length name == 0 || is_separator (slice_index name 0), Some NameBeginsWithSeparator)
    ∷ (is_some (path_fault name), Some NameIsNoPath)
    ∷ []

-- rows 9 to 11
abbrev pub target_rows : List OpenRow → RenameLookup → Bool → List (DecidingRow RenameRefusal)
target_rows opens way replace =
    (way.pending, Some TargetToBeDeleted)
    ∷ (is_some way.target && not replace, Some TargetExists)
    ∷ (is_kept_target opens way.target, Some TargetNotReplaceable)
    ∷ []

-- rows 3 to 11
abbrev pub way_rows : List Row → List OpenRow → View → RenameLookup → Bool → List (DecidingRow RenameRefusal)
way_rows rows opens view way replace =
    (not (is_deleting view.access) || view.entry == 1, Some DeleteNotGranted)
    ∷ (view.mark, Some EntryToBeDeleted)
    ∷ (way.beneath, Some NewPathIsBeneath)
    ∷ (not way.reached, Some PathNotFound)
    ∷ (is_own_target view.entry way.target, None)
    ∷ (is_folder_kind view.kind && has_open_beneath rows opens (path_numbered rows view.entry), Some OpenBeneath)
    ∷ target_rows opens way replace

-- a refusal of a move, by what the tree refuses: of what it refuses only the length of a path is left
abbrev pub IsMoveRefusal : Option TreeFault → RefusedBy RenameRefusal → Type 0
IsMoveRefusal fault (ByRow refusal) = (fault ≢ None) × (refusal ≡ PathTooDeep)
IsMoveRefusal fault NoMemory = fault ≡ None
