-- The room and the limits of the tree stay as they are.
use Rattle.std.proofs.Common.{◌≡◌, ◌==◌, ◌&&◌, ℕ, true, false, filter, List, [], ◌∷◌, length, Option, None, Some, refl, ◌∙◌, if◌then◌else◌}
use Rattle.std.specs.Option.{option_map_or}
use Rattle.smb_wire.specs.declared.limits.share.Limits.{Limits}
use Rattle.smb_wire.specs.Dispositions.{overwrites_by}
use Rattle.smb_tree.specs.Entries.{Entry, is_folder_kind}
use Rattle.smb_tree.specs.Content.{Content}
use Rattle.smb_tree.specs.Parts.{with_mark, removed}
use Rattle.smb_locks.specs.Table.{Table}
use Rattle.smb_access.specs.declared.open_row.OpenRow.{OpenRow}
use Rattle.smb_access.specs.declared.open_row.Owner.{Owner}
use Rattle.smb_access.specs.declared.open_row.Owner.TheVariants.{Session}
use Rattle.smb_access.specs.declared.view.View.{View}
use Rattle.smb_access.specs.Asked.{FileAsked}
use Rattle.smb_entry.specs.Parts.{written_tree}
use Rattle.smb_opens.specs.Bytes.{written_to}
use Rattle.smb_access.specs.Close.{is_deletable}
use Rattle.smb_access.specs.Parts.{is_due, tree_marked, tree_cleared, standing_tree, overwritten_tree}
use Rattle.smb_opens.specs.Close.{closed, closed_all}
use Rattle.smb_opens.specs.Parts.{closed_open, closed_each, with_locks_of}
use Rattle.smb_access.specs.Effect.{tree_after}
use Rattle.smb_opens.specs.Effect.{created}
use Rattle.smb_opens.specs.Found.{entry_asked}
use Rattle.smb_access.specs.Opens.{open_of, open_numbers, without_open, is_held_by}
use Rattle.smb_opens.specs.State.{StoreState}
use Rattle.smb_request.specs.Parts.{closed_for}

-- what of a tree no request changes: its capacity and its limits
abbrev pub room_of : Content → ℕ × Limits
room_of tree = (tree.capacity, tree.limits)

standing_kept : (tree : Content) (ask : FileAsked) (moment number : ℕ) → room_of (standing_tree tree ask moment number) ≡ room_of tree
standing_kept tree ask moment number =
    elim (overwrites_by ask.disposition) as (λ b. room_of (let x : Content = if b then overwritten_tree tree ask moment number else tree in x) ≡ room_of tree) [ true ↦ refl | false ↦ refl ]

created_at : (tree : Content) (ask : FileAsked) (moment : ℕ) (entry : Option Entry) → room_of (tree_after tree ask moment entry) ≡ room_of tree
created_at tree ask moment None = refl
created_at tree ask moment (Some entry) = standing_kept tree ask moment entry.number

pub created_kept : (store : StoreState) (ask : FileAsked) (moment : ℕ) → room_of ((created store ask moment).tree) ≡ room_of store.tree
created_kept store ask moment = created_at store.tree ask moment (entry_asked store ask)

marked_kept : (tree : Content) (row : OpenRow) → room_of (tree_marked tree row) ≡ room_of tree
marked_kept tree row =
    elim (row.delete_on_close && is_deletable tree.rows row.entry) as (λ b. room_of (let x : Content = if b then with_mark tree row.entry true else tree in x) ≡ room_of tree) [ true ↦ refl | false ↦ refl ]

cleared_kept : (tree : Content) (opens : List OpenRow) (number : ℕ) → room_of (tree_cleared tree opens number) ≡ room_of tree
cleared_kept tree opens number = elim (is_due tree opens number) as (λ b. room_of (let x : Content = if b then removed tree number else tree in x) ≡ room_of tree) [ true ↦ refl | false ↦ refl ]

closed_at : (store : StoreState) (row : Option OpenRow) → room_of ((option_map_or (closed_open store) row store).tree) ≡ room_of store.tree
closed_at store None = refl
closed_at store (Some row) = cleared_kept (tree_marked store.tree row) (without_open row.number store.opens) row.entry ∙ marked_kept store.tree row

pub closed_kept : (store : StoreState) (number : ℕ) → room_of ((closed store number).tree) ≡ room_of store.tree
closed_kept store number = closed_at store (open_of store.opens number)

each_kept : (store : StoreState) (numbers : List ℕ) → room_of ((closed_each store numbers).tree) ≡ room_of store.tree
each_kept store [] = refl
each_kept store (number ∷ numbers) = each_kept (closed store number) numbers ∙ closed_kept store number

pub all_kept : (store : StoreState) (owner : Owner) → room_of ((closed_all store owner).tree) ≡ room_of store.tree
all_kept store owner = each_kept store (open_numbers (filter (is_held_by owner) store.opens))

pub ended_kept : (store : StoreState) (session : Option ℕ) → room_of ((closed_for store session).tree) ≡ room_of store.tree
ended_kept store None = refl
ended_kept store (Some session) = all_kept store (Session session)

pub locks_kept : (table : ℕ → Table) (store : StoreState) (view : Option View) → room_of ((with_locks_of table store view).tree) ≡ room_of store.tree
locks_kept table store None = refl
locks_kept table store (Some view) =
    elim (is_folder_kind view.kind) as (λ b. room_of ((let x : StoreState = if b then store else record store { locks = table view.entry } in x).tree) ≡ room_of store.tree) [ true ↦ refl | false ↦ refl ]

pub locks_opens : (table : ℕ → Table) (store : StoreState) (view : Option View) → (with_locks_of table store view).opens ≡ store.opens
locks_opens table store None = refl
locks_opens table store (Some view) =
    elim (is_folder_kind view.kind) as (λ b. (let x : StoreState = if b then store else record store { locks = table view.entry } in x).opens ≡ store.opens) [ true ↦ refl | false ↦ refl ]

written_at : (store : StoreState) (offset moment : ℕ) (buffer : List ℕ) (row : Option OpenRow) →
    room_of ((option_map_or (λ (row : OpenRow). if length buffer == 0 then store else record store { tree = written_tree store.tree row.entry offset buffer moment }) row store).tree) ≡ room_of store.tree
written_at store offset moment buffer None = refl
written_at store offset moment buffer (Some row) =
    elim (length buffer == 0) as (λ b. room_of ((let x : StoreState = if b then store else record store { tree = written_tree store.tree row.entry offset buffer moment } in x).tree) ≡ room_of store.tree) [ true ↦ refl | false ↦ refl ]

pub written_kept : (store : StoreState) (number offset : ℕ) (buffer : List ℕ) (moment : ℕ) → room_of ((written_to store number offset buffer moment).tree) ≡ room_of store.tree
written_kept store number offset buffer moment = written_at store offset moment buffer (open_of store.opens number)
