-- Requests that touch no lock, and no open but the one that they make.
use Rattle.std.proofs.Common.{◌≡◌, ◌≢◌, ℕ, ◌==◌, List, [], ◌∷◌, ◌++◌, length, Bool, true, false, if◌then◌else◌, Option, None, Some, refl, arith}
use Rattle.std.proofs.lemmas.Bool.Decides.{nat_tests}
use Rattle.std.specs.Option.{option_map_or}
use Rattle.smb_tree.specs.Content.{Content}
use Rattle.smb_tree.specs.Entries.{is_folder_kind}
use Rattle.smb_locks.specs.Table.{Table, locked, unlocked}
use Rattle.smb_access.specs.declared.view.View.{View}
use Rattle.smb_access.specs.declared.open_row.OpenRow.{OpenRow}
use Rattle.smb_access.specs.Opens.{open_of}
use Rattle.smb_opens.specs.State.{StoreState}
use Rattle.smb_opens.specs.Parts.{with_locks_of}
use Rattle.smb_opens.specs.Views.{open_view}
use Rattle.smb_content_laws.specs.Locking.{RequestsLeaveLocksAndOpens}

-- a store has the locks and the opens that another one had
abbrev HasSameOpens : StoreState → StoreState → Type 0
HasSameOpens before after = (after.locks ≡ before.locks) × (after.opens ≡ before.opens)

-- a last open of another number is not the one that is found
others_found : (rows : List OpenRow) (last : OpenRow) (other : ℕ) → other ≢ last.number → open_of (rows ++ last ∷ []) other ≡ open_of rows other
others_found [] last other h = grind (arith, nat_tests, h)
others_found (x ∷ rows) last other h =
    elim (x.number == other) as (λ b. (if b then Some x else open_of (rows ++ last ∷ []) other) ≡ (if b then Some x else open_of rows other)) [ true ↦ refl | false ↦ others_found rows last other h ]

-- a store with another tree, where there is an open
set_beside : (tree : OpenRow → Content) (state : StoreState) (held : Option OpenRow) →
    HasSameOpens state (option_map_or (λ (row : OpenRow). let x : StoreState = record state { tree = tree row } in x) held state)
set_beside tree state None = (refl, refl)
set_beside tree state (Some row) = (refl, refl)

some_beside : (tree : OpenRow → Content) (none : Bool) (state : StoreState) (held : Option OpenRow) →
    HasSameOpens state (option_map_or (λ (row : OpenRow). let x : StoreState = if none then state else record state { tree = tree row } in x) held state)
some_beside tree none state None = (refl, refl)
some_beside tree true state (Some row) = (refl, refl)
some_beside tree false state (Some row) = (refl, refl)

-- a store with other locks, where a file is open
locks_beside : (table : ℕ → Table) (state : StoreState) (view : Option View) → ((with_locks_of table state view).tree ≡ state.tree) × ((with_locks_of table state view).opens ≡ state.opens)
locks_beside table state None = (refl, refl)
locks_beside table state (Some view) =
    elim (is_folder_kind view.kind) as (λ b. ((let s : StoreState = if b then state else record state { locks = table view.entry } in s).tree ≡ state.tree) × ((let s : StoreState = if b then state else record state { locks = table view.entry } in s).opens ≡ state.opens)) [ true ↦ (refl, refl) | false ↦ (refl, refl) ]

pub leaves_beside : RequestsLeaveLocksAndOpens
leaves_beside state number offset size moment buffer name is_deleted is_allocation ask times asks = (
  refl,
  λ other apart. others_found state.opens _ other apart,
  (
    some_beside _ (length buffer == 0) state (open_of state.opens number),
    (
      set_beside _ state (open_of state.opens number),
      (
        set_beside _ state (open_of state.opens number),
        (set_beside _ state (open_of state.opens number), (set_beside _ state (open_of state.opens number), tt)),
      ),
    ),
  ),
  (
    locks_beside (λ entry. locked state.locks entry number asks) state (open_view state number),
    (locks_beside (λ entry. unlocked state.locks entry number asks) state (open_view state number), tt),
  ),
)
