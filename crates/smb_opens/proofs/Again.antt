-- What a WRITE leaves, and the entry of an open.
use Rattle.std.proofs.Common.{◌≡◌, ◌==◌, ℕ, List, length, true, false, None, Some, is_some, refl}
use Rattle.std.specs.Prelude.{if◌then◌else◌}
use Rattle.std.specs.Option.{option_map_or}
use Rattle.smb_tree.specs.Content.{Row, numbered}
use Rattle.smb_access.specs.declared.open_row.OpenRow.{OpenRow}
use Rattle.smb_opens.specs.Bytes.{written_to}
use Rattle.smb_entry.specs.Parts.{written_tree}
use Rattle.smb_access.specs.Opens.{open_of}
use Rattle.smb_opens.specs.State.{StoreState}

-- the opens are as they were
pub opens_left : (state : StoreState) (number offset : ℕ) (buffer : List ℕ) (moment : ℕ) → (written_to state number offset buffer moment).opens ≡ state.opens
opens_left state number offset buffer moment =
    elim (open_of state.opens number) as (λ o. (option_map_or (λ (row : OpenRow). if length buffer == 0 then state else record state { tree = written_tree state.tree row.entry offset buffer moment }) o state).opens ≡ state.opens) [
      | None ↦ refl
      | Some row ↦ elim (length buffer == 0) as (λ b. (if b then state else record state { tree = written_tree state.tree row.entry offset buffer moment }).opens ≡ state.opens) [ true ↦ refl | false ↦ refl ]
    ]

pub entry_there : (rows : List Row) (n : ℕ) → is_some (numbered rows n) ≡ true → (row : Row) × (numbered rows n ≡ Some row)
entry_there rows n e =
    elim (numbered rows n) as (λ o. is_some o ≡ true → (row : Row) × (o ≡ Some row)) [
      | None ↦ λ h. absurd (cc)
      | Some row ↦ λ h. (row, refl)
    ] e
