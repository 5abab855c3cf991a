-- What is shown of an entry that is there.
use Rattle.std.proofs.Common.{◌≡◌, ℕ, true, List, None, Some, is_some, refl}
use Rattle.std.specs.Option.{option_map}
use Rattle.smb_tree.specs.Content.{Row, numbered}
use Rattle.smb_tree.specs.Views.{Shown, row_shown, entry_shown}

pub shown_there : (rows : List Row) (number : ℕ) → is_some (numbered rows number) ≡ true → (entry : Shown) × (Some entry ≡ entry_shown rows number)
shown_there rows number i =
    elim (numbered rows number) as (λ o. is_some o ≡ true → (entry : Shown) × (Some entry ≡ option_map (row_shown rows) o)) [
      | None ↦ λ e. cc
      | Some row ↦ λ e. (row_shown rows row, refl)
    ] i
