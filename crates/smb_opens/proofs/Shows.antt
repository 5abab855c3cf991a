-- What an open shows is of an open and an entry that exist.
use Rattle.std.proofs.Common.{◌≡◌, ℕ, None, Some, refl, ◌∙◌, ap}
use Rattle.std.specs.Option.{option_map}
use Rattle.smb_tree.specs.Content.{Row, numbered}
use Rattle.smb_tree.proofs.Apart.{number-from_numbered}
use Rattle.smb_access.specs.declared.open_row.OpenRow.{OpenRow}
use Rattle.smb_access.specs.declared.view.View.{View}
use Rattle.smb_access.specs.Opens.{open_of}
use Rattle.smb_opens.specs.State.{StoreState}
use Rattle.smb_access.specs.Views.{view_of}
use Rattle.smb_access.specs.Parts.{view_through}
use Rattle.smb_opens.specs.Views.{open_view}

-- the open of a number and its entry, which show this
pub record ShownBy (state : StoreState) (number : ℕ) (view : View) : Type 0 where
  pub held : OpenRow
  pub row : Row
  pub opened : open_of state.opens number ≡ Some held
  pub at_entry : numbered state.tree.rows held.entry ≡ Some row
  pub shown : view ≡ view_of held.access row.1

shown_at : (state : StoreState) (number : ℕ) (view : View) (held : OpenRow) → open_of state.opens number ≡ Some held →
    Some view ≡ view_through state.tree.rows (Some held) → ShownBy state number view
shown_at state number view held at e =
    elim (numbered state.tree.rows held.entry) as (λ o. numbered state.tree.rows held.entry ≡ o → Some view ≡ option_map (λ (row : Row). view_of held.access row.1) o → ShownBy state number view) [
      | None ↦ λ _ f. cc
      | Some row ↦ λ h f. (let same : view ≡ view_of held.access row.1 = cc in record { held = held; row = row; opened = at; at_entry = h; shown = same })
    ] refl e

pub shown_by : (state : StoreState) (number : ℕ) (view : View) → Some view ≡ open_view state number → ShownBy state number view
shown_by state number view e =
    elim (open_of state.opens number) as (λ o. open_of state.opens number ≡ o → Some view ≡ view_through state.tree.rows o → ShownBy state number view) [
      | None ↦ λ _ f. cc
      | Some held ↦ λ at f. shown_at state number view held at f
    ] refl e

-- the entry that is shown is that of the open
pub entry_of : (state : StoreState) (number : ℕ) (view : View) → (s : ShownBy state number view) → view.entry ≡ s.held.entry
entry_of state number view s = ap (λ (v : View). v.entry) s.shown ∙ number-from_numbered state.tree.rows s.row s.held.entry s.at_entry
