-- What the close of each open keeps, the end of a connection keeps.
use Rattle.std.proofs.Common.{◌≡◌, ℕ, List, [], ◌∷◌, filter, Option, None, Some, refl}
use Rattle.smb_access.specs.declared.open_row.OpenRow.{OpenRow}
use Rattle.smb_access.specs.declared.open_row.Owner.TheVariants.{Session}
use Rattle.smb_access.specs.Opens.{open_of, open_numbers, is_held_by}
use Rattle.smb_opens.specs.Close.{closed}
use Rattle.smb_opens.specs.Parts.{closed_each}
use Rattle.smb_opens.specs.Good.{GoodStore}
use Rattle.smb_opens.specs.State.{StoreState}
use Rattle.smb_opens.proofs.Closing.{good_closed}
use Rattle.smb_request.specs.Parts.{closed_with}

module _ (P : StoreState → Type 0) (keeps : (state : StoreState) (number : ℕ) → P state → P (closed state number)) where
  pub each_keeps : (numbers : List ℕ) (state : StoreState) → P state → P (closed_each state numbers)
  each_keeps [] state h = h
  each_keeps (number ∷ numbers) state h = each_keeps numbers (closed state number) (keeps state number h)

  pub with_keeps : (sessions : List ℕ) (state : StoreState) → P state → P (closed_with state sessions)
  with_keeps [] state h = h
  with_keeps (session ∷ sessions) state h =
      let numbers = open_numbers (filter (is_held_by (Session session)) state.opens) in
      with_keeps sessions (closed_each state numbers) (each_keeps numbers state h)

-- a close keeps a store good; of a number that no open has, it does nothing
good_at : (state : StoreState) (number : ℕ) (found : Option OpenRow) → open_of state.opens number ≡ found → GoodStore state → GoodStore (closed state number)
good_at state number None e good = rw e good
good_at state number (Some row) e good = good_closed state number good (rw e refl)

pub good_close : (state : StoreState) (number : ℕ) → GoodStore state → GoodStore (closed state number)
good_close state number good = good_at state number (open_of state.opens number) refl good
