-- Opens that are shown, and closed one after the other: lemmas about the definitions alone.
use Rattle.std.proofs.Common.{◌≡◌, ℕ, List, true, Option, None, Some, is_some, IsSome, refl, sym, ap, ◌∙◌}
use Rattle.std.specs.Option.{option_map}
use Rattle.smb_tree.specs.Content.{Row, numbered}
use Rattle.smb_access.specs.declared.open_row.OpenRow.{OpenRow}
use Rattle.smb_access.specs.declared.open_row.Owner.{Owner}
use Rattle.smb_opens.specs.Close.{closed, closed_all}
use Rattle.smb_opens.specs.Parts.{closed_each}
use Rattle.smb_opens.specs.Good.{GoodStore}
use Rattle.smb_access.specs.Opens.{open_of, first_held_by}
use Rattle.smb_opens.specs.State.{StoreState}
use Rattle.smb_access.specs.Parts.{view_at}
use Rattle.smb_opens.proofs.Closing.{opens_closed}
use Rattle.smb_access.proofs.Rows.{found, numbers_held, first_stands, first_closed, none_held}

pub some_of : {X : Type 0} (o : Option X) → is_some o ≡ true → IsSome o
some_of None e = cc
some_of (Some x) e = refl

-- an open that stands shows its entry
pub open_shown : (state : StoreState) → GoodStore state → (number : ℕ) (row : OpenRow) → open_of state.opens number ≡ Some row → is_some (view_at state.tree.rows row.entry row.access) ≡ true
open_shown state good number row e =
    elim (numbered state.tree.rows row.entry) as (λ o. is_some o ≡ true → is_some (option_map (λ (r : Row). Rattle.smb_access.specs.Views.view_of row.access r.1) o) ≡ true) [ None ↦ λ h. h | Some r ↦ λ _. refl ]
    (found (λ row. is_some (numbered state.tree.rows row.entry) ≡ true) state.opens number row good.present e)

-- closing an owner's opens begins with the first
pub closed_first : (state : StoreState) (owner : Owner) (number : ℕ) → GoodStore state → first_held_by owner state.opens ≡ Some number → closed_all (closed state number) owner ≡ closed_all state owner
closed_first state owner number good e =
    ap (λ (opens : List OpenRow). closed_each (closed state number) (numbers_held owner opens)) (opens_closed state number (first_stands owner state.opens number e))
    ∙ ap (closed_each state) (sym (first_closed owner state.opens number good.rising e))

-- and ends where none is left
pub closed_last : (state : StoreState) (owner : Owner) → first_held_by owner state.opens ≡ None → state ≡ closed_all state owner
closed_last state owner e = ap (closed_each state) (sym (none_held owner state.opens e))
