-- What is marked is not opened.
use Rattle.std.proofs.Common.{◌≡◌, ◌⊎◌, inl, inr, Bool, true, false, ◌||◌, Some, refl}
use Rattle.std.specs.Option.{option_map_or}
use Rattle.smb_tree.specs.Content.{entry_at, parent}
use Rattle.smb_tree.specs.Entries.{Entry}
use Rattle.smb_access.specs.Asked.{FileAsked}
use Rattle.smb_access.specs.Found.{path_asked, is_pending}
use Rattle.smb_opens.specs.State.{StoreState}
use Rattle.smb_name_laws.specs.Deletes.{NothingMarkedIsOpened}
use Rattle.smb_name_laws.proofs.KeptOut.{no_row}

or_right : (a b : Bool) → b ≡ true → (a || b) ≡ true
or_right true b e = refl
or_right false b e = e

is_marked : (state : StoreState) (ask : FileAsked) (entry : Entry) → entry.mark ≡ true →
    (entry_at state.tree.rows (path_asked ask) ≡ Some entry) ⊎ (entry_at state.tree.rows (parent (path_asked ask)) ≡ Some entry) →
    is_pending state.tree.rows (path_asked ask) ≡ true
is_marked state ask entry marked (inl here) = rw (here, marked) refl
is_marked state ask entry marked (inr around) =
    or_right (option_map_or (λ (found : Entry). found.mark) (entry_at state.tree.rows (path_asked ask)) false)
    (option_map_or (λ (found : Entry). found.mark) (entry_at state.tree.rows (parent (path_asked ask))) false)
    (rw (around, marked) refl)

pub marked_refused : NothingMarkedIsOpened
marked_refused state ask entry marked found e =
    let off : is_pending state.tree.rows (path_asked ask) ≡ false = (no_row state ask e).1.1.1.1.1.1.1.1.0 in
    let on : is_pending state.tree.rows (path_asked ask) ≡ true = is_marked state ask entry marked found in
    cc
