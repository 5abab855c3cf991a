-- For the proofs; nothing here need be believed.
-- The texts that stored entries get by a move.
use Rattle.std.specs.Prelude.{ℕ, Bool, if◌then◌else◌, List, [], ◌∷◌, ◌++◌, length, drop, Option, None, Some}
use Rattle.std.specs.Option.{option_map}
use Rattle.smb_wire.specs.Pairs.{units_in}
use Rattle.smb_wire.specs.Paths.{components, folded_path}
use Rattle.smb_tree.specs.declared.stored.Stored.{Stored}
use Rattle.smb_tree.specs.declared.stored.NewText.{NewText}
use Rattle.smb_tree.specs.Content.{Row}
use Rattle.smb_tree.specs.Entries.{last_part}
use Rattle.smb_tree.specs.Moves.{is_within}
use Rattle.smb_tree.specs.Plain.{parts_stored}

-- a component behind a text of others
abbrev pub separated : Bool → List ℕ → List ℕ
separated first part = if first then part else 92 ∷ part

-- the components of a text that an entry gets, if it gets one
abbrev pub parts_new : Option NewText → Option (List (List ℕ))
parts_new = option_map (λ new. components (units_in new.text.items))

-- the components of the path that a stored entry gets by a move between the paths of these components, if it is moved
abbrev pub parts_moved : List (List ℕ) → List (List ℕ) → Stored → Option (List (List ℕ))
parts_moved from to stored =
    if is_within (folded_path from) (folded_path (parts_stored stored))
    then Some (to ++ drop (length from) (parts_stored stored)) else None

-- a row whose entry gets these components
abbrev pub with_parts : Row → Option (List (List ℕ)) → Row
with_parts row None = row
with_parts row (Some parts) = (folded_path parts, record row.1 { spelling = last_part parts })

-- rows with these components, as far as they go
abbrev pub with_all_parts : List Row → List (Option (List (List ℕ))) → List Row
with_all_parts [] news = []
with_all_parts (row ∷ rows) [] = row ∷ rows
with_all_parts (row ∷ rows) (new ∷ news) = with_parts row new ∷ with_all_parts rows news
