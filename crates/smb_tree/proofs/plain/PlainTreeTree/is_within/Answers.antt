use Rattle.std.proofs.Common.{◌≡◌, ℕ, false, List, Option, None, Some, refl, ap, ◌∙◌}
use Rattle.smb_wire.specs.PathViews.{parts_of}
use Rattle.smb_wire.specs.Paths.{folded_path}
use Rattle.smb_tree.specs.Content.{Row}
use Rattle.smb_tree.specs.Moves.{is_within, is_row_within}
use Rattle.smb_tree.specs.Plain.{row_of}
use Rattle.smb_tree.proofs.Places.{place_found}
use Rattle.smb_tree.proofs.plain.PlainTreeTree.is_within.Goals as goal

none_within : (o : Option Row) → false ≡ is_row_within o None
none_within None = refl
none_within (Some head) = refl

pub returns-in_default : goal.returns-in_default
returns-in_default c = rw (← c.self.view_is, c.in_default.ensures.none) refl

pub returns-in_default-place_of : goal.returns-in_default-place_of
returns-in_default-place_of c = rw (← c.self.view_is, c.in_default-place_of.ensures.none) (none_within _)

pub returns : goal.returns
returns c =
    let head = place_found _ _ _ _ (c.in-Some.ensures.place _ c.index.ensures) in
    let row = place_found _ _ _ _ (c.in-Some-place_of.ensures.place _ c.index-2.ensures) in
    rw (← c.self.view_is, head, row)
    (c.is_within.ensures
    ∙ ap (λ (ps : List (List ℕ)). is_within (folded_path ps) (folded_path (parts_of c.path_of-path.result))) c.path_of-head.ensures
    ∙ ap (λ (ps : List (List ℕ)). is_within (row_of c.index.result.now).0 (folded_path ps)) c.path_of-path.ensures)
