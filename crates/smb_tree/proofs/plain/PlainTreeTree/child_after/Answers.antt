use Rattle.std.proofs.Common.{ℕ, List, ap, ◌∙◌}
use Rattle.std.specs.Option.{option_map, option_copied}
use Rattle.smb_wire.specs.Paths.{components, folded_path}
use Rattle.smb_tree.specs.Content.{Row}
use Rattle.smb_tree.specs.Parts.{next_child}
use Rattle.smb_tree.specs.Plain.{rows_of}
use Rattle.smb_tree.proofs.Places.{place_found}
use Rattle.smb_tree.proofs.plain.PlainTreeTree.child_after.Goals as goal

pub returns : goal.returns
returns c =
    let found = place_found _ _ _ _ (c.in_ok-i.ensures.place _ c.index.ensures) in
    rw (← c.self.view_is, found)
    (c.next_child.ensures ∙ ap (λ (us : List ℕ). option_map (λ (row : Row). row.1.number) (next_child (rows_of c.self.inside.entries.items) (folded_path (components us)) (option_copied c.args.after))) c.text_of.ensures.units)
