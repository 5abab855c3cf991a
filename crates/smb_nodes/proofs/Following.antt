-- The child that comes next, by its number.
use Rattle.std.specs.Prelude.{◌≡◌, ℕ, true, List, Option, None, Some}
use Rattle.std.specs.Option.{option_map, option_and_then}
use Rattle.std.proofs.Common.{sym, ap, ◌∙◌}
use Rattle.smb_tree.specs.Content.{Row}
use Rattle.smb_tree.specs.Children.{child_after}
use Rattle.smb_tree.specs.Parts.{is_after, next_child}
use Rattle.smb_nodes.specs.declared.tree.NodeTree.TheInside.{Inside}
use Rattle.smb_nodes.specs.Nodes.{child_in, slot_of, entry_of_slot}
use Rattle.smb_nodes.specs.Changes.{IsNext}
use Rattle.smb_nodes.specs.Seen.{heap_of}
use Rattle.smb_nodes.specs.Tree.{content_kept, KeepsTree}
use Rattle.smb_nodes.proofs.Kept.{no_row, live_is, row_is}
use Rattle.smb_nodes.proofs.Nexting.{next_row, no_next}

abbrev number_next : List Row → Option (List ℕ) → Option Row → Option ℕ
number_next rows after = option_and_then (λ (folder : Row). option_map (λ (row : Row). row.1.number) (next_child rows folder.0 after))

pub no_folder : (x : Inside) (n : ℕ) (after : Option (List ℕ)) → KeepsTree x → slot_of x.index.entries n ≡ None → None ≡ child_after (content_kept x).rows n after
no_folder x n after k h = sym (ap (number_next (content_kept x).rows after) (no_row x n k h))

module _ (x : Inside) (n s : ℕ) (k : KeepsTree x) (at : slot_of x.index.entries n ≡ Some s) (after : Option (List ℕ)) where
  pub child_next : (u number : ℕ) → IsNext (heap_of x.nodes s) after u → number ≡ (entry_of_slot (heap_of x.nodes) u).number → Some number ≡ child_after (content_kept x).rows n after
  child_next u number w e =
      let found = next_row (heap_of x.nodes) x.index.entries x.next k.is_tree s (live_is x n s k at) after u w in
      ap Some e
      ∙ sym (ap (number_next (content_kept x).rows after) (row_is x n s k at) ∙ ap (option_map (λ (row : Row). row.1.number)) found)

  pub no_child_next : ((name : List ℕ) → is_after after name ≡ true → child_in (heap_of x.nodes s) name ≡ None) → None ≡ child_after (content_kept x).rows n after
  no_child_next none =
      let found = no_next (heap_of x.nodes) x.index.entries x.next k.is_tree s (live_is x n s k at) after none in
      sym (ap (number_next (content_kept x).rows after) (row_is x n s k at) ∙ ap (option_map (λ (row : Row). row.1.number)) found)
