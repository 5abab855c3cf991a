-- Whether the entry of one number lies within that of another one, by their slots.
use Rattle.std.specs.Prelude.{◌≡◌, ℕ, Bool, false, None, Some, refl}
use Rattle.std.proofs.Common.{◌∙◌}
use Rattle.smb_tree.specs.Content.{numbered}
use Rattle.smb_tree.specs.Moves.{is_row_within}
use Rattle.smb_nodes.specs.declared.tree.NodeTree.TheInside.{Inside}
use Rattle.smb_nodes.specs.Nodes.{slot_of}
use Rattle.smb_nodes.specs.Seen.{heap_of}
use Rattle.smb_nodes.specs.Tree.{content_kept, KeepsTree}
use Rattle.smb_nodes.specs.Ways.{is_within_slot}
use Rattle.smb_nodes.proofs.Distances.{within_is}
use Rattle.smb_nodes.proofs.Kept.{no_row, row_is, live_is}

pub none_above : (x : Inside) (above number : ℕ) → KeepsTree x → slot_of x.index.entries above ≡ None → false ≡ is_row_within (numbered (content_kept x).rows above) (numbered (content_kept x).rows number)
none_above x above number k h =
    let none = no_row x above k h in
    rw none refl

module _ (x : Inside) (above number top : ℕ) (k : KeepsTree x) (at : slot_of x.index.entries above ≡ Some top) where
  pub none_within : slot_of x.index.entries number ≡ None → false ≡ is_row_within (numbered (content_kept x).rows above) (numbered (content_kept x).rows number)
  none_within h =
      let head = row_is x above top k at in
      let none = no_row x number k h in
      rw (head, none) refl

  pub within_told : (slot : ℕ) (b : Bool) → slot_of x.index.entries number ≡ Some slot → b ≡ is_within_slot (heap_of x.nodes) top (Some slot) → b ≡ is_row_within (numbered (content_kept x).rows above) (numbered (content_kept x).rows number)
  within_told slot b h e =
      let head = row_is x above top k at in
      let row = row_is x number slot k h in
      let inside = within_is (heap_of x.nodes) x.index.entries x.next k.is_tree top (live_is x above top k at) slot (live_is x number slot k h) in
      rw (head, row) (e ∙ inside)
