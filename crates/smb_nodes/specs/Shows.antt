-- For the proofs; nothing here need be believed.
-- What is shown of a node.
use Rattle.std.specs.Prelude.{length}
use Rattle.smb_tree.specs.Views.{Shown}
use Rattle.smb_nodes.specs.Nodes.{TreeNode, Heap, entry_of_slot}

-- what a node shows; the parent's number is that in its parent's slot
abbrev pub node_shown : Heap → TreeNode → Shown
node_shown nodes node = record {
  number = node.entry.number;
  parent = (entry_of_slot nodes node.up).number;
  kind = node.entry.kind;
  basic = node.entry.basic;
  size = length node.entry.bytes;
  mark = node.entry.mark;
  spelling = node.entry.spelling;
}
