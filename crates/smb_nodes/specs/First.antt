-- For the proofs; nothing here need be believed.
-- The nodes of a new tree.
use Rattle.std.specs.Prelude.{◌≡◌, ◌==◌, ℕ, [], false, None, Some}
use Rattle.slab.specs.Slab.{Slab}
use Rattle.smb_tree.specs.Entries.{new_entry}
use Rattle.smb_tree.specs.declared.entry.Kind.TheVariants.{Folder}
use Rattle.smb_nodes.specs.declared.node.Node.{Node}
use Rattle.smb_nodes.specs.Seen.{entry_seen, heap_of, node_seen}

-- the root alone, in slot 0: a folder with no children, which is its own parent
pub record IsRootAlone (nodes : Slab Node) (created : ℕ) : Type 0 where
  pub root : Node
  pub here : heap_of nodes 0 ≡ Some (node_seen root)
  pub entry : entry_seen root ≡ new_entry 1 [] Folder 0 created
  pub up : root.parent ≡ 0
  pub leaf : root.children.entries ≡ []
  pub others : (s : ℕ) → s == 0 ≡ false → heap_of nodes s ≡ None
