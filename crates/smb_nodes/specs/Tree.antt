-- For the proofs; nothing here need be believed.
-- A tree of nodes as a content.
use Rattle.std.specs.Prelude.{◌≡◌, ℕ, ◌≤◌, List, length}
use Rattle.std.specs.List.{AllByRecursion}
use Rattle.smb_wire.specs.Limits.{most_components}
use Rattle.smb_tree.specs.Content.{Row, Content, used_space}
use Rattle.smb_nodes.specs.Nodes.{rows_in, levels, IsTree}
use Rattle.smb_nodes.specs.Seen.{heap_of}
use Rattle.smb_nodes.specs.declared.tree.NodeTree.TheInside.{Inside}

-- the entries of the index at their paths, the next number, the capacity and the limits
abbrev pub content_kept : Inside → Content
content_kept tree = record {
  rows = rows_in (heap_of tree.nodes) levels tree.index.entries;
  next = tree.next;
  capacity = tree.capacity;
  limits = tree.limits;
}

-- no path of the rows has more components than so many, which are at most 32
pub record IsBound (most : ℕ) (rows : List Row) : Type 0 where
  pub few : most ≤ most_components
  pub short : AllByRecursion (λ row. length row.0 ≤ most) rows

-- the nodes are a tree, the used space is kept beside the entries that use it, and no path is longer than the bound
pub record KeepsTree (tree : Inside) : Type 0 where
  pub is_tree : IsTree (heap_of tree.nodes) tree.index.entries tree.next
  pub used : tree.used ≡ used_space (rows_in (heap_of tree.nodes) levels tree.index.entries)
  pub bound : IsBound tree.deepest (rows_in (heap_of tree.nodes) levels tree.index.entries)
