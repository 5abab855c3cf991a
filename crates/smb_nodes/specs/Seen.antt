-- For the proofs; nothing here need be believed.
-- The nodes of a tree as the code keeps them.
use Rattle.std.specs.Prelude.{◌≡◌, ℕ, Bool, List, Option, None, Some}
use Rattle.std.specs.Ordering.{nat_cmp}
use Rattle.std.specs.Cmp.Lexicographic.{slice_cmp}
use Rattle.std.specs.BTreeMap.{BTreeMap, is_at}
use Rattle.std.specs.Map.{lookup}
use Rattle.std.specs.declared.cmp.Ordering.{Ordering}
use Rattle.std.specs.Box.{boxed_slice_items}
use Rattle.std.specs.declared.alloc.Global.{Global}
use Rattle.std.specs.declared.boxed.BoxedSlice.{BoxedSlice}
use Rattle.slab.specs.Slab.{Slab, get, slab_len}
use Rattle.smb_wire.specs.Pairs.{units_in}
use Rattle.smb_tree.specs.Entries.{Entry}
use Rattle.smb_nodes.specs.declared.node.Node.{Node}
use Rattle.smb_nodes.specs.Nodes.{TreeNode, Heap}

-- the entry that a node is
abbrev pub entry_seen : Node → Entry
entry_seen node = record {
  number = node.number;
  kind = node.kind;
  spelling = units_in node.spelling.items;
  bytes = node.bytes;
  basic = node.basic;
  mark = node.mark;
}

-- what a directory keeps of a child's name: its folded units, at their own length
abbrev pub Key : Type 0
Key = BoxedSlice ℕ Global

-- two keys in the order of their names
abbrev pub key_cmp : Key → Key → Ordering
key_cmp key other = slice_cmp nat_cmp (boxed_slice_items key) (boxed_slice_items other)

-- whether a key is a name's
abbrev pub is_named : List ℕ → Key → Bool
is_named name = is_at (λ key. slice_cmp nat_cmp name (boxed_slice_items key))

-- the slot of the child of a name
abbrev pub named_in : BTreeMap Key ℕ → List ℕ → Option ℕ
named_in children name = lookup (is_named name) children.entries

-- a node with its parent and its children
abbrev pub node_seen : Node → TreeNode
node_seen node = record {
  entry = entry_seen node;
  up = node.parent;
  child = named_in node.children;
}

abbrev pub seen : Option Node → Option TreeNode
seen None = None
seen (Some node) = Some (node_seen node)

-- the nodes in their slots
abbrev pub heap_of : Slab Node → Heap
heap_of nodes slot = seen (get nodes slot)

-- each slot has the node that it had, and the next one that is given out is the same
abbrev pub SameHeap : Slab Node → Slab Node → Type 0
SameHeap old new = ((slot : ℕ) → heap_of new slot ≡ heap_of old slot) × (new.vacant_key ≡ old.vacant_key)

-- as many nodes, with room for as many, and the same slot for the next
pub record SameRoom (old new : Slab Node) : Type 0 where
  pub count : slab_len new ≡ slab_len old
  pub capacity : new.capacity ≡ old.capacity
  pub vacant_key : new.vacant_key ≡ old.vacant_key
