-- For the proofs; nothing here need be believed.
-- What a change of one node, and one more or one less, leaves of the nodes.
use Rattle.std.specs.Prelude.{◌≡◌, ℕ, ◌==◌, true, false, ◌&&◌, if◌then◌else◌, List, Option, None, Some, is_some}
use Rattle.std.specs.Option.{option_map}
use Rattle.smb_tree.specs.Entries.{Entry}
use Rattle.smb_tree.specs.Content.{Path}
use Rattle.smb_tree.specs.Moves.{is_within}
use Rattle.smb_tree.specs.Children.{is_before}
use Rattle.smb_tree.specs.Parts.{is_after}
use Rattle.smb_nodes.specs.Nodes.{TreeNode, Heap, entry_in, name_in, up_in, child_in, name_of_slot, path_to, is_same_component}

-- f is g with one more node, new, beneath `up`, as the four reads of a node see it
pub record Grown (g f : Heap) (up new : ℕ) (name : List ℕ) (entry : Entry) : Type 0 where
  pub vacant : g new ≡ None
  pub above : is_some (g up) ≡ true
  pub free : child_in (g up) name ≡ None
  pub not_root : new == 0 ≡ false
  pub names : (s : ℕ) → name_in (f s) ≡ (if s == new then Some name else name_in (g s))
  pub ups : (s : ℕ) → up_in (f s) ≡ (if s == new then up else up_in (g s))
  pub entries : (s : ℕ) → entry_in (f s) ≡ (if s == new then Some entry else entry_in (g s))
  pub children : (s : ℕ) (c : List ℕ) → child_in (f s) c ≡ (if s == up && is_same_component name c then Some new else child_in (g s) c)

-- f is g with another child of one name in a folder, or none
pub record Childed (g f : Heap) (folder : ℕ) (name : List ℕ) (child : Option ℕ) : Type 0 where
  pub names : (s : ℕ) → name_in (f s) ≡ name_in (g s)
  pub ups : (s : ℕ) → up_in (f s) ≡ up_in (g s)
  pub entries : (s : ℕ) → entry_in (f s) ≡ entry_in (g s)
  pub children : (s : ℕ) (c : List ℕ) → child_in (f s) c ≡ (if s == folder && is_same_component name c then child else child_in (g s) c)

-- f is g with another entry in a slot, of the same name
pub record Altered (g f : Heap) (slot : ℕ) (change : Entry → Entry) : Type 0 where
  pub names : (s : ℕ) → name_in (f s) ≡ name_in (g s)
  pub ups : (s : ℕ) → up_in (f s) ≡ up_in (g s)
  pub entries : (s : ℕ) → entry_in (f s) ≡ (if s == slot then option_map change (entry_in (g s)) else entry_in (g s))
  pub children : (s : ℕ) (c : List ℕ) → child_in (f s) c ≡ child_in (g s) c

-- f is g without the node in a slot, which has no child
pub record Pruned (g f : Heap) (slot : ℕ) : Type 0 where
  pub bare : (c : List ℕ) → child_in (g slot) c ≡ None
  pub live : is_some (g slot) ≡ true
  pub not_root : slot == 0 ≡ false
  pub names : (s : ℕ) → name_in (f s) ≡ (if s == slot then None else name_in (g s))
  pub ups : (s : ℕ) → s == slot ≡ false → up_in (f s) ≡ up_in (g s)
  pub entries : (s : ℕ) → entry_in (f s) ≡ (if s == slot then None else entry_in (g s))
  pub children : (s : ℕ) (c : List ℕ) → child_in (f s) c ≡ (if s == up_in (g slot) && is_same_component (name_of_slot g slot) c then None else child_in (g s) c)

-- a node has a child
pub record HasChild (node : Option TreeNode) : Type 0 where
  pub name : List ℕ
  pub child : ℕ
  pub is : child_in node name ≡ Some child

-- of a node's children whose names come after a given one a slot has the one that comes first
pub record IsNext (node : Option TreeNode) (after : Option (List ℕ)) (slot : ℕ) : Type 0 where
  pub name : List ℕ
  pub is : child_in node name ≡ Some slot
  pub follows : is_after after name ≡ true
  pub least : (other : List ℕ) → is_some (child_in node other) ≡ true → is_after after other ≡ true → is_before other name ≡ false

-- f is g with a node that stood at `from`, in one folder as c1, put into another folder, whose path is p2, as c2, where
-- nothing stood; and it is spelled so
pub record Moved (g f : Heap) (d m : ℕ) (from : Path) (up1 up2 : ℕ) (c1 c2 : List ℕ) (p2 : Path) (spelling : List ℕ) : Type 0 where
  pub old : path_to g d m ≡ Some from
  pub new : path_to g d up2 ≡ Some p2
  pub outside : is_within from p2 ≡ false
  pub vacant : child_in (g up2) c2 ≡ None
  pub old_up : up_in (g m) ≡ up1
  pub old_name : name_in (g m) ≡ Some c1
  pub not_root : m == 0 ≡ false
  pub names : (s : ℕ) → name_in (f s) ≡ (if s == m then Some c2 else name_in (g s))
  pub ups : (s : ℕ) → up_in (f s) ≡ (if s == m then up2 else up_in (g s))
  pub entries : (s : ℕ) → entry_in (f s) ≡ (if s == m then option_map (λ (entry : Entry). record entry { spelling = spelling }) (entry_in (g s)) else entry_in (g s))
  pub children : (s : ℕ) (c : List ℕ) → child_in (f s) c ≡ (if s == up2 && is_same_component c2 c then Some m else (if s == up1 && is_same_component c1 c then None else child_in (g s) c))

-- f is g with a node put into a folder, spelled so and under this name; the children of the folder stay
pub record Settled (g f : Heap) (m up2 : ℕ) (c2 spelling : List ℕ) : Type 0 where
  pub names : (s : ℕ) → name_in (f s) ≡ (if s == m then Some c2 else name_in (g s))
  pub ups : (s : ℕ) → up_in (f s) ≡ (if s == m then up2 else up_in (g s))
  pub entries : (s : ℕ) → entry_in (f s) ≡ (if s == m then option_map (λ (entry : Entry). record entry { spelling = spelling }) (entry_in (g s)) else entry_in (g s))
  pub children : (s : ℕ) (c : List ℕ) → child_in (f s) c ≡ child_in (g s) c

-- the same, and the node is the child of the folder under this name, in place of what stood there, and no child of its own
-- folder any more
pub record Rehung (g f : Heap) (m up2 : ℕ) (c2 spelling : List ℕ) : Type 0 where
  pub names : (s : ℕ) → name_in (f s) ≡ (if s == m then Some c2 else name_in (g s))
  pub ups : (s : ℕ) → up_in (f s) ≡ (if s == m then up2 else up_in (g s))
  pub entries : (s : ℕ) → entry_in (f s) ≡ (if s == m then option_map (λ (entry : Entry). record entry { spelling = spelling }) (entry_in (g s)) else entry_in (g s))
  pub children : (s : ℕ) (c : List ℕ) → child_in (f s) c ≡ (if s == up2 && is_same_component c2 c then Some m else (if s == up_in (g m) && is_same_component (name_of_slot g m) c then None else child_in (g s) c))

-- f is g with nothing in a slot
pub record Emptied (g f : Heap) (slot : ℕ) : Type 0 where
  pub gone : f slot ≡ None
  pub others : (s : ℕ) → s == slot ≡ false → f s ≡ g s
