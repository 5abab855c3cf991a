-- For the proofs; nothing here need be believed.
-- Nodes: each knows its parent and its children; and the rows that they are.
use Rattle.std.specs.Prelude.{◌≡◌, ℕ, zero, suc, ◌<◌, ◌==◌, nat_eq, Bool, true, false, if◌then◌else◌, List, [], ◌∷◌, ◌++◌, map, Option, None, Some, is_some, unwrap_or, refl}
use Rattle.std.specs.List.{list_any}
use Rattle.std.specs.Option.{option_map}
use Rattle.std.specs.Cmp.Lexicographic.{pointwise}
use Rattle.smb_wire.specs.Names.{folded}
use Rattle.smb_tree.specs.declared.entry.Kind.TheVariants.{File}
use Rattle.smb_tree.specs.Entries.{Entry, new_entry, is_folder}
use Rattle.smb_tree.specs.Content.{Path, Row}

-- a node: its entry, the slot of its parent, and the slot of each child by its folded name
pub record TreeNode : Type 0 where
  pub entry : Entry
  pub up : ℕ
  pub child : List ℕ → Option ℕ

-- the node in each slot; the root is in slot 0
abbrev pub Heap : Type 0
Heap = ℕ → Option TreeNode

-- the entry of a node
abbrev pub entry_in : Option TreeNode → Option Entry
entry_in None = None
entry_in (Some node) = Some node.entry

-- its name: its spelling, folded
abbrev pub name_in : Option TreeNode → Option (List ℕ)
name_in None = None
name_in (Some node) = Some (folded node.entry.spelling)

-- the slot of its parent
abbrev pub up_in : Option TreeNode → ℕ
up_in None = 0
up_in (Some node) = node.up

-- the slot of its child of a name
abbrev pub child_in : Option TreeNode → List ℕ → Option ℕ
child_in None name = None
child_in (Some node) name = node.child name

-- a name behind a path, where there are both
abbrev pub named : Option (List ℕ) → Option Path → Option Path
named None path = None
named (Some name) None = None
named (Some name) (Some path) = Some (path ++ name ∷ [])

-- the path of the node in a slot: the names on the way up to the root, which is reached in fewer than so many steps
abbrev pub path_to : Heap → ℕ → ℕ → Option Path
path_to nodes zero slot = None
path_to nodes (suc steps) slot =
    if slot == 0 then Some [] else named (name_in (nodes slot)) (path_to nodes steps (up_in (nodes slot)))

-- the slot of a child
abbrev pub step : Heap → Option ℕ → List ℕ → Option ℕ
step nodes None name = None
step nodes (Some slot) name = child_in (nodes slot) name

-- the slot to which a path leads down from another one
abbrev pub walk : Heap → Option ℕ → Path → Option ℕ
walk nodes slot [] = slot
walk nodes slot (name ∷ path) = walk nodes (step nodes slot name) path

abbrev pub entry_on : Heap → Option ℕ → Option Entry
entry_on nodes None = None
entry_on nodes (Some slot) = entry_in (nodes slot)

-- the entry to which a path leads down from the root
abbrev pub entry_down : Heap → Path → Option Entry
entry_down nodes path = entry_on nodes (walk nodes (Some 0) path)

-- how many levels a tree may have: the root and 32 components. It does not unfold, so that `path_to` stays as it is
pub levels : ℕ
levels = 33

pub levels-is : levels ≡ 33
unfolding levels
levels-is = refl

-- what stands for the entry of a slot that has none
abbrev pub blank : Entry
blank = new_entry 0 [] File 0 0

-- the entry in a slot
abbrev pub entry_of_slot : Heap → ℕ → Entry
entry_of_slot nodes slot = unwrap_or (entry_in (nodes slot)) blank

-- the name of the node in a slot
abbrev pub name_of_slot : Heap → ℕ → List ℕ
name_of_slot nodes slot = unwrap_or (name_in (nodes slot)) []

-- the entry in a slot at its path
abbrev pub row_in : Heap → ℕ → ℕ → Row
row_in nodes steps slot = (unwrap_or (path_to nodes steps slot) [], entry_of_slot nodes slot)

-- the rows of an index, which has the slot of each number
abbrev pub rows_in : Heap → ℕ → List (ℕ × ℕ) → List Row
rows_in nodes steps = map (λ pair. row_in nodes steps pair.1)

-- the slot of a number
abbrev pub slot_of : List (ℕ × ℕ) → ℕ → Option ℕ
slot_of [] number = None
slot_of (pair ∷ index) number = if pair.0 == number then Some pair.1 else slot_of index number

-- the index without a number
abbrev pub index_without : List (ℕ × ℕ) → ℕ → List (ℕ × ℕ)
index_without [] number = []
index_without (pair ∷ index) number = if pair.0 == number then index else pair ∷ index_without index number

-- whether the index has a slot
abbrev pub has_slot : List (ℕ × ℕ) → ℕ → Bool
has_slot index slot = list_any (λ pair. pair.1 == slot) index

-- whether two components are the same
abbrev pub is_same_component : List ℕ → List ℕ → Bool
is_same_component = pointwise nat_eq

-- each node but the root is the child of its parent under its name, each child's parent is the node, and the root is
-- reached from each in fewer than so many steps
pub record Tied (nodes : Heap) (steps : ℕ) : Type 0 where
  pub root : is_some (nodes 0) ≡ true
  pub down : (slot child : ℕ) (name : List ℕ) → child_in (nodes slot) name ≡ Some child → (name_in (nodes child) ≡ Some name) × (up_in (nodes child) ≡ slot) × (child == 0 ≡ false)
  pub up : (slot : ℕ) (name : List ℕ) → name_in (nodes slot) ≡ Some name → slot == 0 ≡ false → child_in (nodes (up_in (nodes slot))) name ≡ Some slot
  pub deep : (slot : ℕ) → is_some (nodes slot) ≡ true → is_some (path_to nodes steps slot) ≡ true

-- each slot of the index has a node
abbrev pub Live : Heap → List (ℕ × ℕ) → Type 0
Live nodes [] = Unit {0}
Live nodes (pair ∷ index) = (is_some (nodes pair.1) ≡ true) × Live nodes index

-- each node has the number under which its slot is in the index
abbrev pub Numbers : Heap → List (ℕ × ℕ) → Type 0
Numbers nodes [] = Unit {0}
Numbers nodes (pair ∷ index) = (option_map (λ entry. entry.number) (entry_in (nodes pair.1)) ≡ Some pair.0) × Numbers nodes index

-- each number of the index is below the next
abbrev pub Under : List (ℕ × ℕ) → ℕ → Type 0
Under [] next = Unit {0}
Under (pair ∷ index) next = (pair.0 < next) × Under index next

-- no number is twice in the index
abbrev pub AreDistinct : List (ℕ × ℕ) → Type 0
AreDistinct [] = Unit {0}
AreDistinct (pair ∷ index) = (slot_of index pair.0 ≡ None) × AreDistinct index

-- the nodes are a tree, whose root is a folder of number 1 with no name and is its own parent, and in which only folders have
-- children; and the index has the slot of each node under its number
pub record IsTree (nodes : Heap) (index : List (ℕ × ℕ)) (next : ℕ) : Type 0 where
  pub tied : Tied nodes levels
  pub live : Live nodes index
  pub numbers : Numbers nodes index
  pub complete : (slot : ℕ) → is_some (nodes slot) ≡ true → has_slot index slot ≡ true
  pub distinct : AreDistinct index
  pub under : Under index next
  pub root_folder : is_folder (entry_in (nodes 0)) ≡ true
  pub root_number : option_map (λ entry. entry.number) (entry_in (nodes 0)) ≡ Some 1
  pub root_name : name_in (nodes 0) ≡ Some []
  pub root_up : up_in (nodes 0) ≡ 0
  pub leaves : (slot child : ℕ) (name : List ℕ) → child_in (nodes slot) name ≡ Some child → is_folder (entry_in (nodes slot)) ≡ true
