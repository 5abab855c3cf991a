-- The children whose names come after a given one, taken one after the other.
use Rattle.std.proofs.Common.{◌≡◌, ℕ, ◌≤◌, List, [], ◌∷◌, ◌++◌, true, length, map, Option, Some, None, is_some, inl, inr, refl, sym, ap, ◌∙◌, arith, subst}
use Rattle.std.specs.Box.{boxed_slice_items}
use Rattle.std.specs.BTreeMap.{BTreeMap}
use Rattle.slab.specs.Slab.{Slab, get}
use Rattle.smb_tree.specs.Parts.{is_after}
use Rattle.smb_tree.specs.declared.tree.TheConstants.{CHILDREN_AT_ONCE}
use Rattle.smb_nodes.specs.declared.node.Node.{Node}
use Rattle.smb_nodes.specs.Nodes.{TreeNode, Heap, child_in, entry_of_slot}
use Rattle.smb_nodes.specs.Changes.{IsNext}
use Rattle.smb_nodes.specs.Seen.{Key, named_in, heap_of}
use Rattle.smb_nodes.specs.Nexts.{AreLater, IsNextEntry, AreNext, NextNumbers}
use Rattle.smb_nodes.proofs.Naming.{later_first, later_rest, later_none}
use Rattle.smb_nodes.proofs.Putting.{children_of}

abbrev Entry : Type 0
Entry = List ℕ × ℕ

-- the first is the node's next child
pub is_next : (o : Option TreeNode) (m : BTreeMap Key ℕ) (after : Option (List ℕ)) (entry : Entry) → ((c : List ℕ) → child_in o c ≡ named_in m c) → IsNextEntry m after entry → IsNext o after entry.1
is_next o m after entry same w = record {
  name = entry.0;
  is = same entry.0 ∙ w.is;
  follows = w.follows;
  least = λ other some h. w.least other (sym (ap is_some (same other)) ∙ some) h;
}

-- the first child that is left after a name
pub next_is : (nodes : Slab Node) (slot : ℕ) (node : Node) → get nodes slot ≡ Some node → (after : Option (List ℕ)) (later from rest : List (Key × ℕ)) (first : Key × ℕ) → later ≡ from → AreLater node.children after from → later ≡ first ∷ rest → IsNext (heap_of nodes slot) after first.1
next_is nodes slot node at after later from rest first e w is =
    is_next (heap_of nodes slot) node.children after (boxed_slice_items first.0, first.1) (children_of nodes slot node at)
    (later_first node.children after first.0 first.1 rest (subst (AreLater node.children after) (sym e ∙ is) w))

pub none_is : (nodes : Slab Node) (slot : ℕ) (node : Node) → get nodes slot ≡ Some node → (after : Option (List ℕ)) (later from : List (Key × ℕ)) → later ≡ from → AreLater node.children after from → later ≡ [] → (name : List ℕ) → is_after after name ≡ true → child_in (heap_of nodes slot) name ≡ None
none_is nodes slot node at after later from e w is name follows =
    children_of nodes slot node at name ∙ later_none node.children after (subst (AreLater node.children after) (sym e ∙ is) w) name follows

pub record SoFar (nodes : Heap) (children : BTreeMap Key ℕ) (after : Option (List ℕ)) (numbers : List ℕ) (later : List (Key × ℕ)) : Type 0 where
  pub entries : List Entry
  pub last : Option (List ℕ)
  pub each : AreNext children after last entries
  pub numbered : numbers ≡ map (λ entry. (entry_of_slot nodes entry.1).number) entries
  pub left : AreLater children last later

pub none_so_far : (nodes : Heap) (children : BTreeMap Key ℕ) (after : Option (List ℕ)) (numbers : List ℕ) (later : List (Key × ℕ)) → numbers ≡ [] → AreLater children after later → SoFar nodes children after numbers later
none_so_far nodes children after numbers later e w = record { entries = []; last = after; each = refl; numbered = e; left = w }

one_more : (children : BTreeMap Key ℕ) (after last : Option (List ℕ)) (entries : List Entry) (entry : Entry) → AreNext children after last entries → IsNextEntry children last entry → AreNext children after (Some entry.0) (entries ++ entry ∷ [])
one_more children after last [] entry e next = (subst (λ (o : Option (List ℕ)). IsNextEntry children o entry) e next, refl)
one_more children after last (x ∷ entries) entry each next = (each.0, one_more children (Some x.0) last entries entry each.1 next)

map_push : (f : Entry → ℕ) (entries : List Entry) (entry : Entry) → map f (entries ++ entry ∷ []) ≡ map f entries ++ f entry ∷ []
map_push f [] entry = refl
map_push f (x ∷ entries) entry = ap (λ (ns : List ℕ). f x ∷ ns) (map_push f entries entry)

pub more_so_far : (nodes : Heap) (children : BTreeMap Key ℕ) (after : Option (List ℕ)) (numbers more : List ℕ) (later rest : List (Key × ℕ)) (key : Key) (slot number : ℕ) → SoFar nodes children after numbers later → later ≡ (key, slot) ∷ rest → number ≡ (entry_of_slot nodes slot).number → more ≡ numbers ++ number ∷ [] → SoFar nodes children after more rest
more_so_far nodes children after numbers more later rest key slot number so e n is =
    let left : AreLater children so.last ((key, slot) ∷ rest) = subst (AreLater children so.last) e so.left in
    let entry : Entry = (boxed_slice_items key, slot) in
    record {
      entries = so.entries ++ entry ∷ [];
      last = Some entry.0;
      each = one_more children after so.last so.entries entry so.each (later_first children so.last key slot rest left);
      numbered = is ∙ ap (λ (ns : List ℕ). ns ++ number ∷ []) so.numbered ∙ ap (λ (k : ℕ). map (λ entry. (entry_of_slot nodes entry.1).number) so.entries ++ k ∷ []) n ∙ sym (map_push (λ entry. (entry_of_slot nodes entry.1).number) so.entries entry);
      left = later_rest children so.last key slot rest left;
    }

pub all_so_far : (nodes : Heap) (children : BTreeMap Key ℕ) (after : Option (List ℕ)) (numbers : List ℕ) (later : List (Key × ℕ)) → SoFar nodes children after numbers later → length numbers ≤ CHILDREN_AT_ONCE → later ≡ [] → NextNumbers nodes children after numbers
all_so_far nodes children after numbers later so few e =
    record {
      entries = so.entries;
      last = so.last;
      each = so.each;
      numbered = so.numbered;
      few = few;
      whole = inr (later_none children so.last (subst (AreLater children so.last) e so.left));
    }

pub full_so_far : (nodes : Heap) (children : BTreeMap Key ℕ) (after : Option (List ℕ)) (numbers : List ℕ) (later : List (Key × ℕ)) → SoFar nodes children after numbers later → length numbers ≡ CHILDREN_AT_ONCE → NextNumbers nodes children after numbers
full_so_far nodes children after numbers later so e =
    record { entries = so.entries; last = so.last; each = so.each; numbered = so.numbered; few = omega arith; whole = inl e }
