-- A node put into another place, as its four reads see it.
use Rattle.std.specs.Prelude.{◌≡◌, ℕ, ◌==◌, true, false, ◌&&◌, if◌then◌else◌, List, Option, None, Some, is_some, refl}
use Rattle.std.specs.Option.{option_map}
use Rattle.std.proofs.Common.{arith, sym, ap, ◌∙◌}
use Rattle.std.specs.BTreeMap.{BTreeMap}
use Rattle.slab.specs.Slab.{Slab, get, with_value, Updates}
use Rattle.smb_wire.specs.Names.{folded}
use Rattle.smb_tree.specs.Entries.{Entry}
use Rattle.smb_nodes.specs.declared.node.Node.{Node}
use Rattle.smb_nodes.specs.Nodes.{Heap, child_in, name_in, up_in, entry_in, name_of_slot, is_same_component}
use Rattle.smb_nodes.specs.Changes.{Childed, Settled, Rehung, Emptied}
use Rattle.smb_nodes.specs.Seen.{Key, named_in, entry_seen, node_seen, seen, heap_of}
use Rattle.smb_nodes.proofs.Walks.{same_component-eq, same_component-itself}
use Rattle.smb_nodes.proofs.Growing.{eqb-eq, eqb-neq, live-entry}
use Rattle.smb_nodes.proofs.Putting.{heap_put}

-- another folder and another spelling
pub settled : (old : Slab Node) (slot : ℕ) (x z : Node) (folder : ℕ) (spelling : List ℕ) → get old slot ≡ Some x → entry_seen z ≡ record (entry_seen x) { spelling = spelling } → z.parent ≡ folder → z.children ≡ x.children → Settled (heap_of old) (heap_of (with_value old slot z)) slot folder (folded spelling) spelling
settled old slot x z folder spelling at entry parent children =
    let here : heap_of old slot ≡ Some (node_seen x) = ap seen at in
    let put : (s : ℕ) → heap_of (with_value old slot z) s ≡ (if s == slot then Some (node_seen z) else heap_of old s) = λ s. heap_put old slot s x z at in
    record {
      names = λ s. elim (s == slot) as (λ b. s == slot ≡ b → name_in (heap_of (with_value old slot z) s) ≡ (if b then Some (folded spelling) else name_in (heap_of old s))) [
        | true ↦ λ e. rw (put s, e) (ap (λ (n : Entry). Some (folded n.spelling)) entry)
        | false ↦ λ e. rw (put s, e) refl
      ] refl;
      ups = λ s. elim (s == slot) as (λ b. s == slot ≡ b → up_in (heap_of (with_value old slot z) s) ≡ (if b then folder else up_in (heap_of old s))) [
        | true ↦ λ e. rw (put s, e) parent
        | false ↦ λ e. rw (put s, e) refl
      ] refl;
      entries = λ s. elim (s == slot) as (λ b. s == slot ≡ b → entry_in (heap_of (with_value old slot z) s) ≡ (if b then option_map (λ (entry : Entry). record entry { spelling = spelling }) (entry_in (heap_of old s)) else entry_in (heap_of old s))) [
        | true ↦ λ e. (let same = eqb-eq s slot e in rw (put s, e, same, here) (ap Some entry))
        | false ↦ λ e. rw (put s, e) refl
      ] refl;
      children = λ s n. elim (s == slot) as (λ b. s == slot ≡ b → child_in (heap_of (with_value old slot z) s) n ≡ child_in (heap_of old s) n) [
        | true ↦ λ e. (let same = eqb-eq s slot e in rw (put s, e, same, here) (ap (λ (m : BTreeMap Key ℕ). named_in m n) children))
        | false ↦ λ e. rw (put s, e) refl
      ] refl;
    }

-- what `reparent` leaves: the child of the new folder first, then none in the old one, then the node
pub rehung : (g h k f : Heap) (m up2 : ℕ) (c2 spelling : List ℕ) → Childed g h up2 c2 (Some m) → Childed h k (up_in (g m)) (name_of_slot g m) None → Settled k f m up2 c2 spelling → (up_in (g m) == up2 && is_same_component c2 (name_of_slot g m)) ≡ false → Rehung g f m up2 c2 spelling
rehung g h k f m up2 c2 spelling w v u apart = record {
  names = λ s. u.names s ∙ ap (λ (o : Option (List ℕ)). if s == m then Some c2 else o) (v.names s ∙ w.names s);
  ups = λ s. u.ups s ∙ ap (λ (n : ℕ). if s == m then up2 else n) (v.ups s ∙ w.ups s);
  entries = λ s. u.entries s ∙ ap (λ (o : Option Entry). if s == m then option_map (λ (entry : Entry). record entry { spelling = spelling }) o else o) (v.entries s ∙ w.entries s);
  children = λ s c. u.children s c ∙ v.children s c ∙ by s c;
}
  where
    by : (s : ℕ) (c : List ℕ) → (if s == up_in (g m) && is_same_component (name_of_slot g m) c then None else child_in (h s) c) ≡ (if s == up2 && is_same_component c2 c then Some m else (if s == up_in (g m) && is_same_component (name_of_slot g m) c then None else child_in (g s) c))
    by s c =
        elim (s == up2 && is_same_component c2 c) as (λ b. (s == up2 && is_same_component c2 c) ≡ b → (if s == up_in (g m) && is_same_component (name_of_slot g m) c then None else child_in (h s) c) ≡ (if b then Some m else (if s == up_in (g m) && is_same_component (name_of_slot g m) c then None else child_in (g s) c))) [
          | true ↦ λ e.
              let old : (s == up_in (g m) && is_same_component (name_of_slot g m) c) ≡ false = grind (arith, e, apart, eqb-eq s up2, eqb-eq s (up_in (g m)), same_component-eq c2 c, same_component-eq (name_of_slot g m) c, same_component-itself c) in
              let new : child_in (h s) c ≡ Some m = grind (arith, e, w.children s c) in
              rw old new
          | false ↦ λ e. (let new : child_in (h s) c ≡ child_in (g s) c = grind (arith, e, w.children s c) in rw new refl)
        ] refl

pub emptied : (old new : Slab Node) (slot : ℕ) → Updates old new slot None → Emptied (heap_of old) (heap_of new) slot
emptied old new slot u = record {
  gone = ap seen u.changed;
  others = λ s e. ap seen (u.others s (eqb-neq s slot e));
}

-- a node stays where a child changes
pub still : (g f : Heap) (folder : ℕ) (name : List ℕ) (child : Option ℕ) → Childed g f folder name child → (s : ℕ) → is_some (g s) ≡ true → is_some (f s) ≡ true
still g f folder name child w s h = live-entry (f s) ∙ ap is_some (w.entries s) ∙ sym (live-entry (g s)) ∙ h
