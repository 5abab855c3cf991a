-- A node put where another one stood, which goes: as a removal, and then a move to where nothing stands.
use Rattle.std.specs.Prelude.{◌≡◌, ℕ, ◌==◌, Bool, true, false, ◌&&◌, if◌then◌else◌, List, [], Option, None, Some, is_some, unwrap_or, refl}
use Rattle.std.specs.Option.{option_map}
use Rattle.std.proofs.Common.{arith, sym, ap, ◌∙◌}
use Rattle.smb_tree.specs.Entries.{Entry}
use Rattle.smb_tree.specs.Content.{Path}
use Rattle.smb_tree.specs.Moves.{is_within}
use Rattle.smb_nodes.specs.Nodes.{TreeNode, Heap, name_in, up_in, child_in, entry_in, path_to, levels, name_of_slot, is_same_component, IsTree}
use Rattle.smb_nodes.specs.Changes.{Pruned, Moved, Rehung, Emptied}
use Rattle.smb_nodes.proofs.Walks.{same_component-itself}
use Rattle.smb_nodes.proofs.Growing.{eqb-eq, clash}
use Rattle.smb_nodes.proofs.Pruning.{pruned-path}

-- a node without the child of a name, where it is to lose it
abbrev unchilded : Bool → List ℕ → Option TreeNode → Option TreeNode
unchilded b name None = None
unchilded b name (Some node) = Some (record node { child = λ c. if b && is_same_component name c then None else node.child c })

-- a heap without the node in a slot
pub pruned : Heap → ℕ → Heap
pruned g slot s = if s == slot then None else unchilded (s == up_in (g slot)) (name_of_slot g slot) (g s)

none_either : (b : Bool) (o : Option ℕ) → o ≡ None → (if b then None else o) ≡ None
none_either true o h = refl
none_either false o h = h

unchilded_name : (b : Bool) (name : List ℕ) (o : Option TreeNode) → name_in (unchilded b name o) ≡ name_in o
unchilded_name b name None = refl
unchilded_name b name (Some x) = refl

unchilded_up : (b : Bool) (name : List ℕ) (o : Option TreeNode) → up_in (unchilded b name o) ≡ up_in o
unchilded_up b name None = refl
unchilded_up b name (Some x) = refl

unchilded_entry : (b : Bool) (name : List ℕ) (o : Option TreeNode) → entry_in (unchilded b name o) ≡ entry_in o
unchilded_entry b name None = refl
unchilded_entry b name (Some x) = refl

unchilded_child : (b : Bool) (name : List ℕ) (o : Option TreeNode) (c : List ℕ) → child_in (unchilded b name o) c ≡ (if b && is_same_component name c then None else child_in o c)
unchilded_child b name None c = sym (none_either (b && is_same_component name c) None refl)
unchilded_child b name (Some x) c = refl

name_live : (o : Option TreeNode) → is_some o ≡ true → name_in o ≡ Some (unwrap_or (name_in o) [])
name_live None h = cc
name_live (Some x) h = refl

module _ (g : Heap) (slot : ℕ) (live : is_some (g slot) ≡ true) (root : slot == 0 ≡ false) (bare : (c : List ℕ) → child_in (g slot) c ≡ None) where
  gone_is : (s : ℕ) → s == slot ≡ true → pruned g slot s ≡ None
  unfolding pruned
  gone_is s z = rw z refl

  other_is : (s : ℕ) → s == slot ≡ false → pruned g slot s ≡ unchilded (s == up_in (g slot)) (name_of_slot g slot) (g s)
  unfolding pruned
  other_is s z = rw z refl

  pub pruned_none : pruned g slot slot ≡ None
  pruned_none = (let same : slot == slot ≡ true = grind arith in gone_is slot same)

  pub pruned_is : Pruned g (pruned g slot) slot
  pruned_is = record {
    bare = bare;
    live = live;
    not_root = root;
    names = λ s. elim (s == slot) as (λ b. s == slot ≡ b → name_in (pruned g slot s) ≡ (if b then None else name_in (g s))) [
      | true ↦ λ z. ap name_in (gone_is s z)
      | false ↦ λ z. ap name_in (other_is s z) ∙ unchilded_name (s == up_in (g slot)) (name_of_slot g slot) (g s)
    ] refl;
    ups = λ s z. ap up_in (other_is s z) ∙ unchilded_up (s == up_in (g slot)) (name_of_slot g slot) (g s);
    entries = λ s. elim (s == slot) as (λ b. s == slot ≡ b → entry_in (pruned g slot s) ≡ (if b then None else entry_in (g s))) [
      | true ↦ λ z. ap entry_in (gone_is s z)
      | false ↦ λ z. ap entry_in (other_is s z) ∙ unchilded_entry (s == up_in (g slot)) (name_of_slot g slot) (g s)
    ] refl;
    children = λ s c. elim (s == slot) as (λ b. s == slot ≡ b → child_in (pruned g slot s) c ≡ (if s == up_in (g slot) && is_same_component (name_of_slot g slot) c then None else child_in (g s) c)) [
      | true ↦ λ z.
          let none : child_in (g s) c ≡ None = ap (λ (r : ℕ). child_in (g r) c) (eqb-eq s slot z) ∙ bare c in
          ap (λ (o : Option TreeNode). child_in o c) (gone_is s z) ∙ sym (none_either (s == up_in (g slot) && is_same_component (name_of_slot g slot) c) (child_in (g s) c) none)
      | false ↦ λ z. ap (λ (o : Option TreeNode). child_in o c) (other_is s z) ∙ unchilded_child (s == up_in (g slot)) (name_of_slot g slot) (g s) c
    ] refl;
  }

-- h is g without the node in `slot`; f is g with m in its place, and k is f with nothing in the slot
module _ (g h f k : Heap) (es : List (ℕ × ℕ)) (next m slot up2 : ℕ) (c2 spelling : List ℕ) (t : IsTree g es next) (q : Pruned g h slot) (none : h slot ≡ None) (w : Rehung g f m up2 c2 spelling) (e : Emptied f k slot) (there : child_in (g up2) c2 ≡ Some slot) (other : m == slot ≡ false) (live : is_some (g m) ≡ true) (not_root : m == 0 ≡ false) where
  up_is : up_in (g slot) ≡ up2
  up_is = (t.tied.down up2 slot c2 there).1

  name_is : name_of_slot g slot ≡ c2
  name_is = ap (λ (o : Option (List ℕ)). unwrap_or o []) (t.tied.down up2 slot c2 there).0

  its_name : name_in (g m) ≡ Some (name_of_slot g m)
  its_name = name_live (g m) live

  pub folder_other : up2 == slot ≡ false
  folder_other = elim (up2 == slot) as (λ b. up2 == slot ≡ b → b ≡ false) [
    | true ↦ λ z. absurd (clash (child_in (g slot) c2) slot (ap (λ (r : ℕ). child_in (g r) c2) (sym (eqb-eq up2 slot z)) ∙ there) (q.bare c2))
    | false ↦ λ _. refl
  ] refl

  old_other : up_in (g m) == slot ≡ false
  old_other = elim (up_in (g m) == slot) as (λ b. up_in (g m) == slot ≡ b → b ≡ false) [
    | true ↦ λ z. absurd (clash (child_in (g slot) (name_of_slot g m)) m (ap (λ (r : ℕ). child_in (g r) (name_of_slot g m)) (sym (eqb-eq (up_in (g m)) slot z)) ∙ t.tied.up m (name_of_slot g m) its_name not_root) (q.bare (name_of_slot g m)))
    | false ↦ λ _. refl
  ] refl

  gone_k : (s : ℕ) → s == slot ≡ true → k s ≡ None
  gone_k s z = ap k (eqb-eq s slot z) ∙ e.gone

  gone_h : (s : ℕ) → s == slot ≡ true → h s ≡ None
  gone_h s z = ap h (eqb-eq s slot z) ∙ none

  away : (s r : ℕ) → s == slot ≡ true → r == slot ≡ false → s == r ≡ false
  away s r z y = grind (arith, z, y)

  over_children : (s : ℕ) (c : List ℕ) → child_in (k s) c ≡ (if s == up2 && is_same_component c2 c then Some m else (if s == up_in (g m) && is_same_component (name_of_slot g m) c then None else child_in (h s) c))
  over_children s c =
      elim (s == slot) as (λ b. s == slot ≡ b → child_in (k s) c ≡ (if s == up2 && is_same_component c2 c then Some m else (if s == up_in (g m) && is_same_component (name_of_slot g m) c then None else child_in (h s) c))) [
        | true ↦ λ z.
            let new = away s up2 z folder_other in
            let old = away s (up_in (g m)) z old_other in
            rw (new, old) (ap (λ (o : Option TreeNode). child_in o c) (gone_k s z ∙ sym (gone_h s z)))
        | false ↦ λ z.
            let before : child_in (h s) c ≡ (if s == up2 && is_same_component c2 c then None else child_in (g s) c) = q.children s c ∙ (λ i. if s == up_is i && is_same_component (name_is i) c then None else child_in (g s) c) in
            ap (λ (o : Option TreeNode). child_in o c) (e.others s z) ∙ w.children s c
            ∙ elim (s == up2 && is_same_component c2 c) as (λ b. (child_in (h s) c ≡ (if b then None else child_in (g s) c)) → (if b then Some m else (if s == up_in (g m) && is_same_component (name_of_slot g m) c then None else child_in (g s) c)) ≡ (if b then Some m else (if s == up_in (g m) && is_same_component (name_of_slot g m) c then None else child_in (h s) c))) [
              | true ↦ λ _. refl
              | false ↦ λ i. ap (λ (o : Option ℕ). if s == up_in (g m) && is_same_component (name_of_slot g m) c then None else o) (sym i)
            ] before
      ] refl

  pub moved_over : (from p2 : Path) → path_to g levels m ≡ Some from → path_to g levels up2 ≡ Some p2 → is_within from p2 ≡ false → Moved h k levels m from (up_in (g m)) up2 (name_of_slot g m) c2 p2 spelling
  moved_over from p2 old new outside = record {
    old = pruned-path g h slot q levels t.tied levels m from other old;
    new = pruned-path g h slot q levels t.tied levels up2 p2 folder_other new;
    outside = outside;
    vacant = (let here : (up2 == up_in (g slot) && is_same_component (name_of_slot g slot) c2) ≡ true = grind (arith, up_is, name_is, same_component-itself c2) in q.children up2 c2 ∙ rw here refl);
    old_up = q.ups m other;
    old_name = rw (q.names m, other) its_name;
    not_root = not_root;
    names = λ s. elim (s == slot) as (λ b. s == slot ≡ b → name_in (k s) ≡ (if s == m then Some c2 else name_in (h s))) [
      | true ↦ λ z. (let apart = away s m z other in rw apart (ap name_in (gone_k s z ∙ sym (gone_h s z))))
      | false ↦ λ z. (let same : name_in (h s) ≡ name_in (g s) = rw (q.names s, z) refl in ap name_in (e.others s z) ∙ w.names s ∙ ap (λ (o : Option (List ℕ)). if s == m then Some c2 else o) (sym same))
    ] refl;
    ups = λ s. elim (s == slot) as (λ b. s == slot ≡ b → up_in (k s) ≡ (if s == m then up2 else up_in (h s))) [
      | true ↦ λ z. (let apart = away s m z other in rw apart (ap up_in (gone_k s z ∙ sym (gone_h s z))))
      | false ↦ λ z. ap up_in (e.others s z) ∙ w.ups s ∙ ap (λ (n : ℕ). if s == m then up2 else n) (sym (q.ups s z))
    ] refl;
    entries = λ s. elim (s == slot) as (λ b. s == slot ≡ b → entry_in (k s) ≡ (if s == m then option_map (λ (entry : Entry). record entry { spelling = spelling }) (entry_in (h s)) else entry_in (h s))) [
      | true ↦ λ z. (let apart = away s m z other in rw apart (ap entry_in (gone_k s z ∙ sym (gone_h s z))))
      | false ↦ λ z. (let same : entry_in (h s) ≡ entry_in (g s) = rw (q.entries s, z) refl in ap entry_in (e.others s z) ∙ w.entries s ∙ ap (λ (o : Option Entry). if s == m then option_map (λ (entry : Entry). record entry { spelling = spelling }) o else o) (sym same))
    ] refl;
    children = λ s c. over_children s c;
  }
