-- The tree of the root alone.
use Rattle.std.specs.Prelude.{◌≡◌, ℕ, ◌==◌, true, false, List, [], ◌∷◌, get_or, Option, None, Some, is_some, refl}
use Rattle.std.proofs.Common.{arith, sym, ap, ◌∙◌, subst}
use Rattle.slab.specs.Slab.{Slab, get, Updates}
use Rattle.smb_wire.specs.Names.{folded}
use Rattle.smb_tree.specs.declared.entry.Kind.TheVariants.{Folder}
use Rattle.smb_tree.specs.Entries.{Entry, new_entry}
use Rattle.smb_nodes.specs.declared.node.Node.{Node}
use Rattle.smb_nodes.specs.Nodes.{TreeNode, entry_in, name_in, up_in, child_in, path_to, levels, levels-is, rows_in, Tied, IsTree}
use Rattle.smb_nodes.specs.Seen.{entry_seen, seen, heap_of}
use Rattle.smb_nodes.specs.First.{IsRootAlone}
use Rattle.smb_nodes.proofs.Growing.{eqb-eq, eqb-neq}
use Rattle.smb_nodes.proofs.Putting.{none_in}

pub root_alone : (old new : Slab Node) (x : Node) (k created : ℕ) → old.slots ≡ [] → k ≡ 0 → Updates old new k (Some x) → entry_seen x ≡ new_entry 1 [] Folder 0 created → x.parent ≡ 0 → x.children.entries ≡ [] → IsRootAlone new created
root_alone old new x k created empty first u entry parent leaf = record {
  root = x;
  here = ap seen (ap (get new) (sym first) ∙ u.changed);
  entry = entry;
  up = parent;
  leaf = leaf;
  others = λ s h. (let apart : s == k ≡ false = ap (λ (j : ℕ). s == j) first ∙ h in ap seen (u.others s (eqb-neq s k apart) ∙ ap (λ (l : List (Option Node)). get_or l s None) empty));
}

module _ (nodes : Slab Node) (created : ℕ) (w : IsRootAlone nodes created) where
  no_child : (s u : ℕ) (c : List ℕ) → child_in (heap_of nodes s) c ≡ Some u → ⊥
  no_child s u c h =
      elim (s == 0) as (λ b. s == 0 ≡ b → ⊥) [
        | true ↦ λ z. (let none : child_in (heap_of nodes s) c ≡ None = ap (λ (r : ℕ). child_in (heap_of nodes r) c) (eqb-eq s 0 z) ∙ ap (λ (o : Option TreeNode). child_in o c) w.here ∙ none_in w.root.children c w.leaf in let wrong : Some u ≡ None = sym h ∙ none in cc)
        | false ↦ λ z. (let none : child_in (heap_of nodes s) c ≡ None = ap (λ (o : Option TreeNode). child_in o c) (w.others s z) in let wrong : Some u ≡ None = sym h ∙ none in cc)
      ] refl

  only : (s : ℕ) → is_some (heap_of nodes s) ≡ true → s ≡ 0
  only s h =
      elim (s == 0) as (λ b. s == 0 ≡ b → s ≡ 0) [
        | true ↦ λ z. eqb-eq s 0 z
        | false ↦ λ z. absurd (let none : is_some (heap_of nodes s) ≡ false = ap is_some (w.others s z) in let wrong : false ≡ true = sym none ∙ h in cc)
      ] refl

  name_some : (o : Option TreeNode) (c : List ℕ) → name_in o ≡ Some c → is_some o ≡ true
  name_some None c h = cc
  name_some (Some x) c h = refl

  entry_0 : entry_in (heap_of nodes 0) ≡ Some (new_entry 1 [] Folder 0 created)
  entry_0 = ap entry_in w.here ∙ ap Some w.entry

  path_0 : path_to (heap_of nodes) levels 0 ≡ Some []
  path_0 = rw levels-is refl

  tied : Tied (heap_of nodes) levels
  tied = record {
    root = ap is_some w.here;
    down = λ s u c e. absurd (no_child s u c e);
    up = λ s c e z. absurd (let there = only s (name_some (heap_of nodes s) c e) in grind (arith, there, z));
    deep = λ s e. subst (λ (r : ℕ). is_some (path_to (heap_of nodes) levels r) ≡ true) (sym (only s e)) (ap is_some path_0);
  }

  pub root_tree : IsTree (heap_of nodes) ((1, 0) ∷ []) 2
  root_tree = record {
    tied = tied;
    live = (tied.root, tt);
    numbers = (rw entry_0 refl, tt);
    complete = λ s e. (let there = only s e in rw there refl);
    distinct = (refl, tt);
    under = (omega arith, tt);
    root_folder = rw entry_0 refl;
    root_number = rw entry_0 refl;
    root_name = ap name_in w.here ∙ ap (λ (e : Entry). Some (folded e.spelling)) w.entry;
    root_up = ap up_in w.here ∙ w.up;
    leaves = λ s u c e. absurd (no_child s u c e);
  }

  pub root_rows : rows_in (heap_of nodes) levels ((1, 0) ∷ []) ≡ ([], new_entry 1 [] Folder 0 created) ∷ []
  root_rows = rw (path_0, entry_0) refl
