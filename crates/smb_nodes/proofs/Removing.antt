-- A removal from a tree of nodes.
use Rattle.std.specs.Prelude.{◌≡◌, ℕ, ◌-◌, ◌==◌, true, false, List, length, None, Some, is_some, refl}
use Rattle.std.specs.Option.{option_map}
use Rattle.std.proofs.Common.{arith, sym, ap, ◌∙◌, subst}
use Rattle.smb_tree.specs.declared.fault.TreeFault.TheVariants.{NotEmpty}
use Rattle.smb_tree.specs.Entries.{Entry, allocation_size}
use Rattle.smb_tree.specs.Content.{Row, without, used_space}
use Rattle.smb_tree.specs.Parts.{removed}
use Rattle.smb_tree.specs.Faults.{remove_fault}
use Rattle.smb_tree.proofs.Changes.{remove_fault_is}
use Rattle.smb_tree.proofs.Removals.{space_without}
use Rattle.smb_nodes.specs.declared.tree.NodeTree.TheInside.{Inside}
use Rattle.smb_nodes.specs.Nodes.{Heap, entry_in, up_in, child_in, levels, row_in, rows_in, slot_of, index_without, entry_of_slot, IsTree}
use Rattle.smb_nodes.specs.Changes.{Pruned, HasChild}
use Rattle.smb_nodes.specs.Seen.{heap_of}
use Rattle.smb_nodes.specs.Tree.{content_kept, IsBound, KeepsTree}
use Rattle.smb_nodes.proofs.Bounds.{bound_same, bound_without}
use Rattle.smb_nodes.proofs.Childing.{full, bare}
use Rattle.smb_nodes.proofs.Growing.{eqb-eq, child-live, clash}
use Rattle.smb_nodes.proofs.Kept.{live_is, row_is}
use Rattle.smb_nodes.proofs.Named.{name_of_live}
use Rattle.smb_nodes.proofs.Numbered.{slot_number}
use Rattle.smb_nodes.proofs.Pruning.{pruned-tree, pruned-rows}
use Rattle.smb_tree.specs.Entries.{last_part}

some_equal : {A : Type 0} {a b : A} → Some a ≡ Some b → a ≡ b
some_equal h = cc

module _ (x : Inside) (n s : ℕ) (k : KeepsTree x) (at : slot_of x.index.entries n ≡ Some s) where
  pub not_root_slot : (n ≡ 1 → ⊥) → s == 0 ≡ false
  not_root_slot other =
      elim (s == 0) as (λ b. s == 0 ≡ b → b ≡ false) [
        | true ↦ λ z. absurd (other (some_equal (sym (slot_number (heap_of x.nodes) x.index.entries n s k.is_tree.numbers at) ∙ ap (λ (r : ℕ). option_map (λ (e : Entry). e.number) (entry_in (heap_of x.nodes r))) (eqb-eq s 0 z) ∙ k.is_tree.root_number)))
        | false ↦ λ _. refl
      ] refl

  its_place : s == 0 ≡ false → child_in (heap_of x.nodes (up_in (heap_of x.nodes s))) (last_part (row_in (heap_of x.nodes) levels s).0) ≡ Some s
  its_place z = k.is_tree.tied.up s (last_part (row_in (heap_of x.nodes) levels s).0) (name_of_live (heap_of x.nodes) x.index.entries x.next k.is_tree s (live_is x n s k at)) z

  pub above_is : s == 0 ≡ false → is_some (heap_of x.nodes (up_in (heap_of x.nodes s))) ≡ true
  above_is z = child-live (heap_of x.nodes (up_in (heap_of x.nodes s))) (last_part (row_in (heap_of x.nodes) levels s).0) s (its_place z)

  pub apart_is : s == 0 ≡ false → ((name : List ℕ) → child_in (heap_of x.nodes s) name ≡ None) → up_in (heap_of x.nodes s) == s ≡ false
  apart_is z none =
      elim (up_in (heap_of x.nodes s) == s) as (λ b. up_in (heap_of x.nodes s) == s ≡ b → b ≡ false) [
        | true ↦ λ e. absurd (clash (child_in (heap_of x.nodes s) (last_part (row_in (heap_of x.nodes) levels s).0)) s (ap (λ (r : ℕ). child_in (heap_of x.nodes r) (last_part (row_in (heap_of x.nodes) levels s).0)) (sym (eqb-eq (up_in (heap_of x.nodes s)) s e)) ∙ its_place z) (none (last_part (row_in (heap_of x.nodes) levels s).0)))
        | false ↦ λ _. refl
      ] refl

  pub full_fault : HasChild (heap_of x.nodes s) → remove_fault (content_kept x) n ≡ Some NotEmpty
  full_fault h =
      remove_fault_is (content_kept x).rows n (row_in (heap_of x.nodes) levels s) true (row_is x n s k at) (full (heap_of x.nodes) x.index.entries x.next k.is_tree s (live_is x n s k at) h.child h.name h.is)

  pub bare_fault : ((name : List ℕ) → child_in (heap_of x.nodes s) name ≡ None) → remove_fault (content_kept x) n ≡ None
  bare_fault h =
      remove_fault_is (content_kept x).rows n (row_in (heap_of x.nodes) levels s) false (row_is x n s k at) (bare (heap_of x.nodes) x.index.entries x.next k.is_tree s (live_is x n s k at) h)

  module _ (f : Heap) (w : Pruned (heap_of x.nodes) f s) (es : List (ℕ × ℕ)) (left : es ≡ index_without x.index.entries n) where
    pub left_tree : IsTree f es x.next
    left_tree = subst (λ (is : List (ℕ × ℕ)). IsTree f is x.next) (sym left) (pruned-tree (heap_of x.nodes) f x.index.entries x.next n s w k.is_tree at)

    pub left_rows : rows_in f levels es ≡ without (content_kept x).rows n
    left_rows = ap (rows_in f levels) left ∙ pruned-rows (heap_of x.nodes) f s w x.index.entries n k.is_tree.tied k.is_tree.live k.is_tree.numbers k.is_tree.distinct at

    pub left_content : record (content_kept x) { rows = rows_in f levels es } ≡ removed (content_kept x) n
    left_content = ap (λ (rows : List Row). record (content_kept x) { rows = rows }) left_rows

    pub left_used : (space : ℕ) → space ≡ allocation_size (length (entry_of_slot (heap_of x.nodes) s).bytes) → x.used - space ≡ used_space (rows_in f levels es)
    left_used space e =
        let less = space_without (content_kept x).rows n (row_in (heap_of x.nodes) levels s) (row_is x n s k at) in
        let rest : x.used - space ≡ used_space (without (content_kept x).rows n) = omega (arith, k.used, less, e) in
        rest ∙ sym (ap used_space left_rows)

    pub left_bound : IsBound x.deepest (rows_in f levels es)
    left_bound = bound_same x.deepest (without (content_kept x).rows n) (rows_in f levels es) left_rows (bound_without x.deepest (content_kept x).rows n k.bound)
