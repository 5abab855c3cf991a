-- The path of a node, its name and its parent.
use Rattle.std.specs.Prelude.{◌≡◌, ℕ, ◌==◌, true, false, List, [], Option, None, Some, is_some, unwrap_or, refl}
use Rattle.std.specs.Option.{option_map}
use Rattle.std.proofs.Common.{sym, ap, ◌∙◌, subst}
use Rattle.smb_tree.specs.Entries.{Entry, last_part}
use Rattle.smb_tree.specs.Content.{Path, parent, number_at}
use Rattle.smb_tree.specs.Views.{row_shown}
use Rattle.smb_tree.proofs.Lasts.{last_of, parent_of}
use Rattle.smb_nodes.specs.Nodes.{TreeNode, Heap, entry_in, name_in, up_in, path_to, walk, entry_on, levels, blank, entry_of_slot, row_in, rows_in, IsTree}
use Rattle.smb_nodes.specs.Shows.{node_shown}
use Rattle.smb_nodes.proofs.Walks.{IsNamed, path_to-up, path_to-more, root_path, walk-path_to}
use Rattle.smb_nodes.proofs.Growing.{eqb-eq}
use Rattle.smb_nodes.proofs.Numbered.{path_of_live, number_down}

module _ (g : Heap) (es : List (ℕ × ℕ)) (next : ℕ) (t : IsTree g es next) where
  -- the path of a node that isn't the root is its parent's and its name
  pub parted : (s : ℕ) → is_some (g s) ≡ true → s == 0 ≡ false → IsNamed (name_in (g s)) (path_to g levels (up_in (g s))) (row_in g levels s).0
  parted s h z = path_to-up g levels s (row_in g levels s).0 z (path_to-more g levels s (row_in g levels s).0 (path_of_live g es next s t h))

  pub root_row : (row_in g levels 0).0 ≡ []
  root_row = ap (λ (o : Option Path). unwrap_or o []) (root_path g levels t.tied)

  pub name_of_live : (s : ℕ) → is_some (g s) ≡ true → name_in (g s) ≡ Some (last_part (row_in g levels s).0)
  name_of_live s h =
      elim (s == 0) as (λ b. s == 0 ≡ b → name_in (g s) ≡ Some (last_part (row_in g levels s).0)) [
        | true ↦ λ z. subst (λ (r : ℕ). name_in (g r) ≡ Some (last_part (row_in g levels r).0)) (sym (eqb-eq s 0 z)) (t.root_name ∙ ap (λ (p : Path). Some (last_part p)) (sym root_row))
        | false ↦ λ z. (let n = parted s h z in n.name_is ∙ ap Some (sym (ap last_part n.path_is ∙ last_of n.front n.name)))
      ] refl

  pub up_walk : (s : ℕ) → is_some (g s) ≡ true → walk g (Some 0) (parent (row_in g levels s).0) ≡ Some (up_in (g s))
  up_walk s h =
      elim (s == 0) as (λ b. s == 0 ≡ b → walk g (Some 0) (parent (row_in g levels s).0) ≡ Some (up_in (g s))) [
        | true ↦ λ z. subst (λ (r : ℕ). walk g (Some 0) (parent (row_in g levels r).0) ≡ Some (up_in (g r))) (sym (eqb-eq s 0 z)) (ap (λ (p : Path). walk g (Some 0) (parent p)) root_row ∙ ap Some (sym t.root_up))
        | false ↦ λ z. (let n = parted s h z in ap (λ (p : Path). walk g (Some 0) p) (ap parent n.path_is ∙ parent_of n.front n.name) ∙ walk-path_to g levels levels t.tied (up_in (g s)) n.front n.front_is)
      ] refl

  pub number_above : (s : ℕ) → is_some (g s) ≡ true → unwrap_or (number_at (rows_in g levels es) (parent (row_in g levels s).0)) 0 ≡ (entry_of_slot g (up_in (g s))).number
  number_above s h =
      ap (λ (o : Option ℕ). unwrap_or o 0) (number_down g es next (parent (row_in g levels s).0) t ∙ ap (λ (o : Option ℕ). option_map (λ (entry : Entry). entry.number) (entry_on g o)) (up_walk s h))
      ∙ by (entry_in (g (up_in (g s))))
    where
      by : (o : Option Entry) → unwrap_or (option_map (λ (entry : Entry). entry.number) o) 0 ≡ (unwrap_or o blank).number
      by None = refl
      by (Some e) = refl

  -- what a node shows
  pub shown_is : (s : ℕ) (x : TreeNode) → g s ≡ Some x → node_shown g x ≡ row_shown (rows_in g levels es) (row_in g levels s)
  shown_is s x h =
      let live : is_some (g s) ≡ true = rw h refl in
      let above = number_above s live in
      rw (above, h) refl
