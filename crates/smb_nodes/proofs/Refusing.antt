-- Why a move is refused, by walks.
use Rattle.std.specs.Prelude.{◌≡◌, ℕ, true, false, List, [], length, Option, None, Some, is_some, unwrap_or, refl}
use Rattle.std.proofs.Common.{sym, ap, ◌∙◌, subst}
use Rattle.std.proofs.lemmas.List.{length-map}
use Rattle.smb_wire.specs.Names.{folded}
use Rattle.smb_wire.specs.Paths.{folded_path}
use Rattle.smb_tree.specs.declared.fault.TreeFault.TheVariants.{ParentAbsent, Exists, TooDeep}
use Rattle.smb_tree.specs.Entries.{Entry, is_folder}
use Rattle.smb_tree.specs.Content.{Path, entry_at, parent}
use Rattle.smb_tree.specs.Parts.{is_other_folder, move_fault_between}
use Rattle.smb_tree.specs.Moves.{is_within}
use Rattle.smb_nodes.specs.Nodes.{Heap, entry_down, levels, row_in, rows_in, walk, IsTree}
use Rattle.smb_nodes.specs.Ways.{SomeDeep, is_deep, is_within_slot}
use Rattle.smb_nodes.proofs.Walks.{at-looked, folder-walk, path_to-walk, root_path}
use Rattle.smb_nodes.proofs.Distances.{within_is, too_deep, not_too_deep}

module _ (g : Heap) (es : List (ℕ × ℕ)) (next : ℕ) (t : IsTree g es next) (m : ℕ) (live : is_some (g m) ≡ true) (number : ℕ) (parts : List (List ℕ)) where
  folder_is : is_folder (entry_at (rows_in g levels es) (parent (folded_path parts))) ≡ is_folder (entry_down g (parent (folded_path parts)))
  folder_is = ap (λ (look : Path → Option Entry). is_folder (look (parent (folded_path parts)))) (at-looked g es next t)

  other_is : is_other_folder number (entry_at (rows_in g levels es) (folded_path parts)) ≡ is_other_folder number (entry_down g (folded_path parts))
  other_is = ap (λ (look : Path → Option Entry). is_other_folder number (look (folded_path parts))) (at-looked g es next t)

  inside_is : (q : Path) → is_folder (entry_down g q) ≡ true → is_within (row_in g levels m).0 q ≡ is_within_slot g m (walk g (Some 0) q)
  inside_is q h =
      let u = folder-walk g q h in
      let path : (row_in g levels u.0).0 ≡ q = ap (λ (o : Option Path). unwrap_or o []) (path_to-walk g levels t.tied q 0 u.0 [] (root_path g levels t.tied) u.1) in
      ap (is_within (row_in g levels m).0) (sym path) ∙ sym (within_is g es next t m live u.0 u.2) ∙ ap (is_within_slot g m) (sym u.1)

  pub no_folder : is_folder (entry_down g (parent (folded_path parts))) ≡ false → Some ParentAbsent ≡ move_fault_between (rows_in g levels es) number (row_in g levels m).0 (folded_path parts)
  no_folder h = let e = folder_is ∙ h in rw e refl

  module _ (folder : is_folder (entry_down g (parent (folded_path parts))) ≡ true) where
    pub inside : is_within_slot g m (walk g (Some 0) (parent (folded_path parts))) ≡ true → Some ParentAbsent ≡ move_fault_between (rows_in g levels es) number (row_in g levels m).0 (folded_path parts)
    inside h =
        let e = folder_is ∙ folder in
        let f = inside_is (parent (folded_path parts)) folder ∙ h in
        rw (e, f) refl

    module _ (outside : is_within_slot g m (walk g (Some 0) (parent (folded_path parts))) ≡ false) where
      pub taken : is_other_folder number (entry_down g (folded_path parts)) ≡ true → Some Exists ≡ move_fault_between (rows_in g levels es) number (row_in g levels m).0 (folded_path parts)
      taken h =
          let e = folder_is ∙ folder in
          let f = inside_is (parent (folded_path parts)) folder ∙ outside in
          let k = other_is ∙ h in
          rw (e, f, k) refl

      module _ (free : is_other_folder number (entry_down g (folded_path parts)) ≡ false) (count : ℕ) (long : count ≡ length parts) where
        same_long : count ≡ length (folded_path parts)
        same_long = long ∙ sym (length-map parts folded)

        pub deep : SomeDeep g m count → Some TooDeep ≡ move_fault_between (rows_in g levels es) number (row_in g levels m).0 (folded_path parts)
        deep h =
            let e = folder_is ∙ folder in
            let f = inside_is (parent (folded_path parts)) folder ∙ outside in
            let k = other_is ∙ free in
            let d = too_deep g es next t m live (folded_path parts) (subst (SomeDeep g m) same_long h) in
            rw (e, f, k, d) refl

        pub none : ((s : ℕ) → is_some (g s) ≡ true → is_deep g m count s ≡ false) → None ≡ move_fault_between (rows_in g levels es) number (row_in g levels m).0 (folded_path parts)
        none h =
            let e = folder_is ∙ folder in
            let f = inside_is (parent (folded_path parts)) folder ∙ outside in
            let k = other_is ∙ free in
            let d = not_too_deep g es next t m live (folded_path parts) (subst (λ (n : ℕ). (s : ℕ) → is_some (g s) ≡ true → is_deep g m n s ≡ false) same_long h) in
            rw (e, f, k, d) refl
