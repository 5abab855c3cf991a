-- A move in a tree of nodes: where nothing stands at the new path, over a file, and to the node's own path.
use Rattle.std.specs.Prelude.{◌≡◌, ℕ, ◌+◌, ◌<◌, ◌==◌, true, false, ◌&&◌, if◌then◌else◌, List, [], ◌∷◌, ◌++◌, length, Option, None, Some, is_some, unwrap_or, refl}
use Rattle.std.specs.Option.{option_map}
use Rattle.std.proofs.Common.{inl, inr, arith, sym, ap, ◌∙◌, subst}
use Rattle.smb_wire.specs.Names.{folded}
use Rattle.smb_wire.specs.Paths.{folded_path}
use Rattle.smb_tree.specs.Entries.{Entry, is_folder, is_folder_kind, allocation_size, last_part}
use Rattle.smb_tree.specs.Content.{Path, is_same_path, entry_at, parent, without, used_space}
use Rattle.smb_tree.specs.Parts.{is_other_folder, renamed, respelled, without_other, moved_row}
use Rattle.smb_tree.specs.Moves.{replaced}
use Rattle.smb_tree.proofs.Heads.{within_or_not, replaced-within, replaced-elsewhere}
use Rattle.smb_tree.proofs.Keys.{same_path-eq, same_path-of_eq}
use Rattle.smb_tree.proofs.Moving.{used-renamed}
use Rattle.smb_tree.proofs.Removals.{space_without}
use Rattle.smb_tree.proofs.Targets.{other_there}
use Rattle.smb_nodes.specs.Nodes.{Heap, name_in, up_in, child_in, entry_in, entry_on, path_to, step, walk, levels, row_in, rows_in, slot_of, index_without, entry_of_slot, name_of_slot, is_same_component, Live, IsTree}
use Rattle.smb_nodes.specs.Changes.{Altered, Pruned, Moved, Settled, Rehung, Emptied}
use Rattle.smb_nodes.proofs.Walks.{at-looked, live-name, walk-append, walk-live, path_to-walk, root_path, same_component-eq}
use Rattle.smb_nodes.proofs.Growing.{eqb-eq, eqb-neq, child-live}
use Rattle.smb_nodes.proofs.Numbered.{found, slot_live, slot_number, path_of_live, entry_of_live}
use Rattle.smb_nodes.proofs.Adding.{split_path}
use Rattle.smb_nodes.proofs.Altering.{Keeps, altered-tree, row_other, row_here}
use Rattle.smb_nodes.proofs.Pruning.{left, pruned-live, pruned-path, pruned-rows, pruned-tree}
use Rattle.smb_nodes.proofs.Moving.{Shallow, moved_rows, same_slot}
use Rattle.smb_nodes.proofs.MovingTree.{moved_tree}
use Rattle.smb_nodes.proofs.Movable.{IsMovable, some_parts, path_live, paths_shallow, slot_of_live}
use Rattle.smb_nodes.proofs.Evicting.{pruned, pruned_none, pruned_is, folder_other, moved_over}

some_equal : {A : Type 0} {a b : A} → Some a ≡ Some b → a ≡ b
some_equal h = cc

name_live : (o : Option (List ℕ)) (c : List ℕ) → o ≡ Some c → o ≡ Some (unwrap_or o [])
name_live None c h = cc
name_live (Some x) c h = refl

-- a path replaced by itself
replaced_same : (from p : Path) → replaced from from p ≡ p
replaced_same from p = elim (within_or_not from p) [
  | inl r ↦ ap (replaced from from) r.1 ∙ replaced-within from from r.0 ∙ sym r.1
  | inr k ↦ replaced-elsewhere from from p k
]

file_there : (n : ℕ) (e : Entry) → is_other_folder n (Some e) ≡ false → (e.number ≡ n → ⊥) → is_folder_kind e.kind ≡ false
file_there n e h k =
    let other : (e.number == n) ≡ false = elim (e.number == n) as (λ b. e.number == n ≡ b → b ≡ false) [ true ↦ λ z. absurd (k (eqb-eq e.number n z)) | false ↦ λ _. refl ] refl in
    grind (arith, h, other)

-- where every path is short enough afterwards, those of an index are
all_shallow : (g f : Heap) (m : ℕ) (from : Path) (up1 up2 : ℕ) (c1 c2 : List ℕ) (p2 : Path) (parts : List (List ℕ)) (es : List (ℕ × ℕ)) (next : ℕ) (t : IsTree g es next) (w : Moved g f levels m from up1 up2 c1 c2 p2 (last_part parts)) → ((s : ℕ) (p : Path) → path_to g levels s ≡ Some p → length (replaced from (p2 ++ c2 ∷ []) p) < levels) → (list : List (ℕ × ℕ)) → Live g list → Shallow g f levels m from up1 up2 c1 c2 p2 parts t.tied w list
all_shallow g f m from up1 up2 c1 c2 p2 parts es next t w h [] l = tt
all_shallow g f m from up1 up2 c1 c2 p2 parts es next t w h (e ∷ list) l = (h e.1 (row_in g levels e.1).0 (path_of_live g es next e.1 t l.0), all_shallow g f m from up1 up2 c1 c2 p2 parts es next t w h list l.1)

module _ (g : Heap) (es : List (ℕ × ℕ)) (next : ℕ) (t : IsTree g es next) (n m : ℕ) (at : slot_of es n ≡ Some m) (root : n ≡ 1 → ⊥) (parts : List (List ℕ)) (w : IsMovable (rows_in g levels es) n (row_in g levels m).0 (folded_path parts)) where
  live : is_some (g m) ≡ true
  live = slot_live g es n m t.live at

  not_root : m == 0 ≡ false
  not_root =
      elim (m == 0) as (λ b. m == 0 ≡ b → b ≡ false) [
        | true ↦ λ z. absurd (root (some_equal (sym (slot_number g es n m t.numbers at) ∙ ap (λ (r : ℕ). option_map (λ (e : Entry). e.number) (entry_in (g r))) (eqb-eq m 0 z) ∙ t.root_number)))
        | false ↦ λ _. refl
      ] refl

  pub some : 0 < length parts
  some = some_parts g es next t n parts (row_in g levels m).0 root w

  split : parent (folded_path parts) ++ folded (last_part parts) ∷ [] ≡ folded_path parts
  split = split_path parts some

  its_name : name_in (g m) ≡ Some (name_of_slot g m)
  its_name = by (g m) live
    where
      by : (o : Option _) → is_some o ≡ true → name_in o ≡ Some (unwrap_or (name_in o) [])
      by None h = cc
      by (Some x) h = refl

  its_place : child_in (g (up_in (g m))) (name_of_slot g m) ≡ Some m
  its_place = t.tied.up m (name_of_slot g m) its_name not_root

  pub around_is : is_some (g (up_in (g m))) ≡ true
  around_is = child-live (g (up_in (g m))) (name_of_slot g m) m its_place

  old_path : path_to g levels m ≡ Some (row_in g levels m).0
  old_path = path_of_live g es next m t live

  entry_is : entry_at (rows_in g levels es) (folded_path parts) ≡ entry_on g (walk g (Some 0) (folded_path parts))
  entry_is = ap (λ (look : Path → Option Entry). look (folded_path parts)) (at-looked g es next t)

  shallow : (s : ℕ) (p : Path) → path_to g levels s ≡ Some p → length (replaced (row_in g levels m).0 (parent (folded_path parts) ++ folded (last_part parts) ∷ []) p) < levels
  shallow s p h = subst (λ (q : Path). length (replaced (row_in g levels m).0 q p) < levels) (sym split) (paths_shallow g es next t (row_in g levels m).0 (folded_path parts) w.shallow s p h)

  module _ (up2 : ℕ) (at_up : walk g (Some 0) (parent (folded_path parts)) ≡ Some up2) where
    pub above_is : is_some (g up2) ≡ true
    above_is = walk-live g levels t.tied (parent (folded_path parts)) 0 up2 t.tied.root at_up

    folder : is_folder (entry_in (g up2)) ≡ true
    folder = sym (ap (λ (o : Option ℕ). is_folder (entry_on g o)) at_up) ∙ sym (ap (λ (look : Path → Option Entry). is_folder (look (parent (folded_path parts)))) (at-looked g es next t)) ∙ w.above

    up_path : path_to g levels up2 ≡ Some (parent (folded_path parts))
    up_path = path_to-walk g levels t.tied (parent (folded_path parts)) 0 up2 [] (root_path g levels t.tied) at_up

    walk_is : walk g (Some 0) (folded_path parts) ≡ child_in (g up2) (folded (last_part parts))
    walk_is = ap (walk g (Some 0)) (sym split) ∙ walk-append g (Some 0) (parent (folded_path parts)) (folded (last_part parts) ∷ []) ∙ ap (λ (o : Option ℕ). step g o (folded (last_part parts))) at_up

    -- the new place is another one
    pub apart_is : (walk g (Some 0) (folded_path parts) ≡ Some m → ⊥) → (up_in (g m) == up2 && is_same_component (folded (last_part parts)) (name_of_slot g m)) ≡ false
    apart_is other =
        elim (up_in (g m) == up2 && is_same_component (folded (last_part parts)) (name_of_slot g m)) as (λ b. (up_in (g m) == up2 && is_same_component (folded (last_part parts)) (name_of_slot g m)) ≡ b → b ≡ false) [
          | true ↦ λ z.
              let up : up_in (g m) ≡ up2 = grind (arith, z, eqb-eq (up_in (g m)) up2) in
              let name : folded (last_part parts) ≡ name_of_slot g m = grind (arith, z, same_component-eq (folded (last_part parts)) (name_of_slot g m)) in
              let here : child_in (g up2) (folded (last_part parts)) ≡ Some m = (λ i. child_in (g (sym up i)) (name i)) ∙ its_place in
              absurd (other (walk_is ∙ here))
          | false ↦ λ _. refl
        ] refl

    -- where nothing stands
    module _ (f : Heap) (r : Rehung g f m up2 (folded (last_part parts)) (last_part parts)) (none : walk g (Some 0) (folded_path parts) ≡ None) where
      moved_is : Moved g f levels m (row_in g levels m).0 (up_in (g m)) up2 (name_of_slot g m) (folded (last_part parts)) (parent (folded_path parts)) (last_part parts)
      moved_is = record {
        old = old_path;
        new = up_path;
        outside = w.outside;
        vacant = sym walk_is ∙ none;
        old_up = refl;
        old_name = its_name;
        not_root = not_root;
        names = r.names;
        ups = r.ups;
        entries = r.entries;
        children = r.children;
      }

      pub free_tree : IsTree f es next
      free_tree = moved_tree g f m (row_in g levels m).0 (up_in (g m)) up2 (name_of_slot g m) (folded (last_part parts)) (parent (folded_path parts)) parts es next t moved_is folder shallow

      pub free_rows : rows_in f levels es ≡ renamed (row_in g levels m).0 parts (without_other (rows_in g levels es) n (entry_at (rows_in g levels es) (folded_path parts)))
      free_rows =
          let shorts = all_shallow g f m (row_in g levels m).0 (up_in (g m)) up2 (name_of_slot g m) (folded (last_part parts)) (parent (folded_path parts)) parts es next t moved_is shallow es t.live in
          let gone : entry_at (rows_in g levels es) (folded_path parts) ≡ None = entry_is ∙ ap (entry_on g) none in
          moved_rows g f levels m (row_in g levels m).0 (up_in (g m)) up2 (name_of_slot g m) (folded (last_part parts)) (parent (folded_path parts)) parts t.tied moved_is (sym split) es t.live shorts
          ∙ ap (λ (o : Option Entry). renamed (row_in g levels m).0 parts (without_other (rows_in g levels es) n o)) (sym gone)

      pub free_used : used_space (rows_in f levels es) ≡ used_space (rows_in g levels es)
      free_used =
          let gone : entry_at (rows_in g levels es) (folded_path parts) ≡ None = entry_is ∙ ap (entry_on g) none in
          ap used_space (free_rows ∙ ap (λ (o : Option Entry). renamed (row_in g levels m).0 parts (without_other (rows_in g levels es) n o)) gone) ∙ used-renamed (row_in g levels m).0 parts (rows_in g levels es)

    -- over another node
    module _ (slot : ℕ) (at_slot : walk g (Some 0) (folded_path parts) ≡ Some slot) (other : m == slot ≡ false) where
      there : child_in (g up2) (folded (last_part parts)) ≡ Some slot
      there = sym walk_is ∙ at_slot

      pub target_live : is_some (g slot) ≡ true
      target_live = live-name (g slot) (folded (last_part parts)) (t.tied.down up2 slot (folded (last_part parts)) there).0

      target_entry : entry_at (rows_in g levels es) (folded_path parts) ≡ Some (entry_of_slot g slot)
      target_entry = entry_is ∙ ap (entry_on g) at_slot ∙ entry_of_live g levels slot target_live

      target_at : slot_of es (entry_of_slot g slot).number ≡ Some slot
      target_at = slot_of_live g es next t slot target_live

      other_number : (entry_of_slot g slot).number ≡ n → ⊥
      other_number e = eqb-neq m slot other (some_equal (sym at ∙ ap (slot_of es) (sym e) ∙ target_at))

      a_file : is_folder (entry_in (g slot)) ≡ false
      a_file = ap is_folder (entry_of_live g levels slot target_live) ∙ file_there n (entry_of_slot g slot) (sym (ap (is_other_folder n) target_entry) ∙ w.free) other_number

      bare : (c : List ℕ) → child_in (g slot) c ≡ None
      bare c =
          elim (child_in (g slot) c) as (λ o. child_in (g slot) c ≡ o → o ≡ None) [
            | None ↦ λ _. refl
            | Some u ↦ λ e. (let yes = t.leaves slot u c e in absurd (let wrong : true ≡ false = sym yes ∙ a_file in cc))
          ] refl

      between : Pruned g (pruned g slot) slot
      between = pruned_is g slot target_live (t.tied.down up2 slot (folded (last_part parts)) there).2 bare

      between_tree : IsTree (pruned g slot) (index_without es (entry_of_slot g slot).number) next
      between_tree = pruned-tree g (pruned g slot) es next (entry_of_slot g slot).number slot between t target_at

      between_shallow : (s : ℕ) (p : Path) → path_to (pruned g slot) levels s ≡ Some p → length (replaced (row_in g levels m).0 (parent (folded_path parts) ++ folded (last_part parts) ∷ []) p) < levels
      between_shallow s p h =
          let stays = path_live (pruned g slot) levels between_tree.tied levels s p h in
          let o = left g (pruned g slot) slot between s stays in
          let was = path_of_live g es next s t (sym (pruned-live g (pruned g slot) slot between s o) ∙ stays) in
          let now = pruned-path g (pruned g slot) slot between levels t.tied levels s (row_in g levels s).0 o was in
          subst (λ (q : Path). length (replaced (row_in g levels m).0 (parent (folded_path parts) ++ folded (last_part parts) ∷ []) q) < levels) (some_equal (sym now ∙ h)) (shallow s (row_in g levels s).0 was)

      module _ (f k : Heap) (r : Rehung g f m up2 (folded (last_part parts)) (last_part parts)) (e : Emptied f k slot) where
        over_is : Moved (pruned g slot) k levels m (row_in g levels m).0 (up_in (g m)) up2 (name_of_slot g m) (folded (last_part parts)) (parent (folded_path parts)) (last_part parts)
        over_is = moved_over g (pruned g slot) f k es next m slot up2 (folded (last_part parts)) (last_part parts) t between (pruned_none g slot target_live (t.tied.down up2 slot (folded (last_part parts)) there).2 bare) r e there other live not_root (row_in g levels m).0 (parent (folded_path parts)) old_path up_path w.outside

        -- the target's entry stays until it goes
        pub target_kept : entry_of_slot f slot ≡ entry_of_slot g slot
        target_kept =
            let away : slot == m ≡ false = grind (arith, other) in
            rw (r.entries slot, away) refl

        pub over_tree : IsTree k (index_without es (entry_of_slot g slot).number) next
        over_tree =
            let away : up2 == slot ≡ false = folder_other g (pruned g slot) f k es next m slot up2 (folded (last_part parts)) (last_part parts) t between (pruned_none g slot target_live (t.tied.down up2 slot (folded (last_part parts)) there).2 bare) r e there other live not_root in
            let still : is_folder (entry_in (pruned g slot up2)) ≡ true = rw (between.entries up2, away) folder in
            moved_tree (pruned g slot) k m (row_in g levels m).0 (up_in (g m)) up2 (name_of_slot g m) (folded (last_part parts)) (parent (folded_path parts)) parts (index_without es (entry_of_slot g slot).number) next between_tree over_is still between_shallow

        left_rows : rows_in k levels (index_without es (entry_of_slot g slot).number) ≡ renamed (row_in g levels m).0 parts (without (rows_in g levels es) (entry_of_slot g slot).number)
        left_rows =
            let index : List (ℕ × ℕ) = index_without es (entry_of_slot g slot).number in
            let shorts = all_shallow (pruned g slot) k m (row_in g levels m).0 (up_in (g m)) up2 (name_of_slot g m) (folded (last_part parts)) (parent (folded_path parts)) parts index next between_tree over_is between_shallow index between_tree.live in
            moved_rows (pruned g slot) k levels m (row_in g levels m).0 (up_in (g m)) up2 (name_of_slot g m) (folded (last_part parts)) (parent (folded_path parts)) parts between_tree.tied over_is (sym split) index between_tree.live shorts
            ∙ ap (renamed (row_in g levels m).0 parts) (pruned-rows g (pruned g slot) slot between es (entry_of_slot g slot).number t.tied t.live t.numbers t.distinct target_at)

        pub over_rows : rows_in k levels (index_without es (entry_of_slot g slot).number) ≡ renamed (row_in g levels m).0 parts (without_other (rows_in g levels es) n (entry_at (rows_in g levels es) (folded_path parts)))
        over_rows = left_rows ∙ ap (renamed (row_in g levels m).0 parts) (sym (other_there (rows_in g levels es) n (entry_at (rows_in g levels es) (folded_path parts)) (entry_of_slot g slot) target_entry other_number))

        pub over_used : used_space (rows_in k levels (index_without es (entry_of_slot g slot).number)) + allocation_size (length (entry_of_slot g slot).bytes) ≡ used_space (rows_in g levels es)
        over_used =
            let after = ap used_space left_rows ∙ used-renamed (row_in g levels m).0 parts (without (rows_in g levels es) (entry_of_slot g slot).number) in
            let less = space_without (rows_in g levels es) (entry_of_slot g slot).number (row_in g levels slot) (found g es next (entry_of_slot g slot).number slot t target_at) in
            omega (arith, after, less)

    -- its own path
    module _ (f : Heap) (u : Settled g f m up2 (folded (last_part parts)) (last_part parts)) (here : walk g (Some 0) (folded_path parts) ≡ Some m) where
      stands : child_in (g up2) (folded (last_part parts)) ≡ Some m
      stands = sym walk_is ∙ here

      same_path : (row_in g levels m).0 ≡ folded_path parts
      same_path = ap (λ (o : Option Path). unwrap_or o []) (path_to-walk g levels t.tied (folded_path parts) 0 m [] (root_path g levels t.tied) here)

      respelling : Altered g f m (λ (entry : Entry). record entry { spelling = last_part parts })
      respelling = record {
        names = λ s. u.names s ∙ elim (s == m) as (λ b. s == m ≡ b → (if b then Some (folded (last_part parts)) else name_in (g s)) ≡ name_in (g s)) [
          | true ↦ λ z. sym (ap (λ (r : ℕ). name_in (g r)) (eqb-eq s m z) ∙ (t.tied.down up2 m (folded (last_part parts)) stands).0)
          | false ↦ λ z. refl
        ] refl;
        ups = λ s. u.ups s ∙ elim (s == m) as (λ b. s == m ≡ b → (if b then up2 else up_in (g s)) ≡ up_in (g s)) [
          | true ↦ λ z. sym (ap (λ (r : ℕ). up_in (g r)) (eqb-eq s m z) ∙ (t.tied.down up2 m (folded (last_part parts)) stands).1)
          | false ↦ λ z. refl
        ] refl;
        entries = u.entries;
        children = u.children;
      }

      keeps : Keeps (λ (entry : Entry). record entry { spelling = last_part parts })
      keeps = record { number = λ e. refl; kind = λ e. refl }

      pub same_tree : IsTree f es next
      same_tree = altered-tree g f m (λ (entry : Entry). record entry { spelling = last_part parts }) respelling keeps es next t

      same_row : (s : ℕ) → is_some (g s) ≡ true → row_in f levels s ≡ moved_row (row_in g levels m).0 parts (row_in g levels s)
      same_row s h =
          let path : replaced (row_in g levels m).0 (folded_path parts) (row_in g levels s).0 ≡ (row_in g levels s).0 = ap (λ (q : Path). replaced (row_in g levels m).0 q (row_in g levels s).0) (sym same_path) ∙ replaced_same (row_in g levels m).0 (row_in g levels s).0 in
          elim (s == m) as (λ b. s == m ≡ b → row_in f levels s ≡ moved_row (row_in g levels m).0 parts (row_in g levels s)) [
            | true ↦ λ z.
                let it : is_same_path (row_in g levels s).0 (row_in g levels m).0 ≡ true = same_path-of_eq (row_in g levels s).0 (row_in g levels m).0 (ap (λ (r : ℕ). (row_in g levels r).0) (eqb-eq s m z)) in
                let spelled : respelled (row_in g levels m).0 parts (row_in g levels s).0 (row_in g levels s).1 ≡ record (row_in g levels s).1 { spelling = last_part parts } = rw it refl in
                row_here g f m (λ (entry : Entry). record entry { spelling = last_part parts }) respelling keeps levels s z h ∙ (λ i. (sym path i, sym spelled i))
            | false ↦ λ z.
                let it : is_same_path (row_in g levels s).0 (row_in g levels m).0 ≡ false =
                elim (is_same_path (row_in g levels s).0 (row_in g levels m).0) as (λ b. is_same_path (row_in g levels s).0 (row_in g levels m).0 ≡ b → b ≡ false) [
                  | true ↦ λ y. absurd (eqb-neq s m z (same_slot g levels t.tied levels levels s m (row_in g levels m).0 (path_of_live g es next s t h ∙ ap Some (same_path-eq (row_in g levels s).0 (row_in g levels m).0 y)) old_path))
                  | false ↦ λ _. refl
                ] refl in
                let spelled : respelled (row_in g levels m).0 parts (row_in g levels s).0 (row_in g levels s).1 ≡ (row_in g levels s).1 = rw it refl in
                row_other g f m (λ (entry : Entry). record entry { spelling = last_part parts }) respelling keeps levels s z ∙ (λ i. (sym path i, sym spelled i))
          ] refl

      respelled_rows : (list : List (ℕ × ℕ)) → Live g list → rows_in f levels list ≡ renamed (row_in g levels m).0 parts (rows_in g levels list)
      respelled_rows [] l = refl
      respelled_rows (e ∷ list) l = (let first = same_row e.1 l.0 in let rest = respelled_rows list l.1 in λ i. first i ∷ rest i)

      itself : without_other (rows_in g levels es) n (entry_at (rows_in g levels es) (folded_path parts)) ≡ rows_in g levels es
      itself =
          let entry : entry_at (rows_in g levels es) (folded_path parts) ≡ Some (entry_of_slot g m) = entry_is ∙ ap (entry_on g) here ∙ entry_of_live g levels m live in
          let number : (entry_of_slot g m).number ≡ n = some_equal (sym (ap (option_map (λ (e : Entry). e.number)) (entry_of_live g levels m live)) ∙ slot_number g es n m t.numbers at) in
          let it : (entry_of_slot g m).number == n ≡ true = grind (arith, number) in
          ap (without_other (rows_in g levels es) n) entry ∙ rw it refl

      pub same_rows : rows_in f levels es ≡ renamed (row_in g levels m).0 parts (without_other (rows_in g levels es) n (entry_at (rows_in g levels es) (folded_path parts)))
      same_rows = respelled_rows es t.live ∙ ap (renamed (row_in g levels m).0 parts) (sym itself)

      pub same_used : used_space (rows_in f levels es) ≡ used_space (rows_in g levels es)
      same_used = ap used_space (respelled_rows es t.live) ∙ used-renamed (row_in g levels m).0 parts (rows_in g levels es)
