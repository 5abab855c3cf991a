-- A move in a tree of nodes, as its method sees it.
use Rattle.std.specs.Prelude.{min, max, ◌≡◌, ℕ, ◌+◌, ◌-◌, ◌≤◌, ◌==◌, Bool, true, false, ◌&&◌, if◌then◌else◌, List, length, Option, None, Some, is_some, refl}
use Rattle.std.proofs.Common.{arith, sym, ap, ◌∙◌, subst}
use Rattle.smb_wire.specs.Names.{folded}
use Rattle.smb_wire.specs.Paths.{folded_path}
use Rattle.smb_tree.specs.declared.fault.TreeFault.{TreeFault}
use Rattle.smb_tree.specs.declared.fault.TreeFault.TheVariants.{NoMemory, ParentAbsent, Exists, TooDeep}
use Rattle.smb_tree.specs.Entries.{Entry, allocation_size, is_folder, last_part}
use Rattle.smb_tree.specs.Content.{Row, entry_at, parent, used_space}
use Rattle.smb_tree.specs.Faults.{move_fault}
use Rattle.smb_tree.specs.Parts.{is_other_folder, would_be_too_deep, move_fault_between, renamed, without_other}
use Rattle.smb_tree.specs.Moves.{moved}
use Rattle.smb_tree.proofs.Moving.{fault_found, moved_is}
use Rattle.smb_nodes.specs.declared.tree.NodeTree.TheInside.{Inside}
use Rattle.smb_nodes.specs.Nodes.{entry_on, Heap, levels, row_in, rows_in, slot_of, index_without, entry_of_slot, name_of_slot, is_same_component, up_in, walk, IsTree}
use Rattle.smb_nodes.specs.Changes.{Settled, Rehung, Emptied}
use Rattle.smb_nodes.specs.Seen.{heap_of}
use Rattle.smb_nodes.specs.Tree.{content_kept, IsBound, KeepsTree}
use Rattle.smb_nodes.specs.Ways.{NoneBelow}
use Rattle.std.proofs.lemmas.List.{length-map}
use Rattle.smb_nodes.proofs.Growing.{live-entry, eqb-eq}
use Rattle.smb_nodes.proofs.Bounds.{bound_moved}
use Rattle.smb_nodes.proofs.Distances.{rows_below}
use Rattle.smb_nodes.proofs.Kept.{live_is, row_is}
use Rattle.smb_nodes.proofs.Refusing.{no_folder}
use Rattle.smb_nodes.proofs.Movable.{IsMovable, movable}
use Rattle.smb_nodes.proofs.Relocating.{above_is, around_is, apart_is, free_tree, free_rows, free_used, target_live, target_kept, over_tree, over_rows, over_used, same_tree, same_rows, same_used}

-- the number has a slot and isn't the root's, nothing is against its move to the path that these components spell, and the
-- folder around that path is in a slot
pub record MayMove (x : Inside) (n m : ℕ) (parts : List (List ℕ)) (up2 : ℕ) : Type 0 where
  pub keeps : KeepsTree x
  pub at : slot_of x.index.entries n ≡ Some m
  pub root : n ≡ 1 → ⊥
  pub is_movable : IsMovable (rows_in (heap_of x.nodes) levels x.index.entries) n (row_in (heap_of x.nodes) levels m).0 (folded_path parts)
  pub at_up : walk (heap_of x.nodes) (Some 0) (parent (folded_path parts)) ≡ Some up2

not_memory : (a b c : Bool) (fault : TreeFault) → (if a then Some ParentAbsent else if b then Some Exists else if c then Some TooDeep else None) ≡ Some fault → fault ≡ NoMemory → ⊥
not_memory true b c fault h e = cc
not_memory false true c fault h e = cc
not_memory false false true fault h e = cc
not_memory false false false fault h e = cc

-- what isn't one slot is another
pub not_it : (o : Option ℕ) (m s : ℕ) → (o ≡ Some m → ⊥) → o ≡ Some s → m == s ≡ false
not_it o m s h e = elim (m == s) as (λ b. m == s ≡ b → b ≡ false) [ true ↦ λ z. absurd (h (e ∙ ap Some (sym (eqb-eq m s z)))) | false ↦ λ _. refl ] refl

-- where no slot is found around the new path
pub no_folder_found : (x : Inside) (n m : ℕ) (k : KeepsTree x) (at : slot_of x.index.entries n ≡ Some m) (parts : List (List ℕ)) → walk (heap_of x.nodes) (Some 0) (parent (folded_path parts)) ≡ None → move_fault (content_kept x) n (folded_path parts) ≡ Some ParentAbsent
no_folder_found x n m k at parts h =
    let none = no_folder (heap_of x.nodes) x.index.entries x.next k.is_tree m (live_is x n m k at) n parts (ap (λ (o : Option ℕ). is_folder (entry_on (heap_of x.nodes) o)) h) in
    fault_found (content_kept x) n (row_in (heap_of x.nodes) levels m) (row_in (heap_of x.nodes) levels m).0 (folded_path parts) (Some ParentAbsent) (row_is x n m k at) refl none

-- the fault of the entry of a number that was found
module _ (x : Inside) (n m : ℕ) (k : KeepsTree x) (at : slot_of x.index.entries n ≡ Some m) (parts : List (List ℕ)) (fault : Option TreeFault) (is : (index : List (ℕ × ℕ)) (next : ℕ) → IsTree (heap_of x.nodes) index next → fault ≡ move_fault_between (rows_in (heap_of x.nodes) levels index) n (row_in (heap_of x.nodes) levels m).0 (folded_path parts)) where
  pub fault_is : move_fault (content_kept x) n (folded_path parts) ≡ fault
  fault_is = fault_found (content_kept x) n (row_in (heap_of x.nodes) levels m) (row_in (heap_of x.nodes) levels m).0 (folded_path parts) fault (row_is x n m k at) refl (is x.index.entries x.next k.is_tree)

  pub no_memory : (f : TreeFault) → fault ≡ Some f → f ≡ NoMemory → ⊥
  no_memory f h =
      let rows : List Row = rows_in (heap_of x.nodes) levels x.index.entries in
      not_memory _ (is_other_folder n (entry_at rows (folded_path parts))) (would_be_too_deep rows (row_in (heap_of x.nodes) levels m).0 (folded_path parts)) f (sym (is x.index.entries x.next k.is_tree) ∙ h)

  pub may_move : fault ≡ None → (n ≡ 1 → ⊥) → IsMovable (rows_in (heap_of x.nodes) levels x.index.entries) n (row_in (heap_of x.nodes) levels m).0 (folded_path parts)
  may_move h root = movable (rows_in (heap_of x.nodes) levels x.index.entries) n (row_in (heap_of x.nodes) levels m).0 (folded_path parts) (sym (is x.index.entries x.next k.is_tree) ∙ h)

module _ (x : Inside) (n m : ℕ) (parts : List (List ℕ)) (up2 : ℕ) (o : MayMove x n m parts up2) where
  pub above : is_some (heap_of x.nodes up2) ≡ true
  above = above_is (heap_of x.nodes) x.index.entries x.next o.keeps.is_tree n m o.at o.root parts o.is_movable up2 o.at_up

  pub around : is_some (heap_of x.nodes (up_in (heap_of x.nodes m))) ≡ true
  around = around_is (heap_of x.nodes) x.index.entries x.next o.keeps.is_tree n m o.at o.root parts o.is_movable

  pub apart : (walk (heap_of x.nodes) (Some 0) (folded_path parts) ≡ Some m → ⊥) → (up_in (heap_of x.nodes m) == up2 && is_same_component (folded (last_part parts)) (name_of_slot (heap_of x.nodes) m)) ≡ false
  apart = apart_is (heap_of x.nodes) x.index.entries x.next o.keeps.is_tree n m o.at o.root parts o.is_movable up2 o.at_up

  content_is : (rows : List Row) → rows ≡ renamed (row_in (heap_of x.nodes) levels m).0 parts (without_other (content_kept x).rows n (entry_at (content_kept x).rows (folded_path parts))) → record (content_kept x) { rows = rows } ≡ moved (content_kept x) n parts
  content_is rows h = moved_is (content_kept x) n parts (row_in (heap_of x.nodes) levels m) (row_in (heap_of x.nodes) levels m).0 rows (row_is x n m o.keeps o.at) refl h

  -- so many components and levels are the bound afterwards
  bound_by : (f : Heap) (es : List (ℕ × ℕ)) (t : IsTree f es x.next) (most : ℕ) → IsBound most (content_kept x).rows → (count below deepest : ℕ) → count ≡ length parts → NoneBelow (heap_of x.nodes) m below → deepest ≡ min (max most (count + below)) 32 → rows_in f levels es ≡ renamed (row_in (heap_of x.nodes) levels m).0 parts (without_other (content_kept x).rows n (entry_at (content_kept x).rows (folded_path parts))) → IsBound deepest (rows_in f levels es)
  bound_by f es t most b count below deepest e h d rows =
      let long : count ≡ length (folded_path parts) = e ∙ sym (length-map parts folded) in
      let is : deepest ≡ min (max most (length (folded_path parts) + below)) 32 = d ∙ ap (λ (k : ℕ). min (max most (k + below)) 32) long in
      bound_moved f es x.next t (row_in (heap_of x.nodes) levels m).0 parts most below deepest n (content_kept x).rows (entry_at (content_kept x).rows (folded_path parts)) rows is b
      (rows_below (heap_of x.nodes) x.index.entries x.next o.keeps.is_tree m (live_is x n m o.keeps o.at) below h x.index.entries o.keeps.is_tree.live)

  -- to its own path
  module _ (f : Heap) (u : Settled (heap_of x.nodes) f m up2 (folded (last_part parts)) (last_part parts)) (here : walk (heap_of x.nodes) (Some 0) (folded_path parts) ≡ Some m) where
    pub same_keeps : IsTree f x.index.entries x.next
    same_keeps = same_tree (heap_of x.nodes) x.index.entries x.next o.keeps.is_tree n m o.at o.root parts o.is_movable up2 o.at_up f u here

    pub same_space : x.used ≡ used_space (rows_in f levels x.index.entries)
    same_space = o.keeps.used ∙ sym (same_used (heap_of x.nodes) x.index.entries x.next o.keeps.is_tree n m o.at o.root parts o.is_movable up2 o.at_up f u here)

    pub own_bound : (most : ℕ) → IsBound most (content_kept x).rows → (count below deepest : ℕ) → count ≡ length parts → NoneBelow (heap_of x.nodes) m below → deepest ≡ min (max most (count + below)) 32 → IsBound deepest (rows_in f levels x.index.entries)
    own_bound most b count below deepest e h d = bound_by f x.index.entries same_keeps most b count below deepest e h d (same_rows (heap_of x.nodes) x.index.entries x.next o.keeps.is_tree n m o.at o.root parts o.is_movable up2 o.at_up f u here)

    pub same_content : record (content_kept x) { rows = rows_in f levels x.index.entries } ≡ moved (content_kept x) n parts
    same_content = content_is (rows_in f levels x.index.entries) (same_rows (heap_of x.nodes) x.index.entries x.next o.keeps.is_tree n m o.at o.root parts o.is_movable up2 o.at_up f u here)

  module _ (f : Heap) (r : Rehung (heap_of x.nodes) f m up2 (folded (last_part parts)) (last_part parts)) where
    -- to where nothing stood
    module _ (none : walk (heap_of x.nodes) (Some 0) (folded_path parts) ≡ None) where
      pub free_keeps : IsTree f x.index.entries x.next
      free_keeps = free_tree (heap_of x.nodes) x.index.entries x.next o.keeps.is_tree n m o.at o.root parts o.is_movable up2 o.at_up f r none

      pub free_space : x.used ≡ used_space (rows_in f levels x.index.entries)
      free_space = o.keeps.used ∙ sym (free_used (heap_of x.nodes) x.index.entries x.next o.keeps.is_tree n m o.at o.root parts o.is_movable up2 o.at_up f r none)

      pub free_bound : (most : ℕ) → IsBound most (content_kept x).rows → (count below deepest : ℕ) → count ≡ length parts → NoneBelow (heap_of x.nodes) m below → deepest ≡ min (max most (count + below)) 32 → IsBound deepest (rows_in f levels x.index.entries)
      free_bound most b count below deepest e h d = bound_by f x.index.entries free_keeps most b count below deepest e h d (free_rows (heap_of x.nodes) x.index.entries x.next o.keeps.is_tree n m o.at o.root parts o.is_movable up2 o.at_up f r none)

      pub free_content : record (content_kept x) { rows = rows_in f levels x.index.entries } ≡ moved (content_kept x) n parts
      free_content = content_is (rows_in f levels x.index.entries) (free_rows (heap_of x.nodes) x.index.entries x.next o.keeps.is_tree n m o.at o.root parts o.is_movable up2 o.at_up f r none)

    -- over another node
    module _ (slot : ℕ) (at_slot : walk (heap_of x.nodes) (Some 0) (folded_path parts) ≡ Some slot) (other : m == slot ≡ false) where
      pub target_there : is_some (f slot) ≡ true
      target_there =
          let away : slot == m ≡ false = grind (arith, other) in
          live-entry (f slot) ∙ rw (r.entries slot, away) (sym (live-entry (heap_of x.nodes slot)) ∙ target_live (heap_of x.nodes) x.index.entries x.next o.keeps.is_tree n m o.at o.root parts o.is_movable up2 o.at_up slot at_slot other)

      module _ (k : Heap) (es : List (ℕ × ℕ)) (space : ℕ) (e : Emptied f k slot) (left : es ≡ index_without x.index.entries (entry_of_slot f slot).number) (space_is : space ≡ allocation_size (length (entry_of_slot f slot).bytes)) where
        kept : entry_of_slot f slot ≡ entry_of_slot (heap_of x.nodes) slot
        kept = target_kept (heap_of x.nodes) x.index.entries x.next o.keeps.is_tree n m o.at o.root parts o.is_movable up2 o.at_up slot at_slot other f k r e

        index_is : es ≡ index_without x.index.entries (entry_of_slot (heap_of x.nodes) slot).number
        index_is = left ∙ ap (λ (entry : Entry). index_without x.index.entries entry.number) kept

        pub over_keeps : IsTree k es x.next
        over_keeps = subst (λ (is : List (ℕ × ℕ)). IsTree k is x.next) (sym index_is) (over_tree (heap_of x.nodes) x.index.entries x.next o.keeps.is_tree n m o.at o.root parts o.is_movable up2 o.at_up slot at_slot other f k r e)

        both_spaces : used_space (rows_in k levels es) + space ≡ x.used
        both_spaces =
            let all = over_used (heap_of x.nodes) x.index.entries x.next o.keeps.is_tree n m o.at o.root parts o.is_movable up2 o.at_up slot at_slot other f k r e in
            (λ i. used_space (rows_in k levels (index_is i)) + (space_is ∙ ap (λ (entry : Entry). allocation_size (length entry.bytes)) kept) i) ∙ all ∙ sym o.keeps.used

        pub over_enough : space ≤ x.used
        over_enough = omega (arith, both_spaces)

        pub over_space : x.used - space ≡ used_space (rows_in k levels es)
        over_space = omega (arith, both_spaces)

        rows_are : rows_in k levels es ≡ renamed (row_in (heap_of x.nodes) levels m).0 parts (without_other (content_kept x).rows n (entry_at (content_kept x).rows (folded_path parts)))
        rows_are = ap (rows_in k levels) index_is ∙ over_rows (heap_of x.nodes) x.index.entries x.next o.keeps.is_tree n m o.at o.root parts o.is_movable up2 o.at_up slot at_slot other f k r e

        pub over_bound : (most : ℕ) → IsBound most (content_kept x).rows → (count below deepest : ℕ) → count ≡ length parts → NoneBelow (heap_of x.nodes) m below → deepest ≡ min (max most (count + below)) 32 → IsBound deepest (rows_in k levels es)
        over_bound most b count below deepest c h d = bound_by k es over_keeps most b count below deepest c h d rows_are

        pub over_content : record (content_kept x) { rows = rows_in k levels es } ≡ moved (content_kept x) n parts
        over_content = content_is (rows_in k levels es) rows_are
