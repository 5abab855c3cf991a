-- Children that come next behind a name are those that are looked up at once.
use Rattle.std.proofs.Common.{◌≡◌, ℕ, suc, ◌+◌, ◌-◌, true, false, ◌||◌, ◌==◌, if◌then◌else◌, List, [], ◌∷◌, ◌++◌, length, map, Option, None, Some, is_some, inl, inr, refl, sym, ap, ◌∙◌, arith, subst, append-nil}
use Rattle.std.specs.Option.{option_and_then}
use Rattle.std.specs.BTreeMap.{BTreeMap}
use Rattle.smb_tree.specs.Entries.{last_part}
use Rattle.smb_tree.specs.Content.{Row, numbered}
use Rattle.smb_tree.specs.Children.{name_of}
use Rattle.smb_tree.specs.ChildLaws.{in_turn, children_at_once}
use Rattle.smb_tree.specs.declared.tree.TheConstants.{CHILDREN_AT_ONCE}
use Rattle.std.proofs.lemmas.List.{length-map}
use Rattle.smb_tree.proofs.Lasts.{last_of}
use Rattle.smb_tree.proofs.ChildLists.{number_of, no_further, one_further}
use Rattle.smb_nodes.specs.declared.tree.NodeTree.TheInside.{Inside}
use Rattle.smb_nodes.specs.Nodes.{Heap, Numbers, AreDistinct, has_slot, child_in, levels, row_in, slot_of, entry_of_slot}
use Rattle.smb_nodes.specs.Seen.{Key, named_in, heap_of}
use Rattle.smb_nodes.specs.Tree.{content_kept, KeepsTree}
use Rattle.smb_nodes.specs.Nexts.{IsNextEntry, AreNext, NoneAfter, NextNumbers}
use Rattle.smb_nodes.proofs.Batches.{is_next}
use Rattle.smb_nodes.proofs.Kept.{live_is}
use Rattle.smb_nodes.proofs.Following.{no_folder, child_next, no_child_next}
use Rattle.smb_nodes.proofs.Childing.{child_row}
use Rattle.smb_nodes.proofs.Numbered.{found, number_kept}
use Rattle.smb_nodes.proofs.Growing.{eqb-eq}
use Rattle.smb_nodes.proofs.Walks.{live-name}

-- the index has the slot of a node under the node's number
own_slot : (g : Heap) (es : List (ℕ × ℕ)) (u : ℕ) → Numbers g es → AreDistinct es → has_slot es u ≡ true → slot_of es (entry_of_slot g u).number ≡ Some u
own_slot g [] u n d h = cc
own_slot g (e ∷ es) u n d h =
    elim (e.1 == u) as (λ b. e.1 == u ≡ b → (b || has_slot es u) ≡ true → slot_of (e ∷ es) (entry_of_slot g u).number ≡ Some u) [
      | true ↦ λ z k.
          let same : e.1 ≡ u = eqb-eq e.1 u z in
          let own : (entry_of_slot g u).number ≡ e.0 = subst (λ (v : ℕ). (entry_of_slot g v).number ≡ e.0) same (number_kept (g e.1) e.0 n.0) in
          grind (arith, own, same)
      | false ↦ λ z k.
          let rest = own_slot g es u n.1 d.1 k in
          elim (e.0 == (entry_of_slot g u).number) as (λ b. e.0 == (entry_of_slot g u).number ≡ b → (if b then Some e.1 else slot_of es (entry_of_slot g u).number) ≡ Some u) [
            | true ↦ λ y. absurd (let same : e.0 ≡ (entry_of_slot g u).number = eqb-eq e.0 (entry_of_slot g u).number y in let none : slot_of es (entry_of_slot g u).number ≡ None = subst (λ (v : ℕ). slot_of es v ≡ None) same d.0 in cc)
            | false ↦ λ y. rest
          ] refl
    ] refl h

module _ (x : Inside) (n s : ℕ) (keeps : KeepsTree x) (at : slot_of x.index.entries n ≡ Some s) (m : BTreeMap Key ℕ) (same : (c : List ℕ) → child_in (heap_of x.nodes s) c ≡ named_in m c) where
  -- the next one is the first in turn
  one_turn : (left : ℕ) (after : Option (List ℕ)) (entry : List ℕ × ℕ) → IsNextEntry m after entry →
      map number_of (in_turn (suc left) (content_kept x).rows n after) ≡ (entry_of_slot (heap_of x.nodes) entry.1).number ∷ map number_of (in_turn left (content_kept x).rows n (Some entry.0))
  one_turn left after entry w =
      let tied = keeps.is_tree.tied in
      let is : child_in (heap_of x.nodes s) entry.0 ≡ Some entry.1 = same entry.0 ∙ w.is in
      let there : is_some (heap_of x.nodes entry.1) ≡ true = live-name (heap_of x.nodes entry.1) entry.0 (tied.down s entry.1 entry.0 is).0 in
      let own = own_slot (heap_of x.nodes) x.index.entries entry.1 keeps.is_tree.numbers keeps.is_tree.distinct (keeps.is_tree.complete entry.1 there) in
      let row = found (heap_of x.nodes) x.index.entries x.next (entry_of_slot (heap_of x.nodes) entry.1).number entry.1 keeps.is_tree own in
      let name : name_of (row_in (heap_of x.nodes) levels entry.1) ≡ entry.0 =
      ap last_part (child_row (heap_of x.nodes) x.index.entries x.next keeps.is_tree s (live_is x n s keeps at) entry.1 entry.0 is) ∙ last_of (row_in (heap_of x.nodes) levels s).0 entry.0 in
      one_further left (content_kept x).rows n after (entry_of_slot (heap_of x.nodes) entry.1).number (row_in (heap_of x.nodes) levels entry.1)
      (sym (child_next x n s keeps at after entry.1 (entry_of_slot (heap_of x.nodes) entry.1).number (is_next (heap_of x.nodes s) m after entry same w) refl)) row
      ∙ ap (λ (c : List ℕ). (entry_of_slot (heap_of x.nodes) entry.1).number ∷ map number_of (in_turn left (content_kept x).rows n (Some c))) name

  turns : (entries : List (List ℕ × ℕ)) (after last : Option (List ℕ)) (most left : ℕ) → AreNext m after last entries → length entries + left ≡ most →
      map number_of (in_turn most (content_kept x).rows n after) ≡ map (λ entry. (entry_of_slot (heap_of x.nodes) entry.1).number) entries ++ map number_of (in_turn left (content_kept x).rows n last)
  turns [] after last most left e count =
      let all : most ≡ left = omega (arith, count) in
      ap (λ (k : ℕ). map number_of (in_turn k (content_kept x).rows n after)) all ∙ ap (λ (o : Option (List ℕ)). map number_of (in_turn left (content_kept x).rows n o)) (sym e)
  turns (entry ∷ entries) after last most left each count =
      let more : most ≡ suc (length entries + left) = omega (arith, count) in
      ap (λ (k : ℕ). map number_of (in_turn k (content_kept x).rows n after)) more
      ∙ one_turn (length entries + left) after entry each.0
      ∙ ap (λ (ns : List ℕ). (entry_of_slot (heap_of x.nodes) entry.1).number ∷ ns) (turns entries (Some entry.0) last (length entries + left) left each.1 refl)

  none_left : (left : ℕ) (last : Option (List ℕ)) → NoneAfter m last → in_turn left (content_kept x).rows n last ≡ []
  none_left left last none =
      no_further left (content_kept x).rows n last (ap (λ (o : Option ℕ). option_and_then (numbered (content_kept x).rows) o) (sym (no_child_next x n s keeps at last (λ name h. same name ∙ none name h))))

  pub are_at_once : (after : Option (List ℕ)) (numbers : List ℕ) → NextNumbers (heap_of x.nodes) m after numbers → numbers ≡ children_at_once (content_kept x).rows n after
  unfolding children_at_once
  are_at_once after numbers w =
      let as_many : length numbers ≡ length w.entries = ap length w.numbered ∙ length-map w.entries (λ entry. (entry_of_slot (heap_of x.nodes) entry.1).number) in
      elim w.whole [
        | inl full ↦
            w.numbered
            ∙ sym (turns w.entries after w.last CHILDREN_AT_ONCE 0 w.each (omega (arith, full, as_many)) ∙ append-nil (map (λ entry. (entry_of_slot (heap_of x.nodes) entry.1).number) w.entries))
        | inr none ↦
            w.numbered
            ∙ sym (turns w.entries after w.last CHILDREN_AT_ONCE (CHILDREN_AT_ONCE - length w.entries) w.each (omega (arith, w.few, as_many))
            ∙ ap (λ (rows : List Row). map (λ entry. (entry_of_slot (heap_of x.nodes) entry.1).number) w.entries ++ map number_of rows) (none_left (CHILDREN_AT_ONCE - length w.entries) w.last none)
            ∙ append-nil (map (λ entry. (entry_of_slot (heap_of x.nodes) entry.1).number) w.entries))
      ]

-- the list where there is no folder
pub none_at_once : (x : Inside) (n : ℕ) (after : Option (List ℕ)) (numbers : List ℕ) → KeepsTree x → slot_of x.index.entries n ≡ None → numbers ≡ [] → numbers ≡ children_at_once (content_kept x).rows n after
unfolding children_at_once
none_at_once x n after numbers keeps at e =
    e ∙ sym (ap (map number_of) (no_further CHILDREN_AT_ONCE (content_kept x).rows n after (ap (λ (o : Option ℕ). option_and_then (numbered (content_kept x).rows) o) (sym (no_folder x n after keeps at)))))
