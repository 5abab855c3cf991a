-- What one node less leaves.
use Rattle.std.specs.Prelude.{◌≡◌, ℕ, suc, zero, ◌==◌, true, false, ◌&&◌, if◌then◌else◌, List, [], ◌∷◌, Option, None, Some, is_some, unwrap_or, refl}
use Rattle.std.specs.Option.{option_map}
use Rattle.std.proofs.Common.{arith, sym, ap, ◌∙◌, subst}
use Rattle.smb_tree.specs.Entries.{Entry}
use Rattle.smb_tree.specs.Content.{Path, Row, without}
use Rattle.smb_nodes.specs.Nodes.{TreeNode, Heap, name_in, up_in, child_in, entry_in, path_to, levels, blank, row_in, rows_in, slot_of, index_without, name_of_slot, has_slot, is_same_component, Tied, Live, Numbers, Under, AreDistinct, IsTree}
use Rattle.smb_nodes.specs.Changes.{Pruned}
use Rattle.smb_nodes.proofs.Walks.{path_to-up, live-name, is_some-Some, same_component-eq, same_component-itself}
use Rattle.smb_nodes.proofs.Growing.{live-entry, eqb-eq, clash}
use Rattle.smb_nodes.proofs.Numbered.{number_kept, slot_number}

some_equal : {A : Type 0} {a b : A} → Some a ≡ Some b → a ≡ b
some_equal h = cc

same_test : (a b : ℕ) → a ≡ b → a == b ≡ true
same_test a b h = grind (arith, h)

none_not_live : (o : Option TreeNode) → entry_in o ≡ None → is_some o ≡ true → ⊥
none_not_live None h k = cc
none_not_live (Some x) h k = cc

name_live : (o : Option TreeNode) → is_some o ≡ true → name_in o ≡ Some (unwrap_or (name_in o) [])
name_live None h = cc
name_live (Some x) h = refl

module _ (g f : Heap) (slot : ℕ) (w : Pruned g f slot) where
  its_name : name_in (g slot) ≡ Some (name_of_slot g slot)
  its_name = name_live (g slot) w.live

  pub pruned-live : (s : ℕ) → s == slot ≡ false → is_some (f s) ≡ is_some (g s)
  pruned-live s z = live-entry (f s) ∙ ap is_some (rw (w.entries s, z) refl) ∙ sym (live-entry (g s))

  pub gone : is_some (f slot) ≡ true → ⊥
  gone h = (let same = same_test slot slot refl in none_not_live (f slot) (rw (w.entries slot, same) refl) h)

  -- what is left is in another slot
  pub left : (s : ℕ) → is_some (f s) ≡ true → s == slot ≡ false
  left s h = elim (s == slot) as (λ b. s == slot ≡ b → b ≡ false) [ true ↦ λ z. absurd (gone (subst (λ (r : ℕ). is_some (f r) ≡ true) (eqb-eq s slot z) h)) | false ↦ λ _. refl ] refl

  -- no node is beneath it
  above_other : (d : ℕ) → Tied g d → (s : ℕ) (c : List ℕ) → name_in (g s) ≡ Some c → s == 0 ≡ false → up_in (g s) == slot ≡ false
  above_other d t s c e z =
      elim (up_in (g s) == slot) as (λ b. up_in (g s) == slot ≡ b → b ≡ false) [
        | true ↦ λ y. absurd (clash (child_in (g slot) c) s (ap (λ (r : ℕ). child_in (g r) c) (sym (eqb-eq (up_in (g s)) slot y)) ∙ t.up s c e z) (w.bare c))
        | false ↦ λ _. refl
      ] refl

  pub pruned-path : (d : ℕ) → Tied g d → (k s : ℕ) (p : Path) → s == slot ≡ false → path_to g k s ≡ Some p → path_to f k s ≡ Some p
  pruned-path d t zero s p o h = cc
  pruned-path d t (suc k) s p o h =
      elim (s == 0) as (λ b. s == 0 ≡ b → path_to f (suc k) s ≡ Some p) [
        | true ↦ λ z. grind (arith, z, h)
        | false ↦ λ z.
            let n = path_to-up g k s p z h in
            let other = above_other d t s n.name n.name_is z in
            let front = pruned-path d t k (up_in (g s)) n.front other n.front_is in
            let up = w.ups s o in
            rw (z, w.names s, o, up, front, n.name_is) (ap Some (sym n.path_is))
      ] refl

  pruned-down : (d : ℕ) → Tied g d → (s u : ℕ) (c : List ℕ) → child_in (f s) c ≡ Some u → (name_in (f u) ≡ Some c) × (up_in (f u) ≡ s) × (u == 0 ≡ false)
  pruned-down d t s u c e =
      let old : child_in (g s) c ≡ Some u = grind (arith, e, w.children s c) in
      let kept : (s == up_in (g slot) && is_same_component (name_of_slot g slot) c) ≡ false = grind (arith, e, w.children s c) in
      let k = t.down s u c old in
      let other : u == slot ≡ false = elim (u == slot) as (λ b. u == slot ≡ b → b ≡ false) [
        | true ↦ λ z.
            let same = eqb-eq u slot z in
            let name : name_of_slot g slot ≡ c = some_equal (sym its_name ∙ ap (λ (r : ℕ). name_in (g r)) (sym same) ∙ k.0) in
            let up : up_in (g slot) ≡ s = ap (λ (r : ℕ). up_in (g r)) (sym same) ∙ k.1 in
            absurd (grind (arith, kept, name, up, same_component-itself c))
        | false ↦ λ _. refl
      ] refl in
      (grind (arith, other, k.0, w.names u), w.ups u other ∙ k.1, k.2)

  pruned-up : (d : ℕ) → Tied g d → (s : ℕ) (c : List ℕ) → name_in (f s) ≡ Some c → s == 0 ≡ false → child_in (f (up_in (f s))) c ≡ Some s
  pruned-up d t s c e z =
      let other : s == slot ≡ false = left s (live-name (f s) c e) in
      let name : name_in (g s) ≡ Some c = grind (arith, other, e, w.names s) in
      let old = t.up s c name z in
      let its = t.up slot (name_of_slot g slot) its_name w.not_root in
      let kept : (up_in (g s) == up_in (g slot) && is_same_component (name_of_slot g slot) c) ≡ false = grind (arith, old, its, other, eqb-eq (up_in (g s)) (up_in (g slot)), same_component-eq (name_of_slot g slot) c) in
      rw (w.ups s other) (w.children (up_in (g s)) c ∙ rw kept old)

  pub pruned-tied : (d : ℕ) → Tied g d → Tied f d
  pruned-tied d t = record {
    root = (let z : 0 == slot ≡ false = grind (arith, w.not_root) in pruned-live 0 z ∙ t.root);
    down = λ s u c e. pruned-down d t s u c e;
    up = λ s c e z. pruned-up d t s c e z;
    deep = λ s e.
        let o = left s e in
        let some = is_some-Some _ (t.deep s (sym (pruned-live s o) ∙ e)) in
        let path = pruned-path d t d s some.0 o some.1 in
        rw path refl;
  }

  -- the rows of an index whose slots are others
  its_number : (es : List (ℕ × ℕ)) (n : ℕ) → Numbers g es → slot_of es n ≡ Some slot → option_map (λ (e : Entry). e.number) (entry_in (g slot)) ≡ Some n
  its_number es n k h = slot_number g es n slot k h

  other_slot : (s m n : ℕ) → option_map (λ (e : Entry). e.number) (entry_in (g s)) ≡ Some m → option_map (λ (e : Entry). e.number) (entry_in (g slot)) ≡ Some n → m == n ≡ false → s == slot ≡ false
  other_slot s m n h k z =
      elim (s == slot) as (λ b. s == slot ≡ b → b ≡ false) [
        | true ↦ λ y. absurd (let same : m ≡ n = some_equal (sym h ∙ ap (λ (r : ℕ). option_map (λ (e : Entry). e.number) (entry_in (g r))) (eqb-eq s slot y) ∙ k) in grind (arith, same, z))
        | false ↦ λ _. refl
      ] refl

  pruned-row : (d : ℕ) → Tied g d → (s : ℕ) → is_some (g s) ≡ true → s == slot ≡ false → row_in f d s ≡ row_in g d s
  pruned-row d t s h z =
      let some = is_some-Some _ (t.deep s h) in
      let path = pruned-path d t d s some.0 z some.1 in
      let first : unwrap_or (path_to f d s) [] ≡ unwrap_or (path_to g d s) [] = ap (λ (o : Option Path). unwrap_or o []) (path ∙ sym some.1) in
      let second : unwrap_or (entry_in (f s)) blank ≡ unwrap_or (entry_in (g s)) blank = rw (w.entries s, z) refl in
      λ i. (first i, second i)

  rows_kept : (d : ℕ) → Tied g d → (es : List (ℕ × ℕ)) (n : ℕ) → Live g es → Numbers g es → option_map (λ (e : Entry). e.number) (entry_in (g slot)) ≡ Some n → slot_of es n ≡ None → rows_in f d es ≡ rows_in g d es
  rows_kept d t [] n l k h m = refl
  rows_kept d t (e ∷ es) n l k h m =
      let apart : e.0 == n ≡ false = grind (arith, m) in
      let row = pruned-row d t e.1 l.0 (other_slot e.1 e.0 n k.0 h apart) in
      let rest = rows_kept d t es n l.1 k.1 h (grind (arith, m)) in
      rw (row, rest) refl

  pub pruned-rows : (es : List (ℕ × ℕ)) (n : ℕ) → Tied g levels → Live g es → Numbers g es → AreDistinct es → slot_of es n ≡ Some slot → rows_in f levels (index_without es n) ≡ without (rows_in g levels es) n
  pruned-rows [] n t l k a h = cc
  pruned-rows (e ∷ es) n t l k a h =
      let number = number_kept (g e.1) e.0 k.0 in
      let its = its_number (e ∷ es) n k h in
      elim (e.0 == n) as (λ b. e.0 == n ≡ b → rows_in f levels (index_without (e ∷ es) n) ≡ without (rows_in g levels (e ∷ es)) n) [
        | true ↦ λ z.
            let none : slot_of es n ≡ None = grind (arith, z, a.0, eqb-eq e.0 n) in
            let rest = rows_kept levels t es n l.1 k.1 its none in
            rw (number, z) rest
        | false ↦ λ z.
            let left : slot_of es n ≡ Some slot = grind (arith, z, h) in
            let row = pruned-row levels t e.1 l.0 (other_slot e.1 e.0 n k.0 its z) in
            let rest = pruned-rows es n t l.1 k.1 a.1 left in
            rw (number, z, row) (ap (λ (rows : List Row). row_in g levels e.1 ∷ rows) rest)
      ] refl

  live_kept : (es : List (ℕ × ℕ)) (n : ℕ) → Live g es → Numbers g es → option_map (λ (e : Entry). e.number) (entry_in (g slot)) ≡ Some n → slot_of es n ≡ None → Live f es × Numbers f es
  live_kept [] n l k h m = (tt, tt)
  live_kept (e ∷ es) n l k h m =
      let apart : e.0 == n ≡ false = grind (arith, m) in
      let z = other_slot e.1 e.0 n k.0 h apart in
      let rest = live_kept es n l.1 k.1 h (grind (arith, m)) in
      ((pruned-live e.1 z ∙ l.0, rest.0), (rw (w.entries e.1, z) k.0, rest.1))

  pruned-Live : (es : List (ℕ × ℕ)) (n : ℕ) → Live g es → Numbers g es → AreDistinct es → slot_of es n ≡ Some slot → Live f (index_without es n) × Numbers f (index_without es n)
  pruned-Live [] n l k a h = cc
  pruned-Live (e ∷ es) n l k a h =
      let its = its_number (e ∷ es) n k h in
      elim (e.0 == n) as (λ b. e.0 == n ≡ b → Live f (if b then es else e ∷ index_without es n) × Numbers f (if b then es else e ∷ index_without es n)) [
        | true ↦ λ z. live_kept es n l.1 k.1 its (grind (arith, z, a.0, eqb-eq e.0 n))
        | false ↦ λ z.
            let other = other_slot e.1 e.0 n k.0 its z in
            let rest = pruned-Live es n l.1 k.1 a.1 (grind (arith, z, h)) in
            ((pruned-live e.1 other ∙ l.0, rest.0), (rw (w.entries e.1, other) k.0, rest.1))
      ] refl

has_slot-without : (es : List (ℕ × ℕ)) (n slot s : ℕ) → slot_of es n ≡ Some slot → s == slot ≡ false → has_slot es s ≡ true → has_slot (index_without es n) s ≡ true
has_slot-without [] n slot s h z k = cc
has_slot-without (e ∷ es) n slot s h z k =
    elim (e.0 == n) as (λ b. e.0 == n ≡ b → has_slot (if b then es else e ∷ index_without es n) s ≡ true) [
      | true ↦ λ y. (let here : e.1 ≡ slot = grind (arith, y, h) in let not_it : e.1 == s ≡ false = grind (arith, here, z) in grind (arith, k, not_it))
      | false ↦ λ y. grind (arith, k, has_slot-without es n slot s (grind (arith, y, h)) z)
    ] refl

slot_of-without : (es : List (ℕ × ℕ)) (n m : ℕ) → slot_of es m ≡ None → slot_of (index_without es n) m ≡ None
slot_of-without [] n m h = refl
slot_of-without (e ∷ es) n m h = grind (arith, h, slot_of-without es n m)

distinct-without : (es : List (ℕ × ℕ)) (n : ℕ) → AreDistinct es → AreDistinct (index_without es n)
distinct-without [] n a = tt
distinct-without (e ∷ es) n a = elim (e.0 == n) as (λ b. AreDistinct (if b then es else e ∷ index_without es n)) [ true ↦ a.1 | false ↦ (slot_of-without es n e.0 a.0, distinct-without es n a.1) ]

under-without : (es : List (ℕ × ℕ)) (n m : ℕ) → Under es m → Under (index_without es n) m
under-without [] n m u = tt
under-without (e ∷ es) n m u = elim (e.0 == n) as (λ b. Under (if b then es else e ∷ index_without es n) m) [ true ↦ u.1 | false ↦ (u.0, under-without es n m u.1) ]

pub pruned-tree : (g f : Heap) (es : List (ℕ × ℕ)) (next n slot : ℕ) → Pruned g f slot → IsTree g es next → slot_of es n ≡ Some slot → IsTree f (index_without es n) next
pruned-tree g f es next n slot w t h =
    let z : 0 == slot ≡ false = grind (arith, w.not_root) in
    let both = pruned-Live g f slot w es n t.live t.numbers t.distinct h in
    record {
      tied = pruned-tied g f slot w levels t.tied;
      live = both.0;
      numbers = both.1;
      complete = λ s e. (let o = left g f slot w s e in has_slot-without es n slot s h o (t.complete s (sym (pruned-live g f slot w s o) ∙ e)));
      distinct = distinct-without es n t.distinct;
      under = under-without es n next t.under;
      root_folder = rw (w.entries 0, z) t.root_folder;
      root_number = rw (w.entries 0, z) t.root_number;
      root_name = rw (w.names 0, z) t.root_name;
      root_up = w.ups 0 z ∙ t.root_up;
      leaves = λ s u c e.
          let old : child_in (g s) c ≡ Some u = grind (arith, e, w.children s c) in
          let other : s == slot ≡ false = elim (s == slot) as (λ b. s == slot ≡ b → b ≡ false) [
            | true ↦ λ y. absurd (clash (child_in (g slot) c) u (ap (λ (r : ℕ). child_in (g r) c) (sym (eqb-eq s slot y)) ∙ old) (w.bare c))
            | false ↦ λ _. refl
          ] refl in
          rw (w.entries s, other) (t.leaves s u c old);
    }
