-- What holds where nothing is against a move.
use Rattle.std.specs.Prelude.{◌≡◌, ℕ, zero, suc, ◌<◌, ◌≤◌, ◌==◌, nat_lt, Bool, true, false, not, ◌&&◌, ◌||◌, if◌then◌else◌, List, [], ◌∷◌, length, Option, None, Some, is_some, unwrap_or, refl}
use Rattle.std.specs.Option.{option_map}
use Rattle.std.proofs.Common.{arith, sym, ap, ◌∙◌, subst}
use Rattle.std.proofs.lemmas.Bool.Decides.{nat_tests}
use Rattle.smb_wire.specs.Paths.{folded_path}
use Rattle.smb_tree.specs.declared.fault.TreeFault.{TreeFault}
use Rattle.smb_tree.specs.declared.fault.TreeFault.TheVariants.{ParentAbsent, Exists, TooDeep}
use Rattle.smb_tree.specs.Entries.{Entry, is_folder}
use Rattle.smb_tree.specs.Content.{Path, Row, entry_at, parent}
use Rattle.smb_tree.specs.Parts.{is_other_folder, would_be_too_deep, move_fault_between}
use Rattle.smb_tree.specs.Moves.{is_within, replaced}
use Rattle.smb_tree.proofs.Heads.{replaced-elsewhere}
use Rattle.smb_nodes.specs.Nodes.{Heap, entry_in, path_to, levels, levels-is, row_in, rows_in, slot_of, has_slot, entry_of_slot, Tied, Numbers, AreDistinct, IsTree}
use Rattle.smb_nodes.proofs.Walks.{at-looked, live-name, path_to-up, path_to-short}
use Rattle.smb_nodes.proofs.Growing.{eqb-eq}
use Rattle.smb_nodes.proofs.Numbered.{number_kept}

-- the new folder is there and outside of what moves, no other folder stands at the new path, and no path gets too long
pub record IsMovable (rows : List Row) (number : ℕ) (from to : Path) : Type 0 where
  pub above : is_folder (entry_at rows (parent to)) ≡ true
  pub outside : is_within from (parent to) ≡ false
  pub free : is_other_folder number (entry_at rows to) ≡ false
  pub shallow : would_be_too_deep rows from to ≡ false

tests : (a o b c : Bool) (x y z : TreeFault) → (if not a || o then Some x else if b then Some y else if c then Some z else None) ≡ None → (a ≡ true) × (o ≡ false) × (b ≡ false) × (c ≡ false)
tests false o b c x y z h = cc
tests true true b c x y z h = cc
tests true false true c x y z h = cc
tests true false false true x y z h = cc
tests true false false false x y z h = (refl, refl, refl, refl)

pub movable : (rows : List Row) (number : ℕ) (from to : Path) → move_fault_between rows number from to ≡ None → IsMovable rows number from to
movable rows number from to h =
    let all = tests (is_folder (entry_at rows (parent to))) (is_within from (parent to)) (is_other_folder number (entry_at rows to)) (would_be_too_deep rows from to) ParentAbsent Exists TooDeep h in
    record { above = all.0; outside = all.1; free = all.2; shallow = all.3 }

some_equal : {A : Type 0} {a b : A} → Some a ≡ Some b → a ≡ b
some_equal h = cc

root_is_other : (o : Option Entry) (number : ℕ) → is_folder o ≡ true → option_map (λ (e : Entry). e.number) o ≡ Some 1 → (number ≡ 1 → ⊥) → is_other_folder number o ≡ false → ⊥
root_is_other None number f k h w = cc
root_is_other (Some e) number f k h w =
    let one : e.number ≡ 1 = some_equal k in
    let it : (e.number == number) ≡ true = grind (arith, f, w) in
    h (sym (eqb-eq e.number number it) ∙ one)

-- a slot that has a path has a node
pub path_live : (g : Heap) (d : ℕ) → Tied g d → (k s : ℕ) (p : Path) → path_to g k s ≡ Some p → is_some (g s) ≡ true
path_live g d t zero s p h = cc
path_live g d t (suc k) s p h =
    elim (s == 0) as (λ b. s == 0 ≡ b → is_some (g s) ≡ true) [
      | true ↦ λ z. ap (λ (r : ℕ). is_some (g r)) (eqb-eq s 0 z) ∙ t.root
      | false ↦ λ z. (let n = path_to-up g k s p z h in live-name (g s) n.name n.name_is)
    ] refl

slot_in : (g : Heap) (list : List (ℕ × ℕ)) (s : ℕ) → Numbers g list → AreDistinct list → has_slot list s ≡ true → slot_of list (entry_of_slot g s).number ≡ Some s
slot_in g [] s k a h = cc
slot_in g (e ∷ list) s k a h =
    elim (e.1 == s) as (λ b. e.1 == s ≡ b → slot_of (e ∷ list) (entry_of_slot g s).number ≡ Some s) [
      | true ↦ λ z.
          let same = eqb-eq e.1 s z in
          let number : (entry_of_slot g s).number ≡ e.0 = ap (λ (r : ℕ). (entry_of_slot g r).number) (sym same) ∙ number_kept (g e.1) e.0 k.0 in
          grind (arith, number, same)
      | false ↦ λ z.
          let rest = slot_in g list s k.1 a.1 (grind (arith, h, z)) in
          let other : e.0 == (entry_of_slot g s).number ≡ false =
          elim (e.0 == (entry_of_slot g s).number) as (λ b. e.0 == (entry_of_slot g s).number ≡ b → b ≡ false) [
            | true ↦ λ y. (let none : slot_of list (entry_of_slot g s).number ≡ None = ap (slot_of list) (sym (eqb-eq e.0 (entry_of_slot g s).number y)) ∙ a.0 in cc)
            | false ↦ λ _. refl
          ] refl in
          rw other rest
    ] refl

module _ (g : Heap) (es : List (ℕ × ℕ)) (next : ℕ) (t : IsTree g es next) where
  -- the slot of the number that a node has is its own
  pub slot_of_live : (s : ℕ) → is_some (g s) ≡ true → slot_of es (entry_of_slot g s).number ≡ Some s
  slot_of_live s h = slot_in g es s t.numbers t.distinct (t.complete s h)

  -- the new path is not the root's
  pub some_parts : (number : ℕ) (parts : List (List ℕ)) (from : Path) → (number ≡ 1 → ⊥) → IsMovable (rows_in g levels es) number from (folded_path parts) → 0 < length parts
  some_parts number [] from h w = absurd (root_is_other (entry_in (g 0)) number t.root_folder t.root_number h (sym (ap (λ (look : Path → Option Entry). is_other_folder number (look [])) (at-looked g es next t)) ∙ w.free))
  some_parts number (c ∷ parts) from h w = omega arith

  row_shallow : (from to : Path) (list : List (ℕ × ℕ)) (s : ℕ) → has_slot list s ≡ true → would_be_too_deep (rows_in g levels list) from to ≡ false → (is_within from (row_in g levels s).0 && nat_lt 32 (length (replaced from to (row_in g levels s).0))) ≡ false
  row_shallow from to [] s h k = cc
  row_shallow from to (e ∷ list) s h k =
      let first : (is_within from (row_in g levels e.1).0 && nat_lt 32 (length (replaced from to (row_in g levels e.1).0))) ≡ false = grind (arith, k) in
      elim (e.1 == s) as (λ b. e.1 == s ≡ b → (is_within from (row_in g levels s).0 && nat_lt 32 (length (replaced from to (row_in g levels s).0))) ≡ false) [
        | true ↦ λ z. ap (λ (r : ℕ). is_within from (row_in g levels r).0 && nat_lt 32 (length (replaced from to (row_in g levels r).0))) (sym (eqb-eq e.1 s z)) ∙ first
        | false ↦ λ z. row_shallow from to list s (grind (arith, h, z)) (grind (arith, k))
      ] refl

  -- no path gets too long
  pub paths_shallow : (from to : Path) → would_be_too_deep (rows_in g levels es) from to ≡ false → (s : ℕ) (p : Path) → path_to g levels s ≡ Some p → length (replaced from to p) < levels
  paths_shallow from to k s p h =
      let live = path_live g levels t.tied levels s p h in
      let row : (row_in g levels s).0 ≡ p = ap (λ (o : Option Path). unwrap_or o []) h in
      let here = subst (λ (q : Path). (is_within from q && nat_lt 32 (length (replaced from to q))) ≡ false) row (row_shallow from to es s (t.complete s live) k) in
      elim (is_within from p) as (λ b. is_within from p ≡ b → length (replaced from to p) < levels) [
        | true ↦ λ i. (let short : length (replaced from to p) ≤ 32 = grind (arith, nat_tests, here, i) in omega (arith, short, levels-is))
        | false ↦ λ i. (let same = replaced-elsewhere from to p i in rw same (path_to-short g levels s p h))
      ] refl
