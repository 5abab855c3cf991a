-- The entry of a number, by its slot.
use Rattle.std.specs.Prelude.{◌≡◌, ℕ, ◌==◌, true, false, if◌then◌else◌, List, [], ◌∷◌, length, Option, None, Some, is_some, unwrap_or, refl}
use Rattle.std.specs.Option.{option_map}
use Rattle.std.proofs.Common.{arith, sym, ap, ◌∙◌, subst}
use Rattle.std.proofs.lemmas.List.{length-map}
use Rattle.smb_tree.specs.Entries.{Entry}
use Rattle.smb_tree.specs.Content.{Path, numbered, number_at}
use Rattle.smb_tree.specs.Faults.{add_fault}
use Rattle.smb_wire.specs.declared.limits.share.Limits.{Limits}
use Rattle.smb_tree.specs.Parts.{add_fault_by}
use Rattle.smb_nodes.specs.Nodes.{TreeNode, Heap, entry_in, path_to, entry_down, levels, blank, row_in, rows_in, slot_of, Live, Numbers, IsTree}
use Rattle.smb_nodes.proofs.Walks.{is_some-Some, at-looked}

pub number_kept : (o : Option TreeNode) (m : ℕ) → option_map (λ (entry : Entry). entry.number) (entry_in o) ≡ Some m → (unwrap_or (entry_in o) blank).number ≡ m
number_kept None m h = cc
number_kept (Some x) m h = cc

-- what a number finds among the rows
pub numbered_is : (g : Heap) (d : ℕ) (es : List (ℕ × ℕ)) (n : ℕ) → Live g es → Numbers g es → numbered (rows_in g d es) n ≡ option_map (row_in g d) (slot_of es n)
numbered_is g d [] n l k = refl
numbered_is g d (e ∷ es) n l k =
    let some = number_kept (g e.1) e.0 k.0 in
    grind (arith, some, numbered_is g d es n l.1 k.1)

pub slot_live : (g : Heap) (es : List (ℕ × ℕ)) (n s : ℕ) → Live g es → slot_of es n ≡ Some s → is_some (g s) ≡ true
slot_live g [] n s l h = cc
slot_live g (e ∷ es) n s l h =
    elim (e.0 == n) as (λ b. e.0 == n ≡ b → (if b then Some e.1 else slot_of es n) ≡ Some s → is_some (g s) ≡ true) [
      | true ↦ λ z k. (let same : e.1 ≡ s = cc in subst (λ (t : ℕ). is_some (g t) ≡ true) same l.0)
      | false ↦ λ z k. slot_live g es n s l.1 k
    ] refl h

pub slot_number : (g : Heap) (es : List (ℕ × ℕ)) (n s : ℕ) → Numbers g es → slot_of es n ≡ Some s → option_map (λ (entry : Entry). entry.number) (entry_in (g s)) ≡ Some n
slot_number g [] n s l h = cc
slot_number g (e ∷ es) n s l h =
    elim (e.0 == n) as (λ b. e.0 == n ≡ b → (if b then Some e.1 else slot_of es n) ≡ Some s → option_map (λ (entry : Entry). entry.number) (entry_in (g s)) ≡ Some n) [
      | true ↦ λ z k. (let same : e.1 ≡ s = cc in let number : e.0 ≡ n = grind (arith, z) in subst (λ (t : ℕ). option_map (λ (entry : Entry). entry.number) (entry_in (g t)) ≡ Some n) same (l.0 ∙ ap Some number))
      | false ↦ λ z k. slot_number g es n s l.1 k
    ] refl h

-- in a tree
pub found : (g : Heap) (es : List (ℕ × ℕ)) (next n s : ℕ) → IsTree g es next → slot_of es n ≡ Some s → numbered (rows_in g levels es) n ≡ Some (row_in g levels s)
found g es next n s t h = numbered_is g levels es n t.live t.numbers ∙ ap (option_map (row_in g levels)) h

pub missed : (g : Heap) (es : List (ℕ × ℕ)) (next n : ℕ) → IsTree g es next → slot_of es n ≡ None → numbered (rows_in g levels es) n ≡ None
missed g es next n t h = numbered_is g levels es n t.live t.numbers ∙ ap (option_map (row_in g levels)) h

pub live : (g : Heap) (es : List (ℕ × ℕ)) (next n s : ℕ) → IsTree g es next → slot_of es n ≡ Some s → is_some (g s) ≡ true
live g es next n s t h = slot_live g es n s t.live h

-- the number at a path
pub number_down : (g : Heap) (es : List (ℕ × ℕ)) (next : ℕ) (q : Path) → IsTree g es next → number_at (rows_in g levels es) q ≡ option_map (λ (entry : Entry). entry.number) (entry_down g q)
number_down g es next q t = ap (λ (l : Path → Option Entry). option_map (λ (entry : Entry). entry.number) (l q)) (at-looked g es next t)

-- the fault of an addition, by walks
pub add_fault_down : (g : Heap) (es : List (ℕ × ℕ)) (next capacity : ℕ) (limits : Limits) (q : Path) → IsTree g es next → add_fault (record { rows = rows_in g levels es; next = next; capacity = capacity; limits = limits }) q ≡ add_fault_by (entry_down g) limits.entries (length es) next q
add_fault_down g es next capacity limits q t =
    ap (λ (l : Path → Option Entry). add_fault_by l limits.entries (length (rows_in g levels es)) next q) (at-looked g es next t) ∙ ap (λ (n : ℕ). add_fault_by (entry_down g) limits.entries n next q) (length-map es (λ e. row_in g levels e.1))

-- the path and the row of a slot that has a node
pub path_of_live : (g : Heap) (es : List (ℕ × ℕ)) (next s : ℕ) → IsTree g es next → is_some (g s) ≡ true → path_to g levels s ≡ Some (row_in g levels s).0
path_of_live g es next s t h = (let some = is_some-Some (path_to g levels s) (t.tied.deep s h) in some.1 ∙ ap Some (sym (ap (λ (o : Option Path). unwrap_or o []) some.1)))

pub entry_of_live : (g : Heap) (d s : ℕ) → is_some (g s) ≡ true → entry_in (g s) ≡ Some (row_in g d s).1
entry_of_live g d s h = by (g s) h
  where
    by : (o : Option TreeNode) → is_some o ≡ true → entry_in o ≡ Some (unwrap_or (entry_in o) blank)
    by None h = cc
    by (Some x) h = refl
