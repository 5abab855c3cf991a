-- A node has children where entries stand in its folder.
use Rattle.std.specs.Prelude.{◌≡◌, ℕ, ◌<◌, ◌==◌, nat_lt, Bool, true, false, ◌&&◌, List, [], ◌∷◌, ◌++◌, length, Option, None, Some, is_some, unwrap_or, refl}
use Rattle.std.proofs.Common.{arith, sym, ap, ◌∙◌, length-append}
use Rattle.std.proofs.lemmas.Bool.Decides.{nat_tests}
use Rattle.smb_tree.specs.Entries.{last_part}
use Rattle.smb_tree.specs.Content.{Path, Row, parent, is_same_path}
use Rattle.smb_tree.specs.Children.{is_child}
use Rattle.smb_tree.specs.Parts.{has_children}
use Rattle.smb_tree.proofs.Keys.{same_path-eq, same_path-of_eq}
use Rattle.smb_tree.proofs.Lasts.{parent_of}
use Rattle.smb_nodes.specs.Nodes.{Heap, up_in, child_in, walk, levels, row_in, rows_in, has_slot, Live, IsTree}
use Rattle.smb_nodes.proofs.Walks.{live-name, path_to-child, walk-path_to}
use Rattle.smb_nodes.proofs.Growing.{clash, eqb-eq}
use Rattle.smb_nodes.proofs.Numbered.{path_of_live}
use Rattle.smb_nodes.proofs.Named.{up_walk, root_row, name_of_live}

some_equal : {A : Type 0} {a b : A} → Some a ≡ Some b → a ≡ b
some_equal h = cc

-- a path with a name behind it is a child's of that path
pub child_is : (p : Path) (name : List ℕ) (row : Row) → row.0 ≡ p ++ name ∷ [] → is_child p row ≡ true
child_is p name row h =
    let around : is_same_path (parent row.0) p ≡ true = same_path-of_eq (parent row.0) p (ap parent h ∙ parent_of p name) in
    let long = ap (λ (q : Path). length q) h in
    let some : 0 < length row.0 = omega (arith, long, length-append p (name ∷ [])) in
    grind (arith, nat_tests, some, around)

and_parts : (a b : Bool) → (a && b) ≡ true → (a ≡ true) × (b ≡ true)
and_parts true b h = (refl, h)
and_parts false b h = (h, let wrong : false ≡ true = h in cc)

module _ (g : Heap) (es : List (ℕ × ℕ)) (next : ℕ) (t : IsTree g es next) (s : ℕ) (live : is_some (g s) ≡ true) where
  some_child : (list : List (ℕ × ℕ)) (u : ℕ) → has_slot list u ≡ true → is_child (row_in g levels s).0 (row_in g levels u) ≡ true → has_children (rows_in g levels list) (row_in g levels s).0 ≡ true
  some_child [] u h k = cc
  some_child (e ∷ list) u h k =
      elim (e.1 == u) as (λ b. e.1 == u ≡ b → has_children (rows_in g levels (e ∷ list)) (row_in g levels s).0 ≡ true) [
        | true ↦ λ z. (let here : is_child (row_in g levels s).0 (row_in g levels e.1) ≡ true = ap (λ (r : ℕ). is_child (row_in g levels s).0 (row_in g levels r)) (eqb-eq e.1 u z) ∙ k in rw here refl)
        | false ↦ λ z. (let rest = some_child list u (grind (arith, h, z)) k in grind (arith, rest))
      ] refl

  -- the path of a child
  pub child_row : (u : ℕ) (name : List ℕ) → child_in (g s) name ≡ Some u → (row_in g levels u).0 ≡ (row_in g levels s).0 ++ name ∷ []
  child_row u name h = ap (λ (o : Option Path). unwrap_or o []) (path_to-child g levels t.tied s u name (row_in g levels s).0 (path_of_live g es next s t live) h)

  pub full : (u : ℕ) (name : List ℕ) → child_in (g s) name ≡ Some u → has_children (rows_in g levels es) (row_in g levels s).0 ≡ true
  full u name h =
      let there : is_some (g u) ≡ true = live-name (g u) name (t.tied.down s u name h).0 in
      some_child es u (t.complete u there) (child_is (row_in g levels s).0 name (row_in g levels u) (child_row u name h))

  -- an entry that stands in the folder of a node is its child
  pub child_of_folder : (u : ℕ) → is_some (g u) ≡ true → is_child (row_in g levels s).0 (row_in g levels u) ≡ true → child_in (g s) (last_part (row_in g levels u).0) ≡ Some u
  child_of_folder u there h =
      let both = and_parts (nat_lt 0 (length (row_in g levels u).0)) (is_same_path (parent (row_in g levels u).0) (row_in g levels s).0) h in
      let around : parent (row_in g levels u).0 ≡ (row_in g levels s).0 = same_path-eq (parent (row_in g levels u).0) (row_in g levels s).0 both.1 in
      let down = walk-path_to g levels levels t.tied s (row_in g levels s).0 (path_of_live g es next s t live) in
      let up : up_in (g u) ≡ s = some_equal (sym (up_walk g es next t u there) ∙ ap (walk g (Some 0)) around ∙ down) in
      let not_root : u == 0 ≡ false = elim (u == 0) as (λ b. u == 0 ≡ b → b ≡ false) [
        | true ↦ λ z. (let empty : (row_in g levels u).0 ≡ [] = ap (λ (r : ℕ). (row_in g levels r).0) (eqb-eq u 0 z) ∙ root_row g es next t in let none : nat_lt 0 (length (row_in g levels u).0) ≡ false = ap (λ (q : Path). nat_lt 0 (length q)) empty in let wrong : true ≡ false = sym both.0 ∙ none in cc)
        | false ↦ λ _. refl
      ] refl in
      ap (λ (r : ℕ). child_in (g r) (last_part (row_in g levels u).0)) (sym up) ∙ t.tied.up u (last_part (row_in g levels u).0) (name_of_live g es next t u there) not_root

  no_child : ((name : List ℕ) → child_in (g s) name ≡ None) → (list : List (ℕ × ℕ)) → Live g list → has_children (rows_in g levels list) (row_in g levels s).0 ≡ false
  no_child bare [] l = refl
  no_child bare (e ∷ list) l =
      let rest = no_child bare list l.1 in
      elim (is_child (row_in g levels s).0 (row_in g levels e.1)) as (λ b. is_child (row_in g levels s).0 (row_in g levels e.1) ≡ b → has_children (rows_in g levels (e ∷ list)) (row_in g levels s).0 ≡ false) [
        | true ↦ λ h. absurd (clash (child_in (g s) (last_part (row_in g levels e.1).0)) e.1 (child_of_folder e.1 l.0 h) (bare (last_part (row_in g levels e.1).0)))
        | false ↦ λ h. grind (arith, h, rest)
      ] refl

  pub bare : ((name : List ℕ) → child_in (g s) name ≡ None) → has_children (rows_in g levels es) (row_in g levels s).0 ≡ false
  bare none = no_child none es t.live
