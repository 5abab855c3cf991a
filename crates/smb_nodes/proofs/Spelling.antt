-- The whole name of a node.
use Rattle.std.proofs.Common.{◌≡◌, ℕ, zero, suc, ◌-◌, ◌==◌, true, false, if◌then◌else◌, List, [], ◌∷◌, ◌++◌, Option, None, Some, is_some, refl, sym, ap, ◌∙◌, arith, append_assoc}
use Rattle.std.specs.Option.{option_map_or}
use Rattle.smb_tree.specs.Entries.{Entry}
use Rattle.smb_tree.specs.Content.{Path, Row, entry_at}
use Rattle.smb_tree.specs.WholeNames.{spellings_from}
use Rattle.smb_tree.specs.Parts.{spelling_at, whole_name}
use Rattle.smb_wire.specs.Paths.{joined_by_separators}
use Rattle.smb_nodes.specs.Nodes.{TreeNode, Heap, entry_in, up_in, path_to, entry_on, levels, row_in, rows_in, IsTree}
use Rattle.smb_nodes.specs.Spellings.{spelled_behind, spellings_up}
use Rattle.smb_nodes.proofs.Walks.{path_to-up, live-name, is_some-Some, walk-path_to, at-looked}
use Rattle.smb_nodes.proofs.Numbered.{path_of_live}

spellings-push : (rows : List Row) (front path : Path) (name : List ℕ) → spellings_from rows front (path ++ name ∷ []) ≡ spellings_from rows front path ++ spelling_at rows (front ++ (path ++ name ∷ [])) ∷ []
spellings-push rows front [] name = refl
spellings-push rows front (first ∷ path) name =
    ap (λ (rest : List (List ℕ)). spelling_at rows (front ++ first ∷ []) ∷ rest) (spellings-push rows (front ++ first ∷ []) path name)
    ∙ ap (λ (whole : Path). spelling_at rows (front ++ first ∷ []) ∷ (spellings_from rows (front ++ first ∷ []) path ++ spelling_at rows whole ∷ [])) (append_assoc front (first ∷ []) (path ++ name ∷ []))

module _ (g : Heap) (es : List (ℕ × ℕ)) (next : ℕ) (t : IsTree g es next) where
  -- the spelling at the path of a node
  spelling_there : (k s : ℕ) (p : Path) (x : TreeNode) → path_to g k s ≡ Some p → g s ≡ Some x → spelling_at (rows_in g levels es) p ≡ x.entry.spelling
  spelling_there k s p x h e =
      let down : entry_at (rows_in g levels es) p ≡ entry_on g (Some s) = ap (λ (look : Path → Option Entry). look p) (at-looked g es next t) ∙ ap (entry_on g) (walk-path_to g levels k t.tied s p h) in
      ap (λ (o : Option Entry). option_map_or (λ (entry : Entry). entry.spelling) o []) (down ∙ ap entry_in e)

  pub spellings_are : (k s : ℕ) (p : Path) → path_to g k s ≡ Some p → spellings_from (rows_in g levels es) [] p ≡ spellings_up g k s
  spellings_are zero s p h = cc
  spellings_are (suc k) s p h =
      elim (s == 0) as (λ b. s == 0 ≡ b → spellings_from (rows_in g levels es) [] p ≡ (if b then [] else spelled_behind (g s) (spellings_up g k (up_in (g s))))) [
        | true ↦ λ z. (let empty : p ≡ [] = grind (arith, z, h) in ap (spellings_from (rows_in g levels es) []) empty)
        | false ↦ λ z.
            let n = path_to-up g k s p z h in
            let node = is_some-Some (g s) (live-name (g s) n.name n.name_is) in
            let above = spellings_are k (up_in (g s)) n.front n.front_is in
            let here = spelling_there (suc k) s p node.0 h node.1 in
            ap (spellings_from (rows_in g levels es) []) n.path_is
            ∙ spellings-push (rows_in g levels es) [] n.front n.name
            ∙ (λ i. above i ++ (ap (spelling_at (rows_in g levels es)) (sym n.path_is) ∙ here) i ∷ [])
            ∙ sym (ap (λ (o : Option TreeNode). spelled_behind o (spellings_up g k (up_in (g s)))) node.1)
      ] refl

  pub whole_is : (s : ℕ) → is_some (g s) ≡ true → joined_by_separators (spellings_up g levels s) ≡ whole_name (rows_in g levels es) (row_in g levels s).0
  whole_is s h = sym (ap joined_by_separators (spellings_are levels s (row_in g levels s).0 (path_of_live g es next s t h)))

-- what one step up adds
pub no_steps : (g : Heap) (k s : ℕ) → k ≡ 0 → spellings_up g k s ≡ []
no_steps g zero s h = refl
no_steps g (suc k) s h = absurd (omega (arith, h))

pub at_root : (g : Heap) (k s : ℕ) → s ≡ 0 → spellings_up g k s ≡ []
at_root g zero s h = refl
at_root g (suc k) s h = let z : s == 0 ≡ true = grind (arith, h) in rw z refl

pub no_node : (g : Heap) (k s : ℕ) → g s ≡ None → spellings_up g k s ≡ []
no_node g zero s h = refl
no_node g (suc k) s h = elim (s == 0) as (λ b. (if b then [] else spelled_behind (g s) (spellings_up g k (up_in (g s)))) ≡ []) [ true ↦ refl | false ↦ rw h refl ]

pub step_up : (g : Heap) (k s : ℕ) (x : TreeNode) → (k ≡ 0 → ⊥) → (s ≡ 0 → ⊥) → g s ≡ Some x → spellings_up g k s ≡ spellings_up g (k - 1) x.up ++ x.entry.spelling ∷ []
step_up g zero s x h z e = absurd (h refl)
step_up g (suc k) s x h z e =
    let other : s == 0 ≡ false = grind (arith, z) in
    let less : suc k - 1 ≡ k = omega arith in
    rw (other, e, less) refl
