-- An addition to a tree of nodes.
use Rattle.std.specs.Prelude.{◌≡◌, ℕ, ◌+◌, ◌-◌, ◌<◌, ◌≤◌, true, false, List, [], ◌∷◌, ◌++◌, length, take, get_or, Option, None, Some, refl, is_some}
use Rattle.std.proofs.Common.{arith, sym, ap, ◌∙◌}
use Rattle.std.proofs.lemmas.List.{length-map, length-take, take_more}
use Rattle.std.proofs.Math.Seq.{take-length}
use Rattle.smb_wire.specs.Names.{folded}
use Rattle.smb_wire.specs.Paths.{folded_path}
use Rattle.smb_tree.specs.declared.entry.Kind.{Kind}
use Rattle.smb_tree.specs.Entries.{Entry, is_folder, last_part, new_entry}
use Rattle.smb_tree.specs.Content.{Path, Row, parent, used_space}
use Rattle.smb_tree.specs.Parts.{add_fault_by}
use Rattle.smb_tree.proofs.Spaces.{space_more}
use Rattle.smb_nodes.specs.Nodes.{Heap, IsTree, rows_in, levels, levels-is, child_in, entry_in, entry_on, entry_down, walk, path_to}
use Rattle.smb_nodes.specs.Changes.{Grown}
use Rattle.smb_nodes.proofs.Walks.{free-looked, path_to-walk, root_path, folded_part}
use Rattle.smb_nodes.proofs.Growing.{Grown-tree, Grown-added}

-- a path that is not the root's is its parent's and a name
last_split : (q : Path) → 0 < length q → take (length q - 1) q ++ get_or q (length q - 1) [] ∷ [] ≡ q
last_split q h =
    let n : length q - 1 + 1 ≡ length q = omega (arith, h) in
    sym (take_more q (length q - 1) [] (omega (arith, h))) ∙ ap (λ n. take n q) n ∙ take-length q

pub split_path : (parts : List (List ℕ)) → 0 < length parts → parent (folded_path parts) ++ folded (last_part parts) ∷ [] ≡ folded_path parts
split_path parts h =
    let long = length-map parts folded in
    let some : 0 < length (folded_path parts) = omega (arith, long, h) in
    let last : get_or (folded_path parts) (length (folded_path parts) - 1) [] ≡ folded (last_part parts) =
    ap (λ (n : ℕ). get_or (folded_path parts) (n - 1) []) long ∙ folded_part parts (length parts - 1) (omega (arith, h)) in
    ap (λ (name : List ℕ). parent (folded_path parts) ++ name ∷ []) (sym last) ∙ last_split (folded_path parts) some

-- where an addition is lawful, its parent is a folder, nothing is at its path, and that is short enough
pub record IsLawful (look : Path → Option Entry) (q : Path) : Type 0 where
  pub above : is_folder (look (parent q)) ≡ true
  pub vacant : is_some (look q) ≡ false
  pub short : length q ≤ 32

pub lawful : (look : Path → Option Entry) (most count next : ℕ) (q : Path) → add_fault_by look most count next q ≡ None → length q ≤ 32 → IsLawful look q
lawful look most count next q h k = record { above = grind (arith, h); vacant = grind (arith, h); short = k }

pub short_path : (parts : List (List ℕ)) (n : ℕ) → length parts ≡ n → n ≤ 32 → length (folded_path parts) ≤ 32
short_path parts n e h = let long = length-map parts folded in omega (arith, long, e, h)

is_none : {A : Type 0} (o : Option A) → is_some o ≡ false → o ≡ None
is_none None h = refl
is_none (Some a) h = cc

folder_there : (o : Option Entry) → is_folder o ≡ true → is_some o ≡ true
folder_there None h = cc
folder_there (Some e) h = refl

pub not_root : (g : Heap) (es : List (ℕ × ℕ)) (next : ℕ) (parts : List (List ℕ)) → IsTree g es next → IsLawful (entry_down g) (folded_path parts) → 0 < length parts
not_root g es next [] t h = absurd (let there = folder_there (entry_in (g 0)) t.root_folder in let wrong : false ≡ true = sym h.vacant ∙ there in cc)
not_root g es next (c ∷ parts) t h = omega arith

-- what `place` needs and gives
module _ (g : Heap) (es : List (ℕ × ℕ)) (next : ℕ) (parts : List (List ℕ)) (t : IsTree g es next) (w : IsLawful (entry_down g) (folded_path parts)) (up : ℕ) (at_up : walk g (Some 0) (parent (folded_path parts)) ≡ Some up) where
  pub up_folder : is_folder (entry_in (g up)) ≡ true
  up_folder = sym (ap (λ (o : Option ℕ). is_folder (entry_on g o)) at_up) ∙ w.above

  pub name_free : child_in (g up) (folded (last_part parts)) ≡ None
  name_free =
      free-looked g levels t.tied (parent (folded_path parts)) up (folded (last_part parts)) at_up (ap (entry_down g) (split_path parts (not_root g es next parts t w)) ∙ is_none (entry_down g (folded_path parts)) w.vacant)

  up_path : path_to g levels up ≡ Some (parent (folded_path parts))
  up_path = path_to-walk g levels t.tied (parent (folded_path parts)) 0 up [] (root_path g levels t.tied) at_up

  up_short : length (parent (folded_path parts)) + 1 < levels
  up_short = (let some = not_root g es next parts t w in let long = length-map parts folded in rw levels-is (rw length-take (omega (arith, w.short, some, long))))

  module _ (f : Heap) (new : ℕ) (entry : Entry) (kind : Kind) (attributes moment : ℕ) (grown : Grown g f up new (folded (last_part parts)) entry) (is : entry ≡ new_entry next parts kind attributes moment) where
    pub grown_tree : IsTree f (es ++ (next, new) ∷ []) (next + 1)
    grown_tree = Grown-tree g f up new (folded (last_part parts)) entry es next (parent (folded_path parts)) grown t up_path up_short up_folder (ap (λ (e : Entry). e.number) is)

    pub grown_rows : rows_in f levels (es ++ (next, new) ∷ []) ≡ rows_in g levels es ++ (folded_path parts, new_entry next parts kind attributes moment) ∷ []
    grown_rows =
        Grown-added g f up new (folded (last_part parts)) entry es next (parent (folded_path parts)) grown t up_path up_short
        ∙ ap (λ (row : Row). rows_in g levels es ++ row ∷ []) (λ i. (split_path parts (not_root g es next parts t w) i, is i))

    pub grown_used : used_space (rows_in f levels (es ++ (next, new) ∷ [])) ≡ used_space (rows_in g levels es)
    grown_used =
        let more = space_more (rows_in g levels es) (folded_path parts, new_entry next parts kind attributes moment) in
        ap used_space grown_rows ∙ omega (arith, more)
