-- Walks up and down nodes, and the rows that they are.
use Rattle.std.specs.Prelude.{◌≡◌, ℕ, suc, zero, ◌+◌, ◌<◌, ◌==◌, true, false, if◌then◌else◌, List, [], ◌∷◌, ◌++◌, length, Option, None, Some, is_some, unwrap_or, refl}
use Rattle.std.proofs.lemmas.Grind.{common_steps}
use Rattle.std.proofs.Common.{drop, get_or, add-one, drop-cons, arith, sym, ap, ◌∙◌, append_assoc}
use Rattle.std.proofs.lemmas.List.{append-nil, length-map}
use Rattle.std.proofs.lemmas.Slice.Eq.{bytes_eq-Decides}
use Rattle.smb_wire.specs.Names.{folded}
use Rattle.smb_wire.specs.Paths.{folded_path}
use Rattle.smb_tree.specs.Entries.{is_folder}
use Rattle.smb_tree.specs.Content.{Path, is_same_path, entry_at}
use Rattle.smb_tree.proofs.Keys.{same_path-eq, same_path-itself}
use Rattle.smb_nodes.specs.Nodes.{TreeNode, Heap, entry_in, name_in, up_in, child_in, named, path_to, step, walk, entry_on, entry_down, levels, blank, row_in, rows_in, has_slot, is_same_component, Tied, Live, IsTree}

pub same_component-eq : (c d : List ℕ) → is_same_component c d ≡ true → c ≡ d
same_component-eq c d = (bytes_eq-Decides c d).0

pub same_component-itself : (c : List ℕ) → is_same_component c c ≡ true
same_component-itself c = (bytes_eq-Decides c c).1 refl

-- what was named
pub record IsNamed (n : Option (List ℕ)) (o : Option Path) (p : Path) : Type 0 where
  pub name : List ℕ
  pub front : Path
  pub name_is : n ≡ Some name
  pub front_is : o ≡ Some front
  pub path_is : p ≡ front ++ name ∷ []

pub named-Some : (n : Option (List ℕ)) (o : Option Path) (p : Path) → named n o ≡ Some p → IsNamed n o p
named-Some None o p h = cc
named-Some (Some c) None p h = cc
named-Some (Some c) (Some q) p h = record { name = c; front = q; name_is = refl; front_is = refl; path_is = cc }

pub path_to-up : (g : Heap) (k s : ℕ) (p : Path) → (s == 0) ≡ false → path_to g (suc k) s ≡ Some p → IsNamed (name_in (g s)) (path_to g k (up_in (g s))) p
path_to-up g k s p z h = named-Some _ _ p (grind (arith, h, z))

pub path_to-more : (g : Heap) (k s : ℕ) (p : Path) → path_to g k s ≡ Some p → path_to g (suc k) s ≡ Some p
path_to-more g zero s p h = cc
path_to-more g (suc k) s p h =
    elim (s == 0) as (λ b. s == 0 ≡ b → path_to g (suc (suc k)) s ≡ Some p) [
      | true ↦ λ z. grind (arith, z, h)
      | false ↦ λ z. let n = path_to-up g k s p z h in let m = path_to-more g k (up_in (g s)) n.front n.front_is in rw (z, m, n.name_is) (ap Some (sym n.path_is))
    ] refl

walk-None : (g : Heap) (q : Path) → walk g None q ≡ None
walk-None g [] = refl
walk-None g (c ∷ q) = walk-None g q

pub none_is_not_some : {A : Type 0} {o : Option A} {a : A} → o ≡ None → o ≡ Some a → ⊥
none_is_not_some h k = cc

pub walk-append : (g : Heap) (o : Option ℕ) (p q : Path) → walk g o (p ++ q) ≡ walk g (walk g o p) q
walk-append g o [] q = refl
walk-append g o (c ∷ p) q = walk-append g (step g o c) p q

pub live-name : (o : Option TreeNode) (c : List ℕ) → name_in o ≡ Some c → is_some o ≡ true
live-name None c h = cc
live-name (Some x) c h = refl

pub is_some-Some : {A : Type 0} (o : Option A) → is_some o ≡ true → (a : A) × (o ≡ Some a)
is_some-Some None h = cc
is_some-Some (Some a) h = (a, refl)

-- a child's path
pub path_to-child : (g : Heap) (d : ℕ) → Tied g d → (s u : ℕ) (c : List ℕ) (p : Path) → path_to g d s ≡ Some p → child_in (g s) c ≡ Some u → path_to g d u ≡ Some (p ++ c ∷ [])
path_to-child g d w s u c p h e =
    let n = w.down s u c e in
    let some = is_some-Some _ (w.deep u (live-name _ c n.0)) in
    let more = path_to-more g d u some.0 some.1 in
    let next : path_to g (suc d) u ≡ Some (p ++ c ∷ []) = rw (n.2, n.0, n.1, h) refl in
    some.1 ∙ sym more ∙ next

-- a path that leads to a slot is that slot's path
pub path_to-walk : (g : Heap) (d : ℕ) → Tied g d → (q : Path) (s t : ℕ) (p : Path) → path_to g d s ≡ Some p → walk g (Some s) q ≡ Some t → path_to g d t ≡ Some (p ++ q)
path_to-walk g d w [] s t p h k = rw append-nil (grind (arith, h, k))
path_to-walk g d w (c ∷ q) s t p h k =
    elim (child_in (g s) c) as (λ o. child_in (g s) c ≡ o → walk g o q ≡ Some t → path_to g d t ≡ Some (p ++ c ∷ q)) [
      | None ↦ λ _ j. absurd (none_is_not_some (walk-None g q) j)
      | Some u ↦ λ e j. path_to-walk g d w q u t (p ++ c ∷ []) (path_to-child g d w s u c p h e) j ∙ ap Some (append_assoc p (c ∷ []) q)
    ] refl k

-- a slot's path leads to it
pub walk-path_to : (g : Heap) (d k : ℕ) → Tied g d → (s : ℕ) (p : Path) → path_to g k s ≡ Some p → walk g (Some 0) p ≡ Some s
walk-path_to g d zero w s p h = cc
walk-path_to g d (suc k) w s p h =
    elim (s == 0) as (λ b. s == 0 ≡ b → walk g (Some 0) p ≡ Some s) [
      | true ↦ λ z. grind (arith, z, h)
      | false ↦ λ z.
          let n = path_to-up g k s p z h in
          let front = walk-path_to g d k w (up_in (g s)) n.front n.front_is in
          let here = w.up s n.name n.name_is z in
          rw (n.path_is, walk-append, front) here
    ] refl

none_is_true : {A : Type 0} (o : Option A) → o ≡ None → is_some o ≡ true → ⊥
none_is_true o e h = cc

pub root_path : (g : Heap) (d : ℕ) → Tied g d → path_to g d 0 ≡ Some []
root_path g zero w = absurd (none_is_true (path_to g 0 0) refl (w.deep 0 w.root))
root_path g (suc d) w = refl

pub walk-live : (g : Heap) (d : ℕ) → Tied g d → (q : Path) (s t : ℕ) → is_some (g s) ≡ true → walk g (Some s) q ≡ Some t → is_some (g t) ≡ true
walk-live g d w [] s t h k = grind (arith, h, k)
walk-live g d w (c ∷ q) s t h k =
    elim (child_in (g s) c) as (λ o. child_in (g s) c ≡ o → walk g o q ≡ Some t → is_some (g t) ≡ true) [
      | None ↦ λ _ j. absurd (none_is_not_some (walk-None g q) j)
      | Some u ↦ λ e j. walk-live g d w q u t (live-name _ c (w.down s u c e).0) j
    ] refl k

-- a row with a path stands at the slot that the path leads to
row_walk : (g : Heap) (d : ℕ) → Tied g d → (s : ℕ) (q : Path) → is_some (g s) ≡ true → is_same_path (row_in g d s).0 q ≡ true → walk g (Some 0) q ≡ Some s
row_walk g d w s q h k =
    let some = is_some-Some _ (w.deep s h) in
    let same : some.0 ≡ q = same_path-eq some.0 q (rw some.1 at k) in
    walk-path_to g d d w s q (some.1 ∙ ap Some same)

row_path : (g : Heap) (d : ℕ) → Tied g d → (s : ℕ) (q : Path) → walk g (Some 0) q ≡ Some s → (row_in g d s).0 ≡ q
row_path g d w s q h = ap (λ o. unwrap_or o []) (path_to-walk g d w q 0 s [] (root_path g d w) h)

row_entry : (o : Option TreeNode) → is_some o ≡ true → Some (unwrap_or (entry_in o) blank) ≡ entry_in o
row_entry None h = cc
row_entry (Some x) h = refl

pub at-rows_none : (g : Heap) (d : ℕ) → Tied g d → (es : List (ℕ × ℕ)) (q : Path) → Live g es → walk g (Some 0) q ≡ None → entry_at (rows_in g d es) q ≡ None
at-rows_none g d w [] q l h = refl
at-rows_none g d w (e ∷ es) q l h = grind (arith, h, row_walk g d w e.1 q l.0, at-rows_none g d w es q l.1 h)

pub at-rows_some : (g : Heap) (d : ℕ) → Tied g d → (es : List (ℕ × ℕ)) (q : Path) (s : ℕ) → Live g es → walk g (Some 0) q ≡ Some s → has_slot es s ≡ true → entry_at (rows_in g d es) q ≡ entry_in (g s)
at-rows_some g d w [] q s l h k = cc
at-rows_some g d w (e ∷ es) q s l h k =
    let path = row_path g d w s q h in
    elim (is_same_path (row_in g d e.1).0 q) as (λ b. is_same_path (row_in g d e.1).0 q ≡ b → (if b then Some (row_in g d e.1).1 else entry_at (rows_in g d es) q) ≡ entry_in (g s)) [
      | true ↦ λ z. let here = row_walk g d w e.1 q l.0 z in let same : e.1 ≡ s = cc in row_entry _ l.0 ∙ ap (λ t. entry_in (g t)) same
      | false ↦ λ z. at-rows_some g d w es q s l.1 h (grind (arith, k, z, path, same_path-itself q))
    ] refl

-- the entry at a path is that of the slot that the path leads to
pub at-walk : (g : Heap) (es : List (ℕ × ℕ)) (next : ℕ) (q : Path) → IsTree g es next → entry_at (rows_in g levels es) q ≡ entry_on g (walk g (Some 0) q)
at-walk g es next q t =
    elim (walk g (Some 0) q) as (λ o. walk g (Some 0) q ≡ o → entry_at (rows_in g levels es) q ≡ entry_on g o) [
      | None ↦ λ h. at-rows_none g levels t.tied es q t.live h
      | Some s ↦ λ h. at-rows_some g levels t.tied es q s t.live h (t.complete s (walk-live g levels t.tied q 0 s t.tied.root h))
    ] refl

pub at-looked : (g : Heap) (es : List (ℕ × ℕ)) (next : ℕ) → IsTree g es next → entry_at (rows_in g levels es) ≡ entry_down g
at-looked g es next t = λ i q. at-walk g es next q t i

folder-live : (o : Option TreeNode) → is_folder (entry_in o) ≡ true → is_some o ≡ true
folder-live None h = cc
folder-live (Some x) h = refl

folder-slot : (g : Heap) (o : Option ℕ) → is_folder (entry_on g o) ≡ true → (s : ℕ) × (o ≡ Some s) × (is_some (g s) ≡ true)
folder-slot g None h = cc
folder-slot g (Some s) h = (s, refl, folder-live (g s) h)

-- a folder that a path leads to has a slot
pub folder-walk : (g : Heap) (q : Path) → is_folder (entry_down g q) ≡ true → (s : ℕ) × (walk g (Some 0) q ≡ Some s) × (is_some (g s) ≡ true)
folder-walk g q h = folder-slot g (walk g (Some 0) q) h

no_entry : (o : Option TreeNode) (c : List ℕ) → name_in o ≡ Some c → entry_in o ≡ None → ⊥
no_entry None c h k = cc
no_entry (Some x) c h k = cc

-- where a path leads nowhere its parent has no child of its name
pub free-looked : (g : Heap) (d : ℕ) → Tied g d → (q : Path) (s : ℕ) (c : List ℕ) → walk g (Some 0) q ≡ Some s → entry_down g (q ++ c ∷ []) ≡ None → child_in (g s) c ≡ None
free-looked g d w q s c h n =
    let here : walk g (Some 0) (q ++ c ∷ []) ≡ child_in (g s) c = walk-append g (Some 0) q (c ∷ []) ∙ ap (λ o. step g o c) h in
    let none : entry_on g (child_in (g s) c) ≡ None = ap (entry_on g) (sym here) ∙ n in
    elim (child_in (g s) c) as (λ o. child_in (g s) c ≡ o → entry_on g o ≡ None → o ≡ None) [
      | None ↦ λ _ _. refl
      | Some t ↦ λ e k. absurd (no_entry (g t) c (w.down s t c e).0 k)
    ] refl none

-- one step of a walk along q, and its end where there is no child
pub walk-drop : (g : Heap) (s : ℕ) (p : Option ℕ) (q : Path) (i : ℕ) → i < length q → step g (Some s) (get_or q i []) ≡ p → walk g (Some s) (drop i q) ≡ walk g p (drop (i + 1) q)
walk-drop g s p q i l e = rw (add-one, drop-cons q i [] l) (ap (λ o. walk g o (drop (suc i) q)) e)

pub walk-missed : (g : Heap) (s : ℕ) (q : Path) (i : ℕ) → i < length q → step g (Some s) (get_or q i []) ≡ None → walk g (Some s) (drop i q) ≡ None
walk-missed g s q i l e = walk-drop g s None q i l e ∙ walk-None g (drop (i + 1) q)

-- a path has fewer components than the steps in which it was found
pub path_to-short : (g : Heap) (k s : ℕ) (p : Path) → path_to g k s ≡ Some p → length p < k
path_to-short g zero s p h = cc
path_to-short g (suc k) s p h =
    elim (s == 0) as (λ b. s == 0 ≡ b → length p < suc k) [
      | true ↦ λ z. (let empty : p ≡ [] = grind (arith, z, h) in grind (arith, empty))
      | false ↦ λ z. (let n = path_to-up g k s p z h in let less = path_to-short g k (up_in (g s)) n.front n.front_is in grind (arith, common_steps, less, n.path_is))
    ] refl

pub folded_part : (parts : List (List ℕ)) (i : ℕ) → i < length parts → get_or (folded_path parts) i [] ≡ folded (get_or parts i [])
folded_part [] i h = absurd (omega arith)
folded_part (part ∷ parts) zero h = refl
folded_part (part ∷ parts) (suc i) h = folded_part parts i (omega arith)

-- the same along the components of a path, of which the one at i has these units
pub walk-part : (g : Heap) (s : ℕ) (o : Option ℕ) (parts : List (List ℕ)) (i : ℕ) (us : List ℕ) → i < length parts → us ≡ get_or parts i [] → o ≡ step g (Some s) (folded us) → walk g (Some s) (drop i (folded_path parts)) ≡ walk g o (drop (i + 1) (folded_path parts))
walk-part g s o parts i us l e h =
    let long = length-map parts folded in
    walk-drop g s o (folded_path parts) i (omega (arith, long, l)) (ap (λ (c : List ℕ). step g (Some s) c) (folded_part parts i l ∙ ap folded (sym e)) ∙ sym h)

pub walk-part_none : (g : Heap) (s : ℕ) (o : Option ℕ) (parts : List (List ℕ)) (i : ℕ) (us : List ℕ) → i < length parts → us ≡ get_or parts i [] → o ≡ step g (Some s) (folded us) → o ≡ None → walk g (Some s) (drop i (folded_path parts)) ≡ None
walk-part_none g s o parts i us l e h n =
    walk-part g s o parts i us l e h ∙ ap (λ (p : Option ℕ). walk g p (drop (i + 1) (folded_path parts))) n ∙ walk-None g (drop (i + 1) (folded_path parts))
