-- How far a node lies beneath another one, by their paths.
use Rattle.std.proofs.Common.{◌≡◌, ℕ, zero, suc, ◌+◌, ◌-◌, ◌≤◌, ◌==◌, nat_lt, Bool, true, false, ◌&&◌, if◌then◌else◌, List, [], ◌∷◌, ◌++◌, length, Option, None, Some, is_some, unwrap_or, refl, subst, sym, ap, ◌∙◌, arith, length-append, drop}
use Rattle.std.proofs.lemmas.List.{length-drop}
use Rattle.smb_tree.specs.Content.{Path, is_same_path}
use Rattle.smb_tree.specs.Parts.{would_be_too_deep}
use Rattle.smb_tree.specs.Moves.{is_within, replaced}
use Rattle.smb_tree.proofs.Keys.{same_path-eq}
use Rattle.smb_tree.proofs.Heads.{within_itself, length_within, replaced_drop}
use Rattle.smb_nodes.specs.Nodes.{Heap, up_in, child_in, path_to, levels, row_in, rows_in, has_slot, Tied, Live, IsTree}
use Rattle.smb_nodes.specs.Ways.{one_more, levels_below, is_deep_by, is_deep, SomeDeep, NoneDeep, NoneBelow}
use Rattle.smb_nodes.specs.Tree.{IsBound}
use Rattle.std.specs.List.{AllByRecursion}
use Rattle.smb_nodes.proofs.Walks.{path_to-up, root_path}
use Rattle.smb_nodes.proofs.Growing.{eqb-eq, eqb-neq, child-live, clash}
use Rattle.smb_nodes.proofs.Moving.{path_to-unique, is_within-push, same_slot}
use Rattle.smb_nodes.proofs.Numbered.{path_of_live}
use Rattle.smb_nodes.proofs.Named.{parted}
use Rattle.std.proofs.lemmas.Bool.Decides.{nat_tests}

not_in_root : (from : Path) → (from ≡ [] → ⊥) → is_within from [] ≡ false
not_in_root [] h = absurd (h refl)
not_in_root (c ∷ from) h = refl

abbrev by_paths : Path → Path → Option ℕ
by_paths from p = if is_within from p then Some (length p - length from) else None

one_longer : (from front : Path) (c : List ℕ) (b : Bool) → is_within from front ≡ b → one_more (if b then Some (length front - length from) else None) ≡ (if b then Some (length (front ++ c ∷ []) - length from) else None)
one_longer from front c false h = refl
one_longer from front c true h =
    let less = length_within from front h in
    let long : length front - length from + 1 ≡ length (front ++ c ∷ []) - length from = omega (arith, less, length-append front (c ∷ [])) in
    ap Some long

module _ (g : Heap) (d m : ℕ) (from : Path) (t : Tied g d) (at : path_to g d m ≡ Some from) where
  pub below_is : (k s : ℕ) (p : Path) → path_to g k s ≡ Some p → levels_below g k m s ≡ by_paths from p
  below_is zero s p h = cc
  below_is (suc k) s p h =
      elim (s == m) as (λ b. s == m ≡ b → (if b then Some 0 else if s == 0 then None else one_more (levels_below g k m (up_in (g s)))) ≡ by_paths from p) [
        | true ↦ λ z.
            let here : path_to g (suc k) m ≡ Some p = ap (path_to g (suc k)) (sym (eqb-eq s m z)) ∙ h in
            let same : p ≡ from = path_to-unique g (suc k) d m p from here at in
            let inside : is_within from p ≡ true = ap (is_within from) same ∙ within_itself from in
            let long = ap (λ (q : Path). length q) same in
            let none : 0 ≡ length p - length from = omega (arith, long) in
            rw inside (ap Some none)
        | false ↦ λ z. elim (s == 0) as (λ b. s == 0 ≡ b → (if b then None else one_more (levels_below g k m (up_in (g s)))) ≡ by_paths from p) [
          | true ↦ λ y.
              let empty : p ≡ [] = grind (arith, y, h) in
              let some : from ≡ [] → ⊥ = λ e. eqb-neq s m z (same_slot g d t (suc k) d s m p h (at ∙ ap Some (e ∙ sym empty))) in
              let outside : is_within from p ≡ false = ap (is_within from) empty ∙ not_in_root from some in
              rw outside refl
          | false ↦ λ y.
              let n = path_to-up g k s p y h in
              let other : is_same_path from p ≡ false = elim (is_same_path from p) as (λ b. is_same_path from p ≡ b → b ≡ false) [
                | true ↦ λ e. absurd (eqb-neq s m z (same_slot g d t (suc k) d s m p h (at ∙ ap Some (same_path-eq from p e))))
                | false ↦ λ _. refl
              ] refl in
              let pushed : is_within from p ≡ is_within from n.front = ap (is_within from) n.path_is ∙ is_within-push from n.front n.name ∙ grind (arith, ap (is_same_path from) (sym n.path_is) ∙ other) in
              ap one_more (below_is k (up_in (g s)) n.front n.front_is)
              ∙ one_longer from n.front n.name (is_within from n.front) refl
              ∙ (λ i. if sym pushed i then Some (length (sym n.path_is i) - length from) else None)
        ] refl
      ] refl

-- whether a path would be too long
deep_by : (from to p : Path) → is_deep_by (length to) (by_paths from p) ≡ (is_within from p && nat_lt 32 (length (replaced from to p)))
deep_by from to p =
    elim (is_within from p) as (λ b. is_within from p ≡ b → is_deep_by (length to) (if b then Some (length p - length from) else None) ≡ (b && nat_lt 32 (length (replaced from to p)))) [
      | false ↦ λ h. refl
      | true ↦ λ h.
          let less = length_within from p h in
          let rest = ap (λ (q : Path). length q) (replaced_drop from to p h) in
          let long : length to + (length p - length from) ≡ length (replaced from to p) = omega (arith, rest, length-append to (drop (length from) p), length-drop (length from) p) in
          ap (nat_lt 32) long
    ] refl

one_less : (o : Option ℕ) (b : ℕ) → one_more o ≡ Some b → (a : ℕ) × (o ≡ Some a)
one_less None b h = cc
one_less (Some a) b h = (a, refl)

module _ (g : Heap) (es : List (ℕ × ℕ)) (next : ℕ) (t : IsTree g es next) (m : ℕ) (live : is_some (g m) ≡ true) where
  pub row_deep : (to : Path) (s : ℕ) → is_some (g s) ≡ true → is_deep g m (length to) s ≡ (is_within (row_in g levels m).0 (row_in g levels s).0 && nat_lt 32 (length (replaced (row_in g levels m).0 to (row_in g levels s).0)))
  row_deep to s there =
      ap (is_deep_by (length to)) (below_is g levels m (row_in g levels m).0 t.tied (path_of_live g es next m t live) levels s (row_in g levels s).0 (path_of_live g es next s t there))
      ∙ deep_by (row_in g levels m).0 to (row_in g levels s).0

  some_row : (to : Path) (list : List (ℕ × ℕ)) (u : ℕ) → has_slot list u ≡ true → (is_within (row_in g levels m).0 (row_in g levels u).0 && nat_lt 32 (length (replaced (row_in g levels m).0 to (row_in g levels u).0))) ≡ true → would_be_too_deep (rows_in g levels list) (row_in g levels m).0 to ≡ true
  some_row to [] u h k = cc
  some_row to (e ∷ list) u h k =
      elim (e.1 == u) as (λ b. e.1 == u ≡ b → would_be_too_deep (rows_in g levels (e ∷ list)) (row_in g levels m).0 to ≡ true) [
        | true ↦ λ z. (let here : (is_within (row_in g levels m).0 (row_in g levels e.1).0 && nat_lt 32 (length (replaced (row_in g levels m).0 to (row_in g levels e.1).0))) ≡ true = ap (λ (r : ℕ). is_within (row_in g levels m).0 (row_in g levels r).0 && nat_lt 32 (length (replaced (row_in g levels m).0 to (row_in g levels r).0))) (eqb-eq e.1 u z) ∙ k in rw here refl)
        | false ↦ λ z. (let rest = some_row to list u (grind (arith, h, z)) k in grind (arith, rest))
      ] refl

  no_row_deep : (to : Path) → ((s : ℕ) → is_some (g s) ≡ true → is_deep g m (length to) s ≡ false) → (list : List (ℕ × ℕ)) → Live g list → would_be_too_deep (rows_in g levels list) (row_in g levels m).0 to ≡ false
  no_row_deep to none [] l = refl
  no_row_deep to none (e ∷ list) l =
      let here = sym (row_deep to e.1 l.0) ∙ none e.1 l.0 in
      let rest = no_row_deep to none list l.1 in
      rw here rest

  pub too_deep : (to : Path) → SomeDeep g m (length to) → would_be_too_deep (rows_in g levels es) (row_in g levels m).0 to ≡ true
  too_deep to w = some_row to es w.slot (t.complete w.slot w.live) (sym (row_deep to w.slot w.live) ∙ w.deep)

  pub not_too_deep : (to : Path) → ((s : ℕ) → is_some (g s) ≡ true → is_deep g m (length to) s ≡ false) → would_be_too_deep (rows_in g levels es) (row_in g levels m).0 to ≡ false
  not_too_deep to none = no_row_deep to none es t.live

  -- whether another node lies within this one
  pub within_is : (s : ℕ) → is_some (g s) ≡ true → is_some (levels_below g levels m s) ≡ is_within (row_in g levels m).0 (row_in g levels s).0
  within_is s there =
      ap is_some (below_is g levels m (row_in g levels m).0 t.tied (path_of_live g es next m t live) levels s (row_in g levels s).0 (path_of_live g es next s t there))
      ∙ elim (is_within (row_in g levels m).0 (row_in g levels s).0) as (λ b. is_some (if b then Some (length (row_in g levels s).0 - length (row_in g levels m).0) else None) ≡ b) [ true ↦ refl | false ↦ refl ]

  -- beneath a node with no child there is none but itself
  only_itself : ((c : List ℕ) → child_in (g m) c ≡ None) → (k s b : ℕ) → is_some (g s) ≡ true → levels_below g k m s ≡ Some b → s ≡ m
  only_itself bare zero s b there h = cc
  only_itself bare (suc k) s b there h =
      elim (s == m) as (λ e. s == m ≡ e → s ≡ m) [
        | true ↦ λ z. eqb-eq s m z
        | false ↦ λ z.
            elim (s == 0) as (λ e. s == 0 ≡ e → s ≡ m) [
              | true ↦ λ y. absurd (let none : levels_below g (suc k) m s ≡ None = rw (z, y) refl in cc)
              | false ↦ λ y.
                  let n = parted g es next t s there y in
                  let here = t.tied.up s n.name n.name_is y in
                  let more : one_more (levels_below g k m (up_in (g s))) ≡ Some b = sym (let step : levels_below g (suc k) m s ≡ one_more (levels_below g k m (up_in (g s))) = rw (z, y) refl in step) ∙ h in
                  let one = one_less (levels_below g k m (up_in (g s))) b more in
                  let up = only_itself bare k (up_in (g s)) one.0 (child-live (g (up_in (g s))) n.name s here) one.1 in
                  absurd (clash (child_in (g m) n.name) s (ap (λ (r : ℕ). child_in (g r) n.name) (sym up) ∙ here) (bare n.name))
            ] refl
      ] refl

  -- where a node has no child, none lies beneath it
  pub below_none : ((c : List ℕ) → child_in (g m) c ≡ None) → NoneBelow g m 0
  below_none bare s b there e =
      let same = only_itself bare levels s b there e in
      let self : by_paths (row_in g levels m).0 (row_in g levels s).0 ≡ Some b = sym (below_is g levels m (row_in g levels m).0 t.tied (path_of_live g es next m t live) levels s (row_in g levels s).0 (path_of_live g es next s t there)) ∙ e in
      let inside : by_paths (row_in g levels m).0 (row_in g levels m).0 ≡ Some b = ap (λ (r : ℕ). by_paths (row_in g levels m).0 (row_in g levels r).0) (sym same) ∙ self in
      let it = within_itself (row_in g levels m).0 in
      let none : Some (length (row_in g levels m).0 - length (row_in g levels m).0) ≡ Some b = rw it at inside in
      let zero_is : length (row_in g levels m).0 - length (row_in g levels m).0 ≡ b = cc in
      omega (arith, zero_is)

  -- a node is of as many components as it lies levels beneath the root
  depth_is : unwrap_or (levels_below g levels 0 m) 0 ≡ length (row_in g levels m).0
  depth_is =
      let top = below_is g levels 0 [] t.tied (root_path g levels t.tied) levels m (row_in g levels m).0 (path_of_live g es next m t live) in
      omega (arith, ap (λ (o : Option ℕ). unwrap_or o 0) top)

  row_most : (most : ℕ) (list : List (ℕ × ℕ)) (s : ℕ) → has_slot list s ≡ true → AllByRecursion (λ row. length row.0 ≤ most) (rows_in g levels list) → length (row_in g levels s).0 ≤ most
  row_most most [] s h k = cc
  row_most most (e ∷ list) s h k =
      elim (e.1 == s) as (λ b. e.1 == s ≡ b → length (row_in g levels s).0 ≤ most) [
        | true ↦ λ z. subst (λ (r : ℕ). length (row_in g levels r).0 ≤ most) (eqb-eq e.1 s z) k.0
        | false ↦ λ z. row_most most list s (grind (arith, h, z)) k.1
      ] refl

  -- a bound of all paths is one of how many levels nodes lie beneath another one
  pub below_bound : (most : ℕ) → IsBound most (rows_in g levels es) → NoneBelow g m (most - unwrap_or (levels_below g levels 0 m) 0)
  below_bound most w s b there e =
      let self : by_paths (row_in g levels m).0 (row_in g levels s).0 ≡ Some b = sym (below_is g levels m (row_in g levels m).0 t.tied (path_of_live g es next m t live) levels s (row_in g levels s).0 (path_of_live g es next s t there)) ∙ e in
      let few = row_most most es s (t.complete s there) w.short in
      elim (is_within (row_in g levels m).0 (row_in g levels s).0) as (λ i. (if i then Some (length (row_in g levels s).0 - length (row_in g levels m).0) else None) ≡ Some b → b ≤ most - unwrap_or (levels_below g levels 0 m) 0) [
        | false ↦ λ n. cc
        | true ↦ λ n. (let is : length (row_in g levels s).0 - length (row_in g levels m).0 ≡ b = cc in omega (arith, is, few, depth_is))
      ] self

  -- so many levels beneath a node are the components behind its path
  pub rows_below : (below : ℕ) → NoneBelow g m below → (list : List (ℕ × ℕ)) → Live g list → AllByRecursion (λ row. is_within (row_in g levels m).0 row.0 ≡ true → length row.0 - length (row_in g levels m).0 ≤ below) (rows_in g levels list)
  rows_below below h [] l = tt
  rows_below below h (e ∷ list) l = (
    λ i. h e.1 (length (row_in g levels e.1).0 - length (row_in g levels m).0) l.0 (below_is g levels m (row_in g levels m).0 t.tied (path_of_live g es next m t live) levels e.1 (row_in g levels e.1).0 (path_of_live g es next e.1 t l.0) ∙ rw i refl),
    rows_below below h list l.1,
  )

-- a number that no node's depth is above is a bound
rows_counted : (g : Heap) (es : List (ℕ × ℕ)) (next : ℕ) (t : IsTree g es next) (most : ℕ) → ((s : ℕ) → is_some (g s) ≡ true → unwrap_or (levels_below g levels 0 s) 0 ≤ most) → (list : List (ℕ × ℕ)) → Live g list → AllByRecursion (λ row. length row.0 ≤ most) (rows_in g levels list)
rows_counted g es next t most h [] l = tt
rows_counted g es next t most h (e ∷ list) l = (
  (let low = h e.1 l.0 in let depth = depth_is g es next t e.1 l.0 in omega (arith, low, depth)),
  rows_counted g es next t most h list l.1,
)

pub bound_counted : (g : Heap) (es : List (ℕ × ℕ)) (next : ℕ) (t : IsTree g es next) (most : ℕ) → most ≤ 32 → ((s : ℕ) → is_some (g s) ≡ true → unwrap_or (levels_below g levels 0 s) 0 ≤ most) → IsBound most (rows_in g levels es)
bound_counted g es next t most few h = record { few = few; short = rows_counted g es next t most h es t.live }

-- where so many components and levels are few enough, no node is too deep
pub none_deep : (g : Heap) (m count below : ℕ) → count + below ≤ 32 → NoneBelow g m below → NoneDeep g m count
none_deep g m count below few h s there =
    elim (levels_below g levels m s) as (λ o. levels_below g levels m s ≡ o → is_deep_by count o ≡ false) [
      | None ↦ λ _. refl
      | Some b ↦ λ e. (let less = h s b there e in let short : count + b ≤ 32 = omega (arith, few, less) in grind (arith, nat_tests, short))
    ] refl
