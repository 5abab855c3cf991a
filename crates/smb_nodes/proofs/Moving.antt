-- What a move of a node changes: the paths of all beneath it, and no node but it and its two parents.
use Rattle.std.specs.Prelude.{◌≡◌, ℕ, suc, zero, ◌<◌, ◌==◌, Bool, true, false, ◌&&◌, ◌||◌, List, [], ◌∷◌, ◌++◌, length, Option, None, Some, is_some, unwrap_or, refl}
use Rattle.std.specs.Option.{option_map}
use Rattle.std.proofs.Common.{inl, inr, arith, sym, ap, ◌∙◌, subst, append_assoc}
use Rattle.std.proofs.lemmas.List.{append-nil}
use Rattle.std.proofs.lemmas.Grind.{common_steps}
use Rattle.smb_wire.specs.Paths.{folded_path}
use Rattle.smb_tree.specs.Entries.{Entry, last_part}
use Rattle.smb_tree.specs.Content.{Path, is_same_path}
use Rattle.smb_tree.specs.Moves.{is_within, rest_behind, replaced}
use Rattle.smb_tree.specs.Parts.{respelled, renamed}
use Rattle.smb_tree.proofs.Keys.{same_path-eq, same_path-of_eq}
use Rattle.smb_tree.proofs.Heads.{within_or_not, replaced-within, replaced-elsewhere, within_itself}
use Rattle.smb_nodes.specs.Nodes.{Heap, name_in, up_in, child_in, entry_in, path_to, blank, row_in, rows_in, is_same_component, Tied, Live}
use Rattle.smb_nodes.specs.Changes.{Moved}
use Rattle.smb_nodes.proofs.Walks.{path_to-up, is_some-Some, walk-path_to, same_component-eq, same_component-itself}
use Rattle.smb_nodes.proofs.Growing.{live-entry, path_to-fits, eqb-eq, eqb-neq}

-- a slot has one path
pub path_to-unique : (g : Heap) (j k s : ℕ) (p q : Path) → path_to g j s ≡ Some p → path_to g k s ≡ Some q → p ≡ q
path_to-unique g zero k s p q h i = cc
path_to-unique g (suc j) zero s p q h i = cc
path_to-unique g (suc j) (suc k) s p q h i =
    elim (s == 0) as (λ b. s == 0 ≡ b → p ≡ q) [
      | true ↦ λ z. grind (arith, z, h, i)
      | false ↦ λ z.
          let m = path_to-up g j s p z h in
          let n = path_to-up g k s q z i in
          let e = path_to-unique g j k (up_in (g s)) m.front n.front m.front_is n.front_is in
          let c : m.name ≡ n.name = grind (arith, m.name_is, n.name_is) in
          m.path_is ∙ ap (λ x. x ++ m.name ∷ []) e ∙ ap (λ c. n.front ++ c ∷ []) c ∙ sym n.path_is
    ] refl

pub is_within-push : (from front : Path) (c : List ℕ) → is_within from (front ++ c ∷ []) ≡ (is_within from front || is_same_path from (front ++ c ∷ []))
is_within-push [] front c = refl
is_within-push (b ∷ []) [] c = grind arith
is_within-push (b ∷ a ∷ from) [] c = grind arith
is_within-push (b ∷ from) (a ∷ front) c = grind (arith, is_within-push from front c)

pub replaced-push : (from to front : Path) (c : List ℕ) → is_same_path from (front ++ c ∷ []) ≡ false → replaced from to (front ++ c ∷ []) ≡ replaced from to front ++ c ∷ []
replaced-push from to front c h =
    elim (within_or_not from front) [
      | inl r ↦ rw (r.1, append_assoc, replaced-within from to (r.0 ++ c ∷ []), replaced-within from to r.0) (sym (append_assoc to r.0 (c ∷ [])))
      | inr k ↦
          let n : is_within from (front ++ c ∷ []) ≡ false = grind (arith, h, k, is_within-push from front c) in
          rw (replaced-elsewhere from to (front ++ c ∷ []) n, replaced-elsewhere from to front k) refl
    ]

clash : {A : Type 0} {b : Bool} → b ≡ false → b ≡ true → A
clash h k = cc

rest_behind-itself : (p : Path) → rest_behind p p ≡ Some []
rest_behind-itself [] = refl
rest_behind-itself (c ∷ p) = grind (arith, same_component-itself c, rest_behind-itself p)

not_root_path : (from p : Path) → is_within from p ≡ false → is_within from [] ≡ false
not_root_path [] p h = clash h refl
not_root_path (c ∷ from) p h = refl

replaced-itself : (from to : Path) → replaced from to from ≡ to
replaced-itself from to = rw (rest_behind-itself from) (append-nil to)

pub same_slot : (g : Heap) (d : ℕ) → Tied g d → (j k s t : ℕ) (p : Path) → path_to g j s ≡ Some p → path_to g k t ≡ Some p → s ≡ t
same_slot g d t j k s u p h i =
    let a = walk-path_to g d j t s p h in
    let b = walk-path_to g d k t u p i in
    cc

module _ (g f : Heap) (d m : ℕ) (from : Path) (up1 up2 : ℕ) (c1 c2 : List ℕ) (p2 : Path) (parts : List (List ℕ)) (t : Tied g d) (w : Moved g f d m from up1 up2 c1 c2 p2 (last_part parts)) where
  -- a path that is not beneath the old one stays
  outside_path : (k s : ℕ) (p : Path) → path_to g k s ≡ Some p → is_within from p ≡ false → path_to f k s ≡ Some p
  outside_path zero s p h o = cc
  outside_path (suc k) s p h o =
      elim (s == 0) as (λ b. s == 0 ≡ b → path_to f (suc k) s ≡ Some p) [
        | true ↦ λ z. grind (arith, z, h)
        | false ↦ λ z.
            let n = path_to-up g k s p z h in
            let front : is_within from n.front ≡ false = grind (arith, o, n.path_is, is_within-push from n.front n.name) in
            let other : s == m ≡ false =
            elim (s == m) as (λ b. s == m ≡ b → b ≡ false) [
              | true ↦ λ e.
                  let here : path_to g (suc k) m ≡ Some p = ap (path_to g (suc k)) (sym (eqb-eq s m e)) ∙ h in
                  let same : p ≡ from = path_to-unique g (suc k) d m p from here w.old in
                  clash o (ap (is_within from) same ∙ within_itself from)
              | false ↦ λ _. refl
            ] refl in
            let name : name_in (f s) ≡ Some n.name = grind (arith, other, w.names s, n.name_is) in
            let up : up_in (f s) ≡ up_in (g s) = grind (arith, other, w.ups s) in
            rw (z, name, up, outside_path k (up_in (g s)) n.front n.front_is front) (ap Some (sym n.path_is))
      ] refl

  -- every path has the old one at its head replaced by the new one
  moved_path : (k s j : ℕ) (p : Path) → path_to g k s ≡ Some p → length (replaced from (p2 ++ c2 ∷ []) p) < j → path_to f j s ≡ Some (replaced from (p2 ++ c2 ∷ []) p)
  moved_path zero s j p h l = cc
  moved_path (suc k) s zero p h l = absurd (omega (arith, l))
  moved_path (suc k) s (suc j) p h l =
      elim (s == 0) as (λ b. s == 0 ≡ b → path_to f (suc j) s ≡ Some (replaced from (p2 ++ c2 ∷ []) p)) [
        | true ↦ λ z.
            let empty : p ≡ [] = grind (arith, z, h) in
            let stays : replaced from (p2 ++ c2 ∷ []) [] ≡ [] = replaced-elsewhere from (p2 ++ c2 ∷ []) [] (not_root_path from p2 w.outside) in
            rw (z, empty, stays) refl
        | false ↦ λ z.
            let n = path_to-up g k s p z h in
            elim (s == m) as (λ b. s == m ≡ b → path_to f (suc j) s ≡ Some (replaced from (p2 ++ c2 ∷ []) p)) [
              | true ↦ λ e.
                  let here : path_to g (suc k) m ≡ Some p = ap (path_to g (suc k)) (sym (eqb-eq s m e)) ∙ h in
                  let same : p ≡ from = path_to-unique g (suc k) d m p from here w.old in
                  let now : replaced from (p2 ++ c2 ∷ []) p ≡ p2 ++ c2 ∷ [] = ap (replaced from (p2 ++ c2 ∷ [])) same ∙ replaced-itself from (p2 ++ c2 ∷ []) in
                  let short : length p2 < j = grind (arith, common_steps, l, now) in
                  let name : name_in (f s) ≡ Some c2 = grind (arith, e, w.names s) in
                  let up : up_in (f s) ≡ up2 = grind (arith, e, w.ups s) in
                  rw (z, name, up, outside_path j up2 p2 (path_to-fits g d j up2 p2 w.new short) w.outside) (ap Some (sym now))
              | false ↦ λ e.
                  let apart : is_same_path from (n.front ++ n.name ∷ []) ≡ false =
                  elim (is_same_path from (n.front ++ n.name ∷ [])) as (λ b. is_same_path from (n.front ++ n.name ∷ []) ≡ b → b ≡ false) [
                    | true ↦ λ y.
                        let is : from ≡ p = same_path-eq from (n.front ++ n.name ∷ []) y ∙ sym n.path_is in
                        let slot : s ≡ m = same_slot g d t (suc k) d s m p h (w.old ∙ ap Some is) in
                        absurd (eqb-neq s m e slot)
                    | false ↦ λ _. refl
                  ] refl in
                  let push : replaced from (p2 ++ c2 ∷ []) p ≡ replaced from (p2 ++ c2 ∷ []) n.front ++ n.name ∷ [] = ap (replaced from (p2 ++ c2 ∷ [])) n.path_is ∙ replaced-push from (p2 ++ c2 ∷ []) n.front n.name apart in
                  let short : length (replaced from (p2 ++ c2 ∷ []) n.front) < j = grind (arith, common_steps, l, push) in
                  let name : name_in (f s) ≡ Some n.name = grind (arith, e, w.names s, n.name_is) in
                  let up : up_in (f s) ≡ up_in (g s) = grind (arith, e, w.ups s) in
                  rw (z, name, up, moved_path k (up_in (g s)) j n.front n.front_is short) (ap Some (sym push))
            ] refl
      ] refl

  -- the entry of the node is respelled, and each other one stays
  respelled_here : (o : Option Entry) → is_some o ≡ true → unwrap_or (option_map (λ (entry : Entry). record entry { spelling = last_part parts }) o) blank ≡ record (unwrap_or o blank) { spelling = last_part parts }
  respelled_here None h = cc
  respelled_here (Some e) h = refl

  moved_entry : (s : ℕ) (p : Path) → path_to g d s ≡ Some p → is_some (g s) ≡ true → unwrap_or (entry_in (f s)) blank ≡ respelled from parts p (unwrap_or (entry_in (g s)) blank)
  moved_entry s p h live =
      elim (s == m) as (λ b. s == m ≡ b → unwrap_or (entry_in (f s)) blank ≡ respelled from parts p (unwrap_or (entry_in (g s)) blank)) [
        | true ↦ λ z.
            let here : path_to g d m ≡ Some p = ap (path_to g d) (sym (eqb-eq s m z)) ∙ h in
            let same : p ≡ from = path_to-unique g d d m p from here w.old in
            let test : is_same_path p from ≡ true = same_path-of_eq p from same in
            let there : is_some (entry_in (g s)) ≡ true = sym (live-entry (g s)) ∙ live in
            rw (w.entries s, z, test) (respelled_here (entry_in (g s)) there)
        | false ↦ λ z.
            let test : is_same_path p from ≡ false =
            elim (is_same_path p from) as (λ b. is_same_path p from ≡ b → b ≡ false) [
              | true ↦ λ y. absurd (eqb-neq s m z (same_slot g d t d d s m p h (w.old ∙ ap Some (sym (same_path-eq p from y)))))
              | false ↦ λ _. refl
            ] refl in
            rw (w.entries s, z, test) refl
      ] refl

  -- where no new path is too deep, the rows are renamed
  abbrev pub Shallow : List (ℕ × ℕ) → Type 0
  Shallow [] = Unit {0}
  Shallow (e ∷ es) = (length (replaced from (p2 ++ c2 ∷ []) (row_in g d e.1).0) < d) × Shallow es

  pub moved_rows : folded_path parts ≡ p2 ++ c2 ∷ [] → (es : List (ℕ × ℕ)) → Live g es → Shallow es → rows_in f d es ≡ renamed from parts (rows_in g d es)
  moved_rows is [] l h = refl
  moved_rows is (e ∷ es) l h =
      let some = is_some-Some _ (t.deep e.1 l.0) in
      let row : (row_in g d e.1).0 ≡ some.0 = ap (λ (o : Option Path). unwrap_or o []) some.1 in
      let short = subst (λ (p : Path). length (replaced from (p2 ++ c2 ∷ []) p) < d) row h.0 in
      let path = moved_path d e.1 d some.0 some.1 short in
      let first : unwrap_or (path_to f d e.1) [] ≡ replaced from (folded_path parts) (row_in g d e.1).0 =
      ap (λ (o : Option Path). unwrap_or o []) path ∙ (λ i. replaced from (sym is i) (sym row i)) in
      let second : unwrap_or (entry_in (f e.1)) blank ≡ respelled from parts (row_in g d e.1).0 (row_in g d e.1).1 =
      moved_entry e.1 (row_in g d e.1).0 (some.1 ∙ ap Some (sym row)) l.0 in
      let rest = moved_rows is es l.1 h.1 in
      λ i. (first i, second i) ∷ rest i

  some-map : (change : Entry → Entry) (o : Option Entry) → is_some (option_map change o) ≡ is_some o
  some-map change None = refl
  some-map change (Some e) = refl

  pub live_kept : (s : ℕ) → is_some (f s) ≡ is_some (g s)
  live_kept s =
      live-entry (f s)
      ∙ elim (s == m) as (λ b. s == m ≡ b → is_some (entry_in (f s)) ≡ is_some (g s)) [
        | true ↦ λ z. rw (w.entries s, z) (some-map (λ (entry : Entry). record entry { spelling = last_part parts }) (entry_in (g s)) ∙ sym (live-entry (g s)))
        | false ↦ λ z. rw (w.entries s, z) (sym (live-entry (g s)))
      ] refl

  moved_down : (s u : ℕ) (c : List ℕ) → child_in (f s) c ≡ Some u → (name_in (f u) ≡ Some c) × (up_in (f u) ≡ s) × (u == 0 ≡ false)
  moved_down s u c e =
      elim (s == up2 && is_same_component c2 c) as (λ b. (s == up2 && is_same_component c2 c) ≡ b → (name_in (f u) ≡ Some c) × (up_in (f u) ≡ s) × (u == 0 ≡ false)) [
        | true ↦ λ b.
            let same : u ≡ m = grind (arith, b, e, w.children s c) in
            (grind (arith, b, same, w.names u, same_component-eq c2 c), grind (arith, b, same, w.ups u, eqb-eq s up2), grind (arith, same, w.not_root))
        | false ↦ λ b.
            let old : child_in (g s) c ≡ Some u = grind (arith, b, e, w.children s c) in
            let gone : (s == up1 && is_same_component c1 c) ≡ false = grind (arith, b, e, w.children s c) in
            let k = t.down s u c old in
            let other : u == m ≡ false = grind (arith, k.0, k.1, gone, w.old_up, w.old_name, eqb-eq u m, same_component-itself c) in
            (grind (arith, other, k.0, w.names u), grind (arith, other, k.1, w.ups u), k.2)
      ] refl

  moved_up : (s : ℕ) (c : List ℕ) → name_in (f s) ≡ Some c → s == 0 ≡ false → child_in (f (up_in (f s))) c ≡ Some s
  moved_up s c e z =
      elim (s == m) as (λ b. s == m ≡ b → child_in (f (up_in (f s))) c ≡ Some s) [
        | true ↦ λ n. grind (arith, n, e, w.names s, w.ups s, w.children up2 c, same_component-itself c2, eqb-eq s m)
        | false ↦ λ n.
            let name : name_in (g s) ≡ Some c = grind (arith, n, e, w.names s) in
            let up : up_in (f s) ≡ up_in (g s) = grind (arith, n, w.ups s) in
            let old = t.up s c name z in
            let not_new : (up_in (g s) == up2 && is_same_component c2 c) ≡ false = grind (arith, old, w.vacant, eqb-eq (up_in (g s)) up2, same_component-eq c2 c) in
            let mine = t.up m c1 w.old_name w.not_root in
            let not_old : (up_in (g s) == up1 && is_same_component c1 c) ≡ false = grind (arith, old, mine, w.old_up, n, eqb-eq (up_in (g s)) up1, same_component-eq c1 c) in
            rw up (w.children (up_in (g s)) c ∙ grind (arith, not_new, not_old, old))
      ] refl

  pub moved_tied : ((s : ℕ) (p : Path) → path_to g d s ≡ Some p → length (replaced from (p2 ++ c2 ∷ []) p) < d) → Tied f d
  moved_tied shallow = record {
    root = live_kept 0 ∙ t.root;
    down = λ s u c e. moved_down s u c e;
    up = λ s c e z. moved_up s c e z;
    deep = λ s e.
        let some = is_some-Some _ (t.deep s (sym (live_kept s) ∙ e)) in
        let path = moved_path d s d some.0 some.1 (shallow s some.0 some.1) in
        rw path refl;
  }
