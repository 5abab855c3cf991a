-- What one more node changes.
use Rattle.std.specs.Prelude.{◌≡◌, ◌≢◌, ℕ, suc, zero, ◌+◌, ◌<◌, ◌==◌, true, false, ◌&&◌, ◌||◌, if◌then◌else◌, List, [], ◌∷◌, ◌++◌, length, max, Option, None, Some, is_some, refl}
use Rattle.std.specs.Option.{option_map}
use Rattle.std.proofs.Common.{arith, sym, ap, ◌∙◌}
use Rattle.std.proofs.lemmas.Grind.{common_steps}
use Rattle.smb_wire.specs.Names.{folded}
use Rattle.smb_tree.specs.Entries.{Entry, is_folder}
use Rattle.smb_tree.specs.Content.{Path}
use Rattle.smb_nodes.specs.Nodes.{TreeNode, Heap, name_in, up_in, child_in, entry_in, path_to, levels, row_in, rows_in, slot_of, has_slot, is_same_component, Tied, Live, Numbers, Under, AreDistinct, IsTree}
use Rattle.smb_nodes.specs.Changes.{Grown}
use Rattle.smb_nodes.proofs.Walks.{path_to-up, live-name, is_some-Some, same_component-eq, same_component-itself}

-- a path that is short enough is found in as many steps
pub path_to-fits : (g : Heap) (k j s : ℕ) (p : Path) → path_to g k s ≡ Some p → length p < j → path_to g j s ≡ Some p
path_to-fits g zero j s p h l = cc
path_to-fits g (suc k) zero s p h l = absurd (omega (arith, l))
path_to-fits g (suc k) (suc j) s p h l =
    elim (s == 0) as (λ b. s == 0 ≡ b → path_to g (suc j) s ≡ Some p) [
      | true ↦ λ z. grind (arith, z, h)
      | false ↦ λ z.
          let n = path_to-up g k s p z h in
          let short : length n.front < j = grind (arith, common_steps, l, n.path_is) in
          let m = path_to-fits g k j (up_in (g s)) n.front n.front_is short in
          rw (z, m, n.name_is) (ap Some (sym n.path_is))
    ] refl

-- names and parents stay where there is a node
abbrev pub Keeps : Heap → Heap → Type 0
Keeps g f = (s : ℕ) → is_some (g s) ≡ true → (name_in (f s) ≡ name_in (g s)) × (up_in (f s) ≡ up_in (g s)) × (entry_in (f s) ≡ entry_in (g s))

pub path_to-kept : (g f : Heap) → Keeps g f → (k s : ℕ) (p : Path) → path_to g k s ≡ Some p → path_to f k s ≡ Some p
path_to-kept g f same zero s p h = cc
path_to-kept g f same (suc k) s p h =
    elim (s == 0) as (λ b. s == 0 ≡ b → path_to f (suc k) s ≡ Some p) [
      | true ↦ λ z. grind (arith, z, h)
      | false ↦ λ z.
          let n = path_to-up g k s p z h in
          let e = same s (live-name _ n.name n.name_is) in
          let m = path_to-kept g f same k (up_in (g s)) n.front n.front_is in
          rw (z, e.0, e.1, m, n.name_is) (ap Some (sym n.path_is))
    ] refl

pub live-entry : (o : Option TreeNode) → is_some o ≡ is_some (entry_in o)
live-entry None = refl
live-entry (Some x) = refl

dead : (o : Option TreeNode) → o ≡ None → is_some o ≡ true → ⊥
dead o e h = cc

pub clash : {A : Type 0} (o : Option A) (a : A) → o ≡ Some a → o ≡ None → ⊥
clash o a h k = cc

pub eqb-neq : (a b : ℕ) → a == b ≡ false → a ≢ b
eqb-neq a b h e = absurd (grind (arith, h, e))

pub eqb-eq : (a b : ℕ) → a == b ≡ true → a ≡ b
eqb-eq a b h = grind (arith, h)

module _ (g f : Heap) (up new : ℕ) (name : List ℕ) (entry : Entry) (w : Grown g f up new name entry) where
  not_new : (s : ℕ) → is_some (g s) ≡ true → s == new ≡ false
  not_new s h = elim (s == new) as (λ b. s == new ≡ b → b ≡ false) [ true ↦ λ z. absurd (dead (g s) (ap g (eqb-eq s new z) ∙ w.vacant) h) | false ↦ λ _. refl ] refl

  pub Grown-keeps : Keeps g f
  Grown-keeps s h = let z = not_new s h in (rw (w.names s, z) refl, rw (w.ups s, z) refl, rw (w.entries s, z) refl)

  pub Grown-path : (d : ℕ) (p : Path) → path_to g d up ≡ Some p → length p + 1 < d → path_to f d new ≡ Some (p ++ name ∷ [])
  Grown-path zero p h l = absurd (omega (arith, l))
  Grown-path (suc d) p h l =
      let n : name_in (f new) ≡ Some name = grind (arith, w.names new) in
      let u : up_in (f new) ≡ up = grind (arith, w.ups new) in
      rw (w.not_root, n, u, path_to-kept g f Grown-keeps d up p (path_to-fits g (suc d) d up p h (omega (arith, l)))) refl

  Grown-up_old : (d : ℕ) → Tied g d → (s : ℕ) (c : List ℕ) → name_in (g s) ≡ Some c → s == 0 ≡ false → child_in (f (up_in (g s))) c ≡ Some s
  Grown-up_old d t s c e z =
      let k = t.up s c e z in
      grind (arith, k, w.children (up_in (g s)) c, w.free, eqb-eq (up_in (g s)) up, same_component-eq name c)

  Grown-up : (d : ℕ) → Tied g d → (s : ℕ) (c : List ℕ) → name_in (f s) ≡ Some c → s == 0 ≡ false → child_in (f (up_in (f s))) c ≡ Some s
  Grown-up d t s c e z =
      elim (s == new) as (λ b. s == new ≡ b → child_in (f (up_in (f s))) c ≡ Some s) [
        | true ↦ λ n. grind (arith, n, e, w.names s, w.ups s, w.children up c, same_component-itself name)
        | false ↦ λ n. let k : name_in (g s) ≡ Some c = grind (arith, n, e, w.names s) in let u : up_in (f s) ≡ up_in (g s) = grind (arith, n, w.ups s) in rw u (Grown-up_old d t s c k z)
      ] refl

  Grown-deep : (d : ℕ) (p : Path) → Tied g d → path_to g d up ≡ Some p → length p + 1 < d → (s : ℕ) → is_some (f s) ≡ true → is_some (path_to f d s) ≡ true
  Grown-deep d p t h l s e =
      elim (s == new) as (λ b. s == new ≡ b → is_some (path_to f d s) ≡ true) [
        | true ↦ λ n. let k = Grown-path d p h l in rw (eqb-eq s new n, k) refl
        | false ↦ λ n.
            let v : is_some (g s) ≡ true = grind (arith, n, e, live-entry (f s), live-entry (g s), w.entries s) in
            let some = is_some-Some _ (t.deep s v) in
            let k = path_to-kept g f Grown-keeps d s some.0 some.1 in
            rw k refl
      ] refl

  Grown-down : (d : ℕ) → Tied g d → (s u : ℕ) (c : List ℕ) → child_in (f s) c ≡ Some u → (name_in (f u) ≡ Some c) × (up_in (f u) ≡ s) × (u == 0 ≡ false)
  Grown-down d t s u c e =
      elim (s == up && is_same_component name c) as (λ b. (s == up && is_same_component name c) ≡ b → (name_in (f u) ≡ Some c) × (up_in (f u) ≡ s) × (u == 0 ≡ false)) [
        | true ↦ λ b.
            let same : u ≡ new = grind (arith, b, e, w.children s c) in
            (grind (arith, b, same, w.names u, same_component-eq name c), grind (arith, b, same, w.ups u, eqb-eq s up), grind (arith, same, w.not_root))
        | false ↦ λ b.
            let old : child_in (g s) c ≡ Some u = grind (arith, b, e, w.children s c) in
            let k = t.down s u c old in
            let n = not_new u (live-name (g u) c k.0) in
            (grind (arith, n, k.0, w.names u), grind (arith, n, k.1, w.ups u), k.2)
      ] refl

  pub Grown-tied : (d : ℕ) (p : Path) → Tied g d → path_to g d up ≡ Some p → length p + 1 < d → Tied f d
  Grown-tied d p t h l = record {
    root = grind (arith, live-entry (f 0), live-entry (g 0), w.entries 0, t.root);
    down = λ s u c e. Grown-down d t s u c e;
    up = λ s c e z. Grown-up d t s c e z;
    deep = λ s e. Grown-deep d p t h l s e;
  }

  pub Grown-rows : (d : ℕ) (es : List (ℕ × ℕ)) → Tied g d → Live g es → rows_in f d es ≡ rows_in g d es
  Grown-rows d [] t v = refl
  Grown-rows d (e ∷ es) t v =
      let some = is_some-Some _ (t.deep e.1 v.0) in
      let path = path_to-kept g f Grown-keeps d e.1 some.0 some.1 in
      let k = Grown-keeps e.1 v.0 in
      grind (arith, path, some.1, k.2, Grown-rows d es t v.1)

-- from the nodes at the two slots
pub Grown-from : (g f : Heap) (up new : ℕ) (x y z : TreeNode) → g new ≡ None → new == 0 ≡ false → g up ≡ Some y → y.child (folded x.entry.spelling) ≡ None → x.up ≡ up → ((c : List ℕ) → x.child c ≡ None)
    → f new ≡ Some x → f up ≡ Some z → z.up ≡ y.up → z.entry ≡ y.entry → ((c : List ℕ) → z.child c ≡ (if is_same_component (folded x.entry.spelling) c then Some new else y.child c))
    → ((s : ℕ) → s == new ≡ false → s == up ≡ false → f s ≡ g s) → Grown g f up new (folded x.entry.spelling) x.entry
Grown-from g f up new x y z vacant root gup free xup leaf fnew fup zu ze zc others =
    let zn : folded z.entry.spelling ≡ folded y.entry.spelling = ap (λ (e : Entry). folded e.spelling) ze in
    let apart : up == new ≡ false = elim (up == new) as (λ b. up == new ≡ b → b ≡ false) [ true ↦ λ e. absurd (clash (g up) y gup (ap g (eqb-eq up new e) ∙ vacant)) | false ↦ λ _. refl ] refl in
    record {
      vacant = vacant;
      above = rw gup refl;
      free = rw gup free;
      not_root = root;
      names = λ s. grind (arith, eqb-eq s new, eqb-eq s up, fnew, fup, gup, zn, others s);
      ups = λ s. grind (arith, eqb-eq s new, eqb-eq s up, fnew, fup, gup, zu, xup, others s);
      entries = λ s. grind (arith, eqb-eq s new, eqb-eq s up, fnew, fup, gup, ze, others s);
      children = λ s c. grind (arith, eqb-eq s new, eqb-eq s up, fnew, fup, gup, zc c, leaf c, apart, vacant, others s);
    }

Live-kept : (g f : Heap) → Keeps g f → (es : List (ℕ × ℕ)) → Live g es → Live f es
Live-kept g f same [] l = tt
Live-kept g f same (e ∷ es) l = (grind (arith, l.0, live-entry (f e.1), live-entry (g e.1), (same e.1 l.0).2), Live-kept g f same es l.1)

Live-push : (f : Heap) (es : List (ℕ × ℕ)) (n s : ℕ) → Live f es → is_some (f s) ≡ true → Live f (es ++ (n, s) ∷ [])
Live-push f [] n s l h = (h, tt)
Live-push f (e ∷ es) n s l h = (l.0, Live-push f es n s l.1 h)

Under-push : (es : List (ℕ × ℕ)) (n s : ℕ) → Under es n → Under (es ++ (n, s) ∷ []) (n + 1)
Under-push [] n s u = (omega arith, tt)
Under-push (e ∷ es) n s u = (omega (arith, u.0), Under-push es n s u.1)

has_slot-push : (es : List (ℕ × ℕ)) (n s t : ℕ) → has_slot (es ++ (n, s) ∷ []) t ≡ (has_slot es t || s == t)
has_slot-push [] n s t = grind arith
has_slot-push (e ∷ es) n s t = grind (arith, has_slot-push es n s t)

pub child-live : (o : Option TreeNode) (c : List ℕ) (t : ℕ) → child_in o c ≡ Some t → is_some o ≡ true
child-live None c t h = cc
child-live (Some x) c t h = refl

Grown-leaves : (g f : Heap) (up new : ℕ) (name : List ℕ) (entry : Entry) → Grown g f up new name entry → ((s u : ℕ) (c : List ℕ) → child_in (g s) c ≡ Some u → is_folder (entry_in (g s)) ≡ true) → is_folder (entry_in (g up)) ≡ true → (s u : ℕ) (c : List ℕ) → child_in (f s) c ≡ Some u → is_folder (entry_in (f s)) ≡ true
Grown-leaves g f up new name entry w leaves folder s u c e =
    elim (s == up && is_same_component name c) as (λ b. (s == up && is_same_component name c) ≡ b → is_folder (entry_in (f s)) ≡ true) [
      | true ↦ λ b.
          let same : s ≡ up = grind (arith, b, eqb-eq s up) in
          rw (same, (Grown-keeps g f up new name entry w up w.above).2) folder
      | false ↦ λ b.
          let old : child_in (g s) c ≡ Some u = grind (arith, b, e, w.children s c) in
          rw (Grown-keeps g f up new name entry w s (child-live (g s) c u old)).2 (leaves s u c old)
    ] refl

pub Numbers-kept : (g f : Heap) → Keeps g f → (es : List (ℕ × ℕ)) → Live g es → Numbers g es → Numbers f es
Numbers-kept g f same [] l n = tt
Numbers-kept g f same (e ∷ es) l n = (rw (same e.1 l.0).2 n.0, Numbers-kept g f same es l.1 n.1)

Numbers-push : (f : Heap) (es : List (ℕ × ℕ)) (n s : ℕ) → Numbers f es → option_map (λ (entry : Entry). entry.number) (entry_in (f s)) ≡ Some n → Numbers f (es ++ (n, s) ∷ [])
Numbers-push f [] n s l h = (h, tt)
Numbers-push f (e ∷ es) n s l h = (l.0, Numbers-push f es n s l.1 h)

-- numbers below one are below a greater one
pub under_more : (es : List (ℕ × ℕ)) (n m : ℕ) → Under es n → Under es (max n m)
under_more [] n m u = tt
under_more (e ∷ es) n m u = (omega (arith, u.0), under_more es n m u.1)

pub slot_of-fresh : (es : List (ℕ × ℕ)) (n : ℕ) → Under es n → slot_of es n ≡ None
slot_of-fresh [] n u = refl
slot_of-fresh (e ∷ es) n u = grind (arith, u.0, slot_of-fresh es n u.1)

slot_of-push : (es : List (ℕ × ℕ)) (n s m : ℕ) → slot_of es m ≡ None → (n == m) ≡ false → slot_of (es ++ (n, s) ∷ []) m ≡ None
slot_of-push [] n s m h k = grind (arith, k)
slot_of-push (e ∷ es) n s m h k = grind (arith, h, k, slot_of-push es n s m)

distinct-push : (es : List (ℕ × ℕ)) (n s : ℕ) → AreDistinct es → Under es n → AreDistinct (es ++ (n, s) ∷ [])
distinct-push [] n s a u = (refl, tt)
distinct-push (e ∷ es) n s a u = (slot_of-push es n s e.0 a.0 (grind (arith, u.0)), distinct-push es n s a.1 u.1)

pub Grown-tree : (g f : Heap) (up new : ℕ) (name : List ℕ) (entry : Entry) (es : List (ℕ × ℕ)) (n : ℕ) (p : Path) → Grown g f up new name entry → IsTree g es n → path_to g levels up ≡ Some p → length p + 1 < levels → is_folder (entry_in (g up)) ≡ true → entry.number ≡ n → IsTree f (es ++ (n, new) ∷ []) (n + 1)
Grown-tree g f up new name entry es n p w t h l folder number =
    let keeps = Grown-keeps g f up new name entry w in
    let root = keeps 0 t.tied.root in
    let there : is_some (f new) ≡ true = grind (arith, live-entry (f new), w.entries new) in
    record {
      tied = Grown-tied g f up new name entry w levels p t.tied h l;
      live = Live-push f es n new (Live-kept g f keeps es t.live) there;
      numbers = Numbers-push f es n new (Numbers-kept g f keeps es t.live t.numbers) (grind (arith, w.entries new, number));
      complete = λ s e. grind (arith, e, live-entry (f s), live-entry (g s), w.entries s, has_slot-push es n new s, t.complete s);
      distinct = distinct-push es n new t.distinct t.under;
      under = Under-push es n new t.under;
      root_folder = rw root.2 t.root_folder;
      root_number = rw root.2 t.root_number;
      root_name = rw root.0 t.root_name;
      root_up = rw root.1 t.root_up;
      leaves = λ s u c e. Grown-leaves g f up new name entry w t.leaves folder s u c e;
    }

rows_in-push : (f : Heap) (d : ℕ) (es : List (ℕ × ℕ)) (n s : ℕ) → rows_in f d (es ++ (n, s) ∷ []) ≡ rows_in f d es ++ row_in f d s ∷ []
rows_in-push f d [] n s = refl
rows_in-push f d (e ∷ es) n s = ap (λ xs. row_in f d e.1 ∷ xs) (rows_in-push f d es n s)

pub Grown-added : (g f : Heap) (up new : ℕ) (name : List ℕ) (entry : Entry) (es : List (ℕ × ℕ)) (n : ℕ) (p : Path) → Grown g f up new name entry → IsTree g es n → path_to g levels up ≡ Some p → length p + 1 < levels
    → rows_in f levels (es ++ (n, new) ∷ []) ≡ rows_in g levels es ++ (p ++ name ∷ [], entry) ∷ []
Grown-added g f up new name entry es n p w t h l =
    let path = Grown-path g f up new name entry w levels p h l in
    let here : entry_in (f new) ≡ Some entry = grind (arith, w.entries new) in
    rows_in-push f levels es n new ∙ rw (Grown-rows g f up new name entry w levels es t.tied t.live, path, here) refl
