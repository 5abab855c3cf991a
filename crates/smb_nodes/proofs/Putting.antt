-- Nodes put into a slab, as a heap sees it.
use Rattle.std.specs.Prelude.{◌≡◌, ◌+◌, true, false, ◌&&◌, ◌==◌, if◌then◌else◌, ℕ, suc, zero, List, [], ◌∷◌, set, get_or, Option, None, Some, is_some, cond, refl, Result, Ok, Err, OnOk, OnErr}
use Rattle.std.specs.Option.{option_map}
use Rattle.std.proofs.Common.{length, arith, sym, ap, ◌∙◌}
use Rattle.std.specs.Box.{boxed_slice_items}
use Rattle.std.specs.BTreeMap.{BTreeMap}
use Rattle.std.specs.Map.{lookup}
use Rattle.std.specs.List.{count_by, fold}
use Rattle.std.proofs.lemmas.Map.Text.{is_eq-slice_cmp}
use Rattle.slab.specs.Slab.{Slab, get, with_value, Updates}
use Rattle.smb_wire.specs.Names.{folded}
use Rattle.smb_tree.specs.Entries.{Entry}
use Rattle.smb_nodes.specs.declared.node.Node.{Node}
use Rattle.smb_nodes.specs.Nodes.{TreeNode, child_in, name_in, up_in, entry_in, is_same_component, name_of_slot}
use Rattle.smb_nodes.specs.Changes.{Altered, Childed, Grown, Pruned, HasChild}
use Rattle.smb_nodes.specs.Seen.{Key, is_named, named_in, entry_seen, node_seen, seen, heap_of, SameHeap, SameRoom}
use Rattle.smb_nodes.proofs.Walks.{same_component-itself}
use Rattle.smb_nodes.proofs.Growing.{eqb-eq, eqb-neq}

pub on_ok_from : {A E P Q : Type 0} (r : Result A E) → OnOk r P → (P → Q) → OnOk r Q
on_ok_from (Ok a) p f = f p
on_ok_from (Err e) p f = tt

pub on_err_from : {A E P Q : Type 0} (r : Result A E) → OnErr r P → (P → Q) → OnErr r Q
on_err_from (Ok a) p f = tt
on_err_from (Err e) p f = f p

pub get_set : {A : Type 0} (l : List (Option A)) (i j : ℕ) (y z : A) → get_or l i None ≡ Some y → get_or (set l i (Some z)) j None ≡ (if j == i then Some z else get_or l j None)
get_set [] i j y z h = cc
get_set (x ∷ l) zero zero y z h = refl
get_set (x ∷ l) zero (suc j) y z h = grind arith
get_set (x ∷ l) (suc i) zero y z h = grind arith
get_set (x ∷ l) (suc i) (suc j) y z h = grind (arith, get_set l i j y z h)

-- the heap after a write to a slot that had a node
pub heap_put : (old : Slab Node) (slot s : ℕ) (x z : Node) → get old slot ≡ Some x → heap_of (with_value old slot z) s ≡ (if s == slot then Some (node_seen z) else heap_of old s)
heap_put old slot s x z h =
    ap seen (get_set old.slots slot s x z h) ∙ elim (s == slot) as (λ b. seen (if b then Some z else get old s) ≡ (if b then Some (node_seen z) else heap_of old s)) [ true ↦ refl | false ↦ refl ]

-- another entry of the same name
pub put_in : (old : Slab Node) (slot : ℕ) (x z : Node) (change : Entry → Entry) → get old slot ≡ Some x → entry_seen z ≡ change (entry_seen x) → z.parent ≡ x.parent → z.children ≡ x.children → folded (change (entry_seen x)).spelling ≡ folded (entry_seen x).spelling → Altered (heap_of old) (heap_of (with_value old slot z)) slot change
put_in old slot x z change at entry parent children name =
    let here : heap_of old slot ≡ Some (node_seen x) = ap seen at in
    let put : (s : ℕ) → heap_of (with_value old slot z) s ≡ (if s == slot then Some (node_seen z) else heap_of old s) = λ s. heap_put old slot s x z at in
    let names : folded (entry_seen z).spelling ≡ folded (entry_seen x).spelling = ap (λ (e : Entry). folded e.spelling) entry ∙ name in
    record {
      names = λ s. elim (s == slot) as (λ b. s == slot ≡ b → name_in (heap_of (with_value old slot z) s) ≡ name_in (heap_of old s)) [
        | true ↦ λ e. (let same = eqb-eq s slot e in rw (put s, e, same, here) (ap Some names))
        | false ↦ λ e. rw (put s, e) refl
      ] refl;
      ups = λ s. elim (s == slot) as (λ b. s == slot ≡ b → up_in (heap_of (with_value old slot z) s) ≡ up_in (heap_of old s)) [
        | true ↦ λ e. (let same = eqb-eq s slot e in rw (put s, e, same, here) parent)
        | false ↦ λ e. rw (put s, e) refl
      ] refl;
      entries = λ s. elim (s == slot) as (λ b. s == slot ≡ b → entry_in (heap_of (with_value old slot z) s) ≡ (if b then option_map change (entry_in (heap_of old s)) else entry_in (heap_of old s))) [
        | true ↦ λ e. (let same = eqb-eq s slot e in rw (put s, e, same, here) (ap Some entry))
        | false ↦ λ e. rw (put s, e) refl
      ] refl;
      children = λ s n. elim (s == slot) as (λ b. s == slot ≡ b → child_in (heap_of (with_value old slot z) s) n ≡ child_in (heap_of old s) n) [
        | true ↦ λ e. (let same = eqb-eq s slot e in rw (put s, e, same, here) (ap (λ (m : BTreeMap Key ℕ). named_in m n) children))
        | false ↦ λ e. rw (put s, e) refl
      ] refl;
    }

-- another child of a name
pub child_put : (old : Slab Node) (folder : ℕ) (y z : Node) (name : List ℕ) (child : Option ℕ) → get old folder ≡ Some y → entry_seen z ≡ entry_seen y → z.parent ≡ y.parent
    → ((c : List ℕ) → named_in z.children c ≡ (if is_same_component name c then child else named_in y.children c)) → Childed (heap_of old) (heap_of (with_value old folder z)) folder name child
child_put old folder y z name child at entry parent children =
    let here : heap_of old folder ≡ Some (node_seen y) = ap seen at in
    let put : (s : ℕ) → heap_of (with_value old folder z) s ≡ (if s == folder then Some (node_seen z) else heap_of old s) = λ s. heap_put old folder s y z at in
    record {
      names = λ s. elim (s == folder) as (λ b. s == folder ≡ b → name_in (heap_of (with_value old folder z) s) ≡ name_in (heap_of old s)) [
        | true ↦ λ e. (let same = eqb-eq s folder e in rw (put s, e, same, here) (ap (λ (n : Entry). Some (folded n.spelling)) entry))
        | false ↦ λ e. rw (put s, e) refl
      ] refl;
      ups = λ s. elim (s == folder) as (λ b. s == folder ≡ b → up_in (heap_of (with_value old folder z) s) ≡ up_in (heap_of old s)) [
        | true ↦ λ e. (let same = eqb-eq s folder e in rw (put s, e, same, here) parent)
        | false ↦ λ e. rw (put s, e) refl
      ] refl;
      entries = λ s. elim (s == folder) as (λ b. s == folder ≡ b → entry_in (heap_of (with_value old folder z) s) ≡ entry_in (heap_of old s)) [
        | true ↦ λ e. (let same = eqb-eq s folder e in rw (put s, e, same, here) (ap Some entry))
        | false ↦ λ e. rw (put s, e) refl
      ] refl;
      children = λ s c. elim (s == folder) as (λ b. s == folder ≡ b → child_in (heap_of (with_value old folder z) s) c ≡ (if b && is_same_component name c then child else child_in (heap_of old s) c)) [
        | true ↦ λ e. (let same = eqb-eq s folder e in rw (put s, e, same, here) (children c))
        | false ↦ λ e. rw (put s, e) refl
      ] refl;
    }

pub none_in : (m : BTreeMap Key ℕ) (c : List ℕ) → m.entries ≡ [] → named_in m c ≡ None
none_in m c e = ap (λ (es : List (Key × ℕ)). lookup (is_named c) es) e

fold_set : {A : Type 0} (start : ℕ) (l : List (Option A)) (i : ℕ) (y z : A) → get_or l i None ≡ Some y → fold (λ count o. count + cond (is_some o) 1 0) start (set l i (Some z)) ≡ fold (λ count o. count + cond (is_some o) 1 0) start l
fold_set start [] i y z h = cc
fold_set start (x ∷ l) zero y z h = rw h refl
fold_set start (x ∷ l) (suc i) y z h = fold_set (start + cond (is_some x) 1 0) l i y z h

count_set : {A : Type 0} (l : List (Option A)) (i : ℕ) (y z : A) → get_or l i None ≡ Some y → count_by is_some (set l i (Some z)) ≡ count_by is_some l
count_set l i y z h = fold_set 0 l i y z h

pub same_room : (old : Slab Node) (slot : ℕ) (y z : Node) → get old slot ≡ Some y → SameRoom old (with_value old slot z)
same_room old slot y z h = record { count = count_set old.slots slot y z h; capacity = refl; vacant_key = refl }

-- the same children
pub same_put : (old : Slab Node) (slot : ℕ) (y z : Node) → get old slot ≡ Some y → entry_seen z ≡ entry_seen y → z.parent ≡ y.parent → z.children.entries ≡ y.children.entries → SameHeap old (with_value old slot z)
same_put old slot y z at entry parent children =
    let same : node_seen z ≡ node_seen y = λ i. record { entry = entry i; up = parent i; child = λ c. lookup (is_named c) (children i) } in
    let here : heap_of old slot ≡ Some (node_seen y) = ap seen at in (
      λ s. heap_put old slot s y z at ∙ elim (s == slot) as (λ b. s == slot ≡ b → (if b then Some (node_seen z) else heap_of old s) ≡ heap_of old s) [
        | true ↦ λ e. ap Some same ∙ sym here ∙ ap (heap_of old) (sym (eqb-eq s slot e))
        | false ↦ λ e. refl
      ] refl,
      refl,
    )

-- what `hang` leaves: the parent's children first, then the node in its slot
pub hung : (old mid kept new : Slab Node) (x : Node) (k : ℕ) → get old k ≡ None → k == 0 ≡ false → mid.slots ≡ old.slots → is_some (heap_of old x.parent) ≡ true → child_in (heap_of old x.parent) (folded (entry_seen x).spelling) ≡ None
    → x.children.entries ≡ [] → Childed (heap_of mid) (heap_of kept) x.parent (folded (entry_seen x).spelling) (Some k) → Updates kept new k (Some x) → Grown (heap_of old) (heap_of new) x.parent k (folded (entry_seen x).spelling) (entry_seen x)
hung old mid kept new x k vacant root same above free leaf w u =
    let was : (s : ℕ) → heap_of mid s ≡ heap_of old s = λ s. ap (λ (l : List (Option Node)). seen (get_or l s None)) same in
    let there : (s : ℕ) → s == k ≡ true → heap_of new s ≡ Some (node_seen x) = λ s e. ap (heap_of new) (eqb-eq s k e) ∙ ap seen u.changed in
    let other : (s : ℕ) → s == k ≡ false → heap_of new s ≡ heap_of kept s = λ s e. ap seen (u.others s (eqb-neq s k e)) in
    let empty : heap_of old k ≡ None = ap seen vacant in
    let apart : k == x.parent ≡ false = elim (k == x.parent) as (λ b. k == x.parent ≡ b → b ≡ false) [
      | true ↦ λ e. (let live : is_some (heap_of old k) ≡ true = ap (λ (s : ℕ). is_some (heap_of old s)) (eqb-eq k x.parent e) ∙ above in let dead : is_some (heap_of old k) ≡ false = ap is_some empty in let wrong : true ≡ false = sym live ∙ dead in cc)
      | false ↦ λ _. refl
    ] refl in
    record {
      vacant = empty;
      above = above;
      free = free;
      not_root = root;
      names = λ s. elim (s == k) as (λ b. s == k ≡ b → name_in (heap_of new s) ≡ (if b then Some (folded (entry_seen x).spelling) else name_in (heap_of old s))) [
        | true ↦ λ e. ap name_in (there s e)
        | false ↦ λ e. ap name_in (other s e) ∙ w.names s ∙ ap name_in (was s)
      ] refl;
      ups = λ s. elim (s == k) as (λ b. s == k ≡ b → up_in (heap_of new s) ≡ (if b then x.parent else up_in (heap_of old s))) [
        | true ↦ λ e. ap up_in (there s e)
        | false ↦ λ e. ap up_in (other s e) ∙ w.ups s ∙ ap up_in (was s)
      ] refl;
      entries = λ s. elim (s == k) as (λ b. s == k ≡ b → entry_in (heap_of new s) ≡ (if b then Some (entry_seen x) else entry_in (heap_of old s))) [
        | true ↦ λ e. ap entry_in (there s e)
        | false ↦ λ e. ap entry_in (other s e) ∙ w.entries s ∙ ap entry_in (was s)
      ] refl;
      children = λ s c. elim (s == k) as (λ b. s == k ≡ b → child_in (heap_of new s) c ≡ (if s == x.parent && is_same_component (folded (entry_seen x).spelling) c then Some k else child_in (heap_of old s) c)) [
        | true ↦ λ e.
            let none : child_in (heap_of new s) c ≡ None = ap (λ (o : Option TreeNode). child_in o c) (there s e) ∙ none_in x.children c leaf in
            let before : child_in (heap_of old s) c ≡ None = ap (λ (o : Option TreeNode). child_in o c) (ap (heap_of old) (eqb-eq s k e) ∙ empty) in
            let away : s == x.parent ≡ false = ap (λ (r : ℕ). r == x.parent) (eqb-eq s k e) ∙ apart in
            rw away (none ∙ sym before)
        | false ↦ λ e. ap (λ (o : Option TreeNode). child_in o c) (other s e) ∙ w.children s c ∙ ap (λ (o : Option TreeNode). if s == x.parent && is_same_component (folded (entry_seen x).spelling) c then Some k else child_in o c) (was s)
      ] refl;
    }

none_some : (o : Option TreeNode) → o ≡ None → is_some o ≡ true → ⊥
none_some o e h = cc

pub not_root : (old : Slab Node) (k : ℕ) → is_some (heap_of old 0) ≡ true → get old k ≡ None → k == 0 ≡ false
not_root old k h n = elim (k == 0) as (λ b. k == 0 ≡ b → b ≡ false) [ true ↦ λ e. absurd (none_some (seen (get old 0)) (ap seen (ap (get old) (sym (eqb-eq k 0 e)) ∙ n)) h) | false ↦ λ _. refl ] refl

pub on_ok : {A E P : Type 0} (r : Result A E) → P → OnOk r P
on_ok (Ok a) p = p
on_ok (Err e) p = tt

pub on_err : {A E P : Type 0} (r : Result A E) → P → OnErr r P
on_err (Ok a) p = tt
on_err (Err e) p = p

-- a map that isn't empty has something
pub some_child : (node : Node) (o : Option TreeNode) → o ≡ Some (node_seen node) → (length node.children.entries ≡ 0 → ⊥) → HasChild o
some_child node o e h = by node.children refl h
  where
    by : (m : BTreeMap Key ℕ) → node.children ≡ m → (length m.entries ≡ 0 → ⊥) → HasChild o
    by m is h =
        let some = first m.entries h in
        record {
          name = some.0;
          child = some.1;
          is = ap (λ (p : Option TreeNode). child_in p some.0) e ∙ ap (λ (n : BTreeMap Key ℕ). named_in n some.0) is ∙ some.2;
        }
      where
        first : (es : List (Key × ℕ)) → (length es ≡ 0 → ⊥) → (name : List ℕ) × (child : ℕ) × (lookup (is_named name) es ≡ Some child)
        first [] h = absurd (h refl)
        first (e ∷ es) h = (boxed_slice_items e.0, e.1, (let here = is_eq-slice_cmp (boxed_slice_items e.0) (boxed_slice_items e.0) ∙ same_component-itself (boxed_slice_items e.0) in rw here refl))

pub no_child : (node : Node) (o : Option TreeNode) → o ≡ Some (node_seen node) → length node.children.entries ≡ 0 → (name : List ℕ) → child_in o name ≡ None
no_child node o e h name = ap (λ (p : Option TreeNode). child_in p name) e ∙ none_in node.children name (empty node.children.entries h)
  where
    empty : (es : List (Key × ℕ)) → length es ≡ 0 → es ≡ []
    empty [] h = refl
    empty (e ∷ es) h = absurd (omega arith)

-- what `unhang` leaves: no node in the slot first, then no child in the folder
pub unhung : (old mid new : Slab Node) (x : Node) (slot : ℕ) → get old slot ≡ Some x → Updates old mid slot None → slot == 0 ≡ false → ((name : List ℕ) → child_in (heap_of old slot) name ≡ None)
    → Childed (heap_of mid) (heap_of new) x.parent (folded (entry_seen x).spelling) None → Pruned (heap_of old) (heap_of new) slot
unhung old mid new x slot at u root bare w =
    let here : heap_of old slot ≡ Some (node_seen x) = ap seen at in
    let there : (s : ℕ) → s == slot ≡ true → heap_of mid s ≡ None = λ s e. ap (heap_of mid) (eqb-eq s slot e) ∙ ap seen u.changed in
    let other : (s : ℕ) → s == slot ≡ false → heap_of mid s ≡ heap_of old s = λ s e. ap seen (u.others s (eqb-neq s slot e)) in
    record {
      bare = bare;
      live = ap is_some here;
      not_root = root;
      names = λ s. elim (s == slot) as (λ b. s == slot ≡ b → name_in (heap_of new s) ≡ (if b then None else name_in (heap_of old s))) [
        | true ↦ λ e. w.names s ∙ ap name_in (there s e)
        | false ↦ λ e. w.names s ∙ ap name_in (other s e)
      ] refl;
      ups = λ s e. w.ups s ∙ ap up_in (other s e);
      entries = λ s. elim (s == slot) as (λ b. s == slot ≡ b → entry_in (heap_of new s) ≡ (if b then None else entry_in (heap_of old s))) [
        | true ↦ λ e. w.entries s ∙ ap entry_in (there s e)
        | false ↦ λ e. w.entries s ∙ ap entry_in (other s e)
      ] refl;
      children = λ s c. (
          let name : name_of_slot (heap_of old) slot ≡ folded (entry_seen x).spelling = rw here refl in
          let up : up_in (heap_of old slot) ≡ x.parent = ap up_in here in
          w.children s c
          ∙ elim (s == slot) as (λ b. s == slot ≡ b → (if s == x.parent && is_same_component (folded (entry_seen x).spelling) c then None else child_in (heap_of mid s) c) ≡ (if s == up_in (heap_of old slot) && is_same_component (name_of_slot (heap_of old) slot) c then None else child_in (heap_of old s) c)) [
            | true ↦ λ e.
                let left : child_in (heap_of mid s) c ≡ None = ap (λ (o : Option TreeNode). child_in o c) (there s e) in
                let right : child_in (heap_of old s) c ≡ None = ap (λ (r : ℕ). child_in (heap_of old r) c) (eqb-eq s slot e) ∙ bare c in
                rw (left, right, name, up) refl
            | false ↦ λ e. rw (other s e, name, up) refl
          ] refl);
    }

pub still_there : (old mid : Slab Node) (slot s : ℕ) → Updates old mid slot None → s == slot ≡ false → is_some (heap_of old s) ≡ true → is_some (heap_of mid s) ≡ true
still_there old mid slot s u e h = ap is_some (ap seen (u.others s (eqb-neq s slot e))) ∙ h

-- the children of a node that was found
pub children_of : (nodes : Slab Node) (slot : ℕ) (node : Node) → get nodes slot ≡ Some node → (c : List ℕ) → child_in (heap_of nodes slot) c ≡ named_in node.children c
children_of nodes slot node at c = ap (λ (o : Option TreeNode). child_in o c) (ap seen at)
