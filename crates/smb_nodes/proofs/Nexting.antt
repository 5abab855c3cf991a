-- The child of a node that comes next.
use Rattle.std.proofs.Common.{◌≡◌, ℕ, ◌⊎◌, inl, inr, Bool, true, false, ◌&&◌, ◌==◌, if◌then◌else◌, List, [], ◌∷◌, Option, None, Some, is_some, refl, sym, ap, ◌∙◌, arith, subst}
use Rattle.std.specs.List.{filter}
use Rattle.std.specs.Ordering.{nat_cmp, is_lt, is_gt, ordering_reverse}
use Rattle.std.specs.declared.cmp.Ordering.{Ordering}
use Rattle.std.specs.declared.cmp.Ordering.TheVariants.{Less, Equal, Greater}
use Rattle.std.specs.Cmp.Lexicographic.{slice_cmp}
use Rattle.std.proofs.lemmas.Bool.{and_parts, and_from}
use Rattle.std.proofs.lemmas.Cmp.{nat_list_cmp_total}
use Rattle.smb_tree.specs.Entries.{last_part}
use Rattle.smb_tree.specs.Content.{Row}
use Rattle.smb_tree.specs.Children.{name_of, is_child, is_before, first_by_name}
use Rattle.smb_tree.specs.Parts.{is_after, first_of_two, next_child}
use Rattle.smb_tree.proofs.Lasts.{last_of}
use Rattle.smb_tree.proofs.Orders.{before_same}
use Rattle.smb_nodes.specs.Nodes.{Heap, child_in, levels, row_in, rows_in, has_slot, Live, IsTree}
use Rattle.smb_nodes.specs.Changes.{IsNext}
use Rattle.smb_nodes.proofs.Walks.{live-name}
use Rattle.smb_nodes.proofs.Growing.{clash, eqb-eq}
use Rattle.smb_nodes.proofs.Childing.{child_is, child_row, child_of_folder}

lt_reverse : (o : Ordering) → is_lt (ordering_reverse o) ≡ is_gt o
lt_reverse Less = refl
lt_reverse Equal = refl
lt_reverse Greater = refl

pub before_behind : (a b : List ℕ) → is_before a b ≡ is_gt (slice_cmp nat_cmp b a)
before_behind a b = ap is_lt (nat_list_cmp_total.antisymm a b) ∙ lt_reverse (slice_cmp nat_cmp b a)

some_equal : {A : Type 0} {a b : A} → Some a ≡ Some b → a ≡ b
some_equal h = cc

-- an entry is one of a list
abbrev Has : List Row → Row → Type 0
Has [] r = ⊥
Has (x ∷ xs) r = (x ≡ r) ⊎ Has xs r

is_first : (y r : Row) (o : Option Row) → Some (first_of_two y o) ≡ Some r → (y ≡ r) ⊎ (o ≡ Some r)
is_first y r None h = inl (some_equal h)
is_first y r (Some o) h =
    elim (is_before (name_of o) (name_of y)) as (λ b. Some (if b then o else y) ≡ Some r → (y ≡ r) ⊎ (Some o ≡ Some r)) [
      | true ↦ λ k. inr k
      | false ↦ λ k. inl (some_equal k)
    ] h

has_first : (rows : List Row) (r : Row) → first_by_name rows ≡ Some r → Has rows r
has_first [] r h = absurd (let wrong : None ≡ Some r = h in cc)
has_first (y ∷ rows) r h =
    elim (is_first y r (first_by_name rows) h) [ inl k ↦ inl k | inr k ↦ inr (has_first rows r k) ]

has_filter : (p : Row → Bool) (rows : List Row) (r : Row) → Has (filter p rows) r → Has rows r × (p r ≡ true)
has_filter p [] r h = absurd h
has_filter p (x ∷ rows) r h =
    elim (p x) as (λ b. p x ≡ b → Has (if b then x ∷ filter p rows else filter p rows) r → Has (x ∷ rows) r × (p r ≡ true)) [
      | true ↦ λ e k. elim k [
        | inl s ↦ (inl s, subst (λ (y : Row). p y ≡ true) s e)
        | inr s ↦ (let w = has_filter p rows r s in (inr w.0, w.1))
      ]
      | false ↦ λ e k. (let w = has_filter p rows r k in (inr w.0, w.1))
    ] refl h

filter_has : (p : Row → Bool) (rows : List Row) (r : Row) → Has rows r → p r ≡ true → Has (filter p rows) r
filter_has p [] r h e = absurd h
filter_has p (x ∷ rows) r h e =
    elim (p x) as (λ b. p x ≡ b → Has (if b then x ∷ filter p rows else filter p rows) r) [
      | true ↦ λ f. elim h [ inl s ↦ inl s | inr s ↦ inr (filter_has p rows r s e) ]
      | false ↦ λ f. elim h [
        | inl s ↦ absurd (let wrong : false ≡ true = sym f ∙ ap p s ∙ e in cc)
        | inr s ↦ filter_has p rows r s e
      ]
    ] refl

-- of rows one before which none comes, and which is the only one of its name
least_first : (rows : List Row) (r : Row) → Has rows r → ((x : Row) → Has rows x → is_before (name_of x) (name_of r) ≡ false) → ((x : Row) → Has rows x → name_of x ≡ name_of r → x ≡ r) → first_by_name rows ≡ Some r
least_first [] r h least only = absurd h
least_first (x ∷ rows) r h least only =
    elim h [
      | inl s ↦ elim (first_by_name rows) as (λ o. first_by_name rows ≡ o → Some (first_of_two x o) ≡ Some r) [
        | None ↦ λ e. ap Some s
        | Some o ↦ λ e. (
            let later : is_before (name_of o) (name_of x) ≡ false = ap (λ (y : Row). is_before (name_of o) (name_of y)) s ∙ least o (inr (has_first rows o e)) in
            rw later (ap Some s)
            )
      ] refl
      | inr s ↦ (
          let rest = least_first rows r s (λ y k. least y (inr k)) (λ y k. only y (inr k)) in
          ap (λ (o : Option Row). Some (first_of_two x o)) rest
          ∙ elim (is_before (name_of r) (name_of x)) as (λ b. is_before (name_of r) (name_of x) ≡ b → Some (if b then r else x) ≡ Some r) [
            | true ↦ λ f. refl
            | false ↦ λ f. ap Some (only x (inl refl) (before_same (name_of x) (name_of r) (least x (inl refl)) f))
          ] refl
          )
    ]

module _ (g : Heap) (es : List (ℕ × ℕ)) (next : ℕ) (t : IsTree g es next) (s : ℕ) (live : is_some (g s) ≡ true) (after : Option (List ℕ)) where
  abbrev passes : Row → Bool
  passes row = is_child (row_in g levels s).0 row && is_after after (name_of row)

  row_slot : (list : List (ℕ × ℕ)) → Live g list → (x : Row) → Has (rows_in g levels list) x → (u : ℕ) × (is_some (g u) ≡ true) × (row_in g levels u ≡ x)
  row_slot [] l x h = absurd h
  row_slot (e ∷ list) l x h = elim h [ inl k ↦ (e.1, l.0, k) | inr k ↦ row_slot list l.1 x k ]

  slot_row : (list : List (ℕ × ℕ)) (u : ℕ) → has_slot list u ≡ true → Has (rows_in g levels list) (row_in g levels u)
  slot_row [] u h = cc
  slot_row (e ∷ list) u h =
      elim (e.1 == u) as (λ b. e.1 == u ≡ b → Has (rows_in g levels (e ∷ list)) (row_in g levels u)) [
        | true ↦ λ z. inl (ap (row_in g levels) (eqb-eq e.1 u z))
        | false ↦ λ z. inr (slot_row list u (grind (arith, h, z)))
      ] refl

  -- a row that passes is a child's
  passing : (x : Row) → Has (filter passes (rows_in g levels es)) x → (u : ℕ) × (child_in (g s) (name_of x) ≡ Some u) × (row_in g levels u ≡ x) × (is_after after (name_of x) ≡ true)
  passing x h =
      let w = has_filter passes (rows_in g levels es) x h in
      let both = and_parts (is_child (row_in g levels s).0 x) (is_after after (name_of x)) w.1 in
      let v = row_slot es t.live x w.0 in
      let child : is_child (row_in g levels s).0 (row_in g levels v.0) ≡ true = ap (is_child (row_in g levels s).0) v.2 ∙ both.0 in
      (v.0, ap (λ (y : Row). child_in (g s) (name_of y)) (sym v.2) ∙ child_of_folder g es next t s live v.0 v.1 child, v.2, both.1)

  pub next_row : (u : ℕ) → IsNext (g s) after u → next_child (rows_in g levels es) (row_in g levels s).0 after ≡ Some (row_in g levels u)
  next_row u w =
      let path = child_row g es next t s live u w.name w.is in
      let name : name_of (row_in g levels u) ≡ w.name = ap last_part path ∙ last_of (row_in g levels s).0 w.name in
      let there : is_some (g u) ≡ true = live-name (g u) w.name (t.tied.down s u w.name w.is).0 in
      let child = child_is (row_in g levels s).0 w.name (row_in g levels u) path in
      let follows : is_after after (name_of (row_in g levels u)) ≡ true = ap (is_after after) name ∙ w.follows in
      let one = filter_has passes (rows_in g levels es) (row_in g levels u) (slot_row es u (t.complete u there)) (and_from (is_child (row_in g levels s).0 (row_in g levels u)) (is_after after (name_of (row_in g levels u))) child follows) in
      least_first (filter passes (rows_in g levels es)) (row_in g levels u) one
      (λ x h. (let v = passing x h in ap (is_before (name_of x)) name ∙ w.least (name_of x) (ap is_some v.1) v.3))
      (λ x h e. (let v = passing x h in let same : v.0 ≡ u = some_equal (sym v.1 ∙ ap (child_in (g s)) (e ∙ name) ∙ w.is) in sym v.2 ∙ ap (row_in g levels) same))

  pub no_next : ((name : List ℕ) → is_after after name ≡ true → child_in (g s) name ≡ None) → next_child (rows_in g levels es) (row_in g levels s).0 after ≡ None
  no_next none =
      elim (first_by_name (filter passes (rows_in g levels es))) as (λ o. first_by_name (filter passes (rows_in g levels es)) ≡ o → o ≡ None) [
        | None ↦ λ e. refl
        | Some x ↦ λ e. absurd (let v = passing x (has_first (filter passes (rows_in g levels es)) x e) in clash (child_in (g s) (name_of x)) v.0 v.1 (none (name_of x) v.3))
      ] refl
