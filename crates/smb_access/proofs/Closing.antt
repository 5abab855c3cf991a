-- What a CLOSE looks at: whether an entry can be deleted, and whether it is to be removed.
use Rattle.std.proofs.Common.{◌≡◌, ◌==◌, ℕ, List, [], ◌∷◌, Bool, true, false, cond, ◌&&◌, ◌||◌, not, Option, None, Some, is_some, filter, slice_get, refl, sym, ap, arith, ◌∙◌}
use Rattle.std.proofs.lemmas.Bool.Decides.{nat_tests}
use Rattle.std.specs.Option.{option_map, option_map_or, option_and_then, is_none}
use Rattle.smb_tree.specs.Content.{Path, Row, Content, numbered}
use Rattle.smb_tree.specs.Parts.{removed, next_child, has_children}
use Rattle.smb_tree.proofs.Apart.{number-from_numbered}
use Rattle.smb_tree.specs.Children.{is_child, first_by_name, child_after}
use Rattle.smb_access.specs.declared.open_row.OpenRow.{OpenRow}
use Rattle.smb_access.specs.Close.{is_deletable, has_mark}
use Rattle.smb_access.specs.Parts.{can_be_deleted, tree_cleared, is_due, is_on_entry}
use Rattle.smb_access.specs.Opens.{has_open, number_of, open_on_entry}
use Rattle.smb_access.proofs.Removed.{leaf}

-- an entry that can be deleted stands
pub deletable_row : (rows : List Row) (n : ℕ) → is_deletable rows n ≡ true → (row : Row) × (numbered rows n ≡ Some row) × (can_be_deleted rows row ≡ true)
deletable_row rows n h =
    elim (numbered rows n) as (λ o. option_map_or (can_be_deleted rows) o false ≡ true → (row : Row) × (o ≡ Some row) × (can_be_deleted rows row ≡ true)) [
      | None ↦ λ q. absurd (cc)
      | Some row ↦ λ q. (row, refl, q)
    ] h

-- a folder has no first child exactly where it has no children
pub none_first : (rows : List Row) (path : Path) → is_none (next_child rows path None) ≡ not (has_children rows path)
none_first [] path = refl
none_first (x ∷ rows) path =
    elim (is_child path x) as (λ b. is_none (first_by_name (cond (b && true) (x ∷ filter (λ row. is_child path row && true) rows) (filter (λ row. is_child path row && true) rows))) ≡ not (b || has_children rows path)) [ true ↦ refl | false ↦ none_first rows path ]

pub none_mapped : (o : Option Row) → is_none (option_map (λ (r : Row). r.1.number) o) ≡ is_none o
none_mapped None = refl
none_mapped (Some row) = refl

none_first_of : (rows : List Row) (n : ℕ) (o : Option Row) → numbered rows n ≡ o → is_some o ≡ true → (not (n == 1) && is_none (option_and_then (λ (folder : Row). option_map (λ (row : Row). row.1.number) (next_child rows folder.0 None)) o)) ≡ option_map_or (can_be_deleted rows) o false
none_first_of rows n None e s = absurd (cc)
none_first_of rows n (Some row) e s =
    let number : row.1.number ≡ n = number-from_numbered rows row n e in
    let none : is_none (option_map (λ (r : Row). r.1.number) (next_child rows row.0 None)) ≡ not (has_children rows row.0) = none_mapped (next_child rows row.0 None) ∙ none_first rows row.0 in
    rw (number, none) refl

pub deletable_told : (rows : List Row) (n : ℕ) → is_some (numbered rows n) ≡ true → (not (n == 1) && is_none (child_after rows n None)) ≡ is_deletable rows n
deletable_told rows n s = none_first_of rows n (numbered rows n) refl s

-- what the code looks at of an entry's opens
pub first_open : (opens : List OpenRow) (entry : ℕ) → is_some (open_on_entry opens entry 0) ≡ has_open opens entry
first_open [] entry = refl
first_open (o ∷ opens) entry =
    elim (o.entry == entry) as (λ b. is_some (number_of (slice_get (cond b (o ∷ filter (is_on_entry entry) opens) (filter (is_on_entry entry) opens)) 0)) ≡ (b || has_open opens entry)) [ true ↦ refl | false ↦ first_open opens entry ]

off : (b : Bool) → (b && not true) ≡ false
off true = refl
off false = refl

pub due_not : (tree : Content) (opens : List OpenRow) (n : ℕ) (first : Option ℕ) → first ≡ open_on_entry opens n 0 → is_some first ≡ true → is_due tree opens n ≡ false
due_not tree opens n first e s =
    let has : has_open opens n ≡ true = sym (first_open opens n) ∙ ap is_some (sym e) ∙ s in
    rw has (off (has_mark tree.rows n))

pub due_so : (tree : Content) (opens : List OpenRow) (n : ℕ) (first : Option ℕ) → first ≡ open_on_entry opens n 0 → is_some first ≡ false → has_mark tree.rows n ≡ true → is_due tree opens n ≡ true
due_so tree opens n first e s m =
    let has : has_open opens n ≡ false = sym (first_open opens n) ∙ ap is_some (sym e) ∙ s in
    rw (has, m) refl

pub cleared_not : (tree : Content) (opens : List OpenRow) (n : ℕ) → is_due tree opens n ≡ false → tree ≡ tree_cleared tree opens n
cleared_not tree opens n e = rw e refl

pub cleared_so : (tree : Content) (opens : List OpenRow) (n : ℕ) → is_due tree opens n ≡ true → removed tree n ≡ tree_cleared tree opens n
cleared_so tree opens n e = rw e refl

pub deletable_not_root : (rows : List Row) (n : ℕ) → is_deletable rows n ≡ true → n ≡ 1 → ⊥
deletable_not_root rows n h e =
    let d = deletable_row rows n h in
    let number : d.0.1.number ≡ n = number-from_numbered rows d.0 n d.1 in
    let leaf_of = leaf rows d.0 d.2 in
    grind (arith, nat_tests, number, e, leaf_of.number)

pub root_not_deletable : (rows : List Row) (n : ℕ) → n ≡ 1 → false ≡ is_deletable rows n
root_not_deletable rows n e =
    elim (is_deletable rows n) as (λ b. is_deletable rows n ≡ b → false ≡ b) [ true ↦ λ d. absurd (deletable_not_root rows n d e) | false ↦ λ _. refl ] refl

none_is : (child : Option ℕ) (none : Bool) → is_some child ≡ not none → none ≡ is_none child
none_is None true e = refl
none_is None false e = absurd (grind (arith, e))
none_is (Some n) true e = absurd (grind (arith, e))
none_is (Some n) false e = refl

pub deletable_by_child : (rows : List Row) (n : ℕ) (child : Option ℕ) (none : Bool) → is_some (numbered rows n) ≡ true → (n ≡ 1 → ⊥) → child ≡ child_after rows n None → is_some child ≡ not none → none ≡ is_deletable rows n
deletable_by_child rows n child none s r c e =
    let other : n == 1 ≡ false = grind (arith, nat_tests, r) in
    let told : (not (n == 1) && is_none child) ≡ is_deletable rows n = ap (λ (o : Option ℕ). not (n == 1) && is_none o) c ∙ deletable_told rows n s in
    let here : is_none child ≡ is_deletable rows n = rw other at told in
    none_is child none e ∙ here
