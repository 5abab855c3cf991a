-- The names of stored entries, and the folders in which they stand.
use Rattle.std.proofs.Common.{◌≡◌, ℕ, zero, suc, ◌+◌, ◌-◌, ◌<◌, ◌≤◌, Bool, true, false, not, ◌&&◌, if◌then◌else◌, nat_lt, nat_le, List, [], ◌∷◌, ◌++◌, length, take, drop, get_or, Option, None, Some, refl, sym, ap, ◌∙◌, arith, add-one}
use Rattle.std.specs.List.{filter, list_all}
use Rattle.std.specs.Option.{option_map}
use Rattle.std.proofs.lemmas.Bool.{leb-true, le-leb, and_parts, and_from, and_left, and_right}
use Rattle.std.proofs.lemmas.Bool.Decides.{nat_tests}
use Rattle.std.proofs.lemmas.List.{length-map, get_or-map, map-append, take_more, take_all}
use Rattle.std.proofs.lemmas.List.Sums.{AllPass-from_list_all}
use Rattle.smb_wire.specs.Names.{folded, is_same_name}
use Rattle.smb_wire.specs.Paths.{components, folded_path, is_lawful_component, is_lawful_unit, is_dots}
use Rattle.smb_tree.specs.declared.stored.Stored.{Stored}
use Rattle.smb_tree.specs.Entries.{last_part}
use Rattle.smb_tree.specs.Content.{Path, Row, is_same_path, parent}
use Rattle.smb_tree.specs.Children.{name_of, is_child, first_by_name}
use Rattle.smb_tree.specs.Parts.{has_children, is_after, next_child}
use Rattle.smb_tree.specs.Plain.{row_of, rows_of, key_of, nearer}
use Rattle.smb_tree.proofs.Keys.{same_path-name, parent_folded}
use Rattle.smb_tree.proofs.Lasts.{split-some}
use Rattle.smb_tree.proofs.Orders.{first_key_more}

-- a text that has a component has a unit
some_components : (us : List ℕ) → nat_lt 0 (length (folded_path (components us))) ≡ nat_lt 0 (length us)
some_components [] = refl
some_components (u ∷ us) =
    let some = split-some (u ∷ us) in let long = length-map (components (u ∷ us)) folded in grind (arith, nat_tests, some, long)

-- a stored entry stands in a folder where its path has components, and the text around its last one is the folder's name
pub stands_in : (us around folder : List ℕ) (b : Bool) → components around ≡ parent (components us) → b ≡ is_same_name around folder → (nat_lt 0 (length us) && b) ≡ (nat_lt 0 (length (folded_path (components us))) && is_same_path (parent (folded_path (components us))) (folded_path (components folder)))
stands_in us around folder b e f =
    let path : folded_path (components around) ≡ parent (folded_path (components us)) = ap folded_path e ∙ parent_folded (components us) (length (components us) - 1) refl in
    let same : b ≡ is_same_path (parent (folded_path (components us))) (folded_path (components folder)) =
    f ∙ sym (same_path-name around folder) ∙ ap (λ (p : Path). is_same_path p (folded_path (components folder))) path in
    ap (λ (c : Bool). c && b) (sym (some_components us)) ∙ ap (λ (c : Bool). nat_lt 0 (length (folded_path (components us))) && c) same

-- the last component of a lawful path has at most 255 units
pub last_short : (parts : List (List ℕ)) → list_all is_lawful_component parts ≡ true → length (last_part parts) ≤ 255
last_short [] h = omega arith
last_short (p ∷ parts) h =
    let last : List ℕ = last_part (p ∷ parts) in
    let lawful : is_lawful_component last ≡ true = AllPass-from_list_all is_lawful_component (p ∷ parts) h (length (p ∷ parts) - 1) [] (omega arith) in
    let a = and_parts (nat_le 1 (length last) && nat_le (length last) 255 && list_all is_lawful_unit last) (not (is_dots last)) lawful in
    let b = and_parts (nat_le 1 (length last) && nat_le (length last) 255) (list_all is_lawful_unit last) a.0 in
    let c = and_parts (nat_le 1 (length last)) (nat_le (length last) 255) b.0 in
    leb-true (length last) 255 c.1

pub short_test : (last : List ℕ) (parts : List (List ℕ)) → last ≡ last_part parts → list_all is_lawful_component parts ≡ true → nat_le (length last) 255 ≡ true
short_test last parts e h = le-leb (length last) 255 (let short = last_short parts h in rw e short)

-- the last component of a folded path is folded
pub last_folded : (parts : List (List ℕ)) → last_part (folded_path parts) ≡ folded (last_part parts)
last_folded [] = refl
last_folded (p ∷ parts) =
    let long : length (folded_path (p ∷ parts)) ≡ length (p ∷ parts) = length-map (p ∷ parts) folded in
    ap (λ (n : ℕ). get_or (folded_path (p ∷ parts)) (n - 1) []) long ∙ get_or-map folded (p ∷ parts) (length (p ∷ parts) - 1) [] [] (omega arith)

-- the search of a child goes on behind an entry that is none
pub child_found : (xs : List Stored) (i : ℕ) (x : Stored) (folder : Path) → i < length xs → x ≡ get_or xs i x → is_child folder (row_of x) ≡ true → has_children (rows_of (drop i xs)) folder ≡ true
child_found [] i x folder l h e = absurd (omega arith)
child_found (y ∷ ys) zero x folder l h e = grind (arith, h, e)
child_found (y ∷ ys) (suc i) x folder l h e = child_found ys i x folder (omega arith) h e

pub child_next : (xs : List Stored) (i : ℕ) (x : Stored) (folder : Path) → i < length xs → x ≡ get_or xs i x → is_child folder (row_of x) ≡ false → has_children (rows_of (drop (i + 1) xs)) folder ≡ has_children (rows_of (drop i xs)) folder
child_next [] i x folder l h e = absurd (omega arith)
child_next (y ∷ ys) zero x folder l h e = grind (arith, h, e)
child_next (y ∷ ys) (suc i) x folder l h e = rw (add-one (suc i)) (rw (add-one i) at (child_next ys i x folder (omega arith) h e))

filter-push : (p : Row → Bool) (rows : List Row) (r : Row) → filter p (rows ++ r ∷ []) ≡ (if p r then filter p rows ++ r ∷ [] else filter p rows)
filter-push p [] r = refl
filter-push p (x ∷ rows) r = grind (arith, filter-push p rows r)

-- the child that was found, by its name and number, among the first entries
abbrev pub found_among : List Stored → ℕ → Path → Option (List ℕ) → Option (List ℕ × ℕ)
found_among xs i folder after = option_map key_of (next_child (rows_of (take i xs)) folder after)

rows_more : (xs : List Stored) (i : ℕ) (x : Stored) → i < length xs → x ≡ get_or xs i x → rows_of (take (i + 1) xs) ≡ rows_of (take i xs) ++ row_of x ∷ []
rows_more xs i x l h =
    ap rows_of (take_more xs i x l) ∙ map-append row_of (take i xs) (get_or xs i x ∷ []) ∙ ap (λ (y : Stored). rows_of (take i xs) ++ row_of y ∷ []) (sym h)

among_more : (xs : List Stored) (i : ℕ) (x : Stored) (folder : Path) (after : Option (List ℕ)) (b : Bool) → i < length xs → x ≡ get_or xs i x → (is_child folder (row_of x) && is_after after (name_of (row_of x))) ≡ b → found_among xs (i + 1) folder after ≡ (if b then nearer (found_among xs i folder after) (name_of (row_of x)) x.number else found_among xs i folder after)
among_more xs i x folder after b l h e =
    let p : Row → Bool = λ row. is_child folder row && is_after after (name_of row) in
    ap (λ (rows : List Row). option_map key_of (next_child rows folder after)) (rows_more xs i x l h)
    ∙ ap (λ (rows : List Row). option_map key_of (first_by_name rows)) (filter-push p (rows_of (take i xs)) (row_of x))
    ∙ ap (λ (c : Bool). option_map key_of (first_by_name (if c then filter p (rows_of (take i xs)) ++ row_of x ∷ [] else filter p (rows_of (take i xs))))) e
    ∙ elim b as (λ c. option_map key_of (first_by_name (if c then filter p (rows_of (take i xs)) ++ row_of x ∷ [] else filter p (rows_of (take i xs)))) ≡ (if c then nearer (found_among xs i folder after) (name_of (row_of x)) x.number else found_among xs i folder after)) [
      | true ↦ first_key_more (filter p (rows_of (take i xs))) (row_of x)
      | false ↦ refl
    ]

pub among_taken : (xs : List Stored) (i : ℕ) (x : Stored) (folder : Path) (after : Option (List ℕ)) → i < length xs → x ≡ get_or xs i x → is_child folder (row_of x) ≡ true → is_after after (name_of (row_of x)) ≡ true → found_among xs (i + 1) folder after ≡ nearer (found_among xs i folder after) (name_of (row_of x)) x.number
among_taken xs i x folder after l h e f = among_more xs i x folder after true l h (and_from (is_child folder (row_of x)) (is_after after (name_of (row_of x))) e f)

pub among_early : (xs : List Stored) (i : ℕ) (x : Stored) (folder : Path) (after : Option (List ℕ)) → i < length xs → x ≡ get_or xs i x → is_after after (name_of (row_of x)) ≡ false → found_among xs (i + 1) folder after ≡ found_among xs i folder after
among_early xs i x folder after l h f = among_more xs i x folder after false l h (and_right (is_child folder (row_of x)) (is_after after (name_of (row_of x))) f)

pub among_other : (xs : List Stored) (i : ℕ) (x : Stored) (folder : Path) (after : Option (List ℕ)) → i < length xs → x ≡ get_or xs i x → is_child folder (row_of x) ≡ false → found_among xs (i + 1) folder after ≡ found_among xs i folder after
among_other xs i x folder after l h e = among_more xs i x folder after false l h (and_left (is_child folder (row_of x)) (is_after after (name_of (row_of x))) e)

-- the number of what was found among all
key_number : (o : Option Row) → option_map (λ (k : List ℕ × ℕ). k.1) (option_map key_of o) ≡ option_map (λ row. row.1.number) o
key_number None = refl
key_number (Some row) = refl

pub among_all : (xs : List Stored) (i : ℕ) (folder : Path) (after : Option (List ℕ)) → length xs ≤ i → option_map (λ (k : List ℕ × ℕ). k.1) (found_among xs i folder after) ≡ option_map (λ row. row.1.number) (next_child (rows_of xs) folder after)
among_all xs i folder after l =
    ap (λ (ys : List Stored). option_map (λ (k : List ℕ × ℕ). k.1) (option_map key_of (next_child (rows_of ys) folder after))) (take_all i xs l)
    ∙ key_number (next_child (rows_of xs) folder after)
