-- The children of a folder, asked for one after the other, are all of them in the order of their names.
use Rattle.std.proofs.Common.{◌≡◌, ℕ, zero, suc, ◌+◌, ◌-◌, ◌<◌, ◌≤◌, ◌⊎◌, Bool, true, false, ◌&&◌, ◌||◌, if◌then◌else◌, nat_lt, nat_eq, is_some, List, [], ◌∷◌, ◌++◌, length, map, Option, None, Some, refl, sym, ap, ◌∙◌, arith, inl, inr}
use Rattle.std.specs.List.{filter}
use Rattle.std.specs.Option.{option_map, option_and_then}
use Rattle.std.specs.Cmp.Lexicographic.{pointwise}
use Rattle.std.proofs.lemmas.Bool.{ltb-true, and_parts, and_from, and_right}
use Rattle.std.proofs.lemmas.Bool.Decides.{nat_tests}
use Rattle.std.proofs.lemmas.List.{take_more, take_all, length_push}
use Rattle.std.proofs.lemmas.Slice.Eq.{bytes_eq-Decides}
use Rattle.smb_tree.specs.Entries.{last_part}
use Rattle.smb_tree.specs.Content.{Path, Row, is_same_path, entry_at, numbered, parent}
use Rattle.smb_tree.specs.Laws.{AreApart}
use Rattle.smb_tree.specs.Children.{name_of, is_child, is_before, first_by_name, child_after}
use Rattle.smb_tree.specs.Parts.{is_after, children_after, first_of_two, next_child, and_on}
use Rattle.smb_tree.specs.ChildLaws.{in_turn, AreInOrder, is_among}
use Rattle.smb_tree.proofs.Keys.{same_path-eq, same_path-of_eq}
use Rattle.smb_tree.proofs.Lasts.{last_of, parent_of, one_more}
use Rattle.smb_tree.proofs.Orders.{before_trans, before_not, before_itself, before_back, before_same}

-- an entry is one of a list
abbrev Has : List Row → Row → Type 0
Has [] r = ⊥
Has (x ∷ xs) r = (x ≡ r) ⊎ Has xs r

is_first : (y r : Row) (o : Option Row) → Some (first_of_two y o) ≡ Some r → (y ≡ r) ⊎ (o ≡ Some r)
is_first y r None h = inl cc
is_first y r (Some o) h =
    elim (is_before (name_of o) (name_of y)) as (λ b. Some (if b then o else y) ≡ Some r → (y ≡ r) ⊎ (Some o ≡ Some r)) [
      | true ↦ λ k. inr k
      | false ↦ λ k. inl cc
    ] h

has_first : (rows : List Row) (r : Row) → first_by_name rows ≡ Some r → Has rows r
has_first [] r h = absurd (cc)
has_first (y ∷ rows) r h =
    elim (is_first y r (first_by_name rows) h) [ inl k ↦ inl k | inr k ↦ inr (has_first rows r k) ]

has_filter : (p : Row → Bool) (rows : List Row) (r : Row) → Has (filter p rows) r → Has rows r × (p r ≡ true)
has_filter p [] r h = absurd h
has_filter p (x ∷ rows) r h =
    elim (p x) as (λ b. p x ≡ b → Has (if b then x ∷ filter p rows else filter p rows) r → Has (x ∷ rows) r × (p r ≡ true)) [
      | true ↦ λ e k. elim k [
        | inl s ↦ (inl s, sym (ap p s) ∙ e)
        | inr s ↦ (let w = has_filter p rows r s in (inr w.0, w.1))
      ]
      | false ↦ λ e k. (let w = has_filter p rows r k in (inr w.0, w.1))
    ] refl h

filter_has : (p : Row → Bool) (rows : List Row) (r : Row) → Has rows r → p r ≡ true → Has (filter p rows) r
filter_has p [] r h e = absurd h
filter_has p (x ∷ rows) r h e =
    elim (p x) as (λ b. p x ≡ b → Has (if b then x ∷ filter p rows else filter p rows) r) [
      | true ↦ λ f. elim h [ inl s ↦ inl s | inr s ↦ inr (filter_has p rows r s e) ]
      | false ↦ λ f. elim h [ inl s ↦ absurd (let w : p r ≡ p x = sym (ap p s) in cc) | inr s ↦ filter_has p rows r s e ]
    ] refl

-- an entry that is one of them is the one of its number and stands at its path
numbered_has : (rows : List Row) (r : Row) → AreApart rows → Has rows r → numbered rows r.1.number ≡ Some r
numbered_has [] r a h = absurd h
numbered_has (x ∷ rows) r a h =
    elim h [
      | inl s ↦ (let n : x.1.number ≡ r.1.number = ap (λ (y : Row). y.1.number) s in grind (arith, nat_tests, n, s))
      | inr s ↦ (let w = numbered_has rows r a.2 s in grind (arith, nat_tests, w, a.1))
    ]

stands_has : (rows : List Row) (r : Row) → Has rows r → is_some (entry_at rows r.0) ≡ true
stands_has [] r h = absurd h
stands_has (x ∷ rows) r h =
    elim h [
      | inl s ↦ (let same : is_same_path x.0 r.0 ≡ true = same_path-of_eq x.0 r.0 (ap (λ (y : Row). y.0) s) in grind (arith, same))
      | inr s ↦ (let w = stands_has rows r s in grind (arith, w))
    ]

has_stands : (rows : List Row) (path : Path) → is_some (entry_at rows path) ≡ true → (r : Row) × Has rows r × (r.0 ≡ path)
has_stands [] path h = absurd (cc)
has_stands (x ∷ rows) path h =
    elim (is_same_path x.0 path) as (λ b. is_same_path x.0 path ≡ b → is_some (if b then Some x.1 else entry_at rows path) ≡ true → (r : Row) × Has (x ∷ rows) r × (r.0 ≡ path)) [
      | true ↦ λ e k. (x, inl refl, same_path-eq x.0 path e)
      | false ↦ λ e k. (let w = has_stands rows path k in (w.0, inr w.1, w.2))
    ] refl h

-- no name is before that of the first
least_two : (y x o r : Row) → is_before (name_of x) (name_of o) ≡ false → Some (first_of_two y (Some o)) ≡ Some r → is_before (name_of x) (name_of r) ≡ false
least_two y x o r h e =
    elim (is_before (name_of o) (name_of y)) as (λ b. is_before (name_of o) (name_of y) ≡ b → Some (if b then o else y) ≡ Some r → is_before (name_of x) (name_of r) ≡ false) [
      | true ↦ λ f k. (let s : o ≡ r = cc in sym (ap (λ (z : Row). is_before (name_of x) (name_of z)) s) ∙ h)
      | false ↦ λ f k. (let s : y ≡ r = cc in sym (ap (λ (z : Row). is_before (name_of x) (name_of z)) s) ∙ before_not (name_of x) (name_of o) (name_of y) h f)
    ] refl e

least_itself : (y r : Row) (o : Option Row) → Some (first_of_two y o) ≡ Some r → is_before (name_of y) (name_of r) ≡ false
least_itself y r None e = let s : y ≡ r = cc in sym (ap (λ (z : Row). is_before (name_of y) (name_of z)) s) ∙ before_itself (name_of y)
least_itself y r (Some o) e =
    elim (is_before (name_of o) (name_of y)) as (λ b. is_before (name_of o) (name_of y) ≡ b → Some (if b then o else y) ≡ Some r → is_before (name_of y) (name_of r) ≡ false) [
      | true ↦ λ f k. (let s : o ≡ r = cc in sym (ap (λ (z : Row). is_before (name_of y) (name_of z)) s) ∙ before_back (name_of o) (name_of y) f)
      | false ↦ λ f k. (let s : y ≡ r = cc in sym (ap (λ (z : Row). is_before (name_of y) (name_of z)) s) ∙ before_itself (name_of y))
    ] refl e

least : (rows : List Row) (r x : Row) → first_by_name rows ≡ Some r → Has rows x → is_before (name_of x) (name_of r) ≡ false
least [] r x e h = absurd h
least (y ∷ []) r x e h =
    elim h [ inl s ↦ sym (ap (λ (z : Row). is_before (name_of z) (name_of r)) s) ∙ least_itself y r None e | inr s ↦ absurd s ]
least (y ∷ z ∷ rows) r x e h =
    elim h [
      | inl s ↦ sym (ap (λ (w : Row). is_before (name_of w) (name_of r)) s) ∙ least_itself y r (first_by_name (z ∷ rows)) e
      | inr s ↦ least_two y x (first_of_two z (first_by_name rows)) r (least (z ∷ rows) (first_of_two z (first_by_name rows)) x refl s) e
    ]

none_left : (rows : List Row) → first_by_name rows ≡ None → rows ≡ []
none_left [] h = refl
none_left (y ∷ rows) h = cc

-- a path is a child's where it is the folder's with a name behind it
child_path : (folder : Path) (r : Row) → is_child folder r ≡ true → r.0 ≡ folder ++ name_of r ∷ []
child_path folder r h =
    let both = and_parts (nat_lt 0 (length r.0)) (is_same_path (parent r.0) folder) h in
    let some : 0 < length r.0 = ltb-true 0 (length r.0) both.0 in
    let last : ℕ = length r.0 - 1 in
    let end : last + 1 ≡ length r.0 = omega arith in
    sym (take_all (last + 1) r.0 (omega arith)) ∙ take_more r.0 last [] (omega arith) ∙ ap (λ (p : Path). p ++ name_of r ∷ []) (same_path-eq (parent r.0) folder both.1)

path_child : (folder : Path) (name : List ℕ) (r : Row) → r.0 ≡ folder ++ name ∷ [] → (is_child folder r ≡ true) × (name_of r ≡ name)
path_child folder name r h =
    let around : parent r.0 ≡ folder = ap parent h ∙ parent_of folder name in
    let same : is_same_path (parent r.0) folder ≡ true = same_path-of_eq (parent r.0) folder around in
    let long = ap (λ (p : Path). length p) h in
    let more = one_more folder name in
    let some : nat_lt 0 (length r.0) ≡ true = rw h (grind (arith, nat_tests, length_push folder name)) in
    (grind (arith, same, some), ap last_part h ∙ last_of folder name)

-- fewer follow a name that is one of those that follow another
filter_le : (p q : Row → Bool) (rows : List Row) → ((x : Row) → q x ≡ true → p x ≡ true) → length (filter q rows) ≤ length (filter p rows)
filter_le p q [] h = omega arith
filter_le p q (x ∷ rows) h = grind (arith, h x, filter_le p q rows h)

filter_less : (p q : Row → Bool) (rows : List Row) (r : Row) → ((x : Row) → q x ≡ true → p x ≡ true) → Has rows r → p r ≡ true → q r ≡ false → length (filter q rows) < length (filter p rows)
filter_less p q [] r h k e f = absurd k
filter_less p q (x ∷ rows) r h k e f =
    elim k [
      | inl s ↦ (let px : p x ≡ true = ap p s ∙ e in let qx : q x ≡ false = ap q s ∙ f in grind (arith, px, qx, filter_le p q rows h))
      | inr s ↦ grind (arith, h x, filter_less p q rows r h s e f)
    ]

after_trans : (after : Option (List ℕ)) (a b : List ℕ) → is_after after a ≡ true → is_before a b ≡ true → is_after after b ≡ true
after_trans None a b h k = refl
after_trans (Some o) a b h k = before_trans o a b h k

-- a child that follows a name
abbrev passes : Path → Option (List ℕ) → Row → Bool
passes folder after row = is_child folder row && is_after after (name_of row)

narrower : (folder : Path) (after : Option (List ℕ)) (r : Row) → is_after after (name_of r) ≡ true → (x : Row) → passes folder (Some (name_of r)) x ≡ true → passes folder after x ≡ true
narrower folder after r h x k =
    let both = and_parts (is_child folder x) (is_before (name_of r) (name_of x)) k in
    and_from (is_child folder x) (is_after after (name_of x)) both.0 (after_trans after (name_of r) (name_of x) h both.1)

record IsNext (rows : List Row) (folder : Path) (after : Option (List ℕ)) (r : Row) : Type 0 where
  one : Has rows r
  child : is_child folder r ≡ true
  follows : is_after after (name_of r) ≡ true

next_is : (rows : List Row) (folder : Path) (after : Option (List ℕ)) (r : Row) → next_child rows folder after ≡ Some r → IsNext rows folder after r
next_is rows folder after r e =
    let found = has_filter (passes folder after) rows r (has_first (filter (passes folder after) rows) r e) in
    let both = and_parts (is_child folder r) (is_after after (name_of r)) found.1 in
    record { one = found.0; child = both.0; follows = both.1 }

pub fewer : (rows : List Row) (folder : Path) (after : Option (List ℕ)) (r : Row) → next_child rows folder after ≡ Some r → length (children_after rows folder (Some (name_of r))) < length (children_after rows folder after)
fewer rows folder after r e =
    let next = next_is rows folder after r e in
    filter_less (passes folder after) (passes folder (Some (name_of r))) rows r (narrower folder after r next.follows) next.one
    (and_from (is_child folder r) (is_after after (name_of r)) next.child next.follows)
    (and_right (is_child folder r) (is_before (name_of r) (name_of r)) (before_itself (name_of r)))

-- the children of the folder at a path, one after the other
abbrev walk : ℕ → List Row → Path → Option (List ℕ) → List Row
walk zero rows folder after = []
walk (suc steps) rows folder after = and_on (walk steps rows folder) (next_child rows folder after)

pub by_number : (rows : List Row) (number : ℕ) (folder : Row) (after : Option (List ℕ)) → AreApart rows → numbered rows number ≡ Some folder → option_and_then (numbered rows) (child_after rows number after) ≡ next_child rows folder.0 after
by_number rows number folder after a h =
    ap (λ (o : Option Row). option_and_then (numbered rows) (option_and_then (λ (f : Row). option_map (λ (row : Row). row.1.number) (next_child rows f.0 after)) o)) h
    ∙ elim (next_child rows folder.0 after) as (λ o. next_child rows folder.0 after ≡ o → option_and_then (numbered rows) (option_map (λ (row : Row). row.1.number) o) ≡ o) [
      | None ↦ λ e. refl
      | Some r ↦ λ e. numbered_has rows r a (next_is rows folder.0 after r e).one
    ] refl

and_on-same : (f g : Option (List ℕ) → List Row) (o : Option Row) → ((after : Option (List ℕ)) → f after ≡ g after) → and_on f o ≡ and_on g o
and_on-same f g None h = refl
and_on-same f g (Some r) h = ap (λ (rows : List Row). r ∷ rows) (h (Some (name_of r)))

in_turn-walk : (steps : ℕ) (rows : List Row) (number : ℕ) (folder : Row) (after : Option (List ℕ)) → AreApart rows → numbered rows number ≡ Some folder → in_turn steps rows number after ≡ walk steps rows folder.0 after
in_turn-walk zero rows number folder after a h = refl
in_turn-walk (suc steps) rows number folder after a h =
    ap (λ (o : Option Row). and_on (in_turn steps rows number) o) (by_number rows number folder after a h)
    ∙ and_on-same (in_turn steps rows number) (walk steps rows folder.0) (next_child rows folder.0 after) (λ after. in_turn-walk steps rows number folder after a h)

-- in the order of their names
order_on : (steps : ℕ) (rows : List Row) (folder : Path) (name : List ℕ) → AreInOrder (name ∷ map name_of (walk steps rows folder (Some name)))
order_on zero rows folder name = tt
order_on (suc steps) rows folder name =
    elim (next_child rows folder (Some name)) as (λ o. next_child rows folder (Some name) ≡ o → AreInOrder (name ∷ map name_of (and_on (walk steps rows folder) o))) [
      | None ↦ λ e. tt
      | Some r ↦ λ e. ((next_is rows folder (Some name) r e).follows, order_on steps rows folder (name_of r))
    ] refl

order_all : (steps : ℕ) (rows : List Row) (folder : Path) → AreInOrder (map name_of (walk steps rows folder None))
order_all zero rows folder = tt
order_all (suc steps) rows folder =
    elim (next_child rows folder None) as (λ o. AreInOrder (map name_of (and_on (walk steps rows folder) o))) [
      | None ↦ tt
      | Some r ↦ order_on steps rows folder (name_of r)
    ]

-- each of them
all_or : (same before after stands : Bool) → (same ≡ true → (after ≡ true) × (stands ≡ true)) → (before ≡ true → after ≡ true) → (stands ≡ true → after ≡ true → before ≡ false → same ≡ true) → (same || (before && stands)) ≡ (after && stands)
all_or true before true true h k m = refl
all_or true before true false h k m = let w : false ≡ true = (h refl).1 in cc
all_or true before false stands h k m = let w : false ≡ true = (h refl).0 in cc
all_or false true true stands h k m = refl
all_or false true false stands h k m = let w : false ≡ true = k refl in cc
all_or false false true true h k m = let w : false ≡ true = m refl refl refl in cc
all_or false false true false h k m = refl
all_or false false false stands h k m = refl

same_name-eq : (a b : List ℕ) → pointwise nat_eq a b ≡ true → a ≡ b
same_name-eq a b h = (bytes_eq-Decides a b).0 h

name_same-eq : (a b : List ℕ) → a ≡ b → pointwise nat_eq a b ≡ true
name_same-eq a b h = (bytes_eq-Decides a b).1 h

-- an entry under a name that follows another is a child that follows it
found_child : (rows : List Row) (folder : Path) (name : List ℕ) (after : Option (List ℕ)) → is_some (entry_at rows (folder ++ name ∷ [])) ≡ true → is_after after name ≡ true → (x : Row) × Has (children_after rows folder after) x × (name_of x ≡ name)
found_child rows folder name after h k =
    let w = has_stands rows (folder ++ name ∷ []) h in
    let child = path_child folder name w.0 w.2 in
    let follows : is_after after (name_of w.0) ≡ true = ap (λ (n : List ℕ). is_after after n) child.1 ∙ k in
    (w.0, filter_has (passes folder after) rows w.0 w.1 (and_from (is_child folder w.0) (is_after after (name_of w.0)) child.0 follows), child.1)

none_found : (rows : List Row) (folder : Path) (name : List ℕ) (after : Option (List ℕ)) → children_after rows folder after ≡ [] → false ≡ (is_after after name && is_some (entry_at rows (folder ++ name ∷ [])))
none_found rows folder name after e =
    elim (is_after after name) as (λ b. is_after after name ≡ b → false ≡ (b && is_some (entry_at rows (folder ++ name ∷ [])))) [
      | false ↦ λ f. refl
      | true ↦ λ f. elim (is_some (entry_at rows (folder ++ name ∷ []))) as (λ b. is_some (entry_at rows (folder ++ name ∷ [])) ≡ b → false ≡ b) [
        | false ↦ λ g. refl
        | true ↦ λ g. (let w = found_child rows folder name after g f in absurd (let k : Has [] w.0 = rw e at w.1 in k))
      ] refl
    ] refl

no_length : (rows : List Row) → length rows ≤ 0 → rows ≡ []
no_length [] h = refl
no_length (x ∷ rows) h = absurd (omega arith)

all_on : (steps : ℕ) (rows : List Row) (folder : Path) (name : List ℕ) (after : Option (List ℕ)) → length (children_after rows folder after) ≤ steps → is_among name (map name_of (walk steps rows folder after)) ≡ (is_after after name && is_some (entry_at rows (folder ++ name ∷ [])))
all_on zero rows folder name after h = none_found rows folder name after (no_length (children_after rows folder after) h)
all_on (suc steps) rows folder name after h =
    elim (next_child rows folder after) as (λ o. next_child rows folder after ≡ o → is_among name (map name_of (and_on (walk steps rows folder) o)) ≡ (is_after after name && is_some (entry_at rows (folder ++ name ∷ [])))) [
      | None ↦ λ e. none_found rows folder name after (none_left (children_after rows folder after) e)
      | Some r ↦ λ e. (
          let next = next_is rows folder after r e in
          let less = fewer rows folder after r e in
          let rest = all_on steps rows folder name (Some (name_of r)) (omega (arith, less)) in
          let path = child_path folder r next.child in
          ap (λ (b : Bool). pointwise nat_eq (name_of r) name || b) rest
          ∙ all_or (pointwise nat_eq (name_of r) name) (is_before (name_of r) name) (is_after after name) (is_some (entry_at rows (folder ++ name ∷ [])))
          (λ s. (let n : name_of r ≡ name = same_name-eq (name_of r) name s in (
            sym (ap (λ (n : List ℕ). is_after after n) n) ∙ next.follows,
            sym (ap (λ (p : Path). is_some (entry_at rows p)) (path ∙ ap (λ (n : List ℕ). folder ++ n ∷ []) n)) ∙ stands_has rows r next.one,
          )))
          (λ b. after_trans after (name_of r) name next.follows b)
          (λ s a b. (let w = found_child rows folder name after s a in
          let not_before : is_before name (name_of r) ≡ false = sym (ap (λ (n : List ℕ). is_before n (name_of r)) w.2) ∙ least (children_after rows folder after) r w.0 e w.1 in
          name_same-eq (name_of r) name (before_same (name_of r) name b not_before)))
          )
    ] refl

few : (p : Row → Bool) (rows : List Row) → length (filter p rows) ≤ length rows
few p [] = omega arith
few p (x ∷ rows) = grind (arith, few p rows)

pub come_in_turn : (rows : List Row) (number steps : ℕ) (folder : Row) → AreApart rows → numbered rows number ≡ Some folder → length rows ≤ steps → AreInOrder (map name_of (in_turn steps rows number None)) × ((name : List ℕ) → is_among name (map name_of (in_turn steps rows number None)) ≡ is_some (entry_at rows (folder.0 ++ name ∷ [])))
come_in_turn rows number steps folder a h k =
    let same = in_turn-walk steps rows number folder None a h in (
      rw same (order_all steps rows folder.0),
      λ name. rw same (all_on steps rows folder.0 name None (omega (arith, few (passes folder.0 None) rows))),
    )
