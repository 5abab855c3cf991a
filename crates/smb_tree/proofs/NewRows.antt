-- Stored entries that get new texts, as rows.
use Rattle.std.proofs.Common.{◌≡◌, ℕ, zero, suc, ◌+◌, ◌-◌, ◌<◌, ◌≤◌, Bool, true, false, if◌then◌else◌, List, [], ◌∷◌, ◌++◌, length, map, take, drop, set, get_or, Option, Some, None, refl, sym, ap, ◌∙◌, arith, add-one, length-append, length-drop, append-nil}
use Rattle.std.specs.List.{remove, list_any}
use Rattle.std.proofs.lemmas.Grind.{drop_more_same}
use Rattle.std.proofs.lemmas.List.{length-map, map-append, drop-map, get_or-drop, get_or-append_right}
use Rattle.smb_wire.specs.Names.{folded}
use Rattle.smb_wire.specs.Paths.{folded_path}
use Rattle.smb_tree.specs.declared.stored.Stored.{Stored}
use Rattle.smb_tree.specs.declared.stored.NewText.{NewText}
use Rattle.smb_tree.specs.Entries.{Entry, last_part}
use Rattle.smb_tree.specs.Content.{Path, Row, is_same_path}
use Rattle.smb_tree.specs.Moves.{is_within, replaced}
use Rattle.smb_tree.specs.Parts.{moved_row, renamed}
use Rattle.smb_tree.specs.NewTexts.{parts_new, parts_moved, with_parts, with_all_parts}
use Rattle.smb_tree.specs.Plain.{parts_stored, row_of, rows_of}
use Rattle.smb_tree.proofs.Keys.{same_path-eq, same_path-of_eq}
use Rattle.smb_tree.proofs.Heads.{within_rest, replaced_drop, replaced-elsewhere, not_within_not_it, length_within}

pub with_none : (rows : List Row) → with_all_parts rows [] ≡ rows
with_none [] = refl
with_none (row ∷ rows) = refl

with_more : (rows : List Row) (news : List (Option (List (List ℕ)))) (i : ℕ) (d : Option (List (List ℕ))) (w : Row) → i < length rows → i < length news → with_all_parts rows (take (suc i) news) ≡ set (with_all_parts rows (take i news)) i (with_parts (get_or (with_all_parts rows (take i news)) i w) (get_or news i d))
with_more [] news i d w l k = absurd (omega (arith, l))
with_more (row ∷ rows) [] i d w l k = absurd (omega (arith, k))
with_more (row ∷ rows) (new ∷ news) zero d w l k = rw (with_none rows) refl
with_more (row ∷ rows) (new ∷ news) (suc i) d w l k = ap (λ (xs : List Row). with_parts row new ∷ xs) (with_more rows news i d w (omega (arith, l)) (omega (arith, k)))

get_or-rows : (xs : List Stored) (i : ℕ) (x : Stored) → get_or (rows_of xs) i (row_of x) ≡ row_of (get_or xs i x)
get_or-rows [] i x = refl
get_or-rows (y ∷ xs) zero x = refl
get_or-rows (y ∷ xs) (suc i) x = get_or-rows xs i x

set-rows : (xs : List Stored) (i : ℕ) (z : Stored) → rows_of (set xs i z) ≡ set (rows_of xs) i (row_of z)
set-rows [] i z = refl
set-rows (y ∷ xs) zero z = refl
set-rows (y ∷ xs) (suc i) z = ap (λ (ys : List Row). row_of y ∷ ys) (set-rows xs i z)

-- one more entry has its components
pub put_more : (rows : List Row) (xs : List Stored) (news : List (Option (List (List ℕ)))) (i : ℕ) (x z : Stored) → rows_of xs ≡ with_all_parts rows (take i news) → i < length rows → i < length news → x ≡ get_or xs i x → row_of z ≡ with_parts (row_of x) (get_or news i None) → rows_of (set xs i z) ≡ with_all_parts rows (take (i + 1) news)
put_more rows xs news i x z h l k here new =
    let old : get_or (with_all_parts rows (take i news)) i (row_of x) ≡ row_of x = ap (λ (rs : List Row). get_or rs i (row_of x)) (sym h) ∙ get_or-rows xs i x ∙ ap row_of (sym here) in
    let more = with_more rows news i None (row_of x) l k in
    set-rows xs i z ∙ rw (h, new, add-one, more, old) refl

drop_nothing : {A : Type 0} (i : ℕ) → drop i (let n : List A = [] in n) ≡ []
drop_nothing zero = refl
drop_nothing (suc i) = refl

cons_nil : {p : Option (List (List ℕ))} {b : List (Option (List (List ℕ)))} → p ∷ b ≡ [] → ⊥
cons_nil h = cc

head_same : {p q : Option (List (List ℕ))} {a b : List (Option (List (List ℕ)))} → p ∷ a ≡ q ∷ b → p ≡ q
head_same h = cc

drop_set : {A : Type 0} (xs : List A) (i : ℕ) (y : A) → drop (suc i) (set xs i y) ≡ drop (suc i) xs
drop_set [] i y = refl
drop_set (x ∷ xs) zero y = refl
drop_set (x ∷ xs) (suc i) y = drop_set xs i y

set-news : (xs : List (Option NewText)) (i : ℕ) (y : Option NewText) → map parts_new (set xs i y) ≡ set (map parts_new xs) i (parts_new y)
set-news [] i y = refl
set-news (x ∷ xs) zero y = refl
set-news (x ∷ xs) (suc i) y = ap (λ (ys : List (Option (List (List ℕ)))). parts_new x ∷ ys) (set-news xs i y)

-- the texts behind the one that was taken are as they were
pub rest_more : (xs : List (Option NewText)) (b : List (Option (List (List ℕ)))) (i : ℕ) (y : Option NewText) → drop i (map parts_new xs) ≡ drop i b → drop (i + 1) (map parts_new (set xs i y)) ≡ drop (i + 1) b
rest_more xs b i y h = rw (set-news xs i y, add-one, drop_set (map parts_new xs) i (parts_new y)) (rw add-one at (drop_more_same (map parts_new xs) b i h))

pub rest_read : (xs : List (Option NewText)) (b : List (Option (List (List ℕ)))) (i : ℕ) (x : Option NewText) → i < length xs → x ≡ get_or xs i x → drop i (map parts_new xs) ≡ drop i b → parts_new x ≡ get_or b i None
rest_read [] b i x l h e = absurd (omega (arith, l))
rest_read (y ∷ xs) [] zero x l h e = absurd (cons_nil e)
rest_read (y ∷ xs) (p ∷ b) zero x l h e = ap parts_new h ∙ head_same e
rest_read (y ∷ xs) [] (suc i) x l h e = rest_read xs [] i x (omega (arith, l)) h (e ∙ sym (drop_nothing i))
rest_read (y ∷ xs) (p ∷ b) (suc i) x l h e = rest_read xs b i x (omega (arith, l)) h e

-- the last component of what was joined
last_behind : (a b : List (List ℕ)) → 0 < length b → last_part (a ++ b) ≡ last_part b
last_behind a b h =
    ap (λ (n : ℕ). get_or (a ++ b) (n - 1) []) (length-append a b)
    ∙ get_or-append_right a b (length a) (length a + length b - 1) [] refl (omega arith)
    ∙ ap (λ (n : ℕ). get_or b n []) (omega arith)

last_dropped : (ps : List (List ℕ)) (k : ℕ) → k < length ps → last_part (drop k ps) ≡ last_part ps
last_dropped ps k h =
    let long : length (drop k ps) ≡ length ps - k = length-drop k ps in
    ap (λ (n : ℕ). get_or (drop k ps) (n - 1) []) long ∙ get_or-drop k ps (length ps - k - 1) [] ∙ ap (λ (n : ℕ). get_or ps n []) (omega arith)

nothing_left : (ps : List (List ℕ)) (k : ℕ) → length ps ≤ k → drop k ps ≡ []
nothing_left [] zero h = refl
nothing_left [] (suc k) h = refl
nothing_left (p ∷ ps) zero h = absurd (omega arith)
nothing_left (p ∷ ps) (suc k) h = nothing_left ps k (omega arith)

-- the last component of the path that an entry gets
last_moved : (from to ps : List (List ℕ)) → is_within (folded_path from) (folded_path ps) ≡ true → last_part (to ++ drop (length from) ps) ≡ (if is_same_path (folded_path ps) (folded_path from) then last_part to else last_part ps)
last_moved from to ps h =
    let long_from : length (folded_path from) ≡ length from = length-map from folded in
    let long : length (folded_path ps) ≡ length ps = length-map ps folded in
    let rest = within_rest (folded_path from) (folded_path ps) h in
    let parts = ap (λ (p : Path). length p) rest.1 in
    let whole = length-append (folded_path from) rest.0 in
    elim (is_same_path (folded_path ps) (folded_path from)) as (λ b. is_same_path (folded_path ps) (folded_path from) ≡ b → last_part (to ++ drop (length from) ps) ≡ (if b then last_part to else last_part ps)) [
      | true ↦ λ e. (
          let same = ap (λ (p : Path). length p) (same_path-eq (folded_path ps) (folded_path from) e) in
          ap (λ (xs : List (List ℕ)). last_part (to ++ xs)) (nothing_left ps (length from) (omega (arith, same, long, long_from))) ∙ ap last_part (append-nil to)
          )
      | false ↦ λ e. (
          let some : length from < length ps = some_left rest.0 e (rest.1) (omega (arith, long, long_from, parts, whole)) in
          last_behind to (drop (length from) ps) (omega (arith, length-drop (length from) ps, some)) ∙ last_dropped ps (length from) some
          )
    ] refl
  where
    some_left : (r : Path) → is_same_path (folded_path ps) (folded_path from) ≡ false → folded_path ps ≡ folded_path from ++ r → length ps ≡ length from + length r → length from < length ps
    some_left [] e f l = absurd (let g : is_same_path (folded_path ps) (folded_path from) ≡ true = same_path-of_eq (folded_path ps) (folded_path from) (f ∙ append-nil (folded_path from)) in let k : false ≡ true = sym e ∙ g in cc)
    some_left (x ∷ r) e f l = omega (arith, l)

-- the path that it gets
path_moved : (from to ps : List (List ℕ)) → is_within (folded_path from) (folded_path ps) ≡ true → folded_path (to ++ drop (length from) ps) ≡ replaced (folded_path from) (folded_path to) (folded_path ps)
path_moved from to ps h =
    map-append folded to (drop (length from) ps)
    ∙ ap (λ (xs : Path). folded_path to ++ xs) (sym (drop-map folded (length from) ps) ∙ ap (λ (n : ℕ). drop n (folded_path ps)) (sym (length-map from folded)))
    ∙ sym (replaced_drop (folded_path from) (folded_path to) (folded_path ps) h)

each_moved : (from to : List (List ℕ)) (x : Stored) → with_parts (row_of x) (parts_moved from to x) ≡ moved_row (folded_path from) to (row_of x)
each_moved from to x =
    let path : Path = folded_path (parts_stored x) in
    let entry : Entry = (row_of x).1 in
    elim (is_within (folded_path from) path) as (λ w. is_within (folded_path from) path ≡ w → with_parts (row_of x) (if w then Some (to ++ drop (length from) (parts_stored x)) else None) ≡ moved_row (folded_path from) to (row_of x)) [
      | true ↦ λ h. (
          ap (λ (p : Path). let row : Row = (p, record entry { spelling = last_part (to ++ drop (length from) (parts_stored x)) }) in row) (path_moved from to (parts_stored x) h)
          ∙ ap (λ (s : List ℕ). let row : Row = (replaced (folded_path from) (folded_path to) path, record entry { spelling = s }) in row) (last_moved from to (parts_stored x) h)
          ∙ elim (is_same_path path (folded_path from)) as (λ b. (let row : Row = (replaced (folded_path from) (folded_path to) path, record entry { spelling = if b then last_part to else last_part (parts_stored x) }) in row) ≡ (replaced (folded_path from) (folded_path to) path, if b then record entry { spelling = last_part to } else entry)) [ true ↦ refl | false ↦ refl ]
          )
      | false ↦ λ h. (
          ap (λ (p : Path). let row : Row = (p, entry) in row) (sym (replaced-elsewhere (folded_path from) (folded_path to) path h))
          ∙ ap (λ (b : Bool). let row : Row = (replaced (folded_path from) (folded_path to) path, if b then record entry { spelling = last_part to } else entry) in row) (sym (not_within_not_it (folded_path from) path h))
          )
    ] refl

-- how many components these are
pub within_longer : (from ps : List (List ℕ)) → is_within (folded_path from) (folded_path ps) ≡ true → length from ≤ length ps
within_longer from ps h =
    let within = length_within (folded_path from) (folded_path ps) h in
    let long_from : length (folded_path from) ≡ length from = length-map from folded in
    let long : length (folded_path ps) ≡ length ps = length-map ps folded in
    omega (arith, within, long_from, long)

pub length-replaced : (from to ps : List (List ℕ)) → is_within (folded_path from) (folded_path ps) ≡ true → length (replaced (folded_path from) (folded_path to) (folded_path ps)) ≡ length to + (length ps - length from)
length-replaced from to ps h =
    ap (λ (p : Path). length p) (sym (path_moved from to ps h)) ∙ length-map (to ++ drop (length from) ps) folded
    ∙ (let long = length-append to (drop (length from) ps) in let rest = length-drop (length from) ps in omega (arith, long, rest))

-- what no row does the row of an entry doesn't
pub none_does : (p : Row → Bool) (xs : List Stored) (i : ℕ) (x : Stored) → list_any p (rows_of xs) ≡ false → i < length xs → x ≡ get_or xs i x → p (row_of x) ≡ false
none_does p [] i x h l e = absurd (omega arith)
none_does p (y ∷ xs) zero x h l e = grind (arith, h, e)
none_does p (y ∷ xs) (suc i) x h l e = none_does p xs i x (grind (arith, h)) (omega arith) e

-- the components that all entries get, put into the rows
pub all_moved : (from to : List (List ℕ)) (xs : List Stored) → with_all_parts (rows_of xs) (map (parts_moved from to) xs) ≡ renamed (folded_path from) to (rows_of xs)
all_moved from to [] = refl
all_moved from to (x ∷ xs) =
    ap (λ (row : Row). row ∷ with_all_parts (rows_of xs) (map (parts_moved from to) xs)) (each_moved from to x)
    ∙ ap (λ (rows : List Row). moved_row (folded_path from) to (row_of x) ∷ rows) (all_moved from to xs)

pub map-remove : {A B : Type 0} (f : A → B) (xs : List A) (i : ℕ) → map f (remove xs i) ≡ remove (map f xs) i
map-remove f [] zero = refl
map-remove f [] (suc i) = refl
map-remove f (x ∷ xs) zero = refl
map-remove {B = B} f (x ∷ xs) (suc i) = ap (λ (ys : List B). f x ∷ ys) (map-remove f xs i)
