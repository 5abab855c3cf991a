-- Which paths lie beneath others, by their fronts, and which entries beneath others.
use Rattle.std.proofs.Common.{◌≡◌, ◌≢◌, ◌==◌, ℕ, ◌+◌, ◌-◌, ◌<◌, ◌≤◌, inl, inr, Bool, true, false, not, ◌&&◌, List, [], ◌∷◌, ◌++◌, length, take, drop, Option, None, Some, is_some, refl, sym, ap, ◌∙◌, arith, nat_le, append-nil, append_assoc, length-append, take-append-drop}
use Rattle.std.proofs.Math.Seq.{take-append-add}
use Rattle.std.proofs.lemmas.Bool.{eqb-true}
use Rattle.std.proofs.lemmas.Bool.Decides.{nat_tests}
use Rattle.std.proofs.lemmas.List.{length-take-le, take-map}
use Rattle.std.specs.Option.{option_map, option_map_or}
use Rattle.smb_wire.specs.Names.{folded}
use Rattle.smb_wire.specs.Paths.{folded_path}
use Rattle.smb_tree.specs.Entries.{Entry}
use Rattle.smb_tree.specs.Content.{Path, Row, is_same_path, entry_at, number_at, numbered, parent}
use Rattle.smb_tree.specs.Laws.{AreApart}
use Rattle.smb_tree.specs.Moves.{is_within, is_row_within}
use Rattle.smb_tree.proofs.Apart.{numbered-from_at, at-from_numbered, number-from_numbered}
use Rattle.smb_tree.proofs.Heads.{within_or_not, within-append, within_rest, length_within, within_itself, within_parent, not_around, parent_beneath}
use Rattle.smb_tree.proofs.Keys.{same_path-eq, same_path-of_eq, same_path-itself}
use Rattle.smb_entry.specs.Parts.{is_beneath, path_numbered}

-- paths of different lengths differ
apart_by_length : (p q : Path) → length p < length q → is_same_path p q ≡ false
apart_by_length p q h =
    elim (is_same_path p q) as (λ b. is_same_path p q ≡ b → b ≡ false) [
      | true ↦ λ s. absurd (let long = ap (λ (xs : Path). length xs) (same_path-eq p q s) in omega (arith, long, h))
      | false ↦ λ _. refl
    ] refl

-- a front that is not the whole path
pub front_beneath : (p q : Path) (n : ℕ) → take n q ≡ p → n < length q → is_beneath p q ≡ true
front_beneath p q n e h =
    let whole : q ≡ p ++ drop n q = sym (take-append-drop n q) ∙ ap (λ (front : Path). front ++ drop n q) e in
    let within : is_within p q ≡ true = ap (is_within p) whole ∙ within-append p (drop n q) in
    let long : length p ≡ n = ap (λ (xs : Path). length xs) (sym e) ∙ length-take-le n q (omega arith) in
    let apart : is_same_path p q ≡ false = apart_by_length p q (omega (arith, long, h)) in
    rw (within, apart) refl

pub beneath_parts : (a b : Bool) → (a && not b) ≡ true → (a ≡ true) × (b ≡ false)
beneath_parts true false h = (refl, refl)
beneath_parts true true h = absurd (let e : false ≡ true = h in cc)
beneath_parts false b h = absurd (let e : false ≡ true = h in cc)

take_head : (p r : Path) → take (length p) (p ++ r) ≡ p
take_head [] r = refl
take_head (c ∷ p) r = ap (λ (xs : Path). c ∷ xs) (take_head p r)

front_by : (p q r : Path) → q ≡ p ++ r → is_same_path p q ≡ false → (take (length p) q ≡ p) × (length p < length q)
front_by p q [] e k = absurd (let same : is_same_path p q ≡ true = same_path-of_eq p q (sym (e ∙ append-nil p)) in cc)
front_by p q (c ∷ r) e k =
    (ap (take (length p)) e ∙ take_head p (c ∷ r), let long = ap (λ (xs : Path). length xs) e in omega (arith, long, length-append p (c ∷ r)))

-- a path beneath another one has it as a front
pub beneath_front : (p q : Path) → is_beneath p q ≡ true → (take (length p) q ≡ p) × (length p < length q)
beneath_front p q h =
    let parts = beneath_parts (is_within p q) (is_same_path p q) h in
    let s = within_rest p q parts.0 in
    front_by p q s.0 s.1 parts.1

parent_by : (f q r : Path) → q ≡ f ++ r → 0 < length q → is_beneath f q ≡ is_within f (parent q)
parent_by f q [] e h =
    let same : q ≡ f = e ∙ append-nil f in
    let itself : is_same_path f f ≡ true = same_path-itself f in
    let within : is_within f f ≡ true = within_itself f in
    let off : is_beneath f f ≡ false = rw (within, itself) refl in
    let long = ap (λ (xs : Path). length xs) same in
    ap (is_beneath f) same ∙ off ∙ sym (not_around f (omega (arith, long, h))) ∙ ap (λ (x : Path). is_within f (parent x)) (sym same)
parent_by f q (c ∷ r) e h =
    let long = ap (λ (xs : Path). length xs) e in
    let on : is_beneath f q ≡ true = front_beneath f q (length f) (ap (take (length f)) e ∙ take_head f (c ∷ r)) (omega (arith, long, length-append f (c ∷ r))) in
    on ∙ sym (ap (λ (x : Path). is_within f (parent x)) e ∙ ap (is_within f) (parent_beneath f c r) ∙ within-append f (take (length r) (c ∷ r)))

-- what lies beneath a path is in a folder within it
pub beneath_parent : (f q : Path) → 0 < length q → is_beneath f q ≡ is_within f (parent q)
beneath_parent f q h =
    elim (within_or_not f q) [
      | inl s ↦ parent_by f q s.0 s.1 h
      | inr k ↦ elim (is_within f (parent q)) as (λ b. is_within f (parent q) ≡ b → is_beneath f q ≡ b) [
        | true ↦ λ t. absurd (let w : is_within f q ≡ true = within_parent f q t in cc)
        | false ↦ λ _. rw k refl
      ] refl
    ]

-- the path of an entry that exists
pub path_found : (rows : List Row) (n : ℕ) (row : Row) → numbered rows n ≡ Some row → path_numbered rows n ≡ row.0
path_found rows n row h = ap (λ (o : Option Row). option_map_or (λ (r : Row). r.0) o []) h

pub row_there : (rows : List Row) (n : ℕ) → is_some (numbered rows n) ≡ true → (row : Row) × (numbered rows n ≡ Some row)
row_there rows n h =
    elim (numbered rows n) as (λ o. is_some o ≡ true → (row : Row) × (o ≡ Some row)) [
      | None ↦ λ f. absurd (let e : false ≡ true = f in cc)
      | Some row ↦ λ _. (row, refl)
    ] h

-- the number at its path
pub number_found : (rows : List Row) (n : ℕ) (row : Row) → AreApart rows → numbered rows n ≡ Some row → number_at rows row.0 ≡ Some n
number_found rows n row a h =
    ap (option_map (λ (e : Entry). e.number)) (at-from_numbered rows row.0 row.1 n a h) ∙ ap (λ (k : ℕ). Some k) (number-from_numbered rows row n h)

path_by : (rows : List Row) (p : Path) (n : ℕ) (row : Row) (o : Option Entry) → AreApart rows → numbered rows n ≡ Some row → entry_at rows p ≡ o → option_map (λ (e : Entry). e.number) o ≡ Some n → p ≡ row.0
path_by rows p n row None a h e f = absurd (cc)
path_by rows p n row (Some x) a h e f =
    let number : x.number ≡ n = cc in
    let same : Some (let r : Row = (p, x) in r) ≡ Some row = sym (numbered-from_at rows p x a e) ∙ ap (numbered rows) number ∙ h in
    ap (λ (q : Option Row). option_map_or (λ (r : Row). r.0) q []) same

-- a number is at one path
pub path_at : (rows : List Row) (p : Path) (n : ℕ) (row : Row) → AreApart rows → numbered rows n ≡ Some row → number_at rows p ≡ Some n → p ≡ row.0
path_at rows p n row a h f = path_by rows p n row (entry_at rows p) a h refl f

-- a path of which a front is within another one lies beneath that
front_within : (f q : Path) (n : ℕ) → n < length q → is_within f (take n q) ≡ true → is_beneath f q ≡ true
front_within f q n short h =
    let rest = within_rest f (take n q) h in
    let whole : q ≡ f ++ (rest.0 ++ drop n q) = sym (take-append-drop n q) ∙ ap (λ (front : Path). front ++ drop n q) rest.1 ∙ append_assoc f rest.0 (drop n q) in
    let long : length (take n q) ≡ n = length-take-le n q (omega arith) in
    let few = length_within f (take n q) h in
    front_beneath f q (length f) (ap (take (length f)) whole ∙ take_head f (rest.0 ++ drop n q)) (omega (arith, long, few, short))

-- a front that is no shorter than what the path lies beneath is within that
within_front_of : (f q : Path) (n : ℕ) → length f ≤ n → is_beneath f q ≡ true → is_within f (take n q) ≡ true
within_front_of f q n few h =
    let front = beneath_front f q h in
    let whole : q ≡ f ++ drop (length f) q = sym (take-append-drop (length f) q) ∙ ap (λ (p : Path). p ++ drop (length f) q) front.0 in
    let count : n ≡ length f + (n - length f) = omega (arith, few) in
    let cut : take n q ≡ f ++ take (n - length f) (drop (length f) q) = ap (take n) whole ∙ ap (λ (k : ℕ). take k (f ++ drop (length f) q)) count ∙ take-append-add f (drop (length f) q) (n - length f) in
    ap (is_within f) cut ∙ within-append f (take (n - length f) (drop (length f) q))

-- no entry exists at a front of a path of some length or more, other than the whole path
abbrev pub AreNoFronts : List Row → Path → ℕ → Type 0
AreNoFronts rows path depth = (k : ℕ) → depth ≤ k → k < length path → number_at rows (take k path) ≡ None

-- at the whole path and past it nothing is asked
pub no_front : (rows : List Row) (path : Path) (depth : ℕ) → length path ≤ depth → AreNoFronts rows path depth
no_front rows path depth long k from short = absurd (omega (arith, long, from, short))

-- nor at the next shorter one
pub front_passed : (rows : List Row) (path : Path) (depth : ℕ) → AreNoFronts rows path depth → number_at rows (take (depth - 1) path) ≡ None → AreNoFronts rows path (depth - 1)
front_passed rows path depth h e k from short =
    elim (k == depth - 1) as (λ b. k == depth - 1 ≡ b → number_at rows (take k path) ≡ None) [
      | true ↦ λ t. ap (λ (m : ℕ). number_at rows (take m path)) (eqb-true k (depth - 1) t) ∙ e
      | false ↦ λ t. h k (let other : k ≢ depth - 1 = (λ q. let yes : k == depth - 1 ≡ true = rw q (grind (arith, nat_tests)) in cc) in omega (arith, from, other)) short
    ] refl

-- what the path lies beneath is at a shorter front
few_of : (rows : List Row) (path f : Path) (depth entry : ℕ) → AreNoFronts rows path depth → number_at rows f ≡ Some entry → is_beneath f path ≡ true → length f ≤ depth - 1
few_of rows path f depth entry none at h =
    let front = beneath_front f path h in
    let on : number_at rows (take (length f) path) ≡ Some entry = ap (number_at rows) front.0 ∙ at in
    elim (nat_le depth (length f)) as (λ b. nat_le depth (length f) ≡ b → length f ≤ depth - 1) [
      | true ↦ λ t. absurd (let off = none (length f) (grind (arith, nat_tests, t)) front.1 in cc)
      | false ↦ λ t. (let less : length f < depth = grind (arith, nat_tests, t) in omega (arith, less))
    ] refl

-- where no front has an entry, the path lies beneath none
pub fronts_passed : (rows : List Row) (path : Path) (entry depth : ℕ) → AreApart rows → is_some (numbered rows entry) ≡ true → depth ≡ 0 → AreNoFronts rows path depth → false ≡ is_beneath (path_numbered rows entry) path
fronts_passed rows path entry depth a there zero none =
    let r = row_there rows entry there in
    let from : path_numbered rows entry ≡ r.0.0 = path_found rows entry r.0 r.1 in
    elim (is_beneath r.0.0 path) as (λ b. is_beneath r.0.0 path ≡ b → false ≡ b) [
      | true ↦ λ t. absurd (
          let front = beneath_front r.0.0 path t in
          let on : number_at rows (take (length r.0.0) path) ≡ Some entry = ap (number_at rows) front.0 ∙ number_found rows entry r.0 a r.1 in
          let off : number_at rows (take (length r.0.0) path) ≡ None = none (length r.0.0) (omega (arith, zero)) front.1 in
          cc
          )
      | false ↦ λ _. refl
    ] refl ∙ ap (λ (p : Path). is_beneath p path) (sym from)

-- the entry of the number at a path
row_at : (rows : List Row) (p : Path) (n : ℕ) → AreApart rows → number_at rows p ≡ Some n → (e : Entry) × (numbered rows n ≡ Some (p, e))
row_at rows p n a h =
    elim (entry_at rows p) as (λ o. entry_at rows p ≡ o → option_map (λ (e : Entry). e.number) o ≡ Some n → (e : Entry) × (numbered rows n ≡ Some (p, e))) [
      | None ↦ λ _ f. absurd (cc)
      | Some e ↦ λ k f. (e, (let number : n ≡ e.number = cc in ap (numbered rows) number ∙ numbered-from_at rows p e a k))
    ] refl h

-- the longest front at which an entry exists tells whether the path lies beneath
longest_tells : (rows : List Row) (path f : Path) (depth entry : ℕ) → AreNoFronts rows path depth → number_at rows f ≡ Some entry → depth - 1 < length path → is_within f (take (depth - 1) path) ≡ is_beneath f path
longest_tells rows path f depth entry none at short =
    elim (is_within f (take (depth - 1) path)) as (λ b. is_within f (take (depth - 1) path) ≡ b → b ≡ is_beneath f path) [
      | true ↦ λ t. sym (front_within f path (depth - 1) short t)
      | false ↦ λ t. elim (is_beneath f path) as (λ b. is_beneath f path ≡ b → false ≡ b) [
        | true ↦ λ h. absurd (let inside = within_front_of f path (depth - 1) (few_of rows path f depth entry none at h) h in cc)
        | false ↦ λ _. refl
      ] refl
    ] refl

-- and so the tree tells it, by the number there
pub front_hit : (rows : List Row) (path : Path) (entry nearest depth : ℕ) (inside : Bool) → AreApart rows → is_some (numbered rows entry) ≡ true → AreNoFronts rows path depth → depth - 1 < length path → number_at rows (take (depth - 1) path) ≡ Some nearest →
    inside ≡ is_row_within (numbered rows entry) (numbered rows nearest) → inside ≡ is_beneath (path_numbered rows entry) path
front_hit rows path entry nearest depth inside a there none short at i =
    let head = row_there rows entry there in
    let row = row_at rows (take (depth - 1) path) nearest a at in
    let top : path_numbered rows entry ≡ head.0.0 = path_found rows entry head.0 head.1 in
    let found : inside ≡ is_within head.0.0 (take (depth - 1) path) = i ∙ ap (λ (r : Option Row). is_row_within r (numbered rows nearest)) head.1 ∙ ap (is_row_within (Some head.0)) row.1 in
    found ∙ longest_tells rows path head.0.0 depth entry none (number_found rows entry head.0 a head.1) short ∙ ap (λ (p : Path). is_beneath p path) (sym top)

-- the entries of two numbers have two paths
apart_by_number : (rows : List Row) (above entry : ℕ) (head row : Row) → AreApart rows → numbered rows above ≡ Some head → numbered rows entry ≡ Some row → (entry ≡ above → ⊥) → is_same_path head.0 row.0 ≡ false
apart_by_number rows above entry head row a h e other =
    elim (is_same_path head.0 row.0) as (λ b. is_same_path head.0 row.0 ≡ b → b ≡ false) [
      | true ↦ λ t. absurd (
          let one : number_at rows head.0 ≡ Some above = number_found rows above head a h in
          let two : number_at rows head.0 ≡ Some entry = ap (number_at rows) (same_path-eq head.0 row.0 t) ∙ number_found rows entry row a e in
          let same : entry ≡ above = cc in
          other same
          )
      | false ↦ λ _. refl
    ] refl

not_same : (a b : Bool) → b ≡ false → (a && not b) ≡ a
not_same a true e = absurd (let f : true ≡ false = e in cc)
not_same true false e = refl
not_same false false e = refl

-- an entry within another one lies beneath it
pub beneath_other : (rows : List Row) (above entry : ℕ) (inside : Bool) → AreApart rows → is_some (numbered rows above) ≡ true → is_some (numbered rows entry) ≡ true → (entry ≡ above → ⊥) →
    inside ≡ is_row_within (numbered rows above) (numbered rows entry) → inside ≡ is_beneath (path_numbered rows above) (path_numbered rows entry)
beneath_other rows above entry inside a h e other i =
    let head = row_there rows above h in
    let row = row_there rows entry e in
    let top : path_numbered rows above ≡ head.0.0 = path_found rows above head.0 head.1 in
    let path : path_numbered rows entry ≡ row.0.0 = path_found rows entry row.0 row.1 in
    let found : inside ≡ is_within head.0.0 row.0.0 = i ∙ ap (λ (r : Option Row). is_row_within r (numbered rows entry)) head.1 ∙ ap (is_row_within (Some head.0)) row.1 in
    let apart : is_same_path head.0.0 row.0.0 ≡ false = apart_by_number rows above entry head.0 row.0 a head.1 row.1 other in
    found ∙ sym (not_same (is_within head.0.0 row.0.0) (is_same_path head.0.0 row.0.0) apart)
    ∙ sym (ap (λ (p : Path). is_beneath p (path_numbered rows entry)) top ∙ ap (is_beneath head.0.0) path)

not_beneath : (p : Path) → is_beneath p p ≡ false
not_beneath p =
    let within : is_within p p ≡ true = within_itself p in
    let same : is_same_path p p ≡ true = same_path-itself p in
    rw (within, same) refl

-- none lies beneath itself
pub beneath_itself : (rows : List Row) (above entry : ℕ) → entry ≡ above → false ≡ is_beneath (path_numbered rows above) (path_numbered rows entry)
beneath_itself rows above entry e = sym (ap (λ (n : ℕ). is_beneath (path_numbered rows above) (path_numbered rows n)) e ∙ not_beneath (path_numbered rows above))

-- the entry at the front of a path, by the front's components
pub front_told : (rows : List Row) (parts front : List (List ℕ)) (depth : ℕ) (o : Option ℕ) → o ≡ number_at rows (folded_path front) → front ≡ take depth parts → number_at rows (take depth (folded_path parts)) ≡ o
front_told rows parts front depth o e f =
    sym (e ∙ ap (λ (ps : List (List ℕ)). number_at rows (folded_path ps)) f ∙ ap (number_at rows) (sym (take-map folded depth parts)))
