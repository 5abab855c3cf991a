-- The child whose name comes next, and an entry that keeps its name.
use Rattle.std.proofs.Common.{◌≡◌, ℕ, ◌+◌, ◌-◌, ◌<◌, Bool, true, false, cond, ◌==◌, nat_lt, List, [], ◌∷◌, ◌++◌, length, filter, Option, None, Some, ◌⊎◌, inl, inr, refl, sym, ap, ◌∙◌, arith}
use Rattle.std.proofs.lemmas.Bool.{ltb-true, lt-ltb, and_parts, and_from}
use Rattle.std.proofs.lemmas.List.{take_more, take_all, length_push}
use Rattle.smb_tree.specs.Entries.{Entry, last_part}
use Rattle.smb_tree.specs.Content.{Path, Row, is_same_path, entry_at, numbered, parent}
use Rattle.smb_tree.specs.Laws.{AreApart}
use Rattle.smb_tree.specs.Children.{name_of, is_child, is_before, first_by_name}
use Rattle.smb_tree.specs.Parts.{is_after, first_of_two}
use Rattle.smb_tree.proofs.Apart.{at-from_numbered, number-from_numbered}
use Rattle.smb_tree.proofs.Keys.{same_path-eq, same_path-of_eq}
use Rattle.smb_tree.proofs.Lasts.{last_of, parent_of}
use Rattle.smb_tree.proofs.Orders.{before_trans, before_not, before_itself, before_back}

-- a path is a child's where it is the folder's with a name behind it
child_path : (folder : Path) (r : Row) → is_child folder r ≡ true → r.0 ≡ folder ++ name_of r ∷ []
child_path folder r h =
    let both = and_parts (nat_lt 0 (length r.0)) (is_same_path (parent r.0) folder) h in
    let some : 0 < length r.0 = ltb-true 0 (length r.0) both.0 in
    let last : ℕ = length r.0 - 1 in
    let end : last + 1 ≡ length r.0 = omega arith in
    sym (take_all (last + 1) r.0 (omega arith)) ∙ take_more r.0 last [] (omega arith)
    ∙ ap (λ (p : Path). p ++ name_of r ∷ []) (same_path-eq (parent r.0) folder both.1)

pub is_named : (folder : Path) (name : List ℕ) (r : Row) → r.0 ≡ folder ++ name ∷ [] → name_of r ≡ name
is_named folder name r under = ap last_part under ∙ last_of folder name

pub is_child_of : (folder : Path) (name : List ℕ) (r : Row) → r.0 ≡ folder ++ name ∷ [] → is_child folder r ≡ true
is_child_of folder name r under =
    let long : length r.0 ≡ length folder + 1 = ap (λ (p : Path). length p) under ∙ length_push folder name in
    and_from (nat_lt 0 (length r.0)) (is_same_path (parent r.0) folder)
    (lt-ltb 0 (length r.0) (omega arith))
    (same_path-of_eq (parent r.0) folder (ap parent under ∙ parent_of folder name))

-- a child under the name of an entry is this entry
pub same_child : (rows : List Row) (folder : Path) (name : List ℕ) (number : ℕ) (row r : Row) → AreApart rows →
    numbered rows number ≡ Some row → row.0 ≡ folder ++ name ∷ [] →
    numbered rows r.1.number ≡ Some r → is_child folder r ≡ true → name_of r ≡ name → r.1.number ≡ number
same_child rows folder name number row r apart own under found child named =
    let path : r.0 ≡ row.0 = child_path folder r child ∙ ap (λ (n : List ℕ). folder ++ n ∷ []) named ∙ sym under in
    let one : entry_at rows r.0 ≡ Some r.1 = at-from_numbered rows r.0 r.1 r.1.number apart found in
    let two : entry_at rows row.0 ≡ Some row.1 = at-from_numbered rows row.0 row.1 number apart own in
    let same : r.1 ≡ row.1 = (let e : entry_at rows r.0 ≡ entry_at rows row.0 = ap (entry_at rows) path in cc) in
    ap (λ (e : Entry). e.number) same ∙ number-from_numbered rows row number own

-- an entry that passes a test is left by the filter
pub still_numbered : (p : Row → Bool) (rows : List Row) (number : ℕ) (row : Row) → numbered rows number ≡ Some row →
    p row ≡ true → numbered (filter p rows) number ≡ Some row
still_numbered p [] number row own passes = cc
still_numbered p (x ∷ rows) number row own passes =
    elim (x.1.number == number) as
    (λ b. (x.1.number == number) ≡ b → cond b (Some x) (numbered rows number) ≡ Some row → numbered (filter p (x ∷ rows)) number ≡ Some row) [
      | true ↦ λ t own.
          let same : x ≡ row = cc in
          let first : filter p (x ∷ rows) ≡ x ∷ filter p rows = ap (λ (b : Bool). cond b (x ∷ filter p rows) (filter p rows)) (ap p same ∙ passes) in
          ap (λ (found : List Row). numbered found number) first ∙ ap (λ (b : Bool). cond b (Some x) (numbered (filter p rows) number)) t ∙ own
      | false ↦ λ t own.
          let rest = still_numbered p rows number row own passes in
          elim (p x) as (λ b. numbered (cond b (x ∷ filter p rows) (filter p rows)) number ≡ Some row) [
            | true ↦ ap (λ (b : Bool). cond b (Some x) (numbered (filter p rows) number)) t ∙ rest
            | false ↦ rest
          ]
    ] refl own

chosen : (y r : Row) (o : Option Row) → Some (first_of_two y o) ≡ Some r → (y ≡ r) ⊎ (o ≡ Some r)
chosen y r None e = inl cc
chosen y r (Some o) e =
    elim (is_before (name_of o) (name_of y)) as (λ b. Some (cond b o y) ≡ Some r → (y ≡ r) ⊎ (Some o ≡ Some r)) [
      | true ↦ λ k. inr k
      | false ↦ λ k. inl cc
    ] e

-- the first by name of those that pass a test passes it
pub first_passes : (p : Row → Bool) (rows : List Row) (first : Row) → first_by_name (filter p rows) ≡ Some first → p first ≡ true
first_passes p [] first e = cc
first_passes p (x ∷ rows) first e =
    elim (p x) as (λ b. p x ≡ b → first_by_name (cond b (x ∷ filter p rows) (filter p rows)) ≡ Some first → p first ≡ true) [
      | true ↦ λ t k. elim (chosen x first (first_by_name (filter p rows)) k) [
        | inl same ↦ sym (ap p same) ∙ t
        | inr more ↦ first_passes p rows first more
      ]
      | false ↦ λ t k. first_passes p rows first k
    ] refl e

-- and no entry among them has a name before its own
pub none_before : (rows : List Row) (number : ℕ) (row first : Row) → numbered rows number ≡ Some row → first_by_name rows ≡ Some first →
    is_before (name_of row) (name_of first) ≡ false
none_before [] number row first own e = cc
none_before (y ∷ []) number row first own e =
    let same : y ≡ first = cc in
    elim (y.1.number == number) as (λ b. cond b (Some y) None ≡ Some row → is_before (name_of row) (name_of first) ≡ false) [
      | true ↦ λ k.
          let one : row ≡ first = cc in
          ap (λ (r : Row). is_before (name_of r) (name_of first)) one ∙ before_itself (name_of first)
      | false ↦ λ k. cc
    ] own
none_before (y ∷ z ∷ rows) number row first own e =
    let next : Row = first_of_two z (first_by_name rows) in
    let later : numbered (z ∷ rows) number ≡ Some row → is_before (name_of row) (name_of next) ≡ false = λ k. none_before (z ∷ rows) number row next k refl in
    elim (is_before (name_of next) (name_of y)) as
    (λ b. is_before (name_of next) (name_of y) ≡ b → Some (cond b next y) ≡ Some first → is_before (name_of row) (name_of first) ≡ false) [
      | true ↦ λ t k.
          let same : next ≡ first = cc in
          ap (λ (r : Row). is_before (name_of row) (name_of r)) (sym same)
          ∙ elim (y.1.number == number) as (λ b. cond b (Some y) (numbered (z ∷ rows) number) ≡ Some row → is_before (name_of row) (name_of next) ≡ false) [
            | true ↦ λ o.
                let one : row ≡ y = cc in
                ap (λ (r : Row). is_before (name_of r) (name_of next)) one ∙ before_back (name_of next) (name_of y) t
            | false ↦ λ o. later o
          ] own
      | false ↦ λ t k.
          let same : y ≡ first = cc in
          ap (λ (r : Row). is_before (name_of row) (name_of r)) (sym same)
          ∙ elim (y.1.number == number) as (λ b. cond b (Some y) (numbered (z ∷ rows) number) ≡ Some row → is_before (name_of row) (name_of y) ≡ false) [
            | true ↦ λ o.
                let one : row ≡ y = cc in
                ap (λ (r : Row). is_before (name_of r) (name_of y)) one ∙ before_itself (name_of y)
            | false ↦ λ o. before_not (name_of row) (name_of next) (name_of y) (later o) t
          ] own
    ] refl e

-- a name behind one that comes after a place comes after it too
pub after_trans : (after : Option (List ℕ)) (a b : List ℕ) → is_after after a ≡ true → is_before a b ≡ true → is_after after b ≡ true
after_trans None a b h k = refl
after_trans (Some o) a b h k = before_trans o a b h k
