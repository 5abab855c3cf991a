-- A move of a good content.
use Rattle.std.proofs.Common.{◌≡◌, ◌≢◌, ℕ, zero, suc, ◌<◌, ◌≤◌, inl, inr, ◌==◌, Bool, true, false, not, ◌&&◌, ◌||◌, nat_lt, if◌then◌else◌, List, [], ◌∷◌, ◌++◌, length, take, Option, Some, None, refl, sym, ap, ◌∙◌, arith, append-nil}
use Rattle.std.specs.List.{AllByRecursion}
use Rattle.std.specs.Option.{option_map, option_map_or}
use Rattle.std.proofs.lemmas.Bool.Decides.{nat_tests}
use Rattle.std.proofs.lemmas.List.{length-map, length-take-le}
use Rattle.smb_wire.specs.Paths.{folded_path}
use Rattle.smb_tree.specs.declared.fault.TreeFault.{TreeFault}
use Rattle.smb_tree.specs.declared.fault.TreeFault.TheVariants.{Absent, ParentAbsent, Exists, TooDeep}
use Rattle.smb_tree.specs.Entries.{Entry, is_folder, is_folder_kind, last_part}
use Rattle.smb_tree.specs.Content.{Path, Row, Content, is_same_path, entry_at, number_at, numbered, parent, without, used_space}
use Rattle.smb_tree.specs.Laws.{AreApart}
use Rattle.smb_tree.specs.Parts.{AreBelow, is_other_folder, would_be_too_deep, move_fault_of, respelled, renamed, without_other, moved_rows, moved_row}
use Rattle.smb_tree.specs.Faults.{move_fault}
use Rattle.smb_tree.specs.Moves.{is_within, replaced, moved}
use Rattle.smb_tree.specs.Good.{GoodContent}
use Rattle.smb_tree.specs.MoveLaws.{CanMove}
use Rattle.smb_tree.proofs.Keys.{same_path-eq, same_path-itself, same_path-of_eq, same_path-sym}
use Rattle.smb_tree.proofs.Apart.{numbered-from_at, at-from_numbered, number-from_numbered}
use Rattle.smb_tree.proofs.Removals.{at-without, at-without_none, apart_removed}
use Rattle.smb_tree.proofs.Heads.{within_or_not, within-append, within_rest, not_within_not_it, replaced-elsewhere, two_heads, beneath_not_it, parent_beneath, within_parent, not_around}
use Rattle.smb_tree.proofs.Moving.{used-renamed}
use Rattle.smb_tree.proofs.Renamed.{is_clear, at-renamed-beneath, at-renamed-old, at-renamed-elsewhere, same_folder, numbered-renamed, apart-renamed, below-renamed, below-without, numbered-without, few-without, less-without, all-without, all-map, all-more, paths_of_all, all_of_paths, clear_rows}

-- what stands in the way of no move
record IsFree (rows : List Row) (n : ℕ) (from to : Path) : Type 0 where
  folder : is_folder (entry_at rows (parent to)) ≡ true
  outside : is_within from (parent to) ≡ false
  file : is_other_folder n (entry_at rows to) ≡ false
  short : would_be_too_deep rows from to ≡ false

tests : (a b c d : Bool) (x y z : TreeFault) → (if not a || b then Some x else if c then Some y else if d then Some z else None) ≡ None → (a ≡ true) × (b ≡ false) × (c ≡ false) × (d ≡ false)
tests true false false false x y z h = (refl, refl, refl, refl)
tests false b c d x y z h = cc
tests true true c d x y z h = cc
tests true false true d x y z h = cc
tests true false false true x y z h = cc

free_is : (content : Content) (n : ℕ) (parts : List (List ℕ)) (from : Path) (entry : Entry) → CanMove content n parts from entry → IsFree content.rows n from (folded_path parts)
free_is content n parts from entry m =
    let to : Path = folded_path parts in
    let t = tests (is_folder (entry_at content.rows (parent to))) (is_within from (parent to)) (is_other_folder n (entry_at content.rows to)) (would_be_too_deep content.rows from to) ParentAbsent Exists TooDeep (sym (ap (move_fault_of content.rows n to) m.found) ∙ m.free) in
    record { folder = t.0; outside = t.1; file = t.2; short = t.3 }

-- a folder that isn't another entry is the entry itself
itself : (o : Option Entry) (n : ℕ) → is_folder o ≡ true → is_other_folder n o ≡ false → (e : Entry) × (o ≡ Some e) × (e.number ≡ n)
itself None n h k = absurd (let e : false ≡ true = h in cc)
itself (Some e) n h k = (e, refl, grind (arith, nat_tests, h, k))

path_itself : (rows : List Row) (n : ℕ) (from q : Path) (entry e : Entry) → AreApart rows → numbered rows n ≡ Some (from, entry) → entry_at rows q ≡ Some e → e.number ≡ n → q ≡ from
path_itself rows n from q entry e a h k l =
    let same : Some (let row : Row = (q, e) in row) ≡ Some (from, entry) = sym (numbered-from_at rows q e a k) ∙ ap (numbered rows) l ∙ h in
    ap (λ (o : Option Row). option_map_or (λ row. row.0) o []) same

folder_itself : (rows : List Row) (n : ℕ) (from q : Path) (entry : Entry) → AreApart rows → numbered rows n ≡ Some (from, entry) → is_folder (entry_at rows q) ≡ true → is_other_folder n (entry_at rows q) ≡ false → q ≡ from
folder_itself rows n from q entry a h k l =
    let e = itself (entry_at rows q) n k l in path_itself rows n from q entry e.0 a h e.1 e.2

-- neither path is the root's
from_not_root : (from p : Path) → is_within from p ≡ false → is_within from [] ≡ false
from_not_root [] p h = absurd (let e : true ≡ false = h in cc)
from_not_root (c ∷ from) p h = refl

not_root_within : (to : Path) → (to ≡ [] → ⊥) → is_within to [] ≡ false
not_root_within [] h = absurd (h refl)
not_root_within (c ∷ to) h = refl

not_root_long : (to : Path) → (to ≡ [] → ⊥) → 0 < length to
not_root_long [] h = absurd (h refl)
not_root_long (c ∷ to) h = omega arith

to_not_root : (content : Content) (n : ℕ) (from to : Path) (entry : Entry) → GoodContent content → numbered content.rows n ≡ Some (from, entry) → IsFree content.rows n from to → to ≡ [] → ⊥
to_not_root content n from to entry g h f e =
    let folder : is_folder (entry_at content.rows to) ≡ true = rw e g.root in
    let same : to ≡ from = folder_itself content.rows n from to entry g.apart h folder f.file in
    let none : is_within from [] ≡ false = from_not_root from (parent to) f.outside in
    let itself_in : is_within from [] ≡ true = rw (sym same ∙ e) refl in
    let no : false ≡ true = sym none ∙ itself_in in cc

-- beneath what is no folder there is nothing
around_it : (rows : List Row) (p : Path) (k : ℕ) (name : List ℕ) (rest : Path) (e : Entry) → AllByRecursion (λ row. is_folder (entry_at rows (parent row.0)) ≡ true) rows → length rest ≡ k → entry_at rows (p ++ name ∷ rest) ≡ Some e → is_folder (entry_at rows (p ++ take k (name ∷ rest))) ≡ true
around_it rows p k name rest e h l s =
    let around : is_folder (entry_at rows (parent (p ++ name ∷ rest))) ≡ true = paths_of_all (λ q. is_folder (entry_at rows (parent q)) ≡ true) rows (p ++ name ∷ rest) e h s in
    ap (λ (q : Path). is_folder (entry_at rows q)) (sym (parent_beneath p name rest ∙ ap (λ (n : ℕ). p ++ take n (name ∷ rest)) l)) ∙ around

none_or : (o : Option Entry) → ((e : Entry) → o ≡ Some e → ⊥) → o ≡ None
none_or None h = refl
none_or (Some e) h = absurd (h e refl)

nothing_beneath : (rows : List Row) (p : Path) (k : ℕ) (name : List ℕ) (rest : Path) → AllByRecursion (λ row. is_folder (entry_at rows (parent row.0)) ≡ true) rows → is_folder (entry_at rows p) ≡ false → length rest ≡ k → entry_at rows (p ++ name ∷ rest) ≡ None
nothing_beneath rows p zero name rest h f l =
    none_or (entry_at rows (p ++ name ∷ rest)) (λ e s.
    let there = around_it rows p zero name rest e h l s in
    let no : false ≡ true = sym f ∙ ap (λ (q : Path). is_folder (entry_at rows q)) (sym (append-nil p)) ∙ there in cc)
nothing_beneath rows p (suc j) name rest h f l =
    let none : entry_at rows (p ++ name ∷ take j rest) ≡ None = nothing_beneath rows p j name (take j rest) h f (length-take-le j rest (omega (arith, l))) in
    none_or (entry_at rows (p ++ name ∷ rest)) (λ e s.
    let there = around_it rows p (suc j) name rest e h l s in
    let no : false ≡ true = sym (ap is_folder none) ∙ there in cc)

-- the paths of a move are the same, or neither is within the other
to_outside : (from to : Path) → is_within from (parent to) ≡ false → is_same_path from to ≡ false → is_within from to ≡ false
to_outside from to h k =
    elim (within_or_not from to) [
      | inl s ↦ absurd (split s.0 s.1)
      | inr l ↦ l
    ]
  where
    split : (r : Path) → to ≡ from ++ r → ⊥
    split [] e = let same : is_same_path from to ≡ true = same_path-of_eq from to (sym (e ∙ append-nil from)) in let no : false ≡ true = sym k ∙ same in cc
    split (name ∷ r) e =
        let around : is_within from (parent to) ≡ true = ap (λ (q : Path). is_within from (parent q)) e ∙ ap (is_within from) (parent_beneath from name r) ∙ within-append from (take (length r) (name ∷ r)) in
        let no : false ≡ true = sym h ∙ around in cc

from_outside : (content : Content) (n : ℕ) (from to : Path) (entry : Entry) → GoodContent content → numbered content.rows n ≡ Some (from, entry) → IsFree content.rows n from to → is_same_path from to ≡ false → is_within to from ≡ false
from_outside content n from to entry g h f k =
    elim (within_or_not to from) [
      | inl s ↦ absurd (split s.0 s.1)
      | inr l ↦ l
    ]
  where
    other : to ≡ from → ⊥
    other e = let same : is_same_path from to ≡ true = same_path-of_eq from to (sym e) in let no : false ≡ true = sym k ∙ same in cc

    split : (r : Path) → from ≡ to ++ r → ⊥
    split [] e = other (sym (e ∙ append-nil to))
    split (name ∷ r) e =
        elim (is_folder (entry_at content.rows to)) as (λ b. is_folder (entry_at content.rows to) ≡ b → ⊥) [
          | true ↦ λ t. other (folder_itself content.rows n from to entry g.apart h t f.file)
          | false ↦ λ t. (
              let none : entry_at content.rows from ≡ None = ap (entry_at content.rows) e ∙ nothing_beneath content.rows to (length r) name r g.parents t refl in
              let some : entry_at content.rows from ≡ Some entry = at-from_numbered content.rows from entry n g.apart h in
              let no : None ≡ Some entry = sym none ∙ some in cc
              )
        ] refl

-- what is left of the rows without what is replaced
gone_at : (rows : List Row) (n : ℕ) (to q : Path) → AreApart rows → is_same_path to q ≡ false → entry_at (without_other rows n (entry_at rows to)) q ≡ entry_at rows q
gone_at rows n to q a h =
    elim (entry_at rows to) as (λ o. entry_at rows to ≡ o → entry_at (without_other rows n o) q ≡ entry_at rows q) [
      | None ↦ λ _. refl
      | Some e ↦ λ s. elim (e.number == n) as (λ b. entry_at (if b then rows else without rows e.number) q ≡ entry_at rows q) [
        | true ↦ refl
        | false ↦ at-without rows to q e e.number a (numbered-from_at rows to e a s) ∙ rw h refl
      ]
    ] refl

gone_none : (rows : List Row) (n : ℕ) (o : Option Entry) (q : Path) → entry_at rows q ≡ None → entry_at (without_other rows n o) q ≡ None
gone_none rows n None q h = h
gone_none rows n (Some e) q h = elim (e.number == n) as (λ b. entry_at (if b then rows else without rows e.number) q ≡ None) [ true ↦ h | false ↦ at-without_none rows q e.number h ]

gone_to : (rows : List Row) (n : ℕ) (from to : Path) (entry : Entry) → AreApart rows → numbered rows n ≡ Some (from, entry) → is_same_path from to ≡ false → entry_at (without_other rows n (entry_at rows to)) to ≡ None
gone_to rows n from to entry a h k =
    elim (entry_at rows to) as (λ o. entry_at rows to ≡ o → entry_at (without_other rows n o) to ≡ None) [
      | None ↦ λ s. s
      | Some e ↦ λ s. elim (e.number == n) as (λ b. (e.number == n) ≡ b → entry_at (if b then rows else without rows e.number) to ≡ None) [
        | true ↦ λ l. absurd (
            let its : e.number ≡ n = grind (arith, nat_tests, l) in
            let same : is_same_path from to ≡ true = same_path-of_eq from to (sym (path_itself rows n from to entry e a h s its)) in
            let no : false ≡ true = sym k ∙ same in cc
            )
        | false ↦ λ l. at-without rows to to e e.number a (numbered-from_at rows to e a s) ∙ (let here = same_path-itself to in rw here refl)
      ] refl
    ] refl

gone_itself : (rows : List Row) (n : ℕ) (from to : Path) (entry : Entry) → AreApart rows → numbered rows n ≡ Some (from, entry) → from ≡ to → without_other rows n (entry_at rows to) ≡ rows
gone_itself rows n from to entry a h e =
    let there : entry_at rows to ≡ Some entry = ap (entry_at rows) (sym e) ∙ at-from_numbered rows from entry n a h in
    let its : (entry.number == n) ≡ true = let number = number-from_numbered rows (from, entry) n h in grind (arith, nat_tests, number) in
    ap (λ (o : Option Entry). without_other rows n o) there ∙ rw its refl

gone_within : (rows : List Row) (n : ℕ) (from to q : Path) (entry : Entry) → AreApart rows → numbered rows n ≡ Some (from, entry) → IsFree rows n from to → is_within from q ≡ true → entry_at (without_other rows n (entry_at rows to)) q ≡ entry_at rows q
gone_within rows n from to q entry a h f k =
    elim (is_same_path from to) as (λ b. is_same_path from to ≡ b → entry_at (without_other rows n (entry_at rows to)) q ≡ entry_at rows q) [
      | true ↦ λ s. ap (λ (rs : List Row). entry_at rs q) (gone_itself rows n from to entry a h (same_path-eq from to s))
      | false ↦ λ s. gone_at rows n to q a (elim (is_same_path to q) as (λ c. is_same_path to q ≡ c → c ≡ false) [
        | true ↦ λ t. (
            let inside : is_within from to ≡ true = ap (is_within from) (same_path-eq to q t) ∙ k in
            sym inside ∙ to_outside from to f.outside s
            )
        | false ↦ λ t. refl
      ] refl)
    ] refl

-- the new path is clear of others
clear_is : (content : Content) (n : ℕ) (from to : Path) (entry : Entry) → GoodContent content → numbered content.rows n ≡ Some (from, entry) → IsFree content.rows n from to → is_clear from to (without_other content.rows n (entry_at content.rows to)) ≡ true
clear_is content n from to entry g h f =
    clear_rows from to (without_other content.rows n (entry_at content.rows to)) (λ q k l. elim (is_same_path from to) as (λ b. is_same_path from to ≡ b → entry_at (without_other content.rows n (entry_at content.rows to)) q ≡ None) [
      | true ↦ λ s. absurd (let inside : is_within from q ≡ true = ap (λ (p : Path). is_within p q) (same_path-eq from to s) ∙ k in let no : false ≡ true = sym l ∙ inside in cc)
      | false ↦ λ s. (let r = within_rest to q k in beneath s r.0 q r.1)
    ] refl)
  where
    beneath : is_same_path from to ≡ false → (r q : Path) → q ≡ to ++ r → entry_at (without_other content.rows n (entry_at content.rows to)) q ≡ None
    beneath s [] q e = ap (entry_at (without_other content.rows n (entry_at content.rows to))) (e ∙ append-nil to) ∙ gone_to content.rows n from to entry g.apart h s
    beneath s (name ∷ r) q e =
        elim (is_folder (entry_at content.rows to)) as (λ b. is_folder (entry_at content.rows to) ≡ b → entry_at (without_other content.rows n (entry_at content.rows to)) q ≡ None) [
          | true ↦ λ t. absurd (let same : is_same_path from to ≡ true = same_path-of_eq from to (sym (folder_itself content.rows n from to entry g.apart h t f.file)) in let no : false ≡ true = sym s ∙ same in cc)
          | false ↦ λ t. gone_none content.rows n (entry_at content.rows to) q (ap (entry_at content.rows) e ∙ nothing_beneath content.rows to (length r) name r g.parents t refl)
        ] refl

-- the rows once an entry that was found is moved
abbrev after : Content → ℕ → List (List ℕ) → Path → List Row
after content n parts from = renamed from parts (without_other content.rows n (entry_at content.rows (folded_path parts)))

moved_after : (content : Content) (n : ℕ) (parts : List (List ℕ)) (from : Path) (entry : Entry) → numbered content.rows n ≡ Some (from, entry) → (moved content n parts).rows ≡ after content n parts from
moved_after content n parts from entry h = ap (moved_rows content.rows n parts) h

-- what is at each path then
at_beneath : (content : Content) (n : ℕ) (parts : List (List ℕ)) (from : Path) (entry : Entry) (r : Path) → CanMove content n parts from entry → entry_at (after content n parts from) (folded_path parts ++ r) ≡ option_map (respelled from parts (from ++ r)) (entry_at content.rows (from ++ r))
at_beneath content n parts from entry r m =
    let f = free_is content n parts from entry m in
    let to : Path = folded_path parts in
    at-renamed-beneath from parts (without_other content.rows n (entry_at content.rows to)) r (clear_is content n from to entry m.good m.found f)
    ∙ ap (option_map (respelled from parts (from ++ r))) (gone_within content.rows n from to (from ++ r) entry m.good.apart m.found f (within-append from r))

at_elsewhere : (content : Content) (n : ℕ) (parts : List (List ℕ)) (from : Path) (entry : Entry) (q : Path) → CanMove content n parts from entry → is_within from q ≡ false → is_within (folded_path parts) q ≡ false → entry_at (after content n parts from) q ≡ entry_at content.rows q
at_elsewhere content n parts from entry q m h k =
    let to : Path = folded_path parts in
    at-renamed-elsewhere from parts (without_other content.rows n (entry_at content.rows to)) q h k
    ∙ gone_at content.rows n to q m.good.apart (same_path-sym to q ∙ not_within_not_it to q k)

-- the laws
pub entry_moved : (content : Content) (n : ℕ) (parts : List (List ℕ)) (from : Path) (entry : Entry) → CanMove content n parts from entry → entry_at (moved content n parts).rows (folded_path parts) ≡ Some (record entry { spelling = last_part parts })
entry_moved content n parts from entry m =
    let here = same_path-itself from in
    ap (λ (rows : List Row). entry_at rows (folded_path parts)) (moved_after content n parts from entry m.found)
    ∙ ap (entry_at (after content n parts from)) (sym (append-nil (folded_path parts)))
    ∙ at_beneath content n parts from entry [] m
    ∙ ap (λ (p : Path). option_map (respelled from parts p) (entry_at content.rows p)) (append-nil from)
    ∙ ap (option_map (respelled from parts from)) (at-from_numbered content.rows from entry n m.good.apart m.found)
    ∙ rw here refl

not_respelled : (from : Path) (parts : List (List ℕ)) (p : Path) (o : Option Entry) → is_same_path p from ≡ false → option_map (respelled from parts p) o ≡ o
not_respelled from parts p None h = refl
not_respelled from parts p (Some e) h = rw h refl

pub beneath_moved : (content : Content) (n : ℕ) (parts : List (List ℕ)) (from : Path) (entry : Entry) (name : List ℕ) (rest : Path) → CanMove content n parts from entry → entry_at (moved content n parts).rows (folded_path parts ++ name ∷ rest) ≡ entry_at content.rows (from ++ name ∷ rest)
beneath_moved content n parts from entry name rest m =
    ap (λ (rows : List Row). entry_at rows (folded_path parts ++ name ∷ rest)) (moved_after content n parts from entry m.found)
    ∙ at_beneath content n parts from entry (name ∷ rest) m
    ∙ not_respelled from parts (from ++ name ∷ rest) (entry_at content.rows (from ++ name ∷ rest)) (beneath_not_it from name rest)

pub nothing_left : (content : Content) (n : ℕ) (parts : List (List ℕ)) (from : Path) (entry : Entry) (q : Path) → CanMove content n parts from entry → is_same_path from (folded_path parts) ≡ false → is_within from q ≡ true → entry_at (moved content n parts).rows q ≡ None
nothing_left content n parts from entry q m s h =
    let to : Path = folded_path parts in
    let f = free_is content n parts from entry m in
    let outside : is_within to q ≡ false = elim (is_within to q) as (λ b. is_within to q ≡ b → b ≡ false) [
      | true ↦ λ k. elim (two_heads from to q h k) [
        | inl t ↦ sym t ∙ to_outside from to f.outside s
        | inr t ↦ sym t ∙ from_outside content n from to entry m.good m.found f s
      ]
      | false ↦ λ k. refl
    ] refl in
    ap (λ (rows : List Row). entry_at rows q) (moved_after content n parts from entry m.found)
    ∙ at-renamed-old from parts (without_other content.rows n (entry_at content.rows to)) q h outside

pub others_kept : (content : Content) (n : ℕ) (parts : List (List ℕ)) (from : Path) (entry : Entry) (q : Path) → CanMove content n parts from entry → is_within from q ≡ false → is_within (folded_path parts) q ≡ false → entry_at (moved content n parts).rows q ≡ entry_at content.rows q
others_kept content n parts from entry q m h k =
    ap (λ (rows : List Row). entry_at rows q) (moved_after content n parts from entry m.found) ∙ at_elsewhere content n parts from entry q m h k

pub numbers_kept : (content : Content) (n : ℕ) (parts : List (List ℕ)) (from : Path) (entry : Entry) (other : ℕ) → CanMove content n parts from entry → (number_at content.rows (folded_path parts) ≡ Some other → other ≡ n) → numbered (moved content n parts).rows other ≡ option_map (moved_row from parts) (numbered content.rows other)
numbers_kept content n parts from entry other m h =
    let to : Path = folded_path parts in
    let rows : List Row = content.rows in
    ap (λ (rs : List Row). numbered rs other) (moved_after content n parts from entry m.found)
    ∙ numbered-renamed from parts (without_other rows n (entry_at rows to)) other
    ∙ ap (option_map (moved_row from parts)) (elim (entry_at rows to) as (λ o. (option_map (λ entry. entry.number) o ≡ Some other → other ≡ n) → numbered (without_other rows n o) other ≡ numbered rows other) [
      | None ↦ λ _. refl
      | Some e ↦ λ k. elim (e.number == n) as (λ b. (e.number == n) ≡ b → numbered (if b then rows else without rows e.number) other ≡ numbered rows other) [
        | true ↦ λ _. refl
        | false ↦ λ s. numbered-without rows e.number other m.good.apart ∙ (elim (other == e.number) as (λ b. (other == e.number) ≡ b → (if b then None else numbered rows other) ≡ numbered rows other) [
          | true ↦ λ t. absurd (
              let its : other ≡ e.number = grind (arith, nat_tests, t) in
              let it : other ≡ n = k (ap Some (sym its)) in
              let same : (e.number == n) ≡ true = grind (arith, nat_tests, its, it) in
              let no : false ≡ true = sym s ∙ same in cc
              )
          | false ↦ λ t. refl
        ] refl)
      ] refl
    ] h)

pub replaced_gone : (content : Content) (n : ℕ) (parts : List (List ℕ)) (from : Path) (entry : Entry) (other : ℕ) → CanMove content n parts from entry → number_at content.rows (folded_path parts) ≡ Some other → other ≢ n → numbered (moved content n parts).rows other ≡ None
replaced_gone content n parts from entry other m h d =
    let to : Path = folded_path parts in
    let rows : List Row = content.rows in
    ap (λ (rs : List Row). numbered rs other) (moved_after content n parts from entry m.found)
    ∙ numbered-renamed from parts (without_other rows n (entry_at rows to)) other
    ∙ ap (option_map (moved_row from parts)) (elim (entry_at rows to) as (λ o. option_map (λ entry. entry.number) o ≡ Some other → numbered (without_other rows n o) other ≡ None) [
      | None ↦ λ k. absurd (let no : None ≡ Some other = k in cc)
      | Some e ↦ λ k. (
          let its : e.number ≡ other = ap (λ (o : Option ℕ). option_map_or (λ (x : ℕ). x) o 0) k in
          let differs : (e.number == n) ≡ false = grind (arith, nat_tests, its, d) in
          let same : (other == e.number) ≡ true = grind (arith, nat_tests, its) in
          rw differs (numbered-without rows e.number other m.good.apart ∙ rw same refl)
          )
    ] h)

-- the root is replaced by nothing
folder_there : (o : Option Entry) → is_folder o ≡ true → (e : Entry) × (o ≡ Some e) × (is_folder_kind e.kind ≡ true)
folder_there None h = absurd (let e : false ≡ true = h in cc)
folder_there (Some e) h = (e, refl, h)

pub root_kept : (content : Content) (n : ℕ) (from : Path) (entry : Entry) → GoodContent content → numbered content.rows n ≡ Some (from, entry) → n ≢ 1 → move_fault content n [] ≡ Some Exists
root_kept content n from entry g h d =
    let r = folder_there (entry_at content.rows []) g.root in
    let first : r.0.number ≡ 1 = ap (λ (o : Option ℕ). option_map_or (λ (x : ℕ). x) o 0) (sym (ap (option_map (λ (e : Entry). e.number)) r.1) ∙ g.first) in
    let other : (r.0.number == n) ≡ false = grind (arith, nat_tests, first, d) in
    let file : is_other_folder n (entry_at content.rows []) ≡ true = ap (is_other_folder n) r.1 ∙ rw (r.2, other) refl in
    let outside : is_within from [] ≡ false = away from (λ e.
    let there : entry_at content.rows [] ≡ Some entry = ap (entry_at content.rows) (sym e) ∙ at-from_numbered content.rows from entry n g.apart h in
    let its : entry.number ≡ n = number-from_numbered content.rows (from, entry) n h in
    let one : entry.number ≡ 1 = ap (λ (o : Option ℕ). option_map_or (λ (x : ℕ). x) o 0) (sym (ap (option_map (λ (e : Entry). e.number)) there) ∙ g.first) in
    d (sym its ∙ one)) in
    ap (move_fault_of content.rows n []) h ∙ rw (g.root, outside, file) refl
  where
    away : (from : Path) → (from ≡ [] → ⊥) → is_within from [] ≡ false
    away [] k = absurd (k refl)
    away (c ∷ from) k = refl

-- a move makes no entry and uses no space
less_gone : (rows : List Row) (n : ℕ) (o : Option Entry) → (length (without_other rows n o) ≤ length rows) × (used_space (without_other rows n o) ≤ used_space rows)
less_gone rows n None = (omega arith, omega arith)
less_gone rows n (Some e) = elim (e.number == n) as (λ b. (length (if b then rows else without rows e.number) ≤ length rows) × (used_space (if b then rows else without rows e.number) ≤ used_space rows)) [
  | true ↦ (omega arith, omega arith)
  | false ↦ (few-without rows e.number, less-without rows e.number)
]

-- a move makes no entry and uses no space
pub record AddsNothing (old new : List Row) : Type 0 where
  pub rows : length new ≤ length old
  pub space : used_space new ≤ used_space old

less_after : (rows : List Row) (n : ℕ) (parts : List (List ℕ)) (from : Path) (o : Option Entry) → AddsNothing rows (renamed from parts (without_other rows n o))
less_after rows n parts from o =
    let less = less_gone rows n o in
    record {
      rows = let long = length-map (without_other rows n o) (moved_row from parts) in omega (arith, long, less.0);
      space = let same = used-renamed from parts (without_other rows n o) in omega (arith, same, less.1);
    }

pub adds_nothing : (content : Content) (n : ℕ) (parts : List (List ℕ)) → AddsNothing content.rows (moved content n parts).rows
adds_nothing content n parts =
    elim (numbered content.rows n) as (λ o. AddsNothing content.rows (moved_rows content.rows n parts o)) [
      | None ↦ record { rows = omega arith; space = omega arith }
      | Some row ↦ less_after content.rows n parts row.0 (entry_at content.rows (folded_path parts))
    ]

all_gone : (P : Row → Type 0) (rows : List Row) (n : ℕ) (o : Option Entry) → AllByRecursion P rows → AllByRecursion P (without_other rows n o)
all_gone P rows n None h = h
all_gone P rows n (Some e) h = elim (e.number == n) as (λ b. AllByRecursion P (if b then rows else without rows e.number)) [ true ↦ h | false ↦ all-without P rows e.number h ]

apart_gone : (rows : List Row) (n : ℕ) (o : Option Entry) → AreApart rows → AreApart (without_other rows n o)
apart_gone rows n None a = a
apart_gone rows n (Some e) a = elim (e.number == n) as (λ b. AreApart (if b then rows else without rows e.number)) [ true ↦ a | false ↦ apart_removed rows e.number a ]

below_gone : (rows : List Row) (n : ℕ) (o : Option Entry) (next : ℕ) → AreBelow rows next → AreBelow (without_other rows n o) next
below_gone rows n None next b = b
below_gone rows n (Some e) next b = elim (e.number == n) as (λ c. AreBelow (if c then rows else without rows e.number) next) [ true ↦ b | false ↦ below-without rows e.number next b ]

-- no path gets too long
short_after : (from to : Path) (rows : List Row) → AllByRecursion (λ row. length row.0 ≤ 32) rows → would_be_too_deep rows from to ≡ false → AllByRecursion (λ row. length (replaced from to row.0) ≤ 32) rows
short_after from to [] h k = tt
short_after from to (x ∷ rows) h k =
    let here : (is_within from x.0 && nat_lt 32 (length (replaced from to x.0))) ≡ false = grind (arith, k) in (
      elim (is_within from x.0) as (λ b. is_within from x.0 ≡ b → (b && nat_lt 32 (length (replaced from to x.0))) ≡ false → length (replaced from to x.0) ≤ 32) [
        | true ↦ λ s t. grind (arith, nat_tests, t)
        | false ↦ λ s t. (let same = ap (λ (p : Path). length p) (replaced-elsewhere from to x.0 s) in omega (arith, same, h.0))
      ] refl here,
      short_after from to rows h.1 (grind (arith, k)),
    )

small_after : (most : ℕ) (from : Path) (parts : List (List ℕ)) (x : Row) → length x.1.bytes ≤ most → length (moved_row from parts x).1.bytes ≤ most
small_after most from parts x h = elim (is_same_path x.0 from) as (λ b. length (if b then record x.1 { spelling = last_part parts } else x.1).bytes ≤ most) [ true ↦ h | false ↦ h ]

bare_after : (from : Path) (parts : List (List ℕ)) (x : Row) → (is_folder_kind x.1.kind ≡ true → length x.1.bytes ≡ 0) → is_folder_kind (moved_row from parts x).1.kind ≡ true → length (moved_row from parts x).1.bytes ≡ 0
bare_after from parts x h = elim (is_same_path x.0 from) as (λ b. is_folder_kind (if b then record x.1 { spelling = last_part parts } else x.1).kind ≡ true → length (if b then record x.1 { spelling = last_part parts } else x.1).bytes ≡ 0) [ true ↦ h | false ↦ h ]

-- around each entry there is a folder
folder_around : (content : Content) (n : ℕ) (parts : List (List ℕ)) (from : Path) (entry : Entry) (q : Path) (e : Entry) → CanMove content n parts from entry → entry_at (after content n parts from) q ≡ Some e → is_folder (entry_at (after content n parts from) (parent q)) ≡ true
folder_around content n parts from entry q e m h =
    elim (within_or_not (folded_path parts) q) [
      | inl s ↦ inside s.0 s.1
      | inr k ↦ elim (is_within from q) as (λ b. is_within from q ≡ b → is_folder (entry_at (after content n parts from) (parent q)) ≡ true) [
        | true ↦ λ l. absurd (let none = at-renamed-old from parts (without_other content.rows n (entry_at content.rows (folded_path parts))) q l k in let no : None ≡ Some e = sym none ∙ h in cc)
        | false ↦ λ l. outside k l
      ] refl
    ]
  where
    not_inside : (p : Path) → is_within p q ≡ false → is_within p (parent q) ≡ false
    not_inside p k = elim (is_within p (parent q)) as (λ b. is_within p (parent q) ≡ b → b ≡ false) [ true ↦ λ l. sym (within_parent p q l) ∙ k | false ↦ λ l. refl ] refl

    outside : is_within (folded_path parts) q ≡ false → is_within from q ≡ false → is_folder (entry_at (after content n parts from) (parent q)) ≡ true
    outside k l =
        let there : entry_at content.rows q ≡ Some e = sym (at_elsewhere content n parts from entry q m l k) ∙ h in
        let kept = at_elsewhere content n parts from entry (parent q) m (not_inside from l) (not_inside (folded_path parts) k) in
        ap is_folder kept ∙ paths_of_all (λ p. is_folder (entry_at content.rows (parent p)) ≡ true) content.rows q e m.good.parents there

    inside : (r : Path) → q ≡ folded_path parts ++ r → is_folder (entry_at (after content n parts from) (parent q)) ≡ true
    inside [] d =
        let to : Path = folded_path parts in
        let f = free_is content n parts from entry m in
        let kept = at_elsewhere content n parts from entry (parent to) m f.outside (not_around to (not_root_long to (to_not_root content n from to entry m.good m.found f))) in
        ap (λ (p : Path). is_folder (entry_at (after content n parts from) (parent p))) (d ∙ append-nil to) ∙ ap is_folder kept ∙ f.folder
    inside (name ∷ r) d =
        let to : Path = folded_path parts in
        let front : Path = take (length r) (name ∷ r) in
        let there : entry_at content.rows (from ++ name ∷ r) ≡ Some e =
        sym (not_respelled from parts (from ++ name ∷ r) (entry_at content.rows (from ++ name ∷ r)) (beneath_not_it from name r)) ∙ sym (at_beneath content n parts from entry (name ∷ r) m) ∙ ap (entry_at (after content n parts from)) (sym d) ∙ h in
        let around : is_folder (entry_at content.rows (parent (from ++ name ∷ r))) ≡ true = paths_of_all (λ p. is_folder (entry_at content.rows (parent p)) ≡ true) content.rows (from ++ name ∷ r) e m.good.parents there in
        ap (λ (p : Path). is_folder (entry_at (after content n parts from) p)) (ap parent d ∙ parent_beneath to name r)
        ∙ ap is_folder (at_beneath content n parts from entry front m)
        ∙ same_folder from parts (from ++ front) (entry_at content.rows (from ++ front))
        ∙ ap (λ (p : Path). is_folder (entry_at content.rows p)) (sym (parent_beneath from name r)) ∙ around

good_after : (content : Content) (n : ℕ) (parts : List (List ℕ)) (from : Path) (entry : Entry) → CanMove content n parts from entry → GoodContent (record content { rows = after content n parts from })
good_after content n parts from entry m =
    let to : Path = folded_path parts in
    let f = free_is content n parts from entry m in
    let g = m.good in
    let gone : List Row = without_other content.rows n (entry_at content.rows to) in
    let root_kept : entry_at (after content n parts from) [] ≡ entry_at content.rows [] = at_elsewhere content n parts from entry [] m (from_not_root from (parent to) f.outside) (not_root_within to (to_not_root content n from to entry g m.found f)) in
    let less = less_after content.rows n parts from (entry_at content.rows to) in
    record {
      root = ap is_folder root_kept ∙ g.root;
      first = ap (option_map (λ (e : Entry). e.number)) root_kept ∙ g.first;
      parents = all_of_paths (λ q. is_folder (entry_at (after content n parts from) (parent q)) ≡ true) (after content n parts from) (λ q e h. folder_around content n parts from entry q e m h);
      apart = apart-renamed from parts gone (apart_gone content.rows n (entry_at content.rows to) g.apart) (clear_is content n from to entry g m.found f);
      below = below-renamed from parts gone content.next (below_gone content.rows n (entry_at content.rows to) content.next g.below);
      counted = g.counted;
      few = omega (arith, less.rows, g.few);
      shallow = all-map (λ row. length row.0 ≤ 32) (moved_row from parts) gone (all_gone (λ row. length (replaced from to row.0) ≤ 32) content.rows n (entry_at content.rows to) (short_after from to content.rows g.shallow f.short));
      small = all-map (λ row. length row.1.bytes ≤ content.limits.file_bytes) (moved_row from parts) gone (all-more (λ row. length row.1.bytes ≤ content.limits.file_bytes) (λ row. length (moved_row from parts row).1.bytes ≤ content.limits.file_bytes) gone (small_after content.limits.file_bytes from parts) (all_gone (λ row. length row.1.bytes ≤ content.limits.file_bytes) content.rows n (entry_at content.rows to) g.small));
      bare = all-map (λ row. is_folder_kind row.1.kind ≡ true → length row.1.bytes ≡ 0) (moved_row from parts) gone (all-more (λ row. is_folder_kind row.1.kind ≡ true → length row.1.bytes ≡ 0) (λ row. is_folder_kind (moved_row from parts row).1.kind ≡ true → length (moved_row from parts row).1.bytes ≡ 0) gone (bare_after from parts) (all_gone (λ row. is_folder_kind row.1.kind ≡ true → length row.1.bytes ≡ 0) content.rows n (entry_at content.rows to) g.bare));
      fits = omega (arith, less.space, g.fits);
    }

pub good_kept : (content : Content) (n : ℕ) (parts : List (List ℕ)) → GoodContent content → move_fault content n (folded_path parts) ≡ None → GoodContent (moved content n parts)
good_kept content n parts g free =
    elim (numbered content.rows n) as (λ o. numbered content.rows n ≡ o → GoodContent (record content { rows = moved_rows content.rows n parts o })) [
      | None ↦ λ h. absurd (let fault : move_fault content n (folded_path parts) ≡ Some Absent = ap (move_fault_of content.rows n (folded_path parts)) h in let no : None ≡ Some Absent = sym free ∙ fault in cc)
      | Some row ↦ λ h. good_after content n parts row.0 row.1 (record { good = g; found = h; free = free })
    ] refl
