-- Entries stay lawful: by a change, an addition, a removal and a move.
use Rattle.std.proofs.Common.{◌≡◌, ℕ, ◌<◌, ◌==◌, true, false, ◌&&◌, if◌then◌else◌, List, [], ◌∷◌, ◌++◌, length, Option, Some, None, refl, sym, ap, subst, inl, inr, ◌∙◌, arith, append-nil, length-append}
use Rattle.std.proofs.lemmas.Bool.Decides.{nat_tests}
use Rattle.std.proofs.lemmas.List.{length-map}
use Rattle.std.proofs.lemmas.Nat.{and_assoc}
use Rattle.std.specs.List.{list_all}
use Rattle.smb_wire.specs.Names.{folded_unit, folded}
use Rattle.smb_wire.specs.Paths.{folded_path, is_lawful_unit, is_lawful_component, is_dots}
use Rattle.smb_tree.specs.declared.entry.Kind.{Kind}
use Rattle.smb_tree.specs.Entries.{Entry, kept_attributes, last_part, new_entry}
use Rattle.smb_tree.specs.Content.{Path, Row, Content, is_same_path, entry_at, numbered, changed, without}
use Rattle.smb_tree.specs.Moves.{replaced, moved}
use Rattle.smb_tree.specs.Parts.{moved_row, without_other, moved_rows, AreLawful}
use Rattle.smb_tree.specs.Good.{IsLawfulRow}
use Rattle.smb_tree.proofs.Heads.{within_or_not, replaced-within, replaced-elsewhere, not_within_not_it, beneath_not_it}
use Rattle.smb_tree.proofs.Keys.{same_path-itself}
use Rattle.smb_tree.proofs.Names.{last_folded}
use Rattle.smb_tree.proofs.Renamed.{all-without, all-map, all-more}

-- ---- folding

folded_twice_unit : (u : ℕ) → folded_unit (folded_unit u) ≡ folded_unit u
folded_twice_unit u = grind (arith, nat_tests)

folded_twice : (us : List ℕ) → folded (folded us) ≡ folded us
folded_twice [] = refl
folded_twice (u ∷ us) = rw (folded_twice_unit u, folded_twice us) refl

path_twice : (parts : List (List ℕ)) → folded_path (folded_path parts) ≡ folded_path parts
path_twice [] = refl
path_twice (part ∷ parts) = rw (folded_twice part, path_twice parts) refl

unit_folded : (u : ℕ) → is_lawful_unit (folded_unit u) ≡ is_lawful_unit u
unit_folded u = grind (arith, nat_tests)

units_folded : (us : List ℕ) → list_all is_lawful_unit (folded us) ≡ list_all is_lawful_unit us
units_folded [] = refl
units_folded (u ∷ us) = rw (unit_folded u, units_folded us) refl

dot_folded : (u : ℕ) → (folded_unit u == 46) ≡ (u == 46)
dot_folded u = grind (arith, nat_tests)

dots_folded : (us : List ℕ) → is_dots (folded us) ≡ is_dots us
dots_folded [] = refl
dots_folded (u ∷ []) = rw (dot_folded u) refl
dots_folded (u ∷ v ∷ []) = rw (dot_folded u, dot_folded v) refl
dots_folded (u ∷ v ∷ w ∷ us) = grind (arith, dot_folded u, dot_folded v)

component_folded : (part : List ℕ) → is_lawful_component (folded part) ≡ is_lawful_component part
component_folded part =
    let long : length (folded part) ≡ length part = length-map part folded_unit in
    rw (long, units_folded part, dots_folded part) refl

names_folded : (parts : List (List ℕ)) → list_all is_lawful_component (folded_path parts) ≡ list_all is_lawful_component parts
names_folded [] = refl
names_folded (part ∷ parts) = rw (component_folded part, names_folded parts) refl

-- ---- a change, an addition, a removal

-- a change of an entry that leaves its number and its spelling, and keeps no other attributes
pub record KeepsLawful (f : Entry → Entry) : Type 0 where
  pub number : (e : Entry) → (f e).number ≡ e.number
  pub spelling : (e : Entry) → (f e).spelling ≡ e.spelling
  pub attributes : (e : Entry) → kept_attributes e.basic.attributes.0 ≡ e.basic.attributes.0 → kept_attributes (f e).basic.attributes.0 ≡ (f e).basic.attributes.0

-- a change that leaves number and spelling, and whose attributes are kept ones whatever the entry's were
pub keeps_kept : (f : Entry → Entry) → ((e : Entry) → (f e).number ≡ e.number) → ((e : Entry) → (f e).spelling ≡ e.spelling) → ((e : Entry) → kept_attributes (f e).basic.attributes.0 ≡ (f e).basic.attributes.0) → KeepsLawful f
keeps_kept f n s a = record { number = n; spelling = s; attributes = λ e _. a e }

pub kept_twice : (attributes : ℕ) → kept_attributes (kept_attributes attributes) ≡ kept_attributes attributes
kept_twice attributes = and_assoc 0x27 attributes 0x27

row_changed : (f : Entry → Entry) (row : Row) → KeepsLawful f → IsLawfulRow row → IsLawfulRow (row.0, f row.1)
row_changed f row k h = record {
  number = rw (k.number row.1) h.number;
  names = h.names;
  same = h.same;
  spelling = rw (k.spelling row.1) h.spelling;
  attributes = k.attributes row.1 h.attributes;
}

pub lawful_changed : (f : Entry → Entry) (rows : List Row) (n : ℕ) → KeepsLawful f → AreLawful rows → AreLawful (changed f rows n)
lawful_changed f [] n k h = h
lawful_changed f (row ∷ rows) n k h =
    elim (row.1.number == n) as (λ b. AreLawful (if b then (row.0, f row.1) ∷ rows else row ∷ changed f rows n)) [ true ↦ (row_changed f row k h.0, h.1) | false ↦ (h.0, lawful_changed f rows n k h.1) ]

pub lawful_push : (rows : List Row) (row : Row) → AreLawful rows → IsLawfulRow row → AreLawful (rows ++ row ∷ [])
lawful_push [] row h p = (p, tt)
lawful_push (x ∷ rows) row h p = (h.0, lawful_push rows row h.1 p)

pub lawful_without : (rows : List Row) (n : ℕ) → AreLawful rows → AreLawful (without rows n)
lawful_without rows n h = all-without IsLawfulRow rows n h

-- a new entry at a lawful path
pub lawful_new : (number : ℕ) (parts : List (List ℕ)) (kind : Kind) (attributes moment : ℕ) → 0 < number → list_all is_lawful_component parts ≡ true → IsLawfulRow (folded_path parts, new_entry number parts kind attributes moment)
lawful_new number parts kind attributes moment n h = record {
  number = n;
  names = names_folded parts ∙ h;
  same = path_twice parts;
  spelling = sym (last_folded parts);
  attributes = kept_twice attributes;
}

-- ---- a move

names_append : (p r : Path) → list_all is_lawful_component (p ++ r) ≡ (list_all is_lawful_component p && list_all is_lawful_component r)
names_append [] r = refl
names_append (c ∷ p) r = grind (arith, names_append p r)

folded_append : (p r : Path) → folded_path (p ++ r) ≡ folded_path p ++ folded_path r
folded_append [] r = refl
folded_append (c ∷ p) r = ap (λ (q : Path). folded c ∷ q) (folded_append p r)

-- what is folded behind a front is folded itself
folded_behind : (p r : Path) → folded_path (p ++ r) ≡ p ++ r → folded_path r ≡ r
folded_behind [] r h = h
folded_behind (c ∷ p) r h = folded_behind p r (ap tail h)
  where
    tail : Path → Path
    tail [] = []
    tail (d ∷ q) = q

-- a path with something behind it ends as that does
last_append : (p : Path) (c : List ℕ) (r : Path) → last_part (p ++ c ∷ r) ≡ last_part (c ∷ r)
last_append [] c r = refl
last_append (d ∷ p) c r = grind (arith, last_append p c r, length-append p (c ∷ r))

row_moved_within : (from : Path) (parts : List (List ℕ)) (entry : Entry) (rest : Path) → list_all is_lawful_component parts ≡ true → IsLawfulRow (from ++ rest, entry) → IsLawfulRow (moved_row from parts (from ++ rest, entry))
row_moved_within from parts entry [] l h =
    let front : from ++ [] ≡ from = append-nil from in
    let here : is_same_path (from ++ []) from ≡ true = rw front (same_path-itself from) in
    let there : replaced from (folded_path parts) (from ++ []) ≡ folded_path parts = replaced-within from (folded_path parts) [] ∙ append-nil (folded_path parts) in
    record {
      number = rw here h.number;
      names = rw there (names_folded parts ∙ l);
      same = rw there (path_twice parts);
      spelling = rw (here, there) (sym (last_folded parts));
      attributes = rw here h.attributes;
    }
row_moved_within from parts entry (name ∷ rest) l h =
    let to : Path = folded_path parts in
    let apart : is_same_path (from ++ name ∷ rest) from ≡ false = beneath_not_it from name rest in
    let there : replaced from to (from ++ name ∷ rest) ≡ to ++ name ∷ rest = replaced-within from to (name ∷ rest) in
    let behind : list_all is_lawful_component (name ∷ rest) ≡ true = grind (arith, names_append from (name ∷ rest), h.names) in
    record {
      number = rw apart h.number;
      names = rw there (names_append to (name ∷ rest) ∙ rw (names_folded parts, l, behind) refl);
      same = rw there (folded_append to (name ∷ rest) ∙ rw (path_twice parts, folded_behind from (name ∷ rest) h.same) refl);
      spelling = rw (apart, there) (h.spelling ∙ last_append from name rest ∙ sym (last_append to name rest));
      attributes = rw apart h.attributes;
    }

row_moved : (from : Path) (parts : List (List ℕ)) (row : Row) → list_all is_lawful_component parts ≡ true → IsLawfulRow row → IsLawfulRow (moved_row from parts row)
row_moved from parts row l h =
    elim (within_or_not from row.0) [
      | inl s ↦ (let at : row ≡ (from ++ s.0, row.1) = λ i. (s.1 i, row.1) in
          let P : Row → Type 0 = λ r. IsLawfulRow (moved_row from parts r) in
          let Q : Row → Type 0 = IsLawfulRow in
          subst P (sym at) (row_moved_within from parts row.1 s.0 l (subst Q at h)))
      | inr k ↦ (let apart : is_same_path row.0 from ≡ false = not_within_not_it from row.0 k in
          let there : replaced from (folded_path parts) row.0 ≡ row.0 = replaced-elsewhere from (folded_path parts) row.0 k in
          rw (there, apart) h)
    ]

rows_left : (rows : List Row) (n : ℕ) (o : Option Entry) → AreLawful rows → AreLawful (without_other rows n o)
rows_left rows n None h = h
rows_left rows n (Some entry) h = elim (entry.number == n) as (λ b. AreLawful (if b then rows else without rows entry.number)) [ true ↦ h | false ↦ lawful_without rows entry.number h ]

rows_moved : (rows : List Row) (n : ℕ) (parts : List (List ℕ)) (o : Option Row) → list_all is_lawful_component parts ≡ true → AreLawful rows → AreLawful (moved_rows rows n parts o)
rows_moved rows n parts None l h = h
rows_moved rows n parts (Some row) l h =
    let left : List Row = without_other rows n (entry_at rows (folded_path parts)) in
    all-map IsLawfulRow (moved_row row.0 parts) left
    (all-more IsLawfulRow (λ r. IsLawfulRow (moved_row row.0 parts r)) left (λ r p. row_moved row.0 parts r l p) (rows_left rows n (entry_at rows (folded_path parts)) h))

pub lawful_moved : (content : Content) (n : ℕ) (parts : List (List ℕ)) → AreLawful content.rows → list_all is_lawful_component parts ≡ true → AreLawful (moved content n parts).rows
lawful_moved content n parts h l = rows_moved content.rows n parts (numbered content.rows n) l h
