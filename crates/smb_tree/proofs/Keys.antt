-- Two texts have the same path where they are the same name.
use Rattle.std.proofs.Common.{◌≡◌, ℕ, Bool, true, false, cond, ◌-◌, List, [], ◌∷◌, length, take, map, is_some, refl, sym, ap, ◌∙◌, arith}
use Rattle.std.proofs.lemmas.Bool.Decides.{nat_tests}
use Rattle.std.proofs.lemmas.Slice.Eq.{slice_eq-Decides, bytes_eq-Decides}
use Rattle.std.proofs.lemmas.List.{length-map, take-map}
use Rattle.std.specs.List.{slice_split, onto_first}
use Rattle.smb_wire.specs.Names.{folded, folded_unit, is_same_name}
use Rattle.smb_wire.specs.Paths.{is_separator, components, folded_path, joined_by_separators}
use Rattle.smb_wire.proofs.Splits.{joined_components}
use Rattle.smb_tree.specs.Content.{Path, Row, is_same_path, entry_at, parent}
use Rattle.smb_tree.specs.Entries.{is_folder}

pub same_path-eq : (p q : Path) → is_same_path p q ≡ true → p ≡ q
same_path-eq p q = (slice_eq-Decides (λ a b. bytes_eq-Decides a b) p q (is_same_path p q) refl).0

pub same_path-of_eq : (p q : Path) → p ≡ q → is_same_path p q ≡ true
same_path-of_eq p q = (slice_eq-Decides (λ a b. bytes_eq-Decides a b) p q (is_same_path p q) refl).1

pub same_path-itself : (p : Path) → is_same_path p p ≡ true
same_path-itself p = same_path-of_eq p p refl

pub same_path-sym : (p q : Path) → is_same_path p q ≡ is_same_path q p
same_path-sym p q = grind (arith, same_path-eq p q, same_path-eq q p, same_path-itself p)

separator_folded : (unit : ℕ) → is_separator (folded_unit unit) ≡ is_separator unit
separator_folded unit = grind (arith, nat_tests)

onto-folded : (u : ℕ) (ps : List (List ℕ)) → onto_first (folded_unit u) (map folded ps) ≡ map folded (onto_first u ps)
onto-folded u [] = refl
onto-folded u (p ∷ ps) = refl

split_folded : (us : List ℕ) → slice_split is_separator (folded us) ≡ map folded (slice_split is_separator us)
split_folded [] = refl
split_folded (u ∷ us) =
    rw (separator_folded u, split_folded us) (elim (is_separator u) as (λ b. cond b ([] ∷ map folded (slice_split is_separator us)) (onto_first (folded_unit u) (map folded (slice_split is_separator us))) ≡ map folded (cond b ([] ∷ slice_split is_separator us) (onto_first u (slice_split is_separator us)))) [
      | true ↦ refl
      | false ↦ onto-folded u (slice_split is_separator us)
    ])

-- a folded text has the components of the text, folded
pub components_folded : (us : List ℕ) → components (folded us) ≡ folded_path (components us)
components_folded [] = refl
components_folded (u ∷ us) = split_folded (u ∷ us)

joined_path : (us : List ℕ) → joined_by_separators (folded_path (components us)) ≡ folded us
joined_path us = ap joined_by_separators (sym (components_folded us)) ∙ joined_components (folded us)

path_eq-folded : (a b : List ℕ) → folded_path (components a) ≡ folded_path (components b) → folded a ≡ folded b
path_eq-folded a b e = sym (joined_path a) ∙ ap joined_by_separators e ∙ joined_path b

folded_eq-path : (a b : List ℕ) → folded a ≡ folded b → folded_path (components a) ≡ folded_path (components b)
folded_eq-path a b e = sym (components_folded a) ∙ ap components e ∙ components_folded b

agree : (s t : Bool) → (s ≡ true → t ≡ true) → (t ≡ true → s ≡ true) → s ≡ t
agree true t h k = sym (h refl)
agree false true h k = k refl
agree false false h k = refl

pub same_path-name : (a b : List ℕ) → is_same_path (folded_path (components a)) (folded_path (components b)) ≡ is_same_name a b
same_path-name a b =
    agree (is_same_path (folded_path (components a)) (folded_path (components b))) (is_same_name a b)
    (λ h. (bytes_eq-Decides (folded a) (folded b)).1 (path_eq-folded a b (same_path-eq (folded_path (components a)) (folded_path (components b)) h)))
    (λ h. same_path-of_eq (folded_path (components a)) (folded_path (components b)) (folded_eq-path a b ((bytes_eq-Decides (folded a) (folded b)).0 h)))

-- the path in which a path's last component stands
pub parent_folded : (parts : List (List ℕ)) (n : ℕ) → n ≡ length parts - 1 → folded_path (take n parts) ≡ parent (folded_path parts)
parent_folded parts n h =
    sym (take-map folded n parts) ∙ ap (λ (m : ℕ). take m (folded_path parts)) (h ∙ ap (λ (m : ℕ). m - 1) (sym (length-map parts folded)))

-- what was found at the paths of two texts, told of the path of an entry that would be added
pub folder_is : (rows : List Row) (parts around text : List (List ℕ)) (n : ℕ) (b : Bool) → b ≡ is_folder (entry_at rows (folded_path text)) → text ≡ around → around ≡ take n parts → n ≡ length parts - 1 → b ≡ is_folder (entry_at rows (parent (folded_path parts)))
folder_is rows parts around text n b e f g h =
    e ∙ ap (λ (ps : List (List ℕ)). is_folder (entry_at rows (folded_path ps))) (f ∙ g) ∙ ap (λ (p : Path). is_folder (entry_at rows p)) (parent_folded parts n h)

pub taken_is : (rows : List Row) (parts text : List (List ℕ)) (b : Bool) → b ≡ is_some (entry_at rows (folded_path text)) → text ≡ parts → b ≡ is_some (entry_at rows (folded_path parts))
taken_is rows parts text b e f = e ∙ ap (λ (ps : List (List ℕ)). is_some (entry_at rows (folded_path ps))) f
