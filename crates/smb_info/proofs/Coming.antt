-- What is to come from a place among the children of a folder.
use Rattle.std.proofs.Common.{◌≡◌, ℕ, zero, suc, ◌+◌, ◌-◌, ◌<◌, ◌≤◌, true, List, [], ◌∷◌, ◌++◌, length, drop, map, Option, None, Some, IfNone, is_some, slice_index_or, refl, sym, ap, ◌∙◌, arith, subst}
use Rattle.std.specs.List.{slice_get}
use Rattle.std.specs.Option.{option_map, option_and_then}
use Rattle.std.proofs.lemmas.List.{length-map}
use Rattle.std.proofs.lemmas.Option.{slice_get-get_or}
use Rattle.smb_wire.specs.Names.{folded}
use Rattle.smb_tree.specs.Entries.{last_part}
use Rattle.smb_tree.specs.Content.{Row, Content, numbered}
use Rattle.smb_tree.specs.Good.{GoodContent, IsLawfulRow}
use Rattle.smb_tree.specs.Parts.{AreLawful, and_on}
use Rattle.smb_tree.specs.Children.{name_of, child_after}
use Rattle.smb_tree.specs.ChildLaws.{in_turn, children_at_once}
use Rattle.smb_tree.specs.Views.{Shown, row_shown, entry_shown}
use Rattle.smb_tree.specs.declared.tree.TheConstants.{CHILDREN_AT_ONCE}
use Rattle.smb_tree.proofs.ChildLists.{number_of}
use Rattle.smb_tree.proofs.Names.{last_short}
use Rattle.smb_access.specs.declared.scan.ScanLast.TheVariants.{Name}
use Rattle.smb_access.specs.declared.scan.ScanLast.TheVariants as last
use Rattle.smb_info.specs.declared.candidate.Listed.{Listed}
use Rattle.smb_info.specs.declared.candidate.Listed.TheVariants.{Dot, DotDot, Child}
use Rattle.smb_info.specs.Candidates.{Candidate, child, children, dot_dot, candidates_behind}
use Rattle.smb_info.specs.Cursors.{children_from, to_come_by, StandsBy}
use Rattle.smb_info.proofs.Turns.{some_of, turn_more, holds_numbered}
use Rattle.smb_info.proofs.Places.{dot_is, dot_dot_is, found_by_number}

get_mapped : (rows : List Row) (k n : ℕ) → slice_get (map number_of rows) k ≡ Some n → (row : Row) × (slice_get rows k ≡ Some row) × (row.1.number ≡ n)
get_mapped [] k n e = cc
get_mapped (row ∷ rows) zero n e = (row, refl, cc)
get_mapped (row ∷ rows) (suc k) n e = get_mapped rows k n e

drop_more : (k : ℕ) (xs ys : List Row) (x : Row) → drop k xs ≡ x ∷ ys → drop (suc k) xs ≡ ys
drop_more k [] ys x e = elim k as (λ k. drop k [] ≡ x ∷ ys → drop (suc k) [] ≡ ys) [ zero ↦ λ q. cc | suc k ↦ λ q. cc ] e
drop_more zero (y ∷ xs) ys x e = cc
drop_more (suc k) (y ∷ xs) ys x e = drop_more k xs ys x e

drop_whole : (n : ℕ) (xs : List Row) → n ≡ length xs → drop n xs ≡ []
drop_whole zero [] e = refl
drop_whole zero (x ∷ xs) e = absurd (omega arith)
drop_whole (suc n) [] e = refl
drop_whole (suc n) (x ∷ xs) e = drop_whole n xs (omega arith)

module _ (content : Content) (folder : ℕ) (good : GoodContent content) (is : is_some (numbered content.rows folder) ≡ true) where
  turn : (after : Option (List ℕ)) → in_turn (length content.rows) content.rows folder after ≡ and_on (in_turn (length content.rows) content.rows folder) (option_and_then (numbered content.rows) (child_after content.rows folder after))
  turn after = (let f = some_of (numbered content.rows folder) is in turn_more content.rows folder f.0 after good.apart f.1)

  -- the child at a place, and what comes behind it
  turn_at : (k steps : ℕ) (after : Option (List ℕ)) (row : Row) → slice_get (in_turn steps content.rows folder after) k ≡ Some row →
      (numbered content.rows row.1.number ≡ Some row) × (drop k (in_turn (length content.rows) content.rows folder after) ≡ row ∷ in_turn (length content.rows) content.rows folder (Some (name_of row)))
  turn_at k zero after row e = cc
  turn_at zero (suc steps) after row e =
      elim (option_and_then (numbered content.rows) (child_after content.rows folder after)) as (λ o. option_and_then (numbered content.rows) (child_after content.rows folder after) ≡ o → slice_get (and_on (in_turn steps content.rows folder) o) zero ≡ Some row →
      (numbered content.rows row.1.number ≡ Some row) × (in_turn (length content.rows) content.rows folder after ≡ row ∷ in_turn (length content.rows) content.rows folder (Some (name_of row)))) [
        | None ↦ λ q h. cc
        | Some r ↦ λ q h.
            let same : r ≡ row = cc in
            let there : option_and_then (numbered content.rows) (child_after content.rows folder after) ≡ Some row = q ∙ ap Some same in (
              found_by_number content.rows (child_after content.rows folder after) row there,
              turn after ∙ ap (λ (o : Option Row). and_on (in_turn (length content.rows) content.rows folder) o) there,
            )
      ] refl e
  turn_at (suc k) (suc steps) after row e =
      elim (option_and_then (numbered content.rows) (child_after content.rows folder after)) as (λ o. option_and_then (numbered content.rows) (child_after content.rows folder after) ≡ o → slice_get (and_on (in_turn steps content.rows folder) o) (suc k) ≡ Some row →
      (numbered content.rows row.1.number ≡ Some row) × (drop (suc k) (in_turn (length content.rows) content.rows folder after) ≡ row ∷ in_turn (length content.rows) content.rows folder (Some (name_of row)))) [
        | None ↦ λ q h. cc
        | Some r ↦ λ q h.
            let rest = turn_at k steps (Some (name_of r)) row h in
            (rest.0, ap (drop (suc k)) (turn after ∙ ap (λ (o : Option Row). and_on (in_turn (length content.rows) content.rows folder) o) q) ∙ rest.1)
      ] refl e

  -- where fewer come than are asked for there are no more
  ended : (steps : ℕ) (after : Option (List ℕ)) → length (in_turn steps content.rows folder after) < steps → in_turn (length content.rows) content.rows folder after ≡ in_turn steps content.rows folder after
  ended zero after h = absurd (omega arith)
  ended (suc steps) after h =
      elim (option_and_then (numbered content.rows) (child_after content.rows folder after)) as (λ o. option_and_then (numbered content.rows) (child_after content.rows folder after) ≡ o → length (and_on (in_turn steps content.rows folder) o) < suc steps →
      in_turn (length content.rows) content.rows folder after ≡ and_on (in_turn steps content.rows folder) o) [
        | None ↦ λ q k. turn after ∙ ap (λ (o : Option Row). and_on (in_turn (length content.rows) content.rows folder) o) q
        | Some r ↦ λ q k.
            turn after ∙ ap (λ (o : Option Row). and_on (in_turn (length content.rows) content.rows folder) o) q
            ∙ ap (λ (rs : List Row). r ∷ rs) (ended steps (Some (name_of r)) (omega arith))
      ] refl h

  found_at : (most given n : ℕ) (after : Option (List ℕ)) (numbers : List ℕ) → numbers ≡ map number_of (in_turn most content.rows folder after) → slice_get numbers given ≡ Some n →
      (row : Row) × (numbered content.rows n ≡ Some row) × (drop given (in_turn (length content.rows) content.rows folder after) ≡ row ∷ in_turn (length content.rows) content.rows folder (Some (name_of row)))
  found_at most given n after numbers e h =
      let g = get_mapped (in_turn most content.rows folder after) given n (ap (λ (ns : List ℕ). slice_get ns given) (sym e) ∙ h) in
      let t = turn_at given most after g.0 g.1 in
      (g.0, ap (numbered content.rows) (sym g.2) ∙ t.0, t.1)

  pub found : (given n : ℕ) (after : Option (List ℕ)) (numbers : List ℕ) → numbers ≡ children_at_once content.rows folder after → slice_get numbers given ≡ Some n →
      (row : Row) × (numbered content.rows n ≡ Some row) × (drop given (in_turn (length content.rows) content.rows folder after) ≡ row ∷ in_turn (length content.rows) content.rows folder (Some (name_of row)))
  unfolding children_at_once
  found given n after numbers e h = found_at CHILDREN_AT_ONCE given n after numbers e h

  none_at : (most given : ℕ) (after : Option (List ℕ)) (numbers : List ℕ) → numbers ≡ map number_of (in_turn most content.rows folder after) → given ≡ length numbers → given < most → drop given (in_turn (length content.rows) content.rows folder after) ≡ []
  none_at most given after numbers e count few =
      let as_many : length numbers ≡ length (in_turn most content.rows folder after) = ap length e ∙ length-map (in_turn most content.rows folder after) number_of in
      ap (drop given) (ended most after (omega (arith, as_many))) ∙ drop_whole given (in_turn most content.rows folder after) (omega (arith, as_many))

  pub nothing_left : (given : ℕ) (after : Option (List ℕ)) (numbers : List ℕ) → numbers ≡ children_at_once content.rows folder after → given ≡ length numbers → given < CHILDREN_AT_ONCE → children_from content.rows folder after given ≡ []
  unfolding children_at_once children_from
  nothing_left given after numbers e count few = ap (map (child content.rows)) (none_at CHILDREN_AT_ONCE given after numbers e count few)

  -- behind the last child of a full list
  pub further : (given n : ℕ) (after : Option (List ℕ)) (numbers : List ℕ) → numbers ≡ children_at_once content.rows folder after → slice_get numbers (CHILDREN_AT_ONCE - 1) ≡ Some n → given ≡ CHILDREN_AT_ONCE →
      children content.rows folder (option_map name_of (numbered content.rows n)) ≡ children_from content.rows folder after given
  unfolding children children_from
  further given n after numbers e h count =
      let f = found 15 n after numbers e h in
      ap (λ (o : Option Row). map (child content.rows) (in_turn (length content.rows) content.rows folder (option_map name_of o))) f.1
      ∙ ap (map (child content.rows)) (sym (drop_more 15 (in_turn (length content.rows) content.rows folder after) (in_turn (length content.rows) content.rows folder (Some (name_of f.0))) f.0 f.2))
      ∙ ap (λ (k : ℕ). map (child content.rows) (drop k (in_turn (length content.rows) content.rows folder after))) (sym count)

  -- the next child as it is handed on
  pub next_is : (given n : ℕ) (after : Option (List ℕ)) (numbers : List ℕ) (entry : Shown) → AreLawful content.rows → numbers ≡ children_at_once content.rows folder after → slice_get numbers given ≡ Some n → Some entry ≡ entry_shown content.rows n →
      children_from content.rows folder after given ≡ record { behind = Name (folded entry.spelling); name = entry.spelling; entry = entry } ∷ children_from content.rows folder after (given + 1)
  unfolding children_from
  next_is given n after numbers entry lawful e h s =
      let f = found given n after numbers e h in
      let seen : row_shown content.rows f.0 ≡ entry = (let q : Some entry ≡ Some (row_shown content.rows f.0) = s ∙ ap (λ (o : Option Row). option_map (row_shown content.rows) o) f.1 in cc) in
      let own : IsLawfulRow f.0 = holds_numbered IsLawfulRow content.rows n f.0 lawful f.1 in
      let more : drop (given + 1) (in_turn (length content.rows) content.rows folder after) ≡ in_turn (length content.rows) content.rows folder (Some (name_of f.0)) =
      ap (λ (k : ℕ). drop k (in_turn (length content.rows) content.rows folder after)) (let one : given + 1 ≡ suc given = omega arith in one) ∙ drop_more given (in_turn (length content.rows) content.rows folder after) (in_turn (length content.rows) content.rows folder (Some (name_of f.0))) f.0 f.2 in
      ap (map (child content.rows)) f.2
      ∙ ap (λ (rs : List Row). child content.rows f.0 ∷ map (child content.rows) rs) (sym more)
      ∙ ap (λ (ns : List ℕ). record { behind = Name ns; name = f.0.1.spelling; entry = row_shown content.rows f.0 } ∷ map (child content.rows) (drop (given + 1) (in_turn (length content.rows) content.rows folder after))) (sym own.spelling)
      ∙ ap (λ (v : Shown). record { behind = Name (folded v.spelling); name = v.spelling; entry = v } ∷ map (child content.rows) (drop (given + 1) (in_turn (length content.rows) content.rows folder after))) seen

  pub is_shown : (given n : ℕ) (after : Option (List ℕ)) (numbers : List ℕ) → numbers ≡ children_at_once content.rows folder after → slice_get numbers given ≡ Some n → None ≡ entry_shown content.rows n → ⊥
  is_shown given n after numbers e h s =
      let f = found given n after numbers e h in
      let q : None ≡ Some (row_shown content.rows f.0) = s ∙ ap (λ (o : Option Row). option_map (row_shown content.rows) o) f.1 in
      cc

-- how long the name of an entry is
pub name_short : (rows : List Row) (number : ℕ) (entry : Shown) → AreLawful rows → Some entry ≡ entry_shown rows number → length entry.spelling ≤ 255
name_short rows number entry lawful e =
    elim (numbered rows number) as (λ o. numbered rows number ≡ o → Some entry ≡ option_map (row_shown rows) o → length entry.spelling ≤ 255) [
      | None ↦ λ q f. cc
      | Some row ↦ λ q f.
          let own : IsLawfulRow row = holds_numbered IsLawfulRow rows number row lawful q in
          let same : row_shown rows row ≡ entry = cc in
          let count : length row.1.spelling ≡ length (last_part row.0) = sym (length-map row.1.spelling _) ∙ ap length own.spelling in
          let short : length (last_part row.0) ≤ 255 = last_short row.0 own.names in
          subst (λ (s : Shown). length s.spelling ≤ 255) same (omega arith)
    ] refl e

-- ---- by what comes next

pub as_child : (rows : List Row) (folder : ℕ) (at : Listed) (after : Option (List ℕ)) (given : ℕ) → at ≡ Child → to_come_by rows folder at after given ≡ children_from rows folder after given
as_child rows folder at after given e = ap (λ (l : Listed). to_come_by rows folder l after given) e

pub stands_child : (rows : List Row) (folder : ℕ) (at : Listed) (after : Option (List ℕ)) (numbers : List ℕ) (given : ℕ) → at ≡ Child → StandsBy rows folder at after numbers given → (numbers ≡ children_at_once rows folder after) × (given ≤ length numbers)
stands_child rows folder at after numbers given e s = subst (λ (l : Listed). StandsBy rows folder l after numbers given) e s

pub child_stands : (rows : List Row) (folder : ℕ) (at : Listed) (after : Option (List ℕ)) (numbers : List ℕ) (given : ℕ) → at ≡ Child → numbers ≡ children_at_once rows folder after → given ≤ length numbers → StandsBy rows folder at after numbers given
child_stands rows folder at after numbers given e s h = subst (λ (l : Listed). StandsBy rows folder l after numbers given) (sym e) (s, h)

pub as_dot : (rows : List Row) (folder : ℕ) (at : Listed) (after : Option (List ℕ)) (given : ℕ) → at ≡ Dot → to_come_by rows folder at after given ≡ candidates_behind rows folder last.Start
as_dot rows folder at after given e = ap (λ (l : Listed). to_come_by rows folder l after given) e

pub as_dot_dot : (rows : List Row) (folder : ℕ) (at : Listed) (after : Option (List ℕ)) (given : ℕ) → at ≡ DotDot → to_come_by rows folder at after given ≡ candidates_behind rows folder last.Dot
as_dot_dot rows folder at after given e = ap (λ (l : Listed). to_come_by rows folder l after given) e

pub from_first : (rows : List Row) (folder : ℕ) (after : Option (List ℕ)) → children_from rows folder after 0 ≡ children rows folder after
unfolding children_from children
from_first rows folder after = refl

pub from_dots : (rows : List Row) (folder : ℕ) → candidates_behind rows folder last.DotDot ≡ children rows folder None
unfolding candidates_behind
from_dots rows folder = refl

pub from_name : (rows : List Row) (folder : ℕ) (name : List ℕ) → candidates_behind rows folder (Name name) ≡ children rows folder (Some name)
unfolding candidates_behind
from_name rows folder name = refl

-- ---- the folder itself, and the one around it

pub dot_first : (rows : List Row) (folder : ℕ) (entry : Shown) (name : List ℕ) → name ≡ 46 ∷ [] → Some entry ≡ entry_shown rows folder → candidates_behind rows folder last.Start ≡ record { behind = last.Dot; name = name; entry = entry } ∷ candidates_behind rows folder last.Dot
unfolding candidates_behind
dot_first rows folder entry name n e =
    ap (λ (cs : List Candidate). cs ++ (dot_dot rows folder ++ children rows folder None)) (dot_is rows folder entry e)
    ∙ ap (λ (ns : List ℕ). record { behind = last.Dot; name = ns; entry = entry } ∷ (dot_dot rows folder ++ children rows folder None)) (sym n)

pub dot_dot_first : (content : Content) (folder : ℕ) (own entry : Shown) (name : List ℕ) → GoodContent content → name ≡ 46 ∷ 46 ∷ [] → Some own ≡ entry_shown content.rows folder → Some entry ≡ entry_shown content.rows own.parent →
    candidates_behind content.rows folder last.Dot ≡ record { behind = last.DotDot; name = name; entry = entry } ∷ children content.rows folder None
unfolding candidates_behind
dot_dot_first content folder own entry name good n e f =
    let d = dot_dot_is content folder own good e in
    let same : d.0 ≡ entry = (let q : Some d.0 ≡ Some entry = d.1 ∙ sym f in cc) in
    ap (λ (cs : List Candidate). cs ++ children content.rows folder None) d.2
    ∙ ap (λ (s : Shown). record { behind = last.DotDot; name = 46 ∷ 46 ∷ []; entry = s } ∷ children content.rows folder None) same
    ∙ ap (λ (ns : List ℕ). record { behind = last.DotDot; name = ns; entry = entry } ∷ children content.rows folder None) (sym n)

-- ---- a number of a list

pub got : (xs ys : List ℕ) (i x : ℕ) → ys ≡ xs → i < length ys → x ≡ slice_index_or ys i x → slice_get xs i ≡ Some x
got xs ys i x e h v = ap (λ (zs : List ℕ). slice_get zs i) (sym e) ∙ slice_get-get_or ys i x h ∙ ap Some (sym v)

pub when_none : {A : Type 0} (o : Option A) (P : Type 0) → P → IfNone o P
when_none None P h = h
when_none (Some a) P h = tt
