-- Whatever is listed is of the folder, and matched.
use Rattle.std.proofs.Common.{◌≡◌, ◌⊎◌, ℕ, zero, suc, Bool, true, false, cond, ◌&&◌, List, [], ◌∷◌, ◌++◌, length, take, filter, All, Option, None, Some, inl, inr, refl, sym, ap, ◌∙◌, subst}
use Rattle.std.specs.List.{AllByRecursion}
use Rattle.std.specs.Option.{option_map, option_and_then}
use Rattle.std.proofs.lemmas.List.Elements.{All-nil, All-cons, All-append, All-map, All-take, All-same, All-head, All-tail}
use Rattle.smb_tree.specs.Content.{Row, Content, Path, numbered}
use Rattle.smb_tree.specs.Good.{GoodContent}
use Rattle.smb_tree.specs.Laws.{AreApart}
use Rattle.smb_tree.specs.Children.{name_of, is_child, is_before, first_by_name, child_after}
use Rattle.smb_tree.specs.Parts.{is_after, children_after, first_of_two, next_child, and_on}
use Rattle.smb_tree.specs.ChildLaws.{in_turn}
use Rattle.smb_tree.specs.Views.{row_shown, entry_shown}
use Rattle.smb_tree.proofs.Siblings.{by_number}
use Rattle.smb_access.specs.declared.scan.ScanLast.{ScanLast}
use Rattle.smb_access.specs.declared.scan.ScanLast.TheVariants.{Start, Dot, DotDot, Name}
use Rattle.smb_patterns.specs.Patterns.{Matches, is_match}
use Rattle.smb_info.specs.Candidates.{Candidate, dot, dot_dot, child, children, candidates_behind}
use Rattle.smb_info.specs.DirectoryInformation.{directory_class}
use Rattle.smb_info.specs.Listing.{matching}
use Rattle.smb_info.specs.Queries.{pattern_by, scan_by, entries_listed}
use Rattle.smb_info.specs.ListingLaws.{OnlyWhatIsMatchedIsListed}
use Rattle.smb_patterns.proofs.PatternTests.{match_decides}
use Rattle.smb_info.proofs.Places.{dot_is, dot_dot_is, found_by_number}
use Rattle.smb_info.proofs.ListingRuns.{listed_front}

-- ---- the next child is one

both : (a b : Bool) → (a && b) ≡ true → a ≡ true
both true b e = refl
both false b e = e

all_children : (rows : List Row) (folder : Path) (after : Option (List ℕ)) → AllByRecursion (λ row. is_child folder row ≡ true) (children_after rows folder after)
all_children [] folder after = tt
all_children (row ∷ rows) folder after =
    elim (is_child folder row && is_after after (name_of row)) as (λ b. (is_child folder row && is_after after (name_of row)) ≡ b → AllByRecursion (λ row. is_child folder row ≡ true) (cond b (row ∷ children_after rows folder after) (children_after rows folder after))) [
      | true ↦ λ e. (both (is_child folder row) (is_after after (name_of row)) e, all_children rows folder after)
      | false ↦ λ e. all_children rows folder after
    ] refl

first_holds : (P : Row → Type 0) (rows : List Row) (first : Row) → AllByRecursion P rows → first_by_name rows ≡ Some first → P first
first_holds P [] first h e = cc
first_holds P (row ∷ rows) first h e =
    elim (first_by_name rows) as (λ o. first_by_name rows ≡ o → Some (first_of_two row o) ≡ Some first → P first) [
      | None ↦ λ q f. (let same : row ≡ first = cc in subst P same h.0)
      | Some other ↦ λ q f.
          elim (is_before (name_of other) (name_of row)) as (λ b. Some (cond b other row) ≡ Some first → P first) [
            | true ↦ λ k. (let same : other ≡ first = cc in subst P same (first_holds P rows other h.1 q))
            | false ↦ λ k. (let same : row ≡ first = cc in subst P same h.0)
          ] f
    ] refl e

-- ---- each candidate is of the folder

-- a candidate is the folder itself as `.`, the one around it as `..`, or a child of it as it is spelled
abbrev IsOfFolder : List Row → Row → Candidate → Type 0
IsOfFolder rows folder c =
    ((c.name ≡ 46 ∷ []) × (c.entry ≡ row_shown rows folder)) ⊎
    (((c.name ≡ 46 ∷ 46 ∷ []) × (Some c.entry ≡ entry_shown rows (row_shown rows folder).parent)) ⊎
    ((row : Row) × (numbered rows c.entry.number ≡ Some row) × (is_child folder.0 row ≡ true) × (c ≡ child rows row)))

child_of : (rows : List Row) (number : ℕ) (folder : Row) (after : Option (List ℕ)) (row : Row) → AreApart rows → numbered rows number ≡ Some folder → option_and_then (numbered rows) (child_after rows number after) ≡ Some row → IsOfFolder rows folder (child rows row)
child_of rows number folder after row apart there e =
    let next : next_child rows folder.0 after ≡ Some row = sym (by_number rows number folder after apart there) ∙ e in
    let is : is_child folder.0 row ≡ true = first_holds (λ row. is_child folder.0 row ≡ true) (children_after rows folder.0 after) row (all_children rows folder.0 after) next in
    inr (inr (row, found_by_number rows (child_after rows number after) row e, is, refl))

turns_of : (steps : ℕ) (rows : List Row) (number : ℕ) (folder : Row) (after : Option (List ℕ)) → AreApart rows → numbered rows number ≡ Some folder → All (λ row. IsOfFolder rows folder (child rows row)) (in_turn steps rows number after)
turns_of zero rows number folder after apart there = All-nil (λ row. IsOfFolder rows folder (child rows row))
turns_of (suc steps) rows number folder after apart there =
    elim (option_and_then (numbered rows) (child_after rows number after)) as (λ o. option_and_then (numbered rows) (child_after rows number after) ≡ o → All (λ row. IsOfFolder rows folder (child rows row)) (and_on (in_turn steps rows number) o)) [
      | None ↦ λ e. All-nil (λ row. IsOfFolder rows folder (child rows row))
      | Some row ↦ λ e. All-cons (λ row. IsOfFolder rows folder (child rows row)) row (in_turn steps rows number (Some (name_of row))) (child_of rows number folder after row apart there e) (turns_of steps rows number folder (Some (name_of row)) apart there)
    ] refl

module _ (content : Content) (number : ℕ) (folder : Row) (good : GoodContent content) (there : numbered content.rows number ≡ Some folder) where
  abbrev Of : Candidate → Type 0
  Of c = IsOfFolder content.rows folder c

  children_of : (after : Option (List ℕ)) → All Of (children content.rows number after)
  unfolding children
  children_of after = All-map Of (child content.rows) (in_turn (length content.rows) content.rows number after) (turns_of (length content.rows) content.rows number folder after good.apart there)

  own : Some (row_shown content.rows folder) ≡ entry_shown content.rows number
  own = sym (ap (option_map (row_shown content.rows)) there)

  dot_of : All Of (dot content.rows number)
  dot_of =
      All-same Of (dot content.rows number) _ (dot_is content.rows number (row_shown content.rows folder) own)
      (All-cons Of (record { behind = Dot; name = 46 ∷ []; entry = row_shown content.rows folder }) [] (inl (refl, refl)) (All-nil Of))

  dot_dot_of : All Of (dot_dot content.rows number)
  dot_dot_of =
      let around = dot_dot_is content number (row_shown content.rows folder) good own in
      All-same Of (dot_dot content.rows number) _ around.2
      (All-cons Of (record { behind = DotDot; name = 46 ∷ 46 ∷ []; entry = around.0 }) [] (inr (inl (refl, around.1))) (All-nil Of))

  pub candidates_of : (at : ScanLast) → All Of (candidates_behind content.rows number at)
  unfolding candidates_behind
  candidates_of Start =
      All-append Of (dot content.rows number) (dot_dot content.rows number ++ children content.rows number None) dot_of
      (All-append Of (dot_dot content.rows number) (children content.rows number None) dot_dot_of (children_of None))
  candidates_of Dot = All-append Of (dot_dot content.rows number) (children content.rows number None) dot_dot_of (children_of None)
  candidates_of DotDot = children_of None
  candidates_of (Name name) = children_of (Some name)

-- ---- and of those only what is matched is listed

matched : (P : Candidate → Type 0) (pattern : List ℕ) (cs : List Candidate) → All P cs → All (λ c. P c × Matches pattern c.name) (filter (λ c. is_match pattern c.name) cs)
matched P pattern [] h = All-nil (λ c. P c × Matches pattern c.name)
matched P pattern (c ∷ cs) h =
    let rest = matched P pattern cs (All-tail P c cs h) in
    elim (is_match pattern c.name) as (λ b. is_match pattern c.name ≡ b → All (λ c. P c × Matches pattern c.name) (cond b (c ∷ filter (λ c. is_match pattern c.name) cs) (filter (λ c. is_match pattern c.name) cs))) [
      | true ↦ λ t. All-cons (λ c. P c × Matches pattern c.name) c (filter (λ c. is_match pattern c.name) cs) (All-head P c cs h, (match_decides pattern c.name).0 t) rest
      | false ↦ λ t. rest
    ] refl

pub only_matched : OnlyWhatIsMatchedIsListed
unfolding matching
only_matched content number folder scan ask good there =
    let P : Candidate → Type 0 = λ c. IsOfFolder content.rows folder c × Matches (pattern_by scan ask) c.name in
    let front = listed_front content.rows number scan ask (directory_class ask.class) in
    let all : List Candidate = matching content.rows number (pattern_by scan ask) (scan_by scan ask).last in
    All-same P (entries_listed content.rows number scan ask) (take front.0 all) front.1
    (All-take P front.0 all (matched (λ c. IsOfFolder content.rows folder c) (pattern_by scan ask) (candidates_behind content.rows number (scan_by scan ask).last) (candidates_of content number folder good there (scan_by scan ask).last)))
