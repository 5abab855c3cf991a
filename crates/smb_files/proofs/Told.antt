-- What files tell: the entry at each path.
use Rattle.std.proofs.Common.{◌≡◌, ◌⊎◌, inl, inr, ℕ, zero, suc, ◌≤◌, List, [], ◌∷◌, ◌++◌, length, true, unwrap_or}
use Rattle.std.proofs.Common.{Option, None, Some, refl, sym, ap, ◌∙◌, arith, length-append}
use Rattle.std.specs.FinMap.{get}
use Rattle.std.specs.List.{AllByRecursion}
use Rattle.std.specs.Option.{option_map, option_map_or}
use Rattle.smb_wire.specs.Names.{folded}
use Rattle.smb_tree.specs.Entries.{Entry, is_folder, last_part}
use Rattle.smb_tree.specs.Content.{Path, Row, Content, entry_at, numbered, parent}
use Rattle.smb_tree.specs.Good.{GoodContent, IsLawfulRow}
use Rattle.smb_tree.proofs.Apart.{at-from_numbered, numbered-from_at, number-from_numbered}
use Rattle.smb_tree.proofs.Lasts.{last_of, parent_of}
use Rattle.smb_files.specs.Files.{FileEntry, Files}
use Rattle.smb_files.specs.Contents.{parent_number, file_of, files_of}
use Rattle.smb_files.proofs.Gets.{get-files_of, of_numbered}
use Rattle.smb_files.proofs.Removal.{one_of_root}
use Rattle.smb_files.proofs.Moved.{entry_of_number, folder_at}

-- two good and lawful contents with the same files
pub record HaveOneFiles (one other : Content) : Type 0 where
  pub good : GoodContent one
  pub good_other : GoodContent other
  pub lawful : AllByRecursion IsLawfulRow one.rows
  pub lawful_other : AllByRecursion IsLawfulRow other.rows
  pub same : files_of one ≡ files_of other

-- a path is empty, or another path with a last component
split_last : (path : Path) → (path ≡ []) ⊎ ((around : Path) × (name : List ℕ) × (path ≡ around ++ name ∷ []))
split_last [] = inl refl
split_last (first ∷ path) = elim (split_last path) [
  | inl none ↦ inr ([], first, ap (λ (rest : Path). first ∷ rest) none)
  | inr last ↦ inr (first ∷ last.0, last.1, ap (λ (rest : Path). first ∷ rest) last.2)
]

of_some : (file : Row → FileEntry) (found : Option Row) (entry : FileEntry) → option_map file found ≡ Some entry →
    (row : Row) × (found ≡ Some row) × (entry ≡ file row)
of_some file None entry h = absurd (cc)
of_some file (Some row) entry h = (row, refl, cc)

-- the entry of a number is in the other content too, as the same file
there_too : (one other : Content) (number : ℕ) (row : Row) → files_of one ≡ files_of other →
    numbered one.rows number ≡ Some row →
    (found : Row) × (numbered other.rows number ≡ Some found) × (file_of one.rows row ≡ file_of other.rows found)
there_too one other number row same found =
    of_some (file_of other.rows) (numbered other.rows number) (file_of one.rows row)
    (sym (get-files_of other number) ∙ ap (λ (files : Files). get files.entries number) (sym same)
    ∙ get-files_of one number ∙ ap (option_map (file_of one.rows)) found)

-- an entry, by its number and what its files have of it
abbrev entry_by : ℕ → FileEntry → Entry
entry_by number file = record {
  number = number;
  kind = file.about.kind;
  spelling = file.about.spelling;
  bytes = file.bytes;
  basic = file.about.basic;
  mark = file.about.mark;
}

-- entries of the same number and the same file are the same
same_entry : (rows others : List Row) (row found : Row) → row.1.number ≡ found.1.number →
    file_of rows row ≡ file_of others found → row.1 ≡ found.1
same_entry rows others row found number same =
    let left : row.1 ≡ entry_by row.1.number (file_of rows row) = refl in
    let right : entry_by found.1.number (file_of others found) ≡ found.1 = refl in
    left ∙ ap (λ (n : ℕ). entry_by n (file_of rows row)) number ∙ ap (entry_by found.1.number) same ∙ right

-- a number has one path
same_row : (rows : List Row) (number : ℕ) (row found : Row) → numbered rows number ≡ Some row →
    numbered rows number ≡ Some found → row.0 ≡ found.0
same_row rows number row found h k =
    let same : Some row ≡ Some found = sym h ∙ k in
    ap (λ (o : Option Row). option_map_or (λ (r : Row). r.0) o []) same

-- number 1 is at the root
root_of_one : (content : Content) (row : Row) → GoodContent content → numbered content.rows 1 ≡ Some row → row.0 ≡ []
root_of_one content row good found =
    let root = entry_of_number (entry_at content.rows []) 1 good.first in
    let there = numbered-from_at content.rows [] root.0 good.apart root.1 in
    same_row content.rows 1 row ([], root.0) found (ap (numbered content.rows) (sym root.2) ∙ there)

not_empty : (around : Path) (name : List ℕ) → around ++ name ∷ [] ≡ [] → ⊥
not_empty around name e = omega (arith, ap (length {A = List ℕ}) e, length-append around (name ∷ []))

-- the folder in which an entry is: what stands there, by the number that its file has
around_too : (content : Content) (number : ℕ) (row : Row) (folder : Path) (entry : Entry) → GoodContent content →
    numbered content.rows number ≡ Some row →
    entry_at content.rows folder ≡ Some entry → parent_number content.rows row ≡ entry.number → parent row.0 ≡ folder
around_too content number row folder entry good found at its =
    let is_in = λ (r : Row). is_folder (entry_at content.rows (parent r.0)) ≡ true in
    let around = folder_at content.rows (parent row.0) (of_numbered is_in content.rows number row good.parents found) in
    let here : numbered content.rows around.0.number ≡ Some (parent row.0, around.0) =
    numbered-from_at content.rows (parent row.0) around.0 good.apart around.1 in
    let there : numbered content.rows entry.number ≡ Some (folder, entry) =
    numbered-from_at content.rows folder entry good.apart at in
    let number_is : parent_number content.rows row ≡ around.0.number =
    ap (λ (o : Option Entry). unwrap_or (option_map (λ (e : Entry). e.number) o) 0) around.1 in
    let same : around.0.number ≡ entry.number = sym number_is ∙ its in
    let found_here = ap (numbered content.rows) (sym same) ∙ here in
    same_row content.rows entry.number (parent row.0, around.0) (folder, entry) found_here there

-- the entry at the path of one that is in the other content too
at_too : (one other : Content) (path : Path) (entry : Entry) → HaveOneFiles one other →
    entry_at one.rows path ≡ Some entry →
    ((found : Row) → numbered other.rows entry.number ≡ Some found →
    file_of one.rows (path, entry) ≡ file_of other.rows found → found.1 ≡ entry → found.0 ≡ path) →
    entry_at other.rows path ≡ Some entry
at_too one other path entry both at place =
    let here : numbered one.rows entry.number ≡ Some (path, entry) =
    numbered-from_at one.rows path entry both.good.apart at in
    let there = there_too one other entry.number (path, entry) both.same here in
    let number : entry.number ≡ there.0.1.number = sym (number-from_numbered other.rows there.0 entry.number there.1) in
    let same : entry ≡ there.0.1 = same_entry one.rows other.rows (path, entry) there.0 number there.2 in
    let its : there.0.0 ≡ path = place there.0 there.1 there.2 (sym same) in
    let found : entry_at other.rows there.0.0 ≡ Some there.0.1 =
    at-from_numbered other.rows there.0.0 there.0.1 entry.number both.good_other.apart there.1 in
    ap (entry_at other.rows) (sym its) ∙ found ∙ ap Some (sym same)

-- the root is the same
root_too : (one other : Content) (entry : Entry) → HaveOneFiles one other → entry_at one.rows [] ≡ Some entry →
    entry_at other.rows [] ≡ Some entry
root_too one other entry both at =
    let first : Some entry.number ≡ Some 1 = sym (ap (option_map (λ (e : Entry). e.number)) at) ∙ both.good.first in
    let is_one : entry.number ≡ 1 = cc in
    at_too one other [] entry both at
    (λ found its same is_it. root_of_one other found both.good_other (ap (numbered other.rows) (sym is_one) ∙ its))

-- a path with a last component, by that and the path around it
by_parts : (around : Path) (name : List ℕ) (path : Path) → ((path ≡ []) → ⊥) → parent path ≡ around →
    last_part path ≡ name → path ≡ around ++ name ∷ []
by_parts around name path some_left above last = elim (split_last path) [
  | inl none ↦ absurd (some_left none)
  | inr parts ↦ (
      let before : parts.0 ≡ around = sym (parent_of parts.0 parts.1) ∙ sym (ap parent parts.2) ∙ above in
      let behind : parts.1 ≡ name = sym (last_of parts.0 parts.1) ∙ sym (ap last_part parts.2) ∙ last in
      parts.2 ∙ ap (λ (p : Path). p ++ parts.1 ∷ []) before ∙ ap (λ (n : List ℕ). around ++ n ∷ []) behind)
]

-- an entry's spelling, folded, is the name at the end of its path
spelled : (content : Content) (number : ℕ) (row : Row) → AllByRecursion IsLawfulRow content.rows →
    numbered content.rows number ≡ Some row → folded row.1.spelling ≡ last_part row.0
spelled content number row lawful found = (of_numbered IsLawfulRow content.rows number row lawful found).spelling

-- what is in a folder that both have is there in the other too
beneath_too : (one other : Content) (around : Path) (name : List ℕ) (folder entry : Entry) → HaveOneFiles one other →
    entry_at one.rows around ≡ Some folder → entry_at other.rows around ≡ Some folder →
    entry_at one.rows (around ++ name ∷ []) ≡ Some entry → entry_at other.rows (around ++ name ∷ []) ≡ Some entry
beneath_too one other around name folder entry both above above_too at =
    let path : Path = around ++ name ∷ [] in
    let here : numbered one.rows entry.number ≡ Some (path, entry) =
    numbered-from_at one.rows path entry both.good.apart at in
    let its_parent : parent_number one.rows (path, entry) ≡ folder.number =
    ap (λ (o : Option Entry). unwrap_or (option_map (λ (e : Entry). e.number) o) 0)
    (ap (entry_at one.rows) (parent_of around name) ∙ above) in
    at_too one other path entry both at (λ found its same is_it.
    let below : parent found.0 ≡ around =
    around_too other entry.number found around folder both.good_other its above_too
    (sym (ap (λ (f : FileEntry). f.parent) same) ∙ its_parent) in
    let last : last_part found.0 ≡ name =
    sym (spelled other entry.number found both.lawful_other its) ∙ ap (λ (e : Entry). folded e.spelling) is_it
    ∙ spelled one entry.number (path, entry) both.lawful here ∙ last_of around name in
    let no_root : found.0 ≡ [] → ⊥ = λ root.
    (let number : entry.number ≡ 1 = one_of_root other entry.number found both.good_other its root in
    not_empty around name (root_of_one one (path, entry) both.good (ap (numbered one.rows) (sym number) ∙ here))) in
    by_parts around name found.0 no_root below last)

-- what is at a path is there in the other content too, by how deep the path is
there_at : (depth : ℕ) (one other : Content) (path : Path) (entry : Entry) → HaveOneFiles one other →
    length path ≤ depth → entry_at one.rows path ≡ Some entry → entry_at other.rows path ≡ Some entry
there_at zero one other [] entry both short at = root_too one other entry both at
there_at zero one other (name ∷ path) entry both short at = absurd (omega (arith, short))
there_at (suc depth) one other path entry both short at = elim (split_last path) [
  | inl root ↦ (let at_root = root_too one other entry both (ap (entry_at one.rows) (sym root) ∙ at) in
      ap (entry_at other.rows) root ∙ at_root)
  | inr parts ↦ (
      let here : numbered one.rows entry.number ≡ Some (path, entry) =
      numbered-from_at one.rows path entry both.good.apart at in
      let is_in = λ (r : Row). is_folder (entry_at one.rows (parent r.0)) ≡ true in
      let around = folder_at one.rows (parent path)
      (of_numbered is_in one.rows entry.number (path, entry) both.good.parents here) in
      let place : parts.0 ≡ parent path = sym (parent_of parts.0 parts.1) ∙ sym (ap parent parts.2) in
      let above : entry_at one.rows parts.0 ≡ Some around.0 = ap (entry_at one.rows) place ∙ around.1 in
      let shorter : length parts.0 ≤ depth =
      omega (arith, short, ap (length {A = List ℕ}) parts.2, length-append parts.0 (parts.1 ∷ [])) in
      let above_too = there_at depth one other parts.0 around.0 both shorter above in
      let at_parts = ap (entry_at one.rows) (sym parts.2) ∙ at in
      ap (entry_at other.rows) parts.2
      ∙ beneath_too one other parts.0 parts.1 around.0 entry both above above_too at_parts)
]

turned : (one other : Content) → HaveOneFiles one other → HaveOneFiles other one
turned one other both = record {
  good = both.good_other;
  good_other = both.good;
  lawful = both.lawful_other;
  lawful_other = both.lawful;
  same = sym both.same;
}

-- files tell the entry at each path
pub same_at : (one other : Content) (path : Path) → HaveOneFiles one other →
    entry_at one.rows path ≡ entry_at other.rows path
same_at one other path both =
    elim (entry_at one.rows path) as (λ o. entry_at one.rows path ≡ o → o ≡ entry_at other.rows path) [
      | Some entry ↦ λ at. sym (there_at (length path) one other path entry both (omega (arith)) at)
      | None ↦ λ none. elim (entry_at other.rows path) as (λ o. entry_at other.rows path ≡ o → None ≡ o) [
        | None ↦ λ _. refl
        | Some entry ↦ λ at. sym none
            ∙ there_at (length path) other one path entry (turned one other both) (omega (arith)) at
      ] refl
    ] refl
