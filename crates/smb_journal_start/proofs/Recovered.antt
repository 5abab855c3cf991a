-- A tree that goes on with the files of a journal.
use Rattle.std.specs.Prelude.{◌≡◌, ℕ, Bool, true, false, ◌==◌, is_some, Option, None, Some, if◌then◌else◌, List, [], ◌∷◌, map, length, take}
use Rattle.std.specs.List.{AllByRecursion, list_any}
use Rattle.std.specs.Option.{option_map, option_map_or}
use Rattle.std.specs.FinMap.{FinMap, get, len, from_entries, get-empty, get-insert, len-empty, len-insert}
use Rattle.std.specs.Ordering.{nat_cmp}
use Rattle.std.proofs.lemmas.Cmp.{nat_cmp_total}
use Rattle.std.proofs.Math.Seq.{take-length}
use Rattle.std.proofs.Common.{refl, sym, subst, ◌∙◌, ap, arith, inl, inr}
use Rattle.std.proofs.lemmas.Bool.Decides.{nat_tests}
use Rattle.smb_tree.specs.Content.{Row, Content, numbered}
use Rattle.smb_tree.specs.Good.{GoodContent, IsLawfulRow}
use Rattle.smb_tree.specs.Laws.{AreApart}
use Rattle.smb_access.specs.Close.{has_mark}
use Rattle.smb_opens.specs.Good.{UnmarkedTree}
use Rattle.smb_files.specs.Files.{FileEntry, Files}
use Rattle.smb_files.specs.Contents.{files_of, file_of}
use Rattle.smb_files.proofs.Gets.{get-files_of, tie}
use Rattle.smb_recovery.specs.Recovering.{IsReadUpTo}
use Rattle.smb_journaled_tree.specs.Written.{IsWritten}
use Rattle.smb_tree_of_files.specs.Numbers.{HasAll}
use Rattle.smb_journal_start.specs.Unmarked.{unmarked, HasUnmarked}
use Rattle.smb_journal_start.specs.Left.{IsSameOrGone, IsLeft}

-- an entry of a content is one of its files
there : (content : Content) (q : ℕ) (row : Row) → numbered content.rows q ≡ Some row → is_some (get (files_of content).entries q) ≡ true
there content q row h = rw (get-files_of content q, h) refl

-- each entry is among the numbers of all files
pub all_numbered : (content : Content) (files : Files) (numbers : List ℕ) → files_of content ≡ files → HasAll files numbers →
    (q : ℕ) (row : Row) → numbered content.rows q ≡ Some row → list_any (λ other. q == other) numbers ≡ true
all_numbered content files numbers e all q row h =
    all q (subst (λ (f : Files). is_some (get f.entries q) ≡ true) e (there content q row h))

-- the whole batches of a file
pub written_of : (content : Content) (files : Files) (bytes : List ℕ) (first number seed : ℕ) → files_of content ≡ files →
    IsReadUpTo first bytes files (length bytes) number seed → IsWritten content bytes first number seed
written_of content files bytes first number seed e read = record {
  batches = read.batches;
  each = read.each;
  spelled_are = sym (take-length bytes) ∙ read.spelled_are;
  counted = read.counted;
  chained = read.chained;
  keeps = sym read.keeps ∙ sym e;
}

-- cut to its whole batches, a file has these alone
pub read_whole : (first whole number seed : ℕ) (bytes file : List ℕ) (files : Files) → IsReadUpTo first bytes files whole number seed →
    file ≡ take whole bytes → IsReadUpTo first file files (length file) number seed
read_whole first whole number seed bytes file files read e = record {
  batches = read.batches;
  each = read.each;
  spelled_are = take-length file ∙ e ∙ read.spelled_are;
  counted = read.counted;
  chained = read.chained;
  keeps = read.keeps;
}

no_some : {X : Type 0} (x : X) → ◌≡◌ {A = Option X} None (Some x) → ⊥
no_some x e = cc

-- files made of rows, as those of a content are
abbrev made : List Row → List Row → FinMap nat_cmp FileEntry
made all rows = from_entries (map (λ (row : Row). (row.1.number, file_of all row)) rows)

turned : (p q : ℕ) → (p == q) ≡ (q == p)
turned p q = grind (arith, nat_tests)

elsewhere : (all rows : List Row) (row : Row) (n : ℕ) (b c : Bool) → b ≡ c → (numbered rows n ≡ None → get (made all rows) n ≡ None) →
    (if c then Some row else numbered rows n) ≡ None → (if b then Some (file_of all row) else get (made all rows) n) ≡ None
elsewhere all rows row n b true h rest k = absurd (no_some row (sym k))
elsewhere all rows row n true false h rest k = absurd (let no : true ≡ false = h in cc)
elsewhere all rows row n false false h rest k = rest k

-- a number that no row has is none of the files
none_there : (all rows : List Row) (n : ℕ) → numbered rows n ≡ None → get (made all rows) n ≡ None
none_there all [] n e = get-empty nat_cmp n
none_there all (row ∷ rows) n e =
    get-insert nat_cmp_total (made all rows) row.1.number (file_of all row) n
    ∙ ap (λ (b : Bool). if b then Some (file_of all row) else get (made all rows) n) (tie n row.1.number)
    ∙ elsewhere all rows row n (n == row.1.number) (row.1.number == n) (turned n row.1.number) (none_there all rows n) e

-- there are as many files as rows
counted : (all rows : List Row) → AreApart rows → len (made all rows) ≡ length rows
counted all [] a = len-empty nat_cmp FileEntry
counted all (row ∷ rows) a =
    let new = none_there all rows row.1.number a.1 in
    len-insert nat_cmp_total (made all rows) row.1.number (file_of all row) ∙ rw new (let rest = counted all rows a.2 in omega (arith, rest))

pub as_many : (content : Content) (files : Files) → GoodContent content → files_of content ≡ files → len files.entries ≡ length content.rows
as_many content files good e = ap (λ (f : Files). len f.entries) (sym e) ∙ counted content.rows content.rows good.apart

-- an entry of a number that has none is not marked
not_there : (rows : List Row) (q : ℕ) → numbered rows q ≡ None → has_mark rows q ≡ false
not_there rows q e = rw e refl

-- what is not marked stays
unmarked_same : (rows : List Row) (found : Option Row) → option_map_or (λ (row : Row). row.1.mark) found false ≡ false →
    unmarked (option_map (file_of rows) found) ≡ option_map (file_of rows) found
unmarked_same rows None h = refl
unmarked_same rows (Some row) h = rw h refl

-- where of the numbers of before none is marked now, nothing is
module _ (before after : Content) (numbers : List ℕ) (left : IsLeft before after) (all : HasAll (files_of before) numbers)
    (none : (q : ℕ) → list_any (λ other. q == other) numbers ≡ true → has_mark after.rows q ≡ false) where
  was_there : (q : ℕ) (row : Row) → numbered after.rows q ≡ Some row → IsSameOrGone before after q →
      is_some (get (files_of before).entries q) ≡ true
  was_there q row e (inl same) =
      subst (λ (found : Option FileEntry). is_some found ≡ true) (sym (get-files_of after q) ∙ same) (rw e refl)
  was_there q row e (inr gone) =
      let here : get (files_of after).entries q ≡ Some (file_of after.rows row) = get-files_of after q ∙ rw e refl in
      absurd (no_some (file_of after.rows row) (sym gone.0 ∙ here))

  by_row : (q : ℕ) (found : Option Row) → numbered after.rows q ≡ found → has_mark after.rows q ≡ false
  by_row q None e = rw e refl
  by_row q (Some row) e = none q (all q (was_there q row e (left.same q)))

  pub none_marked : (q : ℕ) → has_mark after.rows q ≡ false
  none_marked q = by_row q (numbered after.rows q) refl

  stays : (q : ℕ) → unmarked (get (files_of after).entries q) ≡ get (files_of after).entries q
  stays q =
      subst (λ (found : Option FileEntry). unmarked found ≡ found) (sym (get-files_of after q)) (unmarked_same after.rows (numbered after.rows q) (none_marked q))

  entry_left : (q : ℕ) → IsSameOrGone before after q → get (files_of after).entries q ≡ unmarked (get (files_of before).entries q)
  entry_left q (inl same) = sym (stays q) ∙ ap unmarked same
  entry_left q (inr gone) = gone.0 ∙ sym gone.1

  pub unmarked_left : HasUnmarked (files_of before) after
  unmarked_left = record { entries = λ q. entry_left q (left.same q); next = left.next }

  pub unmarked_tree : AllByRecursion IsLawfulRow before.rows → UnmarkedTree after
  unmarked_tree lawful = record { good = left.good; lawful = left.lawful lawful; unmarked = none_marked }
