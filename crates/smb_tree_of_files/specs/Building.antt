-- For the proofs; nothing here need be believed.
-- What holds of a tree while it is built from files.
use Rattle.std.specs.Prelude.{◌≡◌, ℕ, ◌-◌, ◌≤◌, ◌==◌, ◌++◌, Bool, true, is_some, if◌then◌else◌, List, [], length}
use Rattle.std.specs.Prelude.{take, replicate, None}
use Rattle.std.specs.List.{AllByRecursion, list_any}
use Rattle.std.specs.Option.{option_map}
use Rattle.std.specs.FinMap.{get}
use Rattle.smb_wire.specs.declared.limits.share.Limits.{Limits}
use Rattle.smb_tree.specs.Content.{Content, bytes_of, changed_in, numbered}
use Rattle.smb_tree.specs.Good.{GoodContent, IsLawfulRow}
use Rattle.smb_tree.specs.Views.{Shown}
use Rattle.smb_files.specs.Files.{FileEntry, Files}
use Rattle.smb_files.specs.Contents.{files_of}
pub use Rattle.smb_tree_of_files.specs.Numbers.{is_one_of, HasAll}

-- a content under construction: it is good and lawful, and each of its numbers has an entry among the files
pub record IsBegun (files : Files) (content : Content) : Type 0 where
  pub good : GoodContent content
  pub lawful : AllByRecursion IsLawfulRow content.rows
  pub others : (n : ℕ) → get files.entries n ≡ None → numbered content.rows n ≡ None

-- a content under construction has these limits and this capacity
pub record IsUnder (held : Files) (most : Limits) (room : ℕ) (content : Content) : Type 0 where
  pub begun : IsBegun held content
  pub limits : content.limits ≡ most
  pub capacity : content.capacity ≡ room

-- one content leads to another: that one is under construction too, with the same limits and capacity
pub record LeadsTo (files : Files) (old new : Content) : Type 0 where
  pub begun : IsBegun files old → IsBegun files new
  pub limits : new.limits ≡ old.limits
  pub capacity : new.capacity ≡ old.capacity

-- an entry without its bytes
abbrev pub bare : FileEntry → FileEntry
bare entry = record entry { bytes = [] }

-- what the entry of a number shows that is as a file, but for its bytes
abbrev pub shown_of : ℕ → FileEntry → Shown
shown_of number entry = record {
  number = number;
  parent = entry.parent;
  kind = entry.about.kind;
  basic = entry.about.basic;
  size = 0;
  mark = entry.about.mark;
  spelling = entry.about.spelling;
}

-- the entry of a number is among a content's files as it is to be, without bytes
abbrev pub IsBare : Files → Content → ℕ → Type 0
IsBare files content n = get (files_of content).entries n ≡ option_map bare (get files.entries n)

-- bytes as far as they were put into a file of their size, whose others are zeros
abbrev pub so_far : ℕ → List ℕ → List ℕ
so_far offset bytes = take offset bytes ++ replicate (length bytes - offset) 0

-- a content in which a file got bytes as far as that
abbrev pub filled_to : ℕ → List ℕ → Content → ℕ → Content
filled_to offset bytes content number = changed_in
    (λ entry. record entry { bytes = so_far offset bytes }) content number

-- of a content in which a file had no bytes another one came, in which it has bytes as far as that
pub record IsPoured (before : Content) (number : ℕ) (bytes : List ℕ) (offset : ℕ) (content : Content) : Type 0 where
  pub within : offset ≤ length bytes
  pub is : bytes_of before.rows number ≡ [] → content ≡ filled_to offset bytes before number
  pub good : GoodContent before → GoodContent content

-- a content with these limits and this capacity is good and lawful, and its next number is that of the files; those of
-- its entries that are left have no bytes yet, and all others are as they are to be
pub record IsFilled (held left : Files) (most : Limits) (room : ℕ) (content : Content) : Type 0 where
  pub good : GoodContent content
  pub lawful : AllByRecursion IsLawfulRow content.rows
  pub limits : content.limits ≡ most
  pub capacity : content.capacity ≡ room
  pub next : content.next ≡ held.next
  pub entries : (n : ℕ) → get (files_of content).entries n
      ≡ (if is_some (get left.entries n) then option_map bare (get left.entries n) else get held.entries n)
  pub same : (n : ℕ) → is_some (get left.entries n) ≡ true → get left.entries n ≡ get held.entries n

-- a content is that of the files, under these limits and this capacity
pub record IsTreeOf (held : Files) (most : Limits) (room : ℕ) (content : Content) : Type 0 where
  pub good : GoodContent content
  pub lawful : AllByRecursion IsLawfulRow content.rows
  pub files : files_of content ≡ held
  pub limits : content.limits ≡ most
  pub capacity : content.capacity ≡ room
