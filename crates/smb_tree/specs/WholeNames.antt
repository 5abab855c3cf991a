-- An entry copied out of a tree, with its whole name.
use Rattle.std.specs.Prelude.{ℕ, Bool, List, [], ◌∷◌, ◌++◌, length, Option}
use Rattle.std.specs.Option.{option_map, option_map_or}
use Rattle.smb_wire.specs.Pairs.{unit_bytes}
use Rattle.smb_wire.specs.Paths.{joined_by_separators}
use Rattle.smb_tree.specs.declared.entry.Basic.{Basic}
use Rattle.smb_tree.specs.declared.entry.Kind.{Kind}
use Rattle.smb_tree.specs.declared.entry_copy.EntryCopy.{EntryCopy}
use Rattle.smb_tree.specs.Content.{Path, Row, entry_at, numbered}

-- how the entries on the way from a folder's path down these components are spelled
abbrev pub spellings_from : List Row → Path → Path → List (List ℕ)
spellings_from rows folder [] = []
spellings_from rows folder (name ∷ names) =
    option_map_or (λ entry. entry.spelling) (entry_at rows (folder ++ name ∷ [])) []
    ∷ spellings_from rows (folder ++ name ∷ []) names

-- a copy, without where the bytes of its name lie
pub record Copied : Type 0 where
  pub number : ℕ
  pub kind : Kind
  pub basic : Basic
  pub size : ℕ
  pub mark : Bool
  pub name : List ℕ

abbrev pub copied : EntryCopy → Copied
copied copy = record {
  number = copy.number;
  kind = copy.kind;
  basic = copy.basic;
  size = copy.size;
  mark = copy.mark;
  name = copy.name.items;
}

-- what is copied of the entry of a number; its whole name is the spellings on the way from the root, with a separator
-- between each two
abbrev pub entry_copied : List Row → ℕ → Option Copied
entry_copied rows number = option_map
    (λ (row : Row). record {
      number = row.1.number;
      kind = row.1.kind;
      basic = row.1.basic;
      size = length row.1.bytes;
      mark = row.1.mark;
      name = unit_bytes (joined_by_separators (spellings_from rows [] row.0));
    })
    (numbered rows number)
