-- What a tree contains: each entry at its path, in the order of their numbers.
use Rattle.std.specs.Prelude.{ℕ, ◌+◌, ◌-◌, Bool, ◌==◌, nat_eq, if◌then◌else◌, List, [], ◌∷◌, ◌++◌, length, take, drop, sum_by, replicate, Option, None, Some}
use Rattle.std.specs.Option.{option_map, option_map_or}
use Rattle.std.specs.Cmp.Lexicographic.{pointwise}
use Rattle.smb_wire.specs.declared.limits.share.Limits.{Limits}
use Rattle.smb_wire.specs.Limits.{default_limits}
use Rattle.smb_wire.specs.Counters.{is_spent}
use Rattle.smb_wire.specs.Paths.{folded_path}
use Rattle.smb_tree.specs.declared.entry.Kind.{Kind}
use Rattle.smb_tree.specs.declared.entry.Kind.TheVariants.{Folder}
use Rattle.smb_tree.specs.Entries.{Entry, new_entry, allocation_size}

-- a path: its components, folded
abbrev pub Path : Type 0
Path = List (List ℕ)

abbrev pub is_same_path : Path → Path → Bool
is_same_path = pointwise (pointwise nat_eq)

-- an entry at its path
abbrev pub Row : Type 0
Row = Path × Entry

-- the entries, in the order of their numbers, the next number, how many bytes of space there are, and the limits
pub record Content : Type 0 where
  pub rows : List Row
  pub next : ℕ
  pub capacity : ℕ
  pub limits : Limits

-- the entry at a path
abbrev pub entry_at : List Row → Path → Option Entry
entry_at [] path = None
entry_at (row ∷ rows) path = if is_same_path row.0 path then Some row.1 else entry_at rows path

-- the entry of a number, with its path
abbrev pub numbered : List Row → ℕ → Option Row
numbered [] number = None
numbered (row ∷ rows) number = if row.1.number == number then Some row else numbered rows number

-- the number of the entry at a path
abbrev pub number_at : List Row → Path → Option ℕ
number_at rows path = option_map (λ entry. entry.number) (entry_at rows path)

-- the path in which a path's last component stands; the root stands in itself
abbrev pub parent : Path → Path
parent path = take (length path - 1) path

-- the next number; none is left once the greatest but one of 64 bits was given
abbrev pub next_number : Content → Option ℕ
next_number content = if is_spent 64 content.next then None else Some content.next

-- the space that entries take
abbrev pub used_space : List Row → ℕ
used_space = sum_by (λ row. allocation_size (length row.1.bytes))

-- the content of a new tree under some limits: the root alone, with no attributes
abbrev pub new_content_within : Limits → ℕ → ℕ → Content
new_content_within limits created capacity = record {
  rows = ([], new_entry 1 [] Folder 0 created) ∷ [];
  next = 2;
  capacity = capacity;
  limits = limits;
}

-- the same under the default limits
abbrev pub new_content : ℕ → ℕ → Content
new_content = new_content_within default_limits

-- a new entry at the path that these components spell, under the next number
abbrev pub added : Content → List (List ℕ) → Kind → ℕ → ℕ → Content
added content parts kind attributes moment = record content {
  rows = content.rows ++ (folded_path parts, new_entry content.next parts kind attributes moment) ∷ [];
  next = content.next + 1;
}

-- the entry of this number changed
abbrev pub changed : (Entry → Entry) → List Row → ℕ → List Row
changed change [] number = []
changed change (row ∷ rows) number =
    if row.1.number == number then (row.0, change row.1) ∷ rows else row ∷ changed change rows number

-- a content with the entry of this number changed
abbrev pub changed_in : (Entry → Entry) → Content → ℕ → Content
changed_in change content number = record content { rows = changed change content.rows number }

-- bytes with another size: cut, or with zeros behind them
abbrev pub resized : ℕ → List ℕ → List ℕ
resized size bytes = take size bytes ++ replicate (size - length bytes) 0

-- the entries without that of this number
abbrev pub without : List Row → ℕ → List Row
without [] number = []
without (row ∷ rows) number = if row.1.number == number then rows else row ∷ without rows number

-- the bytes of the file of this number
abbrev pub bytes_of : List Row → ℕ → List ℕ
bytes_of rows number = option_map_or (λ row. row.1.bytes) (numbered rows number) []

-- bytes with others put at an offset: a gap before these is filled with zeros, and what is behind them stays
abbrev pub written : ℕ → List ℕ → List ℕ → List ℕ
written offset buffer bytes = resized offset bytes ++ buffer ++ drop (offset + length buffer) bytes
