-- For the proofs; nothing here need be believed.
-- The entries that a plain tree stores, as rows.
use Rattle.std.specs.Prelude.{◌≡◌, ℕ, ◌<◌, if◌then◌else◌, List, length, map, take, slice_index_or, Option, None, Some}
use Rattle.smb_wire.specs.Pairs.{units_in}
use Rattle.smb_wire.specs.Paths.{components, folded_path}
use Rattle.smb_tree.specs.Entries.{last_part}
use Rattle.smb_tree.specs.Content.{Row, numbered}
use Rattle.smb_tree.specs.Children.{name_of, is_before}
use Rattle.smb_tree.specs.declared.stored.Stored.{Stored}

-- the components of a stored entry's path, as they are spelled
abbrev pub parts_stored : Stored → List (List ℕ)
parts_stored stored = components (units_in stored.text.items)

-- a stored entry at its path
abbrev pub row_of : Stored → Row
row_of stored = (
  folded_path (parts_stored stored),
  record {
    number = stored.number;
    kind = stored.kind;
    spelling = last_part (parts_stored stored);
    bytes = stored.bytes.items;
    basic = stored.basic;
    mark = stored.mark;
  },
)

abbrev pub rows_of : List Stored → List Row
rows_of = map row_of

-- a stored entry stands at a place, and its number at no earlier one
pub record IsPlace (entries : List Stored) (number i : ℕ) (stored : Stored) : Type 0 where
  pub within : i < length entries
  pub here : stored ≡ slice_index_or entries i stored
  pub its : stored.number ≡ number
  pub front : numbered (rows_of (take i entries)) number ≡ None

-- a child by its name and number
abbrev pub key_of : Row → List ℕ × ℕ
key_of row = (name_of row, row.1.number)

-- of a child that was found, if one was, and of another the one whose name comes first
abbrev pub nearer : Option (List ℕ × ℕ) → List ℕ → ℕ → Option (List ℕ × ℕ)
nearer None name number = Some (name, number)
nearer (Some found) name number = if is_before name found.0 then Some (name, number) else Some found
