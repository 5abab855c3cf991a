-- For the proofs; nothing here need be believed.
-- The bytes of a file that is kept in pages of 4,096 bytes.
use Rattle.std.specs.Prelude.{◌≡◌, ◌+◌, ◌*◌, ◌/◌, ◌%◌, ◌<◌, ◌≤◌, ℕ, List, [], length, map, slice_index, slice_index_or, Vec}
use Rattle.std.specs.List.{range_with_len}
use Rattle.std.specs.declared.alloc.Global.{Global}

-- the pages in the order of their numbers
abbrev pub Table : Type 0
Table = List (Vec ℕ Global)

-- what was written of the page of a number; nothing where there is no such page
abbrev pub page_of : Table → ℕ → List ℕ
page_of table number = slice_index_or (map (λ page. page.items) table) number []

-- the byte at a place of the file: a page's 4,096 bytes are what was written of it, and zeros behind that
abbrev pub byte_at : Table → ℕ → ℕ
byte_at table i = slice_index (page_of table (i / 4096)) (i % 4096)

-- the bytes of a file of this size
abbrev pub bytes_of : Table → ℕ → List ℕ
bytes_of table size = map (byte_at table) (range_with_len 0 size)

-- no page has more than 4,096 bytes
abbrev pub AreShort : Table → Type 0
AreShort table = (number : ℕ) → length (page_of table number) ≤ 4096

-- each page begins before the end of the file, and nothing but zeros is past the end
pub record IsTrimmed (table : Table) (size : ℕ) : Type 0 where
  pub few : length table * 4096 < size + 4096
  pub clean : (i : ℕ) → size ≤ i → byte_at table i ≡ 0
  pub short : AreShort table
