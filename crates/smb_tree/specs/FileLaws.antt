-- Reads and writes of a file, in a user's words.
use Rattle.std.specs.Prelude.{◌≡◌, ◌≢◌, ℕ, ◌+◌, ◌-◌, ◌<◌, ◌≤◌, ◌⊎◌, max, List, length, take, drop, replicate, slice_index, Some}
use Rattle.smb_tree.specs.Entries.{Entry}
use Rattle.smb_tree.specs.Content.{Row, Content, numbered, changed, changed_in, bytes_of, written}

-- what was written at an offset is read there; each byte that was there and was not written over stays; a gap between the
-- end of the file and what was written behind it reads as zeros; and the size is the greater of the size before and the
-- end of what was written
abbrev pub WhatIsWrittenIsRead : Type 0
WhatIsWrittenIsRead =
    (offset : ℕ) (buffer : List ℕ) →
    ((content : Content) (number : ℕ) (row : Row) → numbered content.rows number ≡ Some row →
    let after = changed_in (λ entry. record entry { bytes = written offset buffer entry.bytes }) content number in
    take (length buffer) (drop offset (bytes_of after.rows number)) ≡ buffer)
    × ((bytes : List ℕ) →
    let after = written offset buffer bytes in
    let gap = offset - length bytes in
    ((i : ℕ) → i < length bytes → (i < offset) ⊎ (offset + length buffer ≤ i) →
    slice_index after i ≡ slice_index bytes i)
    × (take gap (drop (length bytes) after) ≡ replicate gap 0)
    × (length after ≡ max (length bytes) (offset + length buffer)))

-- a change of the entry of a number leaves the entry of each other number as it was
abbrev pub AChangeIsOfOneNumber : Type 0
AChangeIsOfOneNumber =
    (change : Entry → Entry) (rows : List Row) (number other : ℕ) → ((entry : Entry) → (change entry).number ≡ entry.number) →
    other ≢ number → numbered (changed change rows number) other ≡ numbered rows other
