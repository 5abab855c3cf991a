-- For the proofs; nothing here need be believed.
-- What the calls on the pages of a file do.
use Rattle.std.specs.Prelude.{◌≡◌, ◌+◌, ◌-◌, ◌<◌, ◌≤◌, ℕ, List, length, map, slice_index, vec_capacity}
use Rattle.smb_pages.specs.Pages.{Table, page_of, byte_at, AreShort}

-- how many bytes the page of a number has room for
abbrev pub room_of : Table → ℕ → ℕ
room_of table number = slice_index (map (λ page. vec_capacity page) table) number

-- each page has the bytes that it had
abbrev pub SamePages : Table → Table → Type 0
SamePages old new = (number : ℕ) → page_of new number ≡ page_of old number

-- so many bytes were put at a place
pub record IsPut (old new : Table) (place count : ℕ) (bytes : List ℕ) : Type 0 where
  pub here : (i : ℕ) → place ≤ i → i < place + count → byte_at new i ≡ slice_index bytes (i - place)
  pub front : (i : ℕ) → i < place → byte_at new i ≡ byte_at old i
  pub behind : (i : ℕ) → place + count ≤ i → byte_at new i ≡ byte_at old i
  pub short : AreShort old → AreShort new
  pub rooms : (number : ℕ) → room_of old number ≤ room_of new number
  pub long : length new ≡ length old
