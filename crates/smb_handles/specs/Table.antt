-- For the proofs; nothing here need be believed.
-- Opens in slots, and the index that leads from their numbers to the slots.
use Rattle.std.specs.Prelude.{ℕ, ◌≡◌, ◌<◌, List, [], ◌∷◌, Option, Some, IsSomeAnd, Contains, filter_map}
use Rattle.std.specs.List.{AllByRecursion}
use Rattle.smb_access.specs.declared.open_row.OpenRow.{OpenRow}
use Rattle.smb_access.specs.declared.scan.Scan.{Scan}
use Rattle.smb_access.specs.declared.use_kind.SharingUse.{SharingUse}
use Rattle.smb_handles.specs.Groups.{numbers_in}
use Rattle.smb_handles.specs.Uses.{uses_in}
use Rattle.smb_handles.specs.declared.key.GroupKey.{GroupKey}

-- the opens in the slots that an index leads to
abbrev pub rows_of : (ℕ → Option OpenRow) → List (ℕ × ℕ) → List OpenRow
rows_of slots = filter_map (λ entry. slots entry.1)

-- an open whose scan is set
abbrev pub scanned : Scan → OpenRow → OpenRow
scanned scan row = record row { scan = scan }

-- each number leads to the slot of its open, and the numbers rise
abbrev pub AreLive : (ℕ → Option OpenRow) → List (ℕ × ℕ) → Type 0
AreLive slots [] = Unit {0}
AreLive slots (entry ∷ index) =
    IsSomeAnd (slots entry.1) (λ row. row.number ≡ entry.0) × AllByRecursion (λ later. entry.0 < later.0) index × AreLive slots index

-- and each group has the numbers of its opens, and each count is that of an entry's opens that use it so
pub record IsTable (slots : ℕ → Option OpenRow) (index : List (ℕ × ℕ)) (groups : GroupKey → List ℕ) (counts : ℕ → SharingUse → ℕ) : Type 0 where
  pub live : AreLive slots index
  -- the index leads to each slot that is in use, by the number of the open in it
  pub complete : (slot : ℕ) (row : OpenRow) → slots slot ≡ Some row → Contains index (row.number, slot)
  pub grouped : (key : GroupKey) → groups key ≡ numbers_in (rows_of slots index) key
  pub counted : (entry : ℕ) (kind : SharingUse) → counts entry kind ≡ uses_in (rows_of slots index) entry kind
