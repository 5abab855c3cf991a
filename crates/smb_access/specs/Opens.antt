-- The opens that stand, in rising number.
use Rattle.std.specs.Prelude.{ℕ, ◌==◌, ◌&&◌, not, nat_lt, if◌then◌else◌, Bool, true, List, map, filter, find, Option, None, Some, slice_get, ◌<◌}
use Rattle.std.specs.List.{list_any, AllByRecursion}
use Rattle.std.specs.Option.{option_map}
use Rattle.smb_access.specs.declared.open_row.OpenRow.{OpenRow}
use Rattle.smb_access.specs.declared.open_row.Owner.{Owner}
use Rattle.smb_access.specs.declared.scan.Scan.{Scan}
use Rattle.smb_access.specs.declared.open_row.Owner.TheVariants.{Session, Tree}

-- an open is one of this session, or of this tree connect of it ([MS-SMB2] 3.3.1.10)
abbrev pub is_held_by : Owner → OpenRow → Bool
is_held_by (Session session) row = row.session == session
is_held_by (Tree session tree) row = row.session == session && row.tree == tree

-- an open's number, where there is one
abbrev pub number_of : Option OpenRow → Option ℕ
number_of = option_map (λ row. row.number)

-- the open of a number
abbrev pub open_of : List OpenRow → ℕ → Option OpenRow
open_of rows number = find (λ row. row.number == number) rows

-- the opens but that of a number
abbrev pub without_open : ℕ → List OpenRow → List OpenRow
without_open number = filter (λ row. not (row.number == number))

-- the opens, with the scan of that of a number set
abbrev pub with_scan : ℕ → Scan → List OpenRow → List OpenRow
with_scan number scan = map (λ (row : OpenRow). if row.number == number then record row { scan = scan } else row)

-- the number of an entry's open at a place among its opens
abbrev pub open_on_entry : List OpenRow → ℕ → ℕ → Option ℕ
open_on_entry rows entry i = number_of (slice_get (filter (λ row. row.entry == entry) rows) i)

-- the least number of an entry's opens that is above a given one
abbrev pub open_on_entry_after : List OpenRow → ℕ → ℕ → Option ℕ
open_on_entry_after rows entry number = number_of (find (λ row. row.entry == entry && nat_lt number row.number) rows)

-- a number is above a given one; where none is given, each is
abbrev pub is_above : Option ℕ → ℕ → Bool
is_above None number = true
is_above (Some other) number = nat_lt other number

-- the least number of the opens, or of those above a given number
abbrev pub open_after : List OpenRow → Option ℕ → Option ℕ
open_after rows after = number_of (find (λ row. is_above after row.number) rows)

-- an entry has an open
abbrev pub has_open : List OpenRow → ℕ → Bool
has_open rows entry = list_any (λ row. row.entry == entry) rows

-- the least number of an owner's opens
abbrev pub first_held_by : Owner → List OpenRow → Option ℕ
first_held_by owner rows = number_of (find (is_held_by owner) rows)

-- the opens' numbers
abbrev pub open_numbers : List OpenRow → List ℕ
open_numbers = map (λ row. row.number)

-- each open's number is below this one
abbrev pub AreAllBelow : ℕ → List OpenRow → Type 0
AreAllBelow number rows = AllByRecursion (λ other. other < number) (open_numbers rows)
