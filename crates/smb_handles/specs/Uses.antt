-- For the proofs; nothing here need be believed.
-- How many opens of an entry use it in each way.
use Rattle.std.specs.Prelude.{ℕ, ◌+◌, ◌-◌, ◌==◌, ◌&&◌, ◌≢◌, if◌then◌else◌, Bool, true, List, length, filter, Some}
use Rattle.std.specs.Option.{option_map, option_map_or}
use Rattle.std.specs.Ordering.{nat_cmp}
use Rattle.std.specs.BTreeMap.{BTreeMap, get}
use Rattle.smb_access.specs.Parts.{is_on_entry}
use Rattle.smb_access.specs.Sharing.{uses}
use Rattle.smb_access.specs.declared.open_row.OpenRow.{OpenRow}
use Rattle.smb_access.specs.declared.use_kind.SharingUse.{SharingUse}
use Rattle.smb_access.specs.declared.use_kind.SharingUse.TheVariants.{Reads, Writes, Deletes, SharesNoRead, SharesNoWrite, SharesNoDelete}
use Rattle.smb_handles.specs.declared.uses.UseCounts.{UseCounts}

-- 1 where an open uses its entry so, else 0
abbrev pub once : SharingUse → OpenRow → ℕ
once kind row = if uses kind row then 1 else 0

-- how many of these opens are of an entry and use it so
abbrev pub uses_in : List OpenRow → ℕ → SharingUse → ℕ
uses_in rows entry kind = length (filter (λ row. is_on_entry entry row && uses kind row) rows)

-- the count of a way
abbrev pub count_in : UseCounts → SharingUse → ℕ
count_in counts Reads = counts.reads
count_in counts Writes = counts.writes
count_in counts Deletes = counts.deletes
count_in counts SharesNoRead = counts.shares_no_read
count_in counts SharesNoWrite = counts.shares_no_write
count_in counts SharesNoDelete = counts.shares_no_delete

-- each count is 0
abbrev pub is_zero : UseCounts → Bool
is_zero counts =
    counts.reads == 0
    && counts.writes == 0
    && counts.deletes == 0
    && counts.shares_no_read == 0
    && counts.shares_no_write == 0
    && counts.shares_no_delete == 0

-- no entry keeps counts of which each is 0
abbrev pub KeepsNoZero : BTreeMap ℕ UseCounts → Type 0
KeepsNoZero counts = (entry : ℕ) → option_map is_zero (get nat_cmp counts entry) ≢ Some true

-- the count that is kept of an entry's opens
abbrev pub counted : BTreeMap ℕ UseCounts → ℕ → SharingUse → ℕ
counted counts entry kind = option_map_or (λ those. count_in those kind) (get nat_cmp counts entry) 0

-- counts with an open more
abbrev pub more : (ℕ → SharingUse → ℕ) → OpenRow → ℕ → SharingUse → ℕ
more counts row entry kind = if is_on_entry entry row then counts entry kind + once kind row else counts entry kind

-- counts with an open less
abbrev pub less : (ℕ → SharingUse → ℕ) → OpenRow → ℕ → SharingUse → ℕ
less counts row entry kind = if is_on_entry entry row then counts entry kind - once kind row else counts entry kind
