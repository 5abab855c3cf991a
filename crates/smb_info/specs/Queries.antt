-- What a QUERY_DIRECTORY is answered, and what it leaves of the scan of its open ([MS-SMB2] 3.3.5.18, [MS-FSA] 2.1.5.6.3).
use Rattle.std.specs.Prelude.{ℕ, List, [], ◌∷◌, length, take, fold, is_some, not, Bool, ◌&&◌, ◌||◌, ◌==◌, nat_lt, if◌then◌else◌, Option, None, Some, unwrap_or}
use Rattle.smb_wire.specs.Access.{has_any}
use Rattle.smb_wire.specs.Names.{folded}
use Rattle.smb_wire.specs.QueryDirectoryFlags.{RESTART_SCANS, RETURN_SINGLE_ENTRY, REOPEN}
use Rattle.smb_tree.specs.Content.{Row}
use Rattle.smb_access.specs.declared.scan.Scan.{Scan}
use Rattle.smb_access.specs.declared.scan.ScanLast.{ScanLast}
use Rattle.smb_access.specs.declared.scan.ScanLast.TheVariants.{Start}
use Rattle.smb_info.specs.Candidates.{Candidate}
use Rattle.smb_info.specs.DirectoryInformation.{directory_class, directory_length, laid}
use Rattle.smb_info.specs.Listing.{matching, fitting}
use Rattle.smb_info.specs.declared.fault.InfoFault.{InfoFault}
use Rattle.smb_info.specs.declared.fault.InfoFault.TheVariants.{BadClass, BadPattern, TooSmall, NoMatch, NoMore}

-- what a query asks (2.2.33): the number of the class, the flags, the units of the pattern, and how many bytes there may be
-- at most
pub record ListAsked : Type 0 where
  pub class : ℕ
  pub flags : ℕ
  pub pattern : List ℕ
  pub room : ℕ

-- the query starts the scan: it is to start anew (2.2.33), or none was started through this open
abbrev pub is_started_by : Scan → ListAsked → Bool
is_started_by scan ask =
    has_any ask.flags RESTART_SCANS || has_any ask.flags REOPEN || not (is_some scan.pattern)

-- the pattern by which the scan goes on: that of a query that starts it and has one, else that of the scan before, else
-- `*`
abbrev pub pattern_by : Scan → ListAsked → List ℕ
pattern_by scan ask =
    if is_started_by scan ask && not (length ask.pattern == 0) then folded ask.pattern else unwrap_or scan.pattern (42 ∷ [])

-- the scan as the query goes on with it
abbrev pub scan_by : Scan → ListAsked → Scan
scan_by scan ask = record {
  pattern = Some (pattern_by scan ask);
  last = if is_started_by scan ask then Start else scan.last;
}

module _ (rows : List Row) (folder : ℕ) (scan : Scan) (ask : ListAsked) where
  -- the entries that are wanted: those behind the last one whose names the pattern matches; with RETURN_SINGLE_ENTRY
  -- (2.2.33) the first of them alone
  abbrev pub entries_wanted : List Candidate
  entries_wanted =
      let found = matching rows folder (pattern_by scan ask) (scan_by scan ask).last in
      if has_any ask.flags RETURN_SINGLE_ENTRY then take 1 found else found

  -- why nothing is listed: no class that can be asked for has the number; the pattern has over 255 units; there is no room for
  -- the fixed part; no name is matched, which is NO_SUCH_FILE where the query starts the scan, and the scan is kept,
  -- and else NO_MORE_FILES; or the first entry does not fit whole, though it is the only one
  abbrev pub list_fault : Option InfoFault
  list_fault = elim (directory_class ask.class) [
    | None ↦ Some BadClass
    | Some class ↦
        if nat_lt 255 (length ask.pattern) then Some BadPattern else
        if nat_lt ask.room (directory_length class) then Some TooSmall else
        elim entries_wanted [
          | [] ↦ Some (if is_started_by scan ask then NoMatch (scan_by scan ask) else NoMore)
          | c ∷ cs ↦ if nat_lt ask.room (length (laid class (c ∷ []))) then Some TooSmall else None
        ]
  ]

  -- the entries that are listed: of those that are wanted as many as fit
  abbrev pub entries_listed : List Candidate
  entries_listed = elim (directory_class ask.class) [
    | None ↦ []
    | Some class ↦ fitting class ask.room entries_wanted (length entries_wanted)
  ]

  -- their bytes
  abbrev pub bytes_listed : List ℕ
  bytes_listed = elim (directory_class ask.class) [
    | None ↦ []
    | Some class ↦ laid class (fitting class ask.room entries_wanted (length entries_wanted))
  ]

  -- the scan afterwards: behind the last entry that was listed
  abbrev pub scan_after : Scan
  scan_after = record (scan_by scan ask) {
    last = fold (λ (last : ScanLast) (c : Candidate). c.behind) (scan_by scan ask).last entries_listed;
  }
