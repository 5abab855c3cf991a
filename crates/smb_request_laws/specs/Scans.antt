-- What a scan of a directory lists, query after query ([MS-SMB2] 3.3.5.18, [MS-FSA] 2.1.5.6.3).
use Rattle.std.specs.Prelude.{◌≡◌, ℕ, true, false, ◌||◌, ◌==◌, List, [], ◌∷◌, ◌++◌, length, filter, fold, All, Option, None, Some}
use Rattle.smb_wire.specs.Access.{has_any}
use Rattle.smb_wire.specs.QueryDirectoryFlags.{RESTART_SCANS, REOPEN}
use Rattle.smb_patterns.specs.Patterns.{Matches}
use Rattle.smb_tree.specs.Content.{Row, Content, numbered}
use Rattle.smb_tree.specs.Good.{GoodContent}
use Rattle.smb_access.specs.declared.scan.Scan.{Scan}
use Rattle.smb_info.specs.Candidates.{Candidate}
use Rattle.smb_info.specs.Queries.{ListAsked, is_started_by, pattern_by, list_fault, entries_listed, scan_after}
use Rattle.smb_info.specs.declared.fault.InfoFault.{InfoFault}
use Rattle.smb_info.specs.declared.fault.InfoFault.TheVariants.{NoMatch, NoMore}

-- a QUERY_DIRECTORY (2.2.33): what there is when it comes, and what it asks
pub record Query : Type 0 where
  pub content : Content
  pub ask : ListAsked

module _ (folder : ℕ) where
  -- why a query of the directory of this number is refused, by the scan of an open
  abbrev pub query_fault : Scan → Query → Option InfoFault
  query_fault scan query = list_fault query.content.rows folder scan query.ask

  -- what a query lists; one that is refused lists nothing
  abbrev pub query_listed : Scan → Query → List Candidate
  query_listed scan query = elim (query_fault scan query) [
    | None ↦ entries_listed query.content.rows folder scan query.ask
    | Some fault ↦ []
  ]

  -- the scan that a query leaves; a refusal leaves the one before it, but NO_SUCH_FILE the one that the query started
  abbrev pub scan_left : Scan → Query → Scan
  scan_left scan query = elim (query_fault scan query) [
    | None ↦ scan_after query.content.rows folder scan query.ask
    | Some (NoMatch started) ↦ started
    | Some _ ↦ scan
  ]

  -- what queries list, one after the other, each by the scan that the one before it left
  abbrev pub listed_in_turn : Scan → List Query → List Candidate
  listed_in_turn scan [] = []
  listed_in_turn scan (query ∷ queries) = query_listed scan query ++ listed_in_turn (scan_left scan query) queries

-- an entry keeps its name: when a query comes, the entry of this number is in the directory of this number under this
-- folded name, and the pattern matches it as it is spelled; the content is good
pub record KeepsItsName (folder number : ℕ) (name pattern : List ℕ) (query : Query) : Type 0 where
  pub good : GoodContent query.content
  pub around : Row
  pub row : Row
  pub there : numbered query.content.rows folder ≡ Some around
  pub own : numbered query.content.rows number ≡ Some row
  pub under : row.0 ≡ around.0 ++ name ∷ []
  pub matched : Matches pattern row.1.spelling

-- an entry that keeps its name while a directory is listed, query after query, is listed exactly once, whatever comes
-- and goes beside it: from a query that starts the scan up to NO_MORE_FILES, while none starts it anew
abbrev pub AnEntryIsListedOnce : Type 0
AnEntryIsListedOnce =
    (folder number : ℕ) (name : List ℕ) (scan : Scan) (first : Query) (others : List Query) (last : Query) →
    is_started_by scan first.ask ≡ true → query_fault folder scan first ≡ None →
    All
    (λ query. has_any query.ask.flags RESTART_SCANS || has_any query.ask.flags REOPEN ≡ false)
    (others ++ last ∷ []) →
    All (KeepsItsName folder number name (pattern_by scan first.ask)) (first ∷ (others ++ last ∷ [])) →
    query_fault folder (fold (scan_left folder) scan (first ∷ others)) last ≡ Some NoMore →
    length (filter (λ c. c.entry.number == number) (listed_in_turn folder scan (first ∷ others))) ≡ 1
