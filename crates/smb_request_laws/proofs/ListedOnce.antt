-- An entry that keeps its name while a directory is listed is listed once: a query lists it where the place of the scan
-- passes its name, and not otherwise.
use Rattle.std.proofs.Common.{◌≡◌, ℕ, ◌+◌, Bool, true, false, cond, not, ◌&&◌, ◌||◌, ◌==◌, nat_lt, List, [], ◌∷◌, ◌++◌, length, fold, All, Option, None, Some, is_some, refl, sym, ap, ◌∙◌, subst, arith}
use Rattle.std.specs.Option.{unwrap_or}
use Rattle.std.proofs.lemmas.List.Elements.{All-head, All-tail}
use Rattle.smb_wire.specs.Access.{has_any}
use Rattle.smb_wire.specs.Names.{folded}
use Rattle.smb_wire.specs.QueryDirectoryFlags.{RESTART_SCANS, REOPEN}
use Rattle.smb_tree.specs.Content.{Row, numbered}
use Rattle.smb_access.specs.declared.scan.Scan.{Scan}
use Rattle.smb_access.specs.declared.scan.ScanLast.{ScanLast}
use Rattle.smb_access.specs.declared.scan.ScanLast.TheVariants.{Start}
use Rattle.smb_patterns.proofs.PatternTests.{match_decides}
use Rattle.smb_info.specs.Candidates.{Candidate}
use Rattle.smb_info.specs.DirectoryInformation.{directory_class, directory_length, laid}
use Rattle.smb_info.specs.Listing.{matching}
use Rattle.smb_info.specs.Parts.{at_most_one, wanted, sought_by, first_fault, fault_by}
use Rattle.smb_info.specs.Queries.{ListAsked, is_started_by, pattern_by, scan_by, entries_listed, scan_after}
use Rattle.smb_info.specs.declared.directory_class.DirectoryInformationClass.{DirectoryInformationClass}
use Rattle.smb_info.specs.declared.fault.InfoFault.{InfoFault}
use Rattle.smb_info.specs.declared.fault.InfoFault.TheVariants.{BadPattern, TooSmall, NoMatch, NoMore}
use Rattle.smb_info.proofs.ListingRuns.{nothing_left_out}
use Rattle.smb_request_laws.specs.Scans.{Query, query_fault, query_listed, scan_left, listed_in_turn, KeepsItsName, AnEntryIsListedOnce}
use Rattle.smb_request_laws.proofs.ComingOnce.{comes_behind, times, times_of_both, among_candidates}

-- how often an entry of a name is still to be listed from a place on
abbrev due : List ℕ → ScanLast → ℕ
due name at = cond (comes_behind name at) 1 0

-- ---- why a query is refused

module _ (rows : List Row) (folder : ℕ) (scan : Scan) (ask : ListAsked) (unstarted : is_started_by scan ask ≡ false) where
  -- by whether the pattern is too long, and whether there is no room for the fixed part
  abbrev by_tests : DirectoryInformationClass → Bool → Bool → Option InfoFault
  by_tests class long small =
      cond long (Some BadPattern) (cond small (Some TooSmall) (first_fault rows folder scan ask class (wanted rows (sought_by folder scan ask))))

  not_at_first : (class : DirectoryInformationClass) (cs : List Candidate) (started : Scan) → first_fault rows folder scan ask class cs ≡ Some (NoMatch started) → ⊥
  not_at_first class [] started e =
      let more : Some (cond false (NoMatch (scan_by scan ask)) NoMore) ≡ Some (NoMatch started) = sym (ap (λ (b : Bool). Some (cond b (NoMatch (scan_by scan ask)) NoMore)) unstarted) ∙ e in
      cc
  not_at_first class (c ∷ cs) started e =
      elim (nat_lt ask.room (length (laid class (c ∷ [])))) as (λ b. cond b (Some TooSmall) None ≡ Some (NoMatch started) → ⊥) [
        | true ↦ λ k. cc
        | false ↦ λ k. cc
      ] e

  not_by_tests : (class : DirectoryInformationClass) (long small : Bool) (started : Scan) → by_tests class long small ≡ Some (NoMatch started) → ⊥
  not_by_tests class true small started e = cc
  not_by_tests class false true started e = cc
  not_by_tests class false false started e = not_at_first class (wanted rows (sought_by folder scan ask)) started e

  -- one that goes on is not refused by NO_SUCH_FILE
  not_unmatched : (class : Option DirectoryInformationClass) (started : Scan) → fault_by rows folder scan ask class ≡ Some (NoMatch started) → ⊥
  not_unmatched None started e = cc
  not_unmatched (Some class) started e = not_by_tests class (nat_lt 255 (length ask.pattern)) (nat_lt ask.room (directory_length class)) started e

  over_at_first : (class : DirectoryInformationClass) (cs : List Candidate) → first_fault rows folder scan ask class cs ≡ Some NoMore → cs ≡ []
  over_at_first class [] e = refl
  over_at_first class (c ∷ cs) e =
      elim (nat_lt ask.room (length (laid class (c ∷ [])))) as (λ b. cond b (Some TooSmall) None ≡ Some NoMore → c ∷ cs ≡ []) [
        | true ↦ λ k. cc
        | false ↦ λ k. cc
      ] e

  over_by_tests : (class : DirectoryInformationClass) (long small : Bool) → by_tests class long small ≡ Some NoMore → wanted rows (sought_by folder scan ask) ≡ []
  over_by_tests class true small e = cc
  over_by_tests class false true e = cc
  over_by_tests class false false e = over_at_first class (wanted rows (sought_by folder scan ask)) e

  -- where one is refused by NO_MORE_FILES, no entry is wanted
  over_by : (class : Option DirectoryInformationClass) → fault_by rows folder scan ask class ≡ Some NoMore → wanted rows (sought_by folder scan ask) ≡ []
  over_by None e = cc
  over_by (Some class) e = over_by_tests class (nat_lt 255 (length ask.pattern)) (nat_lt ask.room (directory_length class)) e

none_at_all : (single : Bool) (cs : List Candidate) → at_most_one single cs ≡ [] → cs ≡ []
none_at_all false cs e = e
none_at_all true [] e = refl
none_at_all true (c ∷ cs) e = cc

-- ---- a query that goes on

-- it starts no scan anew
abbrev GoesOn : Query → Type 0
GoesOn query = has_any query.ask.flags RESTART_SCANS || has_any query.ask.flags REOPEN ≡ false

module _ (scan : Scan) (ask : ListAsked) (pattern : List ℕ) (has : scan.pattern ≡ Some pattern)
    (on : has_any ask.flags RESTART_SCANS || has_any ask.flags REOPEN ≡ false) where
  not_started : is_started_by scan ask ≡ false
  not_started =
      ap (λ (b : Bool). b || not (is_some scan.pattern)) on ∙ ap (λ (o : Option (List ℕ)). not (is_some o)) has

  same_pattern : pattern_by scan ask ≡ pattern
  same_pattern =
      ap (λ (b : Bool). cond (b && not (length ask.pattern == 0)) (folded ask.pattern) (unwrap_or scan.pattern (42 ∷ []))) not_started
      ∙ ap (λ (o : Option (List ℕ)). unwrap_or o (42 ∷ [])) has

  same_last : (scan_by scan ask).last ≡ scan.last
  same_last = ap (λ (b : Bool). cond b Start scan.last) not_started

-- ---- what one query lists

module _ (folder number : ℕ) (name pattern : List ℕ) where
  -- how often what is matched from a place on is the entry
  matched_from : (query : Query) (at : ScanLast) → KeepsItsName folder number name pattern query → times number (matching query.content.rows folder pattern at) ≡ due name at
  unfolding matching
  matched_from query at keeps =
      among_candidates query.content folder number keeps.around keeps.row name pattern keeps.good keeps.there keeps.own keeps.under
      ((match_decides pattern keeps.row.1.spelling).1 keeps.matched) at

  listed_by_one : (scan : Scan) (query : Query) → pattern_by scan query.ask ≡ pattern → KeepsItsName folder number name pattern query →
      due name (scan_by scan query.ask).last
      ≡ times number (entries_listed query.content.rows folder scan query.ask) + due name (scan_after query.content.rows folder scan query.ask).last
  listed_by_one scan query same keeps =
      let rows : List Row = query.content.rows in
      let before : ScanLast = (scan_by scan query.ask).last in
      let after : ScanLast = (scan_after rows folder scan query.ask).last in
      let listed : List Candidate = entries_listed rows folder scan query.ask in
      let there : is_some (numbered rows folder) ≡ true = ap is_some keeps.there in
      let parts : matching rows folder pattern before ≡ listed ++ matching rows folder pattern after =
      subst (λ (p : List ℕ). matching rows folder p before ≡ listed ++ matching rows folder p after) same (nothing_left_out query.content folder scan query.ask keeps.good there) in
      sym (matched_from query before keeps) ∙ ap (times number) parts ∙ times_of_both number listed (matching rows folder pattern after)
      ∙ ap (λ (n : ℕ). times number listed + n) (matched_from query after keeps)

  -- ---- and what several do

  -- what a query lists, and the scan that it leaves, by why it is refused
  abbrev listed_by : Scan → Query → Option InfoFault → List Candidate
  listed_by scan query None = entries_listed query.content.rows folder scan query.ask
  listed_by scan query (Some fault) = []

  abbrev left_by : Scan → Query → Option InfoFault → Scan
  left_by scan query None = scan_after query.content.rows folder scan query.ask
  left_by scan query (Some (NoMatch started)) = started
  left_by scan query (Some _) = scan

  -- a query that goes on lists the entry as often as it passes its name, and keeps the pattern
  abbrev Passes : Scan → List Candidate → Scan → Type 0
  Passes scan listed after = (due name scan.last ≡ times number listed + due name after.last) × (after.pattern ≡ Some pattern)

  passes_by : (scan : Scan) (query : Query) (fault : Option InfoFault) → query_fault folder scan query ≡ fault → scan.pattern ≡ Some pattern → GoesOn query →
      KeepsItsName folder number name pattern query → Passes scan (listed_by scan query fault) (left_by scan query fault)
  passes_by scan query None e has on keeps =
      let same = same_pattern scan query.ask pattern has on in
      (ap (due name) (sym (same_last scan query.ask pattern has on)) ∙ listed_by_one scan query same keeps, ap Some same)
  passes_by scan query (Some (NoMatch started)) e has on keeps =
      absurd (not_unmatched query.content.rows folder scan query.ask (not_started scan query.ask pattern has on) (directory_class query.ask.class) started e)
  passes_by scan query (Some other) e has on keeps = (omega arith, has)

  passes : (scan : Scan) (query : Query) → scan.pattern ≡ Some pattern → GoesOn query → KeepsItsName folder number name pattern query →
      Passes scan (query_listed folder scan query) (scan_left folder scan query)
  passes scan query has on keeps = passes_by scan query (query_fault folder scan query) refl has on keeps

  -- where nothing is left, the entry was passed
  nothing_due : (scan : Scan) (last : Query) → scan.pattern ≡ Some pattern → GoesOn last → KeepsItsName folder number name pattern last →
      query_fault folder scan last ≡ Some NoMore → due name scan.last ≡ 0
  nothing_due scan last has on keeps over =
      let rows : List Row = last.content.rows in
      let none = none_at_all _ _ (over_by rows folder scan last.ask (not_started scan last.ask pattern has on) (directory_class last.ask.class) over) in
      ap (due name) (sym (same_last scan last.ask pattern has on)) ∙ sym (matched_from last (scan_by scan last.ask).last keeps)
      ∙ ap (λ (p : List ℕ). times number (matching rows folder p (scan_by scan last.ask).last)) (sym (same_pattern scan last.ask pattern has on))
      ∙ ap (times number) none

  listed_in_all : (scan : Scan) (others : List Query) (last : Query) → scan.pattern ≡ Some pattern →
      All GoesOn (others ++ last ∷ []) → All (KeepsItsName folder number name pattern) (others ++ last ∷ []) →
      query_fault folder (fold (scan_left folder) scan others) last ≡ Some NoMore → times number (listed_in_turn folder scan others) ≡ due name scan.last
  listed_in_all scan [] last has on keeps over =
      sym (nothing_due scan last has (All-head GoesOn last [] on) (All-head (KeepsItsName folder number name pattern) last [] keeps) over)
  listed_in_all scan (query ∷ others) last has on keeps over =
      let one = passes scan query has (All-head GoesOn query (others ++ last ∷ []) on) (All-head (KeepsItsName folder number name pattern) query (others ++ last ∷ []) keeps) in
      let rest =
      listed_in_all (scan_left folder scan query) others last one.1 (All-tail GoesOn query (others ++ last ∷ []) on)
      (All-tail (KeepsItsName folder number name pattern) query (others ++ last ∷ []) keeps) over in
      times_of_both number (query_listed folder scan query) (listed_in_turn folder (scan_left folder scan query) others)
      ∙ ap (λ (n : ℕ). times number (query_listed folder scan query) + n) rest ∙ sym one.0

pub listed_once : AnEntryIsListedOnce
listed_once folder number name scan first others last started lawful on keeps over =
    let pattern : List ℕ = pattern_by scan first.ask in
    let K : Query → Type 0 = KeepsItsName folder number name pattern in
    let after : Scan = scan_left folder scan first in
    let left : after ≡ scan_after first.content.rows folder scan first.ask = ap (left_by folder number name pattern scan first) lawful in
    let listed : query_listed folder scan first ≡ entries_listed first.content.rows folder scan first.ask = ap (listed_by folder number name pattern scan first) lawful in
    let all : List Query = others ++ last ∷ [] in
    let rest : times number (listed_in_turn folder after others) ≡ due name after.last =
    listed_in_all folder number name pattern after others last (ap (λ (s : Scan). s.pattern) left) on (All-tail K first all keeps) over in
    let start : (scan_by scan first.ask).last ≡ Start = ap (λ (b : Bool). cond b Start scan.last) started in
    times_of_both number (query_listed folder scan first) (listed_in_turn folder after others)
    ∙ ap (λ (n : ℕ). times number (query_listed folder scan first) + n) (rest ∙ ap (λ (s : Scan). due name s.last) left)
    ∙ ap (λ (cs : List Candidate). times number cs + due name (scan_after first.content.rows folder scan first.ask).last) listed
    ∙ sym (listed_by_one folder number name pattern scan first refl (All-head K first all keeps))
    ∙ ap (due name) start
