-- Wrong definitions of a scan, each refused by the law of specs/Scans.
-- The law whose name ends in By says of any definition what that of specs/ says of the right one, as the line below it
-- shows; then come the wrong definitions, each with the proof that the law is false of it.
use Rattle.std.proofs.Common.{lit<, lit≤, ◌≡◌, ◌+◌, ◌||◌, ◌==◌, ℕ, true, false, List, [], ◌∷◌, ◌++◌, length, take, filter, fold, All, Option, None, Some, inl, refl, arith}
use Rattle.std.proofs.lemmas.List.Elements.{All-from_recursion}
use Rattle.smb_wire.specs.Access.{has_any}
use Rattle.smb_wire.specs.Limits.{default_limits}
use Rattle.smb_wire.specs.Number.{spelling}
use Rattle.smb_wire.specs.QueryDirectoryFlags.{RESTART_SCANS, REOPEN}
use Rattle.smb_patterns.specs.Patterns.{Matches, is_match}
use Rattle.smb_tree.specs.declared.entry.Kind.TheVariants.{File, Folder}
use Rattle.smb_tree.specs.Content.{Row, Content}
use Rattle.smb_tree.specs.Entries.{new_entry}
use Rattle.smb_tree.specs.Good.{GoodContent}
use Rattle.smb_access.specs.declared.scan.Scan.{Scan}
use Rattle.smb_access.specs.declared.scan.ScanLast.{ScanLast}
use Rattle.smb_access.specs.declared.scan.ScanLast.TheVariants.{Start, Name}
use Rattle.smb_access.specs.Parts.{no_scan}
use Rattle.smb_info.specs.Candidates.{Candidate, dot, dot_dot, children, candidates_behind}
use Rattle.smb_info.specs.DirectoryInformation.{laid}
use Rattle.smb_info.specs.Listing.{matching, fitting}
use Rattle.smb_info.specs.Parts.{reached}
use Rattle.smb_info.specs.Queries.{is_started_by, pattern_by, scan_by, entries_wanted}
use Rattle.smb_info.specs.declared.fault.InfoFault.{InfoFault}
use Rattle.smb_info.specs.declared.fault.InfoFault.TheVariants.{NoMore}
use Rattle.smb_request_laws.specs.Scans.{Query, query_fault, query_listed, scan_left, KeepsItsName, AnEntryIsListedOnce}

-- how a directory is scanned: why a query is refused, what it lists, and the scan that it leaves
record Scanning : Type 0 where
  fault : ℕ → Scan → Query → Option InfoFault
  listed : ℕ → Scan → Query → List Candidate
  left : ℕ → Scan → Query → Scan

abbrev right : Scanning
right = record { fault = query_fault; listed = query_listed; left = scan_left }

abbrev in_turn_by : Scanning → ℕ → Scan → List Query → List Candidate
in_turn_by by folder scan [] = []
in_turn_by by folder scan (query ∷ queries) =
    by.listed folder scan query ++ in_turn_by by folder (by.left folder scan query) queries

-- a query starts no scan anew
abbrev GoesOn : Query → Type 0
GoesOn query = has_any query.ask.flags RESTART_SCANS || has_any query.ask.flags REOPEN ≡ false

-- an entry that keeps its name while a directory is listed is listed exactly once
abbrev AnEntryIsListedOnceBy : Scanning → Type 0
AnEntryIsListedOnceBy by =
    (folder number : ℕ) (name : List ℕ) (scan : Scan) (first : Query) (others : List Query) (last : Query) →
    is_started_by scan first.ask ≡ true → by.fault folder scan first ≡ None →
    All GoesOn (others ++ last ∷ []) →
    All (KeepsItsName folder number name (pattern_by scan first.ask)) (first ∷ (others ++ last ∷ [])) →
    by.fault folder (fold (by.left folder) scan (first ∷ others)) last ≡ Some NoMore →
    length (filter (λ c. c.entry.number == number) (in_turn_by by folder scan (first ∷ others))) ≡ 1

an_entry_is_listed_once : AnEntryIsListedOnce ≡ AnEntryIsListedOnceBy right
an_entry_is_listed_once = refl

-- ---- an example: two files in the root, `A` and `B`, and `B` alone

-- the root, which has number 1
abbrev top : Row
top = ([], new_entry 1 [] Folder 0 0)

-- a file in it, of no bytes: its number, and the unit that is its name
abbrev file : ℕ → ℕ → Row
file number unit = ((unit ∷ []) ∷ [], new_entry number ((unit ∷ []) ∷ []) File 0 0)

abbrev both : Content
both = record { rows = top ∷ file 2 65 ∷ file 3 66 ∷ []; next = 4; capacity = 0; limits = default_limits }

-- once `A` is deleted
abbrev alone : Content
alone = record { rows = top ∷ file 3 66 ∷ []; next = 4; capacity = 0; limits = default_limits }

good_both : GoodContent both
good_both = record {
  root = refl;
  first = refl;
  parents = (refl, (refl, (refl, tt)));
  apart = (refl, refl, (refl, refl, (refl, refl, tt)));
  below = (lit< tt, (lit< tt, (lit< tt, tt)));
  counted = lit< tt;
  few = lit≤ tt;
  shallow = (lit≤ tt, (lit≤ tt, (lit≤ tt, tt)));
  small = (lit≤ tt, (lit≤ tt, (lit≤ tt, tt)));
  bare = ((λ _. refl), ((λ _. refl), ((λ _. refl), tt)));
  fits = lit≤ tt;
}

good_alone : GoodContent alone
good_alone = record {
  root = refl;
  first = refl;
  parents = (refl, (refl, tt));
  apart = (refl, refl, (refl, refl, tt));
  below = (lit< tt, (lit< tt, tt));
  counted = lit< tt;
  few = lit≤ tt;
  shallow = (lit≤ tt, (lit≤ tt, tt));
  small = (lit≤ tt, (lit≤ tt, tt));
  bare = ((λ _. refl), ((λ _. refl), tt));
  fits = lit≤ tt;
}

-- a query of names (FileNamesInformation), by the pattern `>`, which matches names of one unit that is no dot; of these
-- one takes 14 bytes, and two take 30
abbrev query : Content → ℕ → Query
query content room =
    record { content = content; ask = record { class = 12; flags = 0; pattern = 62 ∷ []; room = room } }

-- `B` keeps its name
abbrev keeps : Query → Type 0
keeps = KeepsItsName 1 3 (66 ∷ []) (62 ∷ [])

is_matched : Matches (62 ∷ []) (66 ∷ [])
is_matched = (66 ∷ [], [], refl, inl (refl, refl), refl)

in_both : (room : ℕ) → keeps (query both room)
in_both room = record {
  good = good_both;
  around = top;
  row = file 3 66;
  there = refl;
  own = refl;
  under = refl;
  matched = is_matched;
}

in_alone : (room : ℕ) → keeps (query alone room)
in_alone room = record {
  good = good_alone;
  around = top;
  row = file 3 66;
  there = refl;
  own = refl;
  under = refl;
  matched = is_matched;
}

-- ---- wrong: a scan goes on by how many entries it has given

-- how many a scan has given, which it has in place of a name
abbrev count_of : ScanLast → ℕ
count_of (Name (count ∷ _)) = count
count_of _ = 0

-- behind as many of the entries that there are now
abbrev placed : ℕ → Scan → Query → Scan
placed folder scan query =
    let all = matching query.content.rows folder (pattern_by scan query.ask) Start in
    record scan { last = reached Start (take (count_of scan.last) all) }

abbrev by_place : Scanning
by_place = record {
  fault = λ folder scan query. query_fault folder (placed folder scan query) query;
  listed = λ folder scan query. query_listed folder (placed folder scan query) query;
  left = λ folder scan query.
      let before = placed folder scan query in
      let count = count_of (scan_by scan query.ask).last + length (query_listed folder before query) in
      record (scan_left folder before query) { last = Name (count ∷ []) };
}

-- once `A` is listed and deleted, `B` is the first, and is left out
left_out_by_place : AnEntryIsListedOnceBy by_place → ⊥
unfolding is_match matching fitting candidates_behind children dot dot_dot laid spelling
left_out_by_place law =
    let first : Query = query both 14 in
    let last : Query = query alone 14 in
    let once : ◌≡◌ {A = ℕ} 0 1 =
    law 1 3 (66 ∷ []) no_scan first [] last refl refl (All-from_recursion GoesOn (last ∷ []) (refl, tt))
    (All-from_recursion keeps (first ∷ last ∷ []) (in_both 14, (in_alone 14, tt))) refl in
    omega arith

-- ---- wrong: a query goes on behind the first of the entries that it listed

abbrev behind_first : Scanning
behind_first = record right {
  left = λ folder scan query. elim (query_listed folder scan query) [
    | [] ↦ scan_left folder scan query
    | c ∷ cs ↦ record (scan_left folder scan query) { last = c.behind }
  ];
}

-- `A` and `B` are listed, and then `B` again
twice_behind_first : AnEntryIsListedOnceBy behind_first → ⊥
unfolding is_match matching fitting candidates_behind children dot dot_dot laid spelling
twice_behind_first law =
    let each : Query = query both 30 in
    let once : ◌≡◌ {A = ℕ} 2 1 =
    law 1 3 (66 ∷ []) no_scan each (each ∷ []) each refl refl
    (All-from_recursion GoesOn (each ∷ each ∷ []) (refl, (refl, tt)))
    (All-from_recursion keeps (each ∷ each ∷ each ∷ []) (in_both 30, (in_both 30, (in_both 30, tt)))) refl in
    omega arith

-- ---- wrong: a query goes on behind all entries that are wanted, though fewer fit

abbrev behind_wanted : Scanning
behind_wanted = record right {
  left = λ folder scan query. elim (query_listed folder scan query) [
    | [] ↦ scan_left folder scan query
    | c ∷ cs ↦
        let all = entries_wanted query.content.rows folder scan query.ask in
        record (scan_left folder scan query) { last = reached (scan_by scan query.ask).last all }
  ];
}

-- `A` alone fits, and `B` is left out
left_out_behind_wanted : AnEntryIsListedOnceBy behind_wanted → ⊥
unfolding is_match matching fitting candidates_behind children dot dot_dot laid spelling
left_out_behind_wanted law =
    let each : Query = query both 14 in
    let once : ◌≡◌ {A = ℕ} 0 1 =
    law 1 3 (66 ∷ []) no_scan each [] each refl refl (All-from_recursion GoesOn (each ∷ []) (refl, tt))
    (All-from_recursion keeps (each ∷ each ∷ []) (in_both 14, (in_both 14, tt))) refl in
    omega arith
