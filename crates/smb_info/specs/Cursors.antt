-- For the proofs; nothing here need be believed.
-- What is to come from a place among what may be listed of a directory.
use Rattle.std.specs.Prelude.{◌≡◌, ℕ, ◌≤◌, List, length, drop, map, filter, Option}
use Rattle.std.specs.declared.cmp.Ordering.TheVariants.{Greater}
use Rattle.smb_tree.specs.Content.{Row}
use Rattle.smb_tree.specs.ChildLaws.{in_turn, children_at_once}
use Rattle.smb_patterns.specs.Patterns.{is_match}
use Rattle.smb_patterns.specs.PatternOrders.{HasOrder}
use Rattle.smb_access.specs.declared.scan.ScanLast.{ScanLast}
use Rattle.smb_access.specs.declared.scan.ScanLast.TheVariants as last
use Rattle.smb_info.specs.declared.candidate.Listed.{Listed}
use Rattle.smb_info.specs.declared.candidate.Listed.TheVariants.{Dot, DotDot, Child}
use Rattle.smb_info.specs.declared.cursor.Cursor.{Cursor}
use Rattle.smb_info.specs.Candidates.{Candidate, child, candidates_behind}

-- of the children whose names come after a given one those behind the first so many
unfoldable pub children_from : List Row → ℕ → Option (List ℕ) → ℕ → List Candidate
children_from rows folder after given = map (child rows) (drop given (in_turn (length rows) rows folder after))

-- what is to come, by what comes next
abbrev pub to_come_by : List Row → ℕ → Listed → Option (List ℕ) → ℕ → List Candidate
to_come_by rows folder Dot after given = candidates_behind rows folder last.Start
to_come_by rows folder DotDot after given = candidates_behind rows folder last.Dot
to_come_by rows folder Child after given = children_from rows folder after given

-- what is to come from a place
abbrev pub to_come : List Row → ℕ → Cursor → List Candidate
to_come rows folder cursor = to_come_by rows folder cursor.at cursor.after cursor.given

-- the children that were looked up are those behind a name, and so many of them were given
abbrev pub StandsBy : List Row → ℕ → Listed → Option (List ℕ) → List ℕ → ℕ → Type 0
StandsBy rows folder Dot after numbers given = Unit {0}
StandsBy rows folder DotDot after numbers given = Unit {0}
StandsBy rows folder Child after numbers given = (numbers ≡ children_at_once rows folder after) × (given ≤ length numbers)

-- a place is one of a folder
abbrev pub Stands : List Row → ℕ → Cursor → Type 0
Stands rows folder cursor = StandsBy rows folder cursor.at cursor.after cursor.children.items cursor.given

-- of candidates those whose names a pattern matches
unfoldable pub matched : List ℕ → List Candidate → List Candidate
matched pattern cs = filter (λ c. is_match pattern c.name) cs

-- a scan has given a child whose name comes after each name that a pattern matches
abbrev pub IsPast : List ℕ → ScanLast → Type 0
IsPast pattern at = (name : List ℕ) × (at ≡ last.Name name) × HasOrder pattern name Greater
