-- What queries of a directory list, in a user's words.
use Rattle.std.specs.Prelude.{◌≡◌, ℕ, ◌≤◌, true, false, is_some, ◌⊎◌, ◌||◌, List, [], ◌∷◌, ◌++◌, length, map, take, All, Some}
use Rattle.smb_wire.specs.Access.{has_any}
use Rattle.smb_wire.specs.QueryDirectoryFlags.{RESTART_SCANS, REOPEN, RETURN_SINGLE_ENTRY}
use Rattle.smb_tree.specs.Content.{Row, Content, numbered, entry_at}
use Rattle.smb_tree.specs.Good.{GoodContent}
use Rattle.smb_tree.specs.Children.{name_of, is_child}
use Rattle.smb_tree.specs.ChildLaws.{AreInOrder, is_among}
use Rattle.smb_tree.specs.Views.{row_shown, entry_shown}
use Rattle.smb_access.specs.declared.scan.Scan.{Scan}
use Rattle.smb_access.specs.declared.scan.ScanLast.TheVariants.{Start}
use Rattle.smb_patterns.specs.Patterns.{Matches}
use Rattle.smb_info.specs.Candidates.{Candidate, child}
use Rattle.smb_info.specs.DirectoryInformation.{directory_class, laid}
use Rattle.smb_info.specs.Listing.{matching}
use Rattle.smb_info.specs.Queries.{ListAsked, is_started_by, pattern_by, scan_by, entries_listed, scan_after}
use Rattle.smb_info.specs.declared.directory_class.DirectoryInformationClass.{DirectoryInformationClass}

-- a query with `*` that starts a scan and has room for all of it lists `.`, `..` and then the children as they are spelled:
-- entries that stand, in the order of their folded names, so each once, and a name is among theirs exactly where an entry
-- stands in the folder under it
abbrev pub AFolderIsListedInFull : Type 0
AFolderIsListedInFull =
    (content : Content) (number : ℕ) (folder : Row) (scan : Scan) (ask : ListAsked) (class : DirectoryInformationClass) →
    GoodContent content → numbered content.rows number ≡ Some folder → directory_class ask.class ≡ Some class →
    is_started_by scan ask ≡ true → pattern_by scan ask ≡ 42 ∷ [] → has_any ask.flags RETURN_SINGLE_ENTRY ≡ false →
    length (laid class (matching content.rows number (42 ∷ []) Start)) ≤ ask.room →
    (listed : List Row) ×
    (map (λ c. c.name) (entries_listed content.rows number scan ask) ≡ (46 ∷ []) ∷ (46 ∷ 46 ∷ []) ∷ map (λ row. row.1.spelling) listed) ×
    All (λ row. numbered content.rows row.1.number ≡ Some row) listed ×
    AreInOrder (map name_of listed) ×
    ((name : List ℕ) → is_among name (map name_of listed) ≡ is_some (entry_at content.rows (folder.0 ++ name ∷ [])))

-- what a query leaves comes behind what it lists: while the folder stays as it is, nothing is left out
abbrev pub NothingIsLeftOut : Type 0
NothingIsLeftOut =
    (content : Content) (number : ℕ) (scan : Scan) (ask : ListAsked) →
    GoodContent content → is_some (numbered content.rows number) ≡ true →
    matching content.rows number (pattern_by scan ask) (scan_by scan ask).last ≡
    entries_listed content.rows number scan ask ++
    matching content.rows number (pattern_by scan ask) (scan_after content.rows number scan ask).last

-- what a query lists and what the next one does, which goes on with its scan, are a front of what there was before the
-- first: nothing comes twice
abbrev pub TheNextQueryGoesOn : Type 0
TheNextQueryGoesOn =
    (content : Content) (number : ℕ) (scan : Scan) (ask next : ListAsked) →
    GoodContent content → is_some (numbered content.rows number) ≡ true → has_any next.flags RESTART_SCANS || has_any next.flags REOPEN ≡ false →
    (n : ℕ) ×
    (entries_listed content.rows number scan ask
    ++ entries_listed content.rows number (scan_after content.rows number scan ask) next
    ≡ take n (matching content.rows number (pattern_by scan ask) (scan_by scan ask).last))

-- whatever a query lists has a name that the pattern matches, and is the folder itself as `.`, the one around it as `..`,
-- or a child of it as it is spelled
abbrev pub OnlyWhatIsMatchedIsListed : Type 0
OnlyWhatIsMatchedIsListed =
    (content : Content) (number : ℕ) (folder : Row) (scan : Scan) (ask : ListAsked) →
    GoodContent content → numbered content.rows number ≡ Some folder →
    let rows = content.rows in
    All
    (λ (c : Candidate).
    (((c.name ≡ 46 ∷ []) × (c.entry ≡ row_shown rows folder)) ⊎
    (((c.name ≡ 46 ∷ 46 ∷ []) × (Some c.entry ≡ entry_shown rows (row_shown rows folder).parent)) ⊎
    ((row : Row) × (numbered rows c.entry.number ≡ Some row) × (is_child folder.0 row ≡ true) × (c ≡ child rows row))))
    × Matches (pattern_by scan ask) c.name)
    (entries_listed rows number scan ask)
