-- The laws of listings.
use Rattle.std.proofs.Common.{◌≡◌, ℕ, zero, suc, ◌+◌, ◌≤◌, nat_le, Bool, true, false, cond, ◌&&◌, ◌||◌, List, [], ◌∷◌, ◌++◌, length, map, take, filter, Option, None, Some, is_some, refl, sym, ap, ◌∙◌, arith}
use Rattle.std.proofs.lemmas.List.{take_all}
use Rattle.std.proofs.lemmas.Bool.{le-leb}
use Rattle.smb_wire.specs.Names.{folded}
use Rattle.smb_tree.specs.Content.{Row, Content, numbered}
use Rattle.smb_tree.specs.Good.{GoodContent}
use Rattle.smb_tree.specs.ChildLaws.{in_turn}
use Rattle.smb_tree.proofs.Siblings.{come_in_turn}
use Rattle.smb_access.specs.declared.scan.Scan.{Scan}
use Rattle.smb_access.specs.declared.scan.ScanLast.{ScanLast}
use Rattle.smb_access.specs.declared.scan.ScanLast.TheVariants.{Start}
use Rattle.smb_patterns.specs.Patterns.{is_match}
use Rattle.smb_info.specs.Candidates.{Candidate, dot_dot, child, children, candidates_behind}
use Rattle.smb_info.specs.DirectoryInformation.{directory_class, laid}
use Rattle.smb_info.specs.Listing.{matching, fitting}
use Rattle.smb_info.specs.Parts.{longest_front, restarts, Sought, at_most_one, wanted, given, reached, sought_by, listed_by}
use Rattle.smb_info.specs.Queries.{ListAsked, pattern_by, scan_by, entries_listed, scan_after}
use Rattle.smb_info.specs.ListingLaws.{AFolderIsListedInFull, NothingIsLeftOut, TheNextQueryGoesOn}
use Rattle.smb_info.specs.declared.directory_class.DirectoryInformationClass.{DirectoryInformationClass}
use Rattle.smb_patterns.proofs.PatternRuns.{asterisk_matches}
use Rattle.smb_patterns.proofs.PatternTests.{match_decides}
use Rattle.smb_info.proofs.Steps.{shown_there}
use Rattle.smb_info.proofs.Places.{dot_is, dot_dot_is, step_at, turns_stand}
use Rattle.smb_info.proofs.GoingOn.{left_by, front_of, one_front, two_fronts}

-- ---- what is listed is a front of what is matched

fitting_front : (class : DirectoryInformationClass) (room : ℕ) (cs : List Candidate) (n : ℕ) → (k : ℕ) × (fitting class room cs n ≡ take k cs)
unfolding fitting
fitting_front class room cs zero = (0, refl)
fitting_front class room cs (suc n) =
    elim (nat_le (length (laid class (take (suc n) cs))) room) as (λ b. (k : ℕ) × (cond b (take (suc n) cs) (fitting class room cs n) ≡ take k cs)) [
      | true ↦ (suc n, refl)
      | false ↦ fitting_front class room cs n
    ]

given_front : (rows : List Row) (class : DirectoryInformationClass) (sought : Sought) → (k : ℕ) × (given rows class sought ≡ take k (matching rows sought.folder sought.pattern sought.last))
given_front rows class sought =
    let all : List Candidate = matching rows sought.folder sought.pattern sought.last in
    let some = one_front sought.single all in
    let fits = fitting_front class sought.room (wanted rows sought) (length (wanted rows sought)) in
    let front = front_of fits.0 some.0 all in
    (front.0, fits.1 ∙ ap (take fits.0) some.1 ∙ front.1)

pub listed_front : (rows : List Row) (number : ℕ) (scan : Scan) (ask : ListAsked) (class : Option DirectoryInformationClass) → (k : ℕ) × (listed_by rows number scan ask class ≡ take k (matching rows number (pattern_by scan ask) (scan_by scan ask).last))
listed_front rows number scan ask None = (0, refl)
listed_front rows number scan ask (Some class) = given_front rows class (sought_by number scan ask)

left_out : (content : Content) (number : ℕ) (pattern : List ℕ) (last : ScanLast) (k : ℕ) → GoodContent content → is_some (numbered content.rows number) ≡ true →
    matching content.rows number pattern last ≡ take k (matching content.rows number pattern last) ++ matching content.rows number pattern (reached last (take k (matching content.rows number pattern last)))
unfolding matching
left_out content number pattern last k good i =
    left_by (candidates_behind content.rows number) (λ c. is_match pattern c.name) (length (candidates_behind content.rows number last)) last (step_at content number good i) (omega arith) k

pub nothing_left_out : NothingIsLeftOut
nothing_left_out content number scan ask good i =
    let all : List Candidate = matching content.rows number (pattern_by scan ask) (scan_by scan ask).last in
    let front = listed_front content.rows number scan ask (directory_class ask.class) in
    left_out content number (pattern_by scan ask) (scan_by scan ask).last front.0 good i
    ∙ ap (λ (cs : List Candidate). cs ++ matching content.rows number (pattern_by scan ask) (reached (scan_by scan ask).last cs)) (sym front.1)

-- a query that goes on takes the pattern of the scan, and begins behind its last entry
same_pattern : (pattern own : List ℕ) (b : Bool) (t : Bool) → b ≡ false → cond ((b || false) && t) own pattern ≡ pattern
same_pattern pattern own b t e = ap (λ (r : Bool). cond ((r || false) && t) own pattern) e

same_last : (last : ScanLast) (b : Bool) → b ≡ false → cond (b || false) Start last ≡ last
same_last last b e = ap (λ (r : Bool). cond (r || false) Start last) e

pub goes_on : TheNextQueryGoesOn
goes_on content number scan ask next good i r =
    let after : Scan = scan_after content.rows number scan ask in
    let all : List Candidate = matching content.rows number (pattern_by scan ask) (scan_by scan ask).last in
    let left : List Candidate = matching content.rows number (pattern_by scan ask) after.last in
    let one : List Candidate = entries_listed content.rows number scan ask in
    let two = listed_front content.rows number after next (directory_class next.class) in
    let pattern : pattern_by after next ≡ pattern_by scan ask = same_pattern (pattern_by scan ask) (folded next.pattern) (restarts next) _ r in
    let last : (scan_by after next).last ≡ after.last = same_last after.last (restarts next) r in
    let rest : matching content.rows number (pattern_by after next) (scan_by after next).last ≡ left =
    ap (λ (p : List ℕ). matching content.rows number p (scan_by after next).last) pattern ∙ ap (matching content.rows number (pattern_by scan ask)) last in
    (length one + two.0, two_fronts 0 two.0 all left one (entries_listed content.rows number after next) (nothing_left_out content number scan ask good i) (two.1 ∙ ap (take two.0) rest))

-- ---- in full

all_matched : (cs : List Candidate) → filter (λ c. is_match (42 ∷ []) c.name) cs ≡ cs
all_matched [] = refl
all_matched (c ∷ cs) =
    let each : is_match (42 ∷ []) c.name ≡ true = (match_decides (42 ∷ []) c.name).1 (asterisk_matches c.name) in
    ap (λ (b : Bool). cond b (c ∷ filter (λ c. is_match (42 ∷ []) c.name) cs) (filter (λ c. is_match (42 ∷ []) c.name) cs)) each ∙ ap (λ (xs : List Candidate). c ∷ xs) (all_matched cs)

all_given : (class : DirectoryInformationClass) (room : ℕ) (cs : List Candidate) → length (laid class cs) ≤ room → longest_front class room cs ≡ cs
unfolding fitting
all_given class room [] h = refl
all_given class room (c ∷ cs) h =
    let whole : take (suc (length cs)) (c ∷ cs) ≡ c ∷ cs = take_all (suc (length cs)) (c ∷ cs) (omega arith) in
    let fits : nat_le (length (laid class (take (suc (length cs)) (c ∷ cs)))) room ≡ true =
    ap (λ (xs : List Candidate). nat_le (length (laid class xs)) room) whole ∙ le-leb (length (laid class (c ∷ cs))) room h in
    ap (λ (b : Bool). cond b (take (suc (length cs)) (c ∷ cs)) (fitting class room (c ∷ cs) (length cs))) fits ∙ whole

child_names : (rows listed : List Row) → map (λ (c : Candidate). c.name) (map (child rows) listed) ≡ map (λ (row : Row). row.1.spelling) listed
child_names rows [] = refl
child_names rows (row ∷ listed) = ap (λ (names : List (List ℕ)). row.1.spelling ∷ names) (child_names rows listed)

names_from_start : (content : Content) (number : ℕ) → GoodContent content → is_some (numbered content.rows number) ≡ true →
    map (λ (c : Candidate). c.name) (candidates_behind content.rows number Start) ≡ (46 ∷ []) ∷ (46 ∷ 46 ∷ []) ∷ map (λ (row : Row). row.1.spelling) (in_turn (length content.rows) content.rows number None)
unfolding candidates_behind children
names_from_start content number good i =
    let own = shown_there content.rows number i in
    let around = dot_dot_is content number own.0 good own.1 in
    let names : List Candidate → List (List ℕ) = λ cs. map (λ (c : Candidate). c.name) cs in
    ap (λ (cs : List Candidate). names (cs ++ (dot_dot content.rows number ++ children content.rows number None))) (dot_is content.rows number own.0 own.1)
    ∙ ap (λ (cs : List Candidate). (46 ∷ []) ∷ names (cs ++ children content.rows number None)) around.2
    ∙ ap (λ (ns : List (List ℕ)). (46 ∷ []) ∷ (46 ∷ 46 ∷ []) ∷ ns) (child_names content.rows (in_turn (length content.rows) content.rows number None))

pub in_full : AFolderIsListedInFull
unfolding matching
in_full content number folder scan ask class good there told started pattern single room =
    let turn = come_in_turn content.rows number (length content.rows) folder good.apart there (omega arith) in
    let start : (scan_by scan ask).last ≡ Start = ap (λ (b : Bool). cond b Start scan.last) started in
    let all : List Candidate = matching content.rows number (42 ∷ []) Start in
    let found : matching content.rows number (pattern_by scan ask) (scan_by scan ask).last ≡ all =
    ap (λ (p : List ℕ). matching content.rows number p (scan_by scan ask).last) pattern ∙ ap (matching content.rows number (42 ∷ [])) start in
    let want : wanted content.rows (sought_by number scan ask) ≡ all = ap (λ (b : Bool). at_most_one b (matching content.rows number (pattern_by scan ask) (scan_by scan ask).last)) single ∙ found in
    let listed : entries_listed content.rows number scan ask ≡ all =
    ap (listed_by content.rows number scan ask) told ∙ ap (longest_front class ask.room) want ∙ all_given class ask.room all room in
    let names = ap (map (λ (c : Candidate). c.name)) (listed ∙ all_matched (candidates_behind content.rows number Start)) ∙ names_from_start content number good (ap is_some there) in
    (in_turn (length content.rows) content.rows number None, names, turns_stand (length content.rows) content.rows number None, turn.0, turn.1)
