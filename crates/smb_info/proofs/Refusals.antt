-- Why a query of a directory is refused, and what it is answered.
use Rattle.std.proofs.Common.{◌≡◌, ℕ, suc, ◌<◌, ◌≤◌, nat_lt, nat_le, Bool, true, false, cond, if◌then◌else◌, List, [], ◌∷◌, ◌++◌, length, Option, None, Some, is_some, Result, Ok, Err, OnOk, OnErr, IfOk, IfErr, IsErrAnd, refl, sym, ap, ◌∙◌, subst, inl, inr, arith}
use Rattle.std.specs.Option.{option_map_or}
use Rattle.std.proofs.lemmas.Bool.{le-leb, lt-leb, true≢false}
use Rattle.std.proofs.lemmas.Bool.Decides.{leb_tells}
use Rattle.smb_tree.specs.Content.{Row, Content, numbered}
use Rattle.smb_access.specs.Opens.{open_of}
use Rattle.smb_access.specs.Parts.{has_number, ArePresent, no_scan}
use Rattle.smb_access.specs.declared.open_row.OpenRow.{OpenRow}
use Rattle.smb_access.specs.declared.scan.Scan.{Scan}
use Rattle.smb_access.specs.declared.scan.ScanLast.{ScanLast}
use Rattle.smb_opens.specs.State.{StoreState}
use Rattle.smb_info.specs.Candidates.{Candidate}
use Rattle.smb_info.specs.DirectoryInformation.{directory_class, directory_length, laid}
use Rattle.smb_info.specs.Cursors.{matched}
use Rattle.smb_info.specs.Listing.{matching}
use Rattle.smb_info.specs.Parts.{is_too_long, wants_one, unmatched_fault, entry_length, Sought, at_most_one, wanted, given, reached, sought_by, first_fault, class_fault, fault_by, listed_by, bytes_by}
use Rattle.smb_info.specs.Queries.{ListAsked, is_started_by, pattern_by, scan_by, list_fault, bytes_listed, scan_after}
use Rattle.smb_info.specs.OpenQueries.{open_list_fault, open_bytes_listed, open_scan_after, IsListRefusal}
use Rattle.smb_info.specs.declared.fault.InfoFault.{InfoFault}
use Rattle.smb_info.specs.declared.fault.InfoFault.TheVariants.{BadClass, BadPattern, TooSmall, NoMatch, NoMore, NoMemory}
use Rattle.smb_info.specs.declared.directory_class.DirectoryInformationClass.{DirectoryInformationClass}
use Rattle.smb_info.proofs.Fronts.{length-laid_one}
use Rattle.smb_info.proofs.Listings.{is_wanted}

-- a fact that holds anyway
pub on_ok : {X E P : Type 0} (r : Result X E) → P → OnOk r P
on_ok (Ok x) p = p
on_ok (Err e) p = tt

pub on_err : {X E P : Type 0} (r : Result X E) → P → OnErr r P
on_err (Ok x) p = tt
on_err (Err e) p = p

-- an error that is passed on
pub same_err : {X E : Type 0} (r : Result X E) (fault : E) (P : E → Type 0) → IsErrAnd r (λ f. f ≡ fault) → P fault → IfErr r P
same_err (Ok x) fault P h p = tt
same_err (Err f) fault P h p = subst P (sym h) p

is_less : (a b : ℕ) → a < b → nat_lt a b ≡ true
is_less a b h = le-leb (suc a) b (omega arith)

not_less : (a b : ℕ) → b ≤ a → nat_lt a b ≡ false
not_less a b h = lt-leb (suc a) b (omega arith)

over : (n m : ℕ) → false ≡ nat_le n m → m < n
over n m e = elim (leb_tells n m) [ inl k ↦ absurd (true≢false (sym k.0 ∙ sym e)) | inr k ↦ k.1 ]

within : (n m : ℕ) → true ≡ nat_le n m → n ≤ m
within n m e = elim (leb_tells n m) [ inl k ↦ k.1 | inr k ↦ absurd (true≢false (e ∙ k.0)) ]

-- ---- the first entry

pub long_alone : (class : DirectoryInformationClass) (room : ℕ) (c : Candidate) → room < entry_length class c.name → is_too_long class room c ≡ true
long_alone class room c h = ap (nat_lt room) (length-laid_one class c) ∙ is_less room (entry_length class c.name) h

pub fits_alone : (class : DirectoryInformationClass) (room : ℕ) (c : Candidate) → entry_length class c.name ≤ room → is_too_long class room c ≡ false
fits_alone class room c h = ap (nat_lt room) (length-laid_one class c) ∙ not_less room (entry_length class c.name) h

-- the refusal of the first entry
abbrev pub refusal_of : Bool → Option InfoFault
refusal_of b = if b then Some TooSmall else None

pub too_small_alone : (class : DirectoryInformationClass) (room : ℕ) (c : Candidate) → room < entry_length class c.name → refusal_of (is_too_long class room c) ≡ Some TooSmall
too_small_alone class room c h = ap refusal_of (long_alone class room c h)

pub no_memory_alone : (class : DirectoryInformationClass) (room : ℕ) (c : Candidate) (fault : InfoFault) → entry_length class c.name ≤ room → fault ≡ NoMemory → IsListRefusal (refusal_of (is_too_long class room c)) fault
no_memory_alone class room c fault h e =
    let none : refusal_of (is_too_long class room c) ≡ None = ap refusal_of (fits_alone class room c h) in
    subst (λ (f : InfoFault). IsListRefusal (refusal_of (is_too_long class room c)) f) (sym e) none

-- ---- a query

-- what the code seeks
pub same_sought : (folder room : ℕ) (scan : Scan) (ask : ListAsked) (pattern : List ℕ) (next : Scan) (single : Bool) → pattern ≡ pattern_by scan ask → next ≡ scan_by scan ask → single ≡ wants_one ask → room ≡ ask.room →
    ◌≡◌ {A = Sought} (record { folder = folder; pattern = pattern; last = next.last; single = single; room = room }) (sought_by folder scan ask)
same_sought folder room scan ask pattern next single p n s r =
    ap (λ (ns : List ℕ). record { folder = folder; pattern = ns; last = next.last; single = single; room = room }) p
    ∙ ap (λ (n : Scan). record { folder = folder; pattern = pattern_by scan ask; last = n.last; single = single; room = room }) n
    ∙ ap (λ (b : Bool). record { folder = folder; pattern = pattern_by scan ask; last = (scan_by scan ask).last; single = b; room = room }) s
    ∙ ap (λ (k : ℕ). record { folder = folder; pattern = pattern_by scan ask; last = (scan_by scan ask).last; single = wants_one ask; room = k }) r

none_wanted : (b : Bool) → at_most_one b [] ≡ []
none_wanted true = refl
none_wanted false = refl

pub is_unmatched : (rows : List Row) (sought : Sought) → matching rows sought.folder sought.pattern sought.last ≡ [] → wanted rows sought ≡ []
is_unmatched rows sought e = ap (at_most_one sought.single) e ∙ none_wanted sought.single

refusal_where : (b : Bool) (next : Scan) → IsListRefusal (Some (if b then NoMatch next else NoMore)) (if b then NoMatch next else NoMore)
refusal_where true next = refl
refusal_where false next = refl

module _ (rows : List Row) (folder : ℕ) (scan : Scan) (ask : ListAsked) where
  pub bad_class : None ≡ directory_class ask.class → list_fault rows folder scan ask ≡ Some BadClass
  bad_class e = ap (fault_by rows folder scan ask) (sym e)

  of_class : (class : DirectoryInformationClass) → Some class ≡ directory_class ask.class → list_fault rows folder scan ask ≡ class_fault rows folder scan ask class
  of_class class e = ap (fault_by rows folder scan ask) (sym e)

  -- with a class, by whether the pattern is too long, and whether there is no room for the fixed part
  abbrev by_tests : DirectoryInformationClass → Bool → Bool → Option InfoFault
  by_tests class long small =
      if long then Some BadPattern else
      if small then Some TooSmall else
      first_fault rows folder scan ask class (wanted rows (sought_by folder scan ask))

  pub bad_pattern : (class : DirectoryInformationClass) → Some class ≡ directory_class ask.class → false ≡ nat_le (length ask.pattern) 255 → list_fault rows folder scan ask ≡ Some BadPattern
  bad_pattern class e p =
      of_class class e ∙ ap (λ (b : Bool). by_tests class b (nat_lt ask.room (directory_length class))) (is_less 255 (length ask.pattern) (over (length ask.pattern) 255 p))

  pub too_small : (class : DirectoryInformationClass) → Some class ≡ directory_class ask.class → true ≡ nat_le (length ask.pattern) 255 → ask.room < directory_length class → list_fault rows folder scan ask ≡ Some TooSmall
  too_small class e p h =
      of_class class e
      ∙ ap (λ (b : Bool). by_tests class b (nat_lt ask.room (directory_length class))) (not_less 255 (length ask.pattern) (within (length ask.pattern) 255 p))
      ∙ ap (by_tests class false) (is_less ask.room (directory_length class) h)

  at_first : (class : DirectoryInformationClass) → Some class ≡ directory_class ask.class → true ≡ nat_le (length ask.pattern) 255 → directory_length class ≤ ask.room → list_fault rows folder scan ask ≡ first_fault rows folder scan ask class (wanted rows (sought_by folder scan ask))
  at_first class e p h =
      of_class class e
      ∙ ap (λ (b : Bool). by_tests class b (nat_lt ask.room (directory_length class))) (not_less 255 (length ask.pattern) (within (length ask.pattern) 255 p))
      ∙ ap (by_tests class false) (not_less ask.room (directory_length class) h)

  -- where no name is matched
  pub unmatched_refusal : (class : DirectoryInformationClass) (sought : Sought) (fault : InfoFault) → Some class ≡ directory_class ask.class → true ≡ nat_le (length ask.pattern) 255 → directory_length class ≤ ask.room →
      sought ≡ sought_by folder scan ask → matching rows sought.folder sought.pattern sought.last ≡ [] → fault ≡ unmatched_fault scan ask → IsListRefusal (list_fault rows folder scan ask) fault
  unmatched_refusal class sought fault e p h s m f =
      let none : wanted rows (sought_by folder scan ask) ≡ [] = ap (wanted rows) (sym s) ∙ is_unmatched rows sought m in
      let is : list_fault rows folder scan ask ≡ Some (unmatched_fault scan ask) = at_first class e p h ∙ ap (first_fault rows folder scan ask class) none in
      let told : IsListRefusal (Some (unmatched_fault scan ask)) (unmatched_fault scan ask) = refusal_where (is_started_by scan ask) (scan_by scan ask) in
      subst (λ (f : InfoFault). IsListRefusal (list_fault rows folder scan ask) f) (sym f)
      (subst (λ (o : Option InfoFault). IsListRefusal o (unmatched_fault scan ask)) (sym is) told)

  -- where one is
  by_first : (class : DirectoryInformationClass) (sought : Sought) (c : Candidate) (cs : List Candidate) → Some class ≡ directory_class ask.class → true ≡ nat_le (length ask.pattern) 255 → directory_length class ≤ ask.room →
      sought ≡ sought_by folder scan ask → matching rows sought.folder sought.pattern sought.last ≡ c ∷ matched sought.pattern cs → list_fault rows folder scan ask ≡ refusal_of (is_too_long class ask.room c)
  by_first class sought c cs e p h s m =
      at_first class e p h ∙ ap (first_fault rows folder scan ask class) (ap (wanted rows) (sym s) ∙ is_wanted rows sought c cs m)

  pub refused_first : (class : DirectoryInformationClass) (sought : Sought) (c : Candidate) (cs : List Candidate) (fault : InfoFault) → Some class ≡ directory_class ask.class → true ≡ nat_le (length ask.pattern) 255 → directory_length class ≤ ask.room →
      sought ≡ sought_by folder scan ask → matching rows sought.folder sought.pattern sought.last ≡ c ∷ matched sought.pattern cs → IsListRefusal (refusal_of (is_too_long class ask.room c)) fault → IsListRefusal (list_fault rows folder scan ask) fault
  refused_first class sought c cs fault e p h s m r =
      subst (λ (o : Option InfoFault). IsListRefusal o fault) (sym (by_first class sought c cs e p h s m)) r

  pub not_refused : (class : DirectoryInformationClass) (sought : Sought) (c : Candidate) (cs : List Candidate) → Some class ≡ directory_class ask.class → true ≡ nat_le (length ask.pattern) 255 → directory_length class ≤ ask.room →
      sought ≡ sought_by folder scan ask → matching rows sought.folder sought.pattern sought.last ≡ c ∷ matched sought.pattern cs → is_too_long class ask.room c ≡ false → list_fault rows folder scan ask ≡ None
  not_refused class sought c cs e p h s m r = by_first class sought c cs e p h s m ∙ ap refusal_of r

  -- what is listed
  pub bytes_are : (class : DirectoryInformationClass) (sought : Sought) (old out : List ℕ) → Some class ≡ directory_class ask.class → sought ≡ sought_by folder scan ask → out ≡ old ++ laid class (given rows class sought) → out ≡ old ++ bytes_listed rows folder scan ask
  bytes_are class sought old out e s o =
      o
      ∙ ap (λ (s : Sought). old ++ laid class (given rows class s)) s
      ∙ ap (λ (found : Option DirectoryInformationClass). old ++ bytes_by rows folder scan ask found) e

  pub scan_is : (class : DirectoryInformationClass) (sought : Sought) (next : Scan) (last : ScanLast) → Some class ≡ directory_class ask.class → sought ≡ sought_by folder scan ask → next ≡ scan_by scan ask → last ≡ reached next.last (given rows class sought) →
      ◌≡◌ {A = Scan} (record { pattern = next.pattern; last = last }) (scan_after rows folder scan ask)
  scan_is class sought next last e s n l =
      ap (λ (l : ScanLast). record { pattern = next.pattern; last = l }) l
      ∙ ap (λ (n : Scan). record { pattern = n.pattern; last = reached n.last (given rows class sought) }) n
      ∙ ap (λ (s : Sought). record { pattern = (scan_by scan ask).pattern; last = reached (scan_by scan ask).last (given rows class s) }) s
      ∙ ap (λ (found : Option DirectoryInformationClass). record { pattern = (scan_by scan ask).pattern; last = reached (scan_by scan ask).last (listed_by rows folder scan ask found) }) e

-- the entry of an open stands
present : (rows : List Row) (opens : List OpenRow) (number : ℕ) (row : OpenRow) → ArePresent rows opens → open_of opens number ≡ Some row → is_some (numbered rows row.entry) ≡ true
present rows [] number row p o = cc
present rows (x ∷ opens) number row p o =
    elim (has_number number x) as (λ b. cond b (Some x) (open_of opens number) ≡ Some row → is_some (numbered rows row.entry) ≡ true) [
      | true ↦ λ q. (let same : x ≡ row = cc in ap (λ (r : OpenRow). is_some (numbered rows r.entry)) (sym same) ∙ p.0)
      | false ↦ λ q. present rows opens number row p.1 q
    ] o

pub entry_stands : (content tree : Content) (rows opens : List OpenRow) (number : ℕ) (row : OpenRow) → content ≡ tree → rows ≡ opens → ArePresent tree.rows opens → Some row ≡ open_of rows number → is_some (numbered content.rows row.entry) ≡ true
entry_stands content tree rows opens number row is are p o =
    ap (λ (t : Content). is_some (numbered t.rows row.entry)) is ∙ present tree.rows opens number row p (ap (λ (r : List OpenRow). open_of r number) (sym are) ∙ sym o)

pub not_none : (opens : List OpenRow) (number : ℕ) (rows : List OpenRow) → rows ≡ opens → None ≡ open_of rows number → is_some (open_of opens number) ≡ true → ⊥
not_none opens number rows e n h =
    let none : None ≡ open_of opens number = n ∙ ap (λ (r : List OpenRow). open_of r number) e in
    true≢false (sym h ∙ ap is_some (sym none))

-- ---- what is answered by the folder of an open is what is answered through its number

module _ (store : StoreState) (number : ℕ) (ask : ListAsked) (content : Content) (row : OpenRow) where
  by_open_fault : content ≡ store.tree → Some row ≡ open_of store.opens number → list_fault content.rows row.entry row.scan ask ≡ open_list_fault store number ask
  by_open_fault is o =
      ap (λ (t : Content). list_fault t.rows row.entry row.scan ask) is
      ∙ ap (λ (found : Option OpenRow). option_map_or (λ (row : OpenRow). list_fault store.tree.rows row.entry row.scan ask) found None) o

  by_open_bytes : content ≡ store.tree → Some row ≡ open_of store.opens number → bytes_listed content.rows row.entry row.scan ask ≡ open_bytes_listed store number ask
  by_open_bytes is o =
      ap (λ (t : Content). bytes_listed t.rows row.entry row.scan ask) is
      ∙ ap (λ (found : Option OpenRow). option_map_or (λ (row : OpenRow). bytes_listed store.tree.rows row.entry row.scan ask) found []) o

  by_open_after : content ≡ store.tree → Some row ≡ open_of store.opens number → scan_after content.rows row.entry row.scan ask ≡ open_scan_after store number ask
  by_open_after is o =
      ap (λ (t : Content). scan_after t.rows row.entry row.scan ask) is
      ∙ ap (λ (found : Option OpenRow). option_map_or (λ (row : OpenRow). scan_after store.tree.rows row.entry row.scan ask) found no_scan) o

  pub by_open_ok : content ≡ store.tree → Some row ≡ open_of store.opens number → (r : Result Scan InfoFault) (old out : List ℕ) → OnOk r (out ≡ old ++ bytes_listed content.rows row.entry row.scan ask) → OnOk r (out ≡ old ++ open_bytes_listed store number ask)
  by_open_ok is o r old out h = subst (λ (bytes : List ℕ). OnOk r (out ≡ old ++ bytes)) (by_open_bytes is o) h

  pub by_open_scan : content ≡ store.tree → Some row ≡ open_of store.opens number → (r : Result Scan InfoFault) → IfOk r (λ scan. scan ≡ scan_after content.rows row.entry row.scan ask) → IfOk r (λ scan. scan ≡ open_scan_after store number ask)
  by_open_scan is o r h = subst (λ (after : Scan). IfOk r (λ scan. scan ≡ after)) (by_open_after is o) h

  pub by_open_lawful : content ≡ store.tree → Some row ≡ open_of store.opens number → (r : Result Scan InfoFault) → OnOk r (list_fault content.rows row.entry row.scan ask ≡ None) → OnOk r (open_list_fault store number ask ≡ None)
  by_open_lawful is o r h = subst (λ (fault : Option InfoFault). OnOk r (fault ≡ None)) (by_open_fault is o) h

  pub by_open_why : content ≡ store.tree → Some row ≡ open_of store.opens number → (r : Result Scan InfoFault) → IfErr r (IsListRefusal (list_fault content.rows row.entry row.scan ask)) → IfErr r (IsListRefusal (open_list_fault store number ask))
  by_open_why is o r h = subst (λ (fault : Option InfoFault). IfErr r (IsListRefusal fault)) (by_open_fault is o) h
