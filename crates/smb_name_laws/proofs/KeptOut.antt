-- Whom an open keeps out, and who is let in once it is closed.
use Rattle.std.proofs.Common.{◌≡◌, ◌≢◌, ◌==◌, ◌⊎◌, inl, inr, ℕ, List, [], ◌∷◌, ◌++◌, length, take, Bool, true, false, not, ◌&&◌, ◌||◌, bit_and, bit_or, nat_le, if◌then◌else◌, Option, None, Some, is_some, refl, sym, ap, arith, ◌∙◌}
use Rattle.std.proofs.lemmas.Bool.{eqb-true}
use Rattle.std.proofs.lemmas.Bool.Decides.{nat_tests}
use Rattle.std.proofs.lemmas.Nat.{and_assoc, and_or_self}
use Rattle.std.specs.List.{AllByRecursion, list_any}
use Rattle.std.specs.Option.{is_none, option_map_or}
use Rattle.smb_wire.specs.Access.{has_any, FILE_WRITE_DATA, FILE_SHARE_READ, FILE_SHARE_WRITE, FILE_SHARE_DELETE}
use Rattle.smb_wire.specs.Counters.{is_spent}
use Rattle.smb_wire.specs.Dispositions.{overwrites_by}
use Rattle.smb_wire.specs.declared.access.Access.{Access}
use Rattle.smb_wire.specs.declared.access.ShareAccess.{ShareAccess}
use Rattle.smb_wire.specs.declared.nt_status.NtStatus.{NtStatus}
use Rattle.smb_wire.specs.declared.nt_status.NtStatus.TheVariants.{Success, SharingViolation, TooManyOpenedFiles, DiskFull}
use Rattle.smb_tree.specs.Content.{Content, entry_at, numbered}
use Rattle.smb_tree.specs.Entries.{Entry}
use Rattle.smb_tree.proofs.Apart.{numbered-from_at}
use Rattle.smb_access.specs.declared.open_row.OpenRow.{OpenRow}
use Rattle.smb_access.specs.Access.{is_reading, is_writing, is_deleting, granted}
use Rattle.smb_access.specs.Asked.{FileAsked}
use Rattle.smb_access.specs.Found.{path_asked, is_read_only_file, is_pending}
use Rattle.smb_access.specs.Parts.{is_marked, is_on_entry, Use, use_of, has_conflict, share_asked}
use Rattle.smb_access.specs.Opens.{open_of, without_open}
use Rattle.smb_access.specs.Sharing.{is_shared_access, is_kept_out, is_conflict, use_asked}
use Rattle.smb_refusals.specs.Rows.{StatusRow, first_status}
use Rattle.smb_access.proofs.Mores.{more_conflicts, or_has}
use Rattle.smb_access.proofs.Rows.{rising_without, length-without}
use Rattle.smb_entry.proofs.Looks.{hit}
use Rattle.smb_opens.specs.Close.{closed}
use Rattle.smb_opens.specs.Create.{access_granted, create_rows, create_status}
use Rattle.smb_opens.specs.Found.{entry_asked}
use Rattle.smb_opens.specs.Parts.{has_all_opens, has_all_entries, conflicts}
use Rattle.smb_opens.specs.Good.{GoodStore}
use Rattle.smb_opens.specs.State.{StoreState}
use Rattle.smb_opens.proofs.Closing.{closed_is, opens_closed}
use Rattle.smb_opens.proofs.Passing.{pass_all}
use Rattle.smb_name_laws.specs.Deletes.{is_to_be_deleted}
use Rattle.smb_name_laws.specs.Sharing.{is_to_use, EachRightHasItsShareBit, NothingIsGrantedWhereNothingIsShared, WhoSharesIsNotRefused, ACreateSucceedsAfterTheClose}
use Rattle.smb_name_laws.proofs.Gone.{any_found, left_open, tree_kept}

-- of a CREATE that succeeds no row holds
pub no_row : (state : StoreState) (ask : FileAsked) → create_status state ask ≡ Success → AllByRecursion (λ row. row.0 ≡ false) (create_rows state ask (entry_asked state ask))
no_row state ask e =
    pass_all (create_rows state ask (entry_asked state ask))
    (λ q. cc, (λ q. cc, (λ q. cc, (λ q. cc, (λ q. cc, (λ q. cc, (λ q. cc, (λ q. cc, (λ q. cc, (λ q. cc, (λ q. cc, (λ q. cc, (λ q. cc, (λ q. cc, (λ q. cc, (λ q. cc, (λ q. cc, (λ q. cc, (λ q. cc, tt)))))))))))))))))))
    e

-- the open of a number is of the entry that a CREATE names, and reads, writes or deletes it
record IsInUse (state : StoreState) (ask : FileAsked) (number : ℕ) (row : OpenRow) : Type 0 where
  entry : Entry
  asked : entry_asked state ask ≡ Some entry
  opened : open_of state.opens number ≡ Some row
  own : row.entry ≡ entry.number
  uses : is_shared_access row.access ≡ true

-- the condition of the row of conflicts, by the entry that is named
conflict_row : (state : StoreState) (ask : FileAsked) (entry : Option Entry) → option_map_or (λ found. list_any (λ row. row.entry == found.number && is_conflict (use_asked ask (granted ask.access ask.read_only (is_read_only_file entry))) (row.access, row.share)) state.opens) entry false ≡ conflicts state ask entry
conflict_row state ask None = refl
conflict_row state ask (Some entry) = refl

-- what conflicts with an open does not succeed
refused : (state : StoreState) (ask : FileAsked) (number : ℕ) (row : OpenRow) → IsInUse state ask number row → is_conflict (use_asked ask (access_granted state ask)) (use_of row) ≡ true → create_status state ask ≢ Success
refused state ask number row held c e =
    let p = no_row state ask e in
    let off : conflicts state ask (entry_asked state ask) ≡ false = sym (conflict_row state ask (entry_asked state ask)) ∙ p.1.1.1.1.1.1.1.1.1.1.1.1.1.1.1.1.0 in
    let wanted : Use = use_asked ask (granted ask.access ask.read_only (is_read_only_file (Some held.entry))) in
    let same : is_conflict wanted (use_of row) ≡ true = sym (ap (λ (o : Option Entry). is_conflict (use_asked ask (granted ask.access ask.read_only (is_read_only_file o))) (use_of row)) held.asked) ∙ c in
    let own = held.own in
    let on : row.entry == held.entry.number ≡ true = grind (arith, nat_tests, own) in
    let some : has_conflict state.opens held.entry.number wanted ≡ true = hit (λ (r : OpenRow). is_on_entry held.entry.number r && is_conflict wanted (use_of r)) state.opens number row held.opened (rw (on, same) refl) in
    let yes : conflicts state ask (entry_asked state ask) ≡ true = ap (conflicts state ask) held.asked ∙ some in
    cc

kept_by : (r w d nr nw nd s k : Bool) → s ≡ true → (r && nr || w && nw || d && nd) ≡ true → ((r || w || d) && s && ((r && nr || w && nw || d && nd) || k)) ≡ true
kept_by r w d nr nw nd s k t h = grind (arith, t, h)

asked_more : (ask : FileAsked) (access : Access) (other : Use) → is_conflict (access, share_asked ask) other ≡ true → is_conflict (use_asked ask access) other ≡ true
asked_more ask access other h =
    elim (overwrites_by ask.disposition) as (λ b. is_conflict (let x : Access = if b then record { 0 = bit_or access.0 FILE_WRITE_DATA } else access in x, share_asked ask) other ≡ true) [
      | true ↦ more_conflicts access (record { 0 = bit_or access.0 FILE_WRITE_DATA }) (share_asked ask) other (or_has access.0 FILE_WRITE_DATA) h
      | false ↦ h
    ]

not_granted : (state : StoreState) (ask : FileAsked) (number : ℕ) (row : OpenRow) → IsInUse state ask number row → is_kept_out (access_granted state ask) row.share ≡ true → create_status state ask ≢ Success
not_granted state ask number row held h =
    let access : Access = access_granted state ask in
    refused state ask number row held (asked_more ask access (use_of row)
    (kept_by (is_reading access) (is_writing access) (is_deleting access) (not (has_any row.share.0 FILE_SHARE_READ)) (not (has_any row.share.0 FILE_SHARE_WRITE)) (not (has_any row.share.0 FILE_SHARE_DELETE)) (is_shared_access row.access) (is_kept_out row.access (share_asked ask)) held.uses h))

-- who shares nothing keeps out all who read, write or delete
all_by : (r w d : Bool) → (r && true || w && true || d && true) ≡ (r || w || d)
all_by r w d = grind arith

nothing_shared : (access : Access) (share : ShareAccess) → share.0 ≡ 0 → is_kept_out access share ≡ is_shared_access access
nothing_shared access share e =
    ap (λ (n : ℕ). is_reading access && not (has_any n FILE_SHARE_READ) || is_writing access && not (has_any n FILE_SHARE_WRITE) || is_deleting access && not (has_any n FILE_SHARE_DELETE)) e
    ∙ all_by (is_reading access) (is_writing access) (is_deleting access)

writes_so : (access : Access) → is_shared_access (record { 0 = bit_or access.0 FILE_WRITE_DATA }) ≡ true
writes_so access =
    let bits : bit_and (bit_or access.0 FILE_WRITE_DATA) FILE_WRITE_DATA ≡ FILE_WRITE_DATA = and_or_self FILE_WRITE_DATA access.0 in
    let some : has_any (bit_or access.0 FILE_WRITE_DATA) FILE_WRITE_DATA ≡ true = ap (λ (n : ℕ). not (n == 0)) bits in
    grind (arith, some)

used_so : (ask : FileAsked) (access : Access) → (is_shared_access access || overwrites_by ask.disposition) ≡ true → is_shared_access (use_asked ask access).0 ≡ true
used_so ask access h =
    elim (overwrites_by ask.disposition) as (λ b. (is_shared_access access || b) ≡ true → is_shared_access (let x : Access = if b then record { 0 = bit_or access.0 FILE_WRITE_DATA } else access in x) ≡ true) [
      | true ↦ λ _. writes_so access
      | false ↦ λ f. or_false (is_shared_access access) f
    ] h
  where
    or_false : (b : Bool) → (b || false) ≡ true → b ≡ true
    or_false true f = refl
    or_false false f = f

first_kept : (a b k l : Bool) → a ≡ true → b ≡ true → k ≡ true → (a && b && (k || l)) ≡ true
first_kept a b k l e f g = rw (e, f, g) refl

second_kept : (a b k l : Bool) → a ≡ true → b ≡ true → l ≡ true → (a && b && (k || l)) ≡ true
second_kept a b true l e f g = rw (e, f) refl
second_kept a b false l e f g = rw (e, f, g) refl

alone : (state : StoreState) (ask : FileAsked) (number : ℕ) (row : OpenRow) → IsInUse state ask number row → row.share.0 ≡ 0 → is_to_use state ask ≡ true → create_status state ask ≢ Success
alone state ask number row held none h =
    let wanted : Use = use_asked ask (access_granted state ask) in
    let used = used_so ask (access_granted state ask) h in
    refused state ask number row held
    (first_kept (is_shared_access wanted.0) (is_shared_access row.access) (is_kept_out wanted.0 row.share) (is_kept_out row.access wanted.1) used held.uses (nothing_shared wanted.0 row.share none ∙ used))

kept_out : (state : StoreState) (ask : FileAsked) (number : ℕ) (row : OpenRow) → IsInUse state ask number row → (share_asked ask).0 ≡ 0 → is_to_use state ask ≡ true → create_status state ask ≢ Success
kept_out state ask number row held none h =
    let wanted : Use = use_asked ask (access_granted state ask) in
    let used = used_so ask (access_granted state ask) h in
    refused state ask number row held
    (second_kept (is_shared_access wanted.0) (is_shared_access row.access) (is_kept_out wanted.0 row.share) (is_kept_out row.access wanted.1) used held.uses (nothing_shared row.access (share_asked ask) none ∙ held.uses))

pub refuses : NothingIsGrantedWhereNothingIsShared
refuses state ask entry number row asked opened own uses =
    let held : IsInUse state ask number row = record {
      entry = entry;
      asked = asked;
      opened = opened;
      own = own;
      uses = uses;
    } in
    λ either h. elim either [ inl none ↦ alone state ask number row held none h | inr none ↦ kept_out state ask number row held none h ]

-- rights to read, to write and to delete
abbrev reads : ℕ → Bool
reads rights = has_any rights 0x1 || has_any rights 0x20

abbrev writes : ℕ → Bool
writes rights = has_any rights 0x2 || has_any rights 0x4

abbrev deletes : ℕ → Bool
deletes rights = has_any rights 0x10000

-- each of the three by its bit
reads_out : (r w d nr nw nd : Bool) → r ≡ true → nr ≡ false → (r && not nr || w && not nw || d && not nd) ≡ true
reads_out r w d nr nw nd e f = rw (e, f) refl

writes_out : (r w d nr nw nd : Bool) → w ≡ true → nw ≡ false → (r && not nr || w && not nw || d && not nd) ≡ true
writes_out r w d nr nw nd e f = grind (arith, e, f)

deletes_out : (r w d nr nw nd : Bool) → d ≡ true → nd ≡ false → (r && not nr || w && not nw || d && not nd) ≡ true
deletes_out r w d nr nw nd e f = grind (arith, e, f)

-- a bit of the three that is not asked for is not kept either
asked_bit : (share bit : ℕ) → bit_and 7 bit ≡ bit → has_any share bit ≡ false → has_any (bit_and share 7) bit ≡ false
asked_bit share bit own h = ap (λ (n : ℕ). not (n == 0)) (and_assoc bit share 7 ∙ ap (bit_and share) own) ∙ h

idle_kept : (state : StoreState) (ask : FileAsked) (number : ℕ) (row : OpenRow) → IsInUse state ask number row → is_shared_access (access_granted state ask) ≡ true →
    is_kept_out row.access (share_asked ask) ≡ true → create_status state ask ≢ Success
idle_kept state ask number row held used h =
    let access : Access = access_granted state ask in
    refused state ask number row held (asked_more ask access (use_of row)
    (second_kept (is_shared_access access) (is_shared_access row.access) (is_kept_out access row.share) (is_kept_out row.access (share_asked ask)) used held.uses h))

pub by_bits : EachRightHasItsShareBit
by_bits state ask entry number row asked opened own used uses =
    let held : IsInUse state ask number row = record {
      entry = entry;
      asked = asked;
      opened = opened;
      own = own;
      uses = uses;
    } in
    let wanted = (access_granted state ask).0 in
    let has = row.access.0 in
    let share = row.share.0 in
    let kept = (share_asked ask).0 in (
      λ e f. not_granted state ask number row held (reads_out (reads wanted) (writes wanted) (deletes wanted) (has_any share 1) (has_any share 2) (has_any share 4) e f),
      λ e f. not_granted state ask number row held (writes_out (reads wanted) (writes wanted) (deletes wanted) (has_any share 1) (has_any share 2) (has_any share 4) e f),
      λ e f. not_granted state ask number row held (deletes_out (reads wanted) (writes wanted) (deletes wanted) (has_any share 1) (has_any share 2) (has_any share 4) e f),
      λ e f. idle_kept state ask number row held used (reads_out (reads has) (writes has) (deletes has) (has_any kept 1) (has_any kept 2) (has_any kept 4) e (asked_bit ask.share 1 refl f)),
      λ e f. idle_kept state ask number row held used (writes_out (reads has) (writes has) (deletes has) (has_any kept 1) (has_any kept 2) (has_any kept 4) e (asked_bit ask.share 2 refl f)),
      λ e f. idle_kept state ask number row held used (deletes_out (reads has) (writes has) (deletes has) (has_any kept 1) (has_any kept 2) (has_any kept 4) e (asked_bit ask.share 4 refl f)),
    )

-- of rows whose statuses are others, none holds before the one that decides
before_by : (code : NtStatus) (xs ys : List StatusRow) → AllByRecursion (λ row. row.1 ≢ code) xs → first_status (xs ++ ys) ≡ code → AllByRecursion (λ row. row.0 ≡ false) xs
before_by code [] ys h e = tt
before_by code (x ∷ xs) ys h e =
    elim (x.0) as (λ b. x.0 ≡ b → (if b then x.1 else first_status (xs ++ ys)) ≡ code → AllByRecursion (λ (row : StatusRow). row.0 ≡ false) (x ∷ xs)) [
      | true ↦ λ _ f. absurd (h.0 f)
      | false ↦ λ t f. (t, before_by code xs ys h.1 f)
    ] refl e

none_before : (xs ys : List StatusRow) → AllByRecursion (λ row. row.0 ≡ false) xs → first_status (xs ++ ys) ≡ first_status ys
none_before [] ys h = refl
none_before (x ∷ xs) ys h = rw (h.0) (none_before xs ys h.1)

-- rows 1 to 14 of a CREATE, and those behind
abbrev front_rows : StoreState → FileAsked → Option Entry → List StatusRow
front_rows state ask entry = take 16 (create_rows state ask entry)

abbrev last_rows : StoreState → FileAsked → Option Entry → List StatusRow
last_rows state ask entry =
    (conflicts state ask entry, SharingViolation) ∷ (has_all_opens state, TooManyOpenedFiles) ∷ (is_none entry && has_all_entries state, DiskFull) ∷ []

front_false : (state : StoreState) (ask : FileAsked) (entry : Entry) → create_status state ask ≡ SharingViolation → entry_asked state ask ≡ Some entry → AllByRecursion (λ row. row.0 ≡ false) (front_rows state ask (Some entry))
front_false state ask entry e h =
    before_by SharingViolation (front_rows state ask (Some entry)) (last_rows state ask (Some entry))
    (λ q. cc, (λ q. cc, (λ q. cc, (λ q. cc, (λ q. cc, (λ q. cc, (λ q. cc, (λ q. cc, (λ q. cc, (λ q. cc, (λ q. cc, (λ q. cc, (λ q. cc, (λ q. cc, (λ q. cc, (λ q. cc, tt))))))))))))))))
    (sym (ap (λ (o : Option Entry). first_status (create_rows state ask o)) h) ∙ e)

first_off : (a b : Bool) → (a || b) ≡ false → a ≡ false
first_off true b h = absurd (let e : true ≡ false = h in cc)
first_off false b h = refl

-- no open of an entry conflicts with a CREATE but that of a number
abbrev NoOtherConflicts : StoreState → FileAsked → Entry → ℕ → Type 0
NoOtherConflicts state ask entry number =
    (other : ℕ) (row : OpenRow) → open_of state.opens other ≡ Some row → row.entry ≡ entry.number → other ≢ number → is_conflict (use_asked ask (access_granted state ask)) (row.access, row.share) ≡ false

none_conflicts : (state : StoreState) (ask : FileAsked) (entry : Entry) (number : ℕ) (wanted : Use) → GoodStore state → wanted ≡ use_asked ask (access_granted state ask) → NoOtherConflicts state ask entry number → has_conflict (without_open number state.opens) entry.number wanted ≡ false
none_conflicts state ask entry number wanted good w others =
    elim (has_conflict (without_open number state.opens) entry.number wanted) as (λ b. has_conflict (without_open number state.opens) entry.number wanted ≡ b → b ≡ false) [
      | true ↦ λ h. absurd (
          let f = any_found (λ (r : OpenRow). is_on_entry entry.number r && is_conflict wanted (use_of r)) (without_open number state.opens) (rising_without number state.opens good.rising) h in
          let l = left_open state.opens number f.number f.row f.found in
          let off = l.0 in
          let both = parts (f.row.entry == entry.number) (is_conflict wanted (use_of f.row)) f.holds in
          let no = others f.number f.row l.1 (eqb-true f.row.entry entry.number both.0) (λ q. let yes : f.number == number ≡ true = grind (arith, nat_tests, q) in cc) in
          let yes : is_conflict (use_asked ask (access_granted state ask)) (use_of f.row) ≡ true = ap (λ (u : Use). is_conflict u (use_of f.row)) (sym w) ∙ both.1 in
          cc
          )
      | false ↦ λ _. refl
    ] refl
  where
    parts : (a b : Bool) → (a && b) ≡ true → (a ≡ true) × (b ≡ true)
    parts a b h = (grind (arith, h), grind (arith, h))

pub after_close : ACreateSucceedsAfterTheClose
after_close state ask entry number row good e h s own d others left =
    let front = front_false state ask entry e h in
    let pending : is_pending state.tree.rows (path_asked ask) ≡ false = front.1.1.1.1.1.1.1.1.0 in
    let unmarked : entry.mark ≡ false = sym (ap is_marked h) ∙ first_off (is_marked (entry_asked state ask)) _ pending in
    let there = numbered-from_at state.tree.rows (path_asked ask) entry good.tree.apart h in
    let stays : is_to_be_deleted state.tree.rows row (path_asked ask, entry) ≡ false = rw (unmarked, d) refl in
    let held : numbered state.tree.rows row.entry ≡ Some (path_asked ask, entry) = ap (numbered state.tree.rows) own ∙ there in
    let tree = tree_kept state number row (path_asked ask) entry good s held stays in
    let after : StoreState = closed state number in
    let found : entry_asked after ask ≡ Some entry = ap (λ (t : Content). entry_at t.rows (path_asked ask)) tree ∙ h in
    let rows : front_rows after ask (Some entry) ≡ front_rows state ask (Some entry) = ap (λ (t : Content). front_rows (record state { tree = t }) ask (Some entry)) tree in
    let wanted : Use = use_asked ask (granted ask.access ask.read_only (is_read_only_file (Some entry))) in
    let same : wanted ≡ use_asked ask (access_granted state ask) = ap (λ (o : Option Entry). use_asked ask (granted ask.access ask.read_only (is_read_only_file o))) (sym h) in
    let opens = opens_closed state number (ap is_some s) in
    let free : conflicts after ask (Some entry) ≡ false = ap (λ (os : List OpenRow). has_conflict os entry.number wanted) opens ∙ none_conflicts state ask entry number wanted good same others in
    let next : after.next ≡ state.next = ap (λ (x : StoreState). x.next) (sym (closed_is state number row s)) in
    let fewer = length-without number state.opens good.rising (ap is_some s) in
    let few = good.few in
    let short : nat_le state.tree.limits.opens (length (without_open number state.opens)) ≡ false = grind (arith, nat_tests, fewer, few) in
    let room : has_all_opens after ≡ false = (λ i. nat_le (tree i).limits.opens (length (opens i)) || is_spent 64 (next i)) ∙ rw (short, left) refl in
    ap (λ (o : Option Entry). first_status (create_rows after ask o)) found
    ∙ ap (λ (rs : List StatusRow). first_status (rs ++ last_rows after ask (Some entry))) rows
    ∙ none_before (front_rows state ask (Some entry)) (last_rows after ask (Some entry)) front
    ∙ rw (free, room) refl

-- a status that no row gives is not that of the rows
not_given : (code : NtStatus) (rows : List StatusRow) → Success ≢ code → AllByRecursion (λ row. (row.0 ≡ false) ⊎ (row.1 ≢ code)) rows → first_status rows ≢ code
not_given code [] s h e = s e
not_given code (x ∷ rows) s h e =
    elim (x.0) as (λ b. x.0 ≡ b → (if b then x.1 else first_status rows) ≡ code → ⊥) [
      | true ↦ λ t f. elim (h.0) [ inl off ↦ absurd (cc) | inr other ↦ other f ]
      | false ↦ λ _ f. not_given code rows s h.1 f
    ] refl e

not_for_sharing : (state : StoreState) (ask : FileAsked) → conflicts state ask (entry_asked state ask) ≡ false → create_status state ask ≢ SharingViolation
not_for_sharing state ask none =
    not_given SharingViolation (create_rows state ask (entry_asked state ask)) (λ q. cc)
    (inr (λ q. cc), (inr (λ q. cc), (inr (λ q. cc), (inr (λ q. cc), (inr (λ q. cc), (inr (λ q. cc), (inr (λ q. cc), (inr (λ q. cc), (inr (λ q. cc), (inr (λ q. cc), (inr (λ q. cc), (inr (λ q. cc), (inr (λ q. cc), (inr (λ q. cc), (inr (λ q. cc), (inr (λ q. cc), (inl (conflict_row state ask (entry_asked state ask) ∙ none), (inr (λ q. cc), (inr (λ q. cc), tt)))))))))))))))))))

no_conflict : (a b k l : Bool) → k ≡ false → l ≡ false → (a && b && (k || l)) ≡ false
no_conflict a b k l e f = grind (arith, e, f)

-- a CREATE and an open let each other be
abbrev LetEachOtherBe : StoreState → FileAsked → OpenRow → Type 0
LetEachOtherBe state ask row =
    (is_kept_out (use_asked ask (access_granted state ask)).0 row.share ≡ false) × (is_kept_out row.access (use_asked ask (access_granted state ask)).1 ≡ false)

each_lets : (state : StoreState) (ask : FileAsked) (entry : Entry) → GoodStore state → entry_asked state ask ≡ Some entry →
    ((number : ℕ) (row : OpenRow) → open_of state.opens number ≡ Some row → row.entry ≡ entry.number → LetEachOtherBe state ask row) → conflicts state ask (Some entry) ≡ false
each_lets state ask entry good h lets =
    elim (has_conflict state.opens entry.number wanted) as (λ b. has_conflict state.opens entry.number wanted ≡ b → b ≡ false) [
      | true ↦ λ c. absurd (
          let f = any_found (λ (r : OpenRow). is_on_entry entry.number r && is_conflict wanted (use_of r)) state.opens good.rising c in
          let both = parts (f.row.entry == entry.number) (is_conflict wanted (use_of f.row)) f.holds in
          let be = lets f.number f.row f.found (eqb-true f.row.entry entry.number both.0) in
          let first : is_kept_out wanted.0 f.row.share ≡ false = ap (λ (u : Use). is_kept_out u.0 f.row.share) same ∙ be.0 in
          let no : is_conflict wanted (use_of f.row) ≡ false = no_conflict (is_shared_access wanted.0) (is_shared_access f.row.access) (is_kept_out wanted.0 f.row.share) (is_kept_out f.row.access (share_asked ask)) first be.1 in
          let yes = both.1 in
          cc
          )
      | false ↦ λ _. refl
    ] refl
  where
    wanted : Use
    wanted = use_asked ask (granted ask.access ask.read_only (is_read_only_file (Some entry)))

    same : wanted ≡ use_asked ask (access_granted state ask)
    same = ap (λ (o : Option Entry). use_asked ask (granted ask.access ask.read_only (is_read_only_file o))) (sym h)

    parts : (a b : Bool) → (a && b) ≡ true → (a ≡ true) × (b ≡ true)
    parts a b e = (grind (arith, e), grind (arith, e))

shares : (state : StoreState) (ask : FileAsked) (entry : Entry) → GoodStore state → entry_asked state ask ≡ Some entry →
    ((number : ℕ) (row : OpenRow) → open_of state.opens number ≡ Some row → row.entry ≡ entry.number → LetEachOtherBe state ask row) → create_status state ask ≢ SharingViolation
shares state ask entry good h lets = not_for_sharing state ask (ap (conflicts state ask) h ∙ each_lets state ask entry good h lets)

idle_by : (ask : FileAsked) (access : Access) → (is_shared_access access || overwrites_by ask.disposition) ≡ false → is_shared_access (use_asked ask access).0 ≡ false
idle_by ask access h =
    elim (overwrites_by ask.disposition) as (λ b. (is_shared_access access || b) ≡ false → is_shared_access (let x : Access = if b then record { 0 = bit_or access.0 FILE_WRITE_DATA } else access in x) ≡ false) [
      | true ↦ λ f. absurd (or_true (is_shared_access access) f)
      | false ↦ λ f. first_off (is_shared_access access) false f
    ] h
  where
    or_true : (b : Bool) → (b || true) ≡ false → ⊥
    or_true b f = grind (arith, f)

idle : (wanted : Use) (opens : List OpenRow) (entry : ℕ) → is_shared_access wanted.0 ≡ false → has_conflict opens entry wanted ≡ false
idle wanted [] entry h = refl
idle wanted (x ∷ opens) entry h =
    let off : is_conflict wanted (use_of x) ≡ false = rw h refl in
    let none : (is_on_entry entry x && is_conflict wanted (use_of x)) ≡ false = grind (arith, off) in
    rw (none, idle wanted opens entry h) refl

idle_of : (state : StoreState) (ask : FileAsked) (o : Option Entry) → is_shared_access (use_asked ask (granted ask.access ask.read_only (is_read_only_file o))).0 ≡ false → conflicts state ask o ≡ false
idle_of state ask None h = refl
idle_of state ask (Some entry) h = idle (use_asked ask (granted ask.access ask.read_only (is_read_only_file (Some entry)))) state.opens entry.number h

uses_nothing : (state : StoreState) (ask : FileAsked) → is_to_use state ask ≡ false → create_status state ask ≢ SharingViolation
uses_nothing state ask h = not_for_sharing state ask (idle_of state ask (entry_asked state ask) (idle_by ask (access_granted state ask) h))

pub not_refused : WhoSharesIsNotRefused
not_refused state ask = (λ entry good asked lets. shares state ask entry good asked lets, uses_nothing state ask)
