-- Whoever may only read changes no file: lemmas about the definitions alone.
use Rattle.std.proofs.Common.{◌≡◌, ◌≢◌, ◌==◌, ◌<◌, ℕ, zero, suc, List, [], ◌∷◌, ◌++◌, length, map, Contains, Bool, true, false, cond, ◌&&◌, ◌||◌, not, if◌then◌else◌, bit_and, Option, None, Some, filter, refl, sym, ap, subst, arith, ◌∙◌}
use Rattle.std.proofs.lemmas.Nat.{and_assoc}
use Rattle.std.proofs.lemmas.Bool.Decides.{nat_tests}
use Rattle.std.specs.Int.Bits.{and_zero_r}
use Rattle.std.specs.Option.{option_map, option_map_or, is_none}
use Rattle.std.specs.List.{AllByRecursion}
use Rattle.std.specs.Prelude.{slice_index_or, nat_lt}
use Rattle.smb_wire.specs.Access.{has_any, FILE_WRITE_DATA, FILE_APPEND_DATA, FILE_WRITE_ATTRIBUTES, DELETE}
use Rattle.smb_wire.specs.Dispositions.{overwrites_by, must_be_new_by}
use Rattle.smb_wire.specs.declared.access.Access.{Access}
use Rattle.smb_wire.specs.declared.nt_status.NtStatus.{NtStatus}
use Rattle.smb_wire.specs.declared.nt_status.NtStatus.TheVariants.{Success, InvalidParameter, InvalidDeviceRequest, AccessDenied, ObjectNameInvalid, FileClosed}
use Rattle.smb_tree.specs.Entries.{Entry, is_folder_kind}
use Rattle.smb_tree.specs.Content.{Row, Content, numbered, changed, without}
use Rattle.smb_tree.specs.Parts.{removed, with_mark}
use Rattle.smb_tree.proofs.AfterWrites.{other_changed}
use Rattle.smb_locks.specs.Table.{Table, locked, unlocked}
use Rattle.smb_access.specs.declared.open_row.OpenRow.{OpenRow}
use Rattle.smb_access.specs.declared.scan.Scan.{Scan}
use Rattle.smb_access.specs.declared.view.View.{View}
use Rattle.smb_access.specs.Access.{is_past_reading, is_writing, is_deleting}
use Rattle.smb_access.specs.Parts.{is_bad_access, asks_delete, tree_marked, tree_cleared, is_due, opened_by, has_number, is_on_entry, view_through, reader_access}
use Rattle.smb_access.specs.Asked.{FileAsked}
use Rattle.smb_access.specs.Close.{is_deletable, has_mark}
use Rattle.smb_access.specs.Effect.{entry_after, tree_after}
use Rattle.smb_access.specs.Opens.{open_of, without_open, with_scan, open_numbers, is_held_by}
use Rattle.smb_refusals.specs.declared.refusal.Refusal.{Refusal}
use Rattle.smb_refusals.specs.Rows.{StatusRow, first_status, with_statuses, with_decided_statuses}
use Rattle.smb_access.specs.Views.{view_of}
use Rattle.smb_entry.specs.Parts.{keeps_from_writing, has_no_room, write_rows, has_entries, delete_rows, has_no_space, size_rows, basic_rows, rename_rows, path_numbered}
use Rattle.smb_entry.specs.Rename.{path_named}
use Rattle.smb_opens.specs.Close.{closed}
use Rattle.smb_opens.specs.Parts.{closed_open, closed_each, with_locks_of}
use Rattle.smb_opens.specs.Create.{create_rows, create_status, access_granted}
use Rattle.smb_opens.specs.Effect.{created}
use Rattle.smb_opens.specs.Found.{entry_asked}
use Rattle.smb_opens.specs.Readers.{opens_to_delete, is_to_go, unmarked_row, LeavesFiles, IsOfReader, AreOfReaders, OpensToRead, AReadersOpenIsRefused}
use Rattle.smb_opens.specs.Scans.{scan_set}
use Rattle.smb_opens.specs.State.{StoreState}
use Rattle.smb_opens.specs.Steps.{StoreStep, creates, writes, locks, unlocks, sets_delete, sets_size, sets_basic, renames, sets_scan, closes, closes_all, stepped, stepped_all}
use Rattle.smb_opens.specs.Views.{open_view, status_through}
use Rattle.smb_opens.proofs.Closing.{number_found}
use Rattle.smb_opens.proofs.Passing.{pass_all}

-- nothing is changed where nothing is done, and by one thing after another
pub leaves_files_refl : (state : StoreState) → LeavesFiles state state
leaves_files_refl state = record { due = λ _ e. e; same = λ _ _. refl; going = λ _ c. c }

-- a test that holds only where another does, beside a third
or_more : (m one other : Bool) → (one ≡ true → other ≡ true) → (m || one) ≡ true → (m || other) ≡ true
or_more true one other f h = refl
or_more false one other f h = f h

still_not : (was is : Bool) → (is ≡ true → was ≡ true) → was ≡ false → is ≡ false
still_not was true h e = sym (h refl) ∙ e
still_not was false h e = refl

pub leaves_files_trans : (one two three : StoreState) → LeavesFiles one two → LeavesFiles two three → LeavesFiles one three
leaves_files_trans one two three first second = record {
  due = λ n e. first.due n (second.due n e);
  same = λ n e. second.same n (still_not (is_to_go one n) (is_to_go two n) (first.due n) e) ∙ first.same n e;
  going = λ row c. first.going row (second.going row c);
}

-- the tree is as it was, and no more opens are to delete their entries
pub leaves_files_by : (before after : StoreState) → after.tree ≡ before.tree → ((n : ℕ) → opens_to_delete after.opens n ≡ true → opens_to_delete before.opens n ≡ true) → LeavesFiles before after
leaves_files_by before after t d = record {
  due = λ n e. or_more (has_mark before.tree.rows n) (opens_to_delete after.opens n) (opens_to_delete before.opens n) (d n) (ap (λ (x : Content). has_mark x.rows n || opens_to_delete after.opens n) (sym t) ∙ e);
  same = λ n _. ap (λ (x : Content). numbered x.rows n) t;
  going = λ row c. subst (λ (x : Content). Contains (map unmarked_row x.rows) row) t c;
}

-- access that is not past reading has no bit but those of a reader
pub reads_alone : (access : Access) (mask : ℕ) → is_past_reading access ≡ false → bit_and reader_access mask ≡ 0 → has_any access.0 mask ≡ false
reads_alone access mask h z =
    let within : bit_and access.0 reader_access ≡ access.0 = grind (arith, nat_tests, h) in
    let none : bit_and access.0 mask ≡ 0 =
    ap (λ (n : ℕ). bit_and n mask) (sym within) ∙ and_assoc mask access.0 reader_access ∙ ap (bit_and access.0) z ∙ and_zero_r access.0 in
    rw none refl

pub never_writing : (access : Access) → is_past_reading access ≡ false → is_writing access ≡ false
never_writing access h = (λ i. reads_alone access FILE_WRITE_DATA h refl i || reads_alone access FILE_APPEND_DATA h refl i)

pub never_deleting : (access : Access) → is_past_reading access ≡ false → is_deleting access ≡ false
never_deleting access h = reads_alone access DELETE h refl

-- where the first row holds, the second or the third, and what is before it is a refusal too
first_refuses : (a : Bool) (x rest : NtStatus) → x ≢ Success → a ≡ true → (if a then x else rest) ≢ Success
first_refuses true x rest p e = p
first_refuses false x rest p e = absurd (cc)

second_refuses : (a b : Bool) (x y rest : NtStatus) → x ≢ Success → y ≢ Success → b ≡ true → (if a then x else if b then y else rest) ≢ Success
second_refuses true b x y rest p q e = p
second_refuses false b x y rest p q e = first_refuses b y rest q e

third_refuses : (a b c : Bool) (x y z rest : NtStatus) → x ≢ Success → y ≢ Success → z ≢ Success → c ≡ true → (if a then x else if b then y else if c then z else rest) ≢ Success
third_refuses true b c x y z rest p q r e = p
third_refuses false b c x y z rest p q r e = second_refuses b c y z rest q r e

-- what is refused whatever an open with an access shows is refused through it
refused_through : (state : StoreState) (number : ℕ) (row : OpenRow) (rows : View → List StatusRow) → open_of state.opens number ≡ Some row → is_past_reading row.access ≡ false →
    ((view : View) → is_past_reading view.access ≡ false → first_status (rows view) ≢ Success) → status_through state number rows ≢ Success
refused_through state number row rows e reads refuses =
    subst (λ (o : Option OpenRow). option_map_or (λ (view : View). first_status (rows view)) (view_through state.tree.rows o) FileClosed ≢ Success) (sym e)
    (elim (numbered state.tree.rows row.entry) as (λ o. option_map_or (λ (view : View). first_status (rows view)) (option_map (λ (r : Row). view_of row.access r.1) o) FileClosed ≢ Success) [
      | None ↦ λ q. cc
      | Some r ↦ refuses (view_of row.access r.1) reads
    ])

pub refuses_changes : AReadersOpenIsRefused
refuses_changes state number row e reads = (
  λ most offset buffer.
      refused_through state number row (λ view. with_statuses (λ refusal. Refusal.Write refusal) (write_rows most view (keeps_from_writing state.locks number view offset (length buffer)) offset (length buffer) (has_no_room state.tree view.entry offset buffer))) e reads
      (λ view r. third_refuses _ _ _ InvalidParameter InvalidDeviceRequest AccessDenied _ (λ q. cc) (λ q. cc) (λ q. cc) (ap (λ (b : Bool). not b || not (has_any view.access.0 FILE_WRITE_DATA) && nat_lt offset view.size) (never_writing view.access r))),
  λ is_deleted.
      refused_through state number row (λ view. with_statuses (λ refusal. Refusal.SetDisposition refusal) (delete_rows view (has_entries state.tree.rows view.entry) is_deleted)) e reads
      (λ view r. first_refuses _ AccessDenied _ (λ q. cc) (ap not (never_deleting view.access r))),
  λ size.
      refused_through state number row (λ view. with_statuses (λ refusal. Refusal.SetSize refusal) (size_rows view (has_no_space state.tree view.entry size))) e reads
      (λ view r. second_refuses _ _ InvalidParameter AccessDenied _ (λ q. cc) (λ q. cc) (ap not (reads_alone view.access FILE_WRITE_DATA r refl))),
  λ ask.
      refused_through state number row (λ view. with_statuses (λ refusal. Refusal.SetBasic refusal) (basic_rows view ask)) e reads
      (λ view r. second_refuses _ _ InvalidParameter AccessDenied _ (λ q. cc) (λ q. cc) (ap not (reads_alone view.access FILE_WRITE_ATTRIBUTES r refl))),
  λ name replace.
      refused_through state number row (λ view. with_decided_statuses (λ refusal. Refusal.Rename refusal) (rename_rows state.tree.rows state.opens view name replace (path_numbered state.tree.rows view.entry) (path_named name))) e reads
      (λ view r. third_refuses _ _ _ InvalidParameter ObjectNameInvalid AccessDenied _ (λ q. cc) (λ q. cc) (λ q. cc) (ap (λ (b : Bool). not b || (view.entry == 1)) (never_deleting view.access r))),
)

-- what a CREATE of a reader has passed
record PassedByReader (state : StoreState) (ask : FileAsked) : Type 0 where
  entry : Entry
  stands : entry_asked state ask ≡ Some entry
  reads : is_past_reading (access_granted state ask) ≡ false
  overwrites : overwrites_by ask.disposition ≡ false
  deletes : asks_delete ask ≡ false

first_and_last : (r a b c : Bool) → r ≡ true → (r && (a || b || c)) ≡ false → (a ≡ false) × (c ≡ false)
first_and_last r a b c e h = (grind (arith, e, h), grind (arith, e, h))

not_deleting : (bad d g : Bool) → g ≡ false → (bad || d && not g) ≡ false → d ≡ false
not_deleting bad d g e h = grind (arith, e, h)

exists_by : (r : Bool) (o : Option Entry) → r ≡ true → (r && is_none o) ≡ false → (entry : Entry) × (o ≡ Some entry)
exists_by r (Some entry) e h = (entry, refl)
exists_by r None e h = absurd (grind (arith, e, h))

passed_by_reader : (state : StoreState) (ask : FileAsked) → ask.read_only ≡ true → create_status state ask ≡ Success → PassedByReader state ask
passed_by_reader state ask r e =
    let refuses : AllByRecursion (λ row. row.1 ≢ Success) (create_rows state ask (entry_asked state ask)) =
    (λ q. cc, (λ q. cc, (λ q. cc, (λ q. cc, (λ q. cc, (λ q. cc, (λ q. cc, (λ q. cc, (λ q. cc, (λ q. cc, (λ q. cc, (λ q. cc, (λ q. cc, (λ q. cc, (λ q. cc, (λ q. cc, (λ q. cc, (λ q. cc, (λ q. cc, tt))))))))))))))))))) in
    let none = pass_all (create_rows state ask (entry_asked state ask)) refuses e in
    let past = first_and_last ask.read_only (is_past_reading (access_granted state ask)) (must_be_new_by ask.disposition) (overwrites_by ask.disposition) r none.1.1.1.1.1.1.0 in
    let there = exists_by ask.read_only (entry_asked state ask) r none.1.1.1.1.1.1.1.1.1.1.0 in
    record {
      entry = there.0;
      stands = there.1;
      reads = past.0;
      overwrites = past.1;
      deletes = not_deleting (is_bad_access ask.access) (asks_delete ask) (is_deleting (access_granted state ask)) (never_deleting (access_granted state ask) past.0) none.1.1.1.1.1.0;
    }

-- it opens what exists
pub reader_opens : (state : StoreState) (ask : FileAsked) (moment : ℕ) → ask.read_only ≡ true → create_status state ask ≡ Success → OpensToRead state (created state ask moment)
reader_opens state ask moment r e =
    let passed = passed_by_reader state ask r e in
    record {
      row = opened_by ask state.next (entry_after state.tree ask moment (entry_asked state ask)).number (access_granted state ask);
      tree = ap (tree_after state.tree ask moment) passed.stands ∙ rw passed.overwrites refl;
      opens = refl;
      reads = passed.reads;
      keeps = passed.deletes;
    }

-- one more open that is not to delete its entry
none_to_delete : (opens : List OpenRow) (row : OpenRow) (n : ℕ) → row.delete_on_close ≡ false → opens_to_delete (opens ++ row ∷ []) n ≡ true → opens_to_delete opens n ≡ true
none_to_delete [] row n k h = grind (arith, k, h)
none_to_delete (x ∷ opens) row n k h = or_more (is_on_entry n x && x.delete_on_close) (opens_to_delete (opens ++ row ∷ []) n) (opens_to_delete opens n) (none_to_delete opens row n k) h

created_leaves : (state : StoreState) (ask : FileAsked) (moment : ℕ) → ask.read_only ≡ true → create_status state ask ≡ Success → LeavesFiles state (created state ask moment)
created_leaves state ask moment r e =
    let opened = reader_opens state ask moment r e in
    leaves_files_by state (created state ask moment) opened.tree
    (λ n h. none_to_delete state.opens opened.row n opened.keeps (ap (λ (rows : List OpenRow). opens_to_delete rows n) (sym opened.opens) ∙ h))

-- locks are beside the tree and the opens
locks_leave : (table : ℕ → Table) (state : StoreState) (view : Option View) → LeavesFiles state (with_locks_of table state view)
locks_leave table state None = leaves_files_refl state
locks_leave table state (Some view) =
    elim (is_folder_kind view.kind) as (λ b. LeavesFiles state (if b then state else record state { locks = table view.entry })) [
      | true ↦ leaves_files_refl state
      | false ↦ leaves_files_by state (record state { locks = table view.entry }) refl (λ _ h. h)
    ]

-- and so is a scan
scan_to_delete : (number : ℕ) (scan : Scan) (opens : List OpenRow) (n : ℕ) → opens_to_delete (with_scan number scan opens) n ≡ opens_to_delete opens n
scan_to_delete number scan [] n = refl
scan_to_delete number scan (x ∷ opens) n =
    let rest = scan_to_delete number scan opens n in
    elim (has_number number x) as (λ b. opens_to_delete ((if b then record x { scan = scan } else x) ∷ with_scan number scan opens) n ≡ opens_to_delete (x ∷ opens) n) [
      | true ↦ ap (λ (b : Bool). (is_on_entry n x && x.delete_on_close) || b) rest
      | false ↦ ap (λ (b : Bool). (is_on_entry n x && x.delete_on_close) || b) rest
    ]

-- the open that is closed, where it is to delete its entry, and the others
found_to_delete : (opens : List OpenRow) (number : ℕ) (row : OpenRow) → open_of opens number ≡ Some row → row.delete_on_close ≡ true → opens_to_delete opens row.entry ≡ true
found_to_delete [] number row e d = absurd (cc)
found_to_delete (x ∷ opens) number row e d =
    elim (has_number number x) as (λ b. (cond b (Some x) (open_of opens number)) ≡ Some row → opens_to_delete (x ∷ opens) row.entry ≡ true) [
      | true ↦ λ f. (let same : x ≡ row = cc in subst (λ (o : OpenRow). opens_to_delete (o ∷ opens) row.entry ≡ true) (sym same) (grind (arith, nat_tests, d)))
      | false ↦ λ f. (let rest = found_to_delete opens number row f d in grind (arith, rest))
    ] e

left_to_delete : (number : ℕ) (opens : List OpenRow) (n : ℕ) → opens_to_delete (without_open number opens) n ≡ true → opens_to_delete opens n ≡ true
left_to_delete number [] n h = h
left_to_delete number (x ∷ opens) n h =
    elim (has_number number x) as (λ b. opens_to_delete (cond (not b) (x ∷ without_open number opens) (without_open number opens)) n ≡ true → opens_to_delete (x ∷ opens) n ≡ true) [
      | true ↦ λ f. (let rest = left_to_delete number opens n f in grind (arith, rest))
      | false ↦ λ f. or_more (is_on_entry n x && x.delete_on_close) (opens_to_delete (without_open number opens) n) (opens_to_delete opens n) (left_to_delete number opens n) f
    ] h

-- an entry that is removed, or whose mark is set: what is beside it, and what is left of all
numbered_beside : (rows : List Row) (m n : ℕ) → n == m ≡ false → numbered (without rows m) n ≡ numbered rows n
numbered_beside [] m n e = refl
numbered_beside (x ∷ rows) m n e = grind (arith, nat_tests, e, numbered_beside rows m n e)

marked_beside : (rows : List Row) (m n : ℕ) → n == m ≡ false → numbered (changed (λ entry. record entry { mark = true }) rows m) n ≡ numbered rows n
marked_beside rows m n e = other_changed (λ entry. record entry { mark = true }) rows m n (λ _. refl) (λ q. absurd (grind (arith, nat_tests, e, q)))

marked_same : (rows : List Row) (m : ℕ) → map unmarked_row (changed (λ entry. record entry { mark = true }) rows m) ≡ map unmarked_row rows
marked_same [] m = refl
marked_same (x ∷ rows) m =
    elim (x.1.number == m) as (λ b. map unmarked_row (cond b ((x.0, record x.1 { mark = true }) ∷ rows) (x ∷ changed (λ entry. record entry { mark = true }) rows m)) ≡ map unmarked_row (x ∷ rows)) [
      | true ↦ refl
      | false ↦ ap (λ (r : List Row). unmarked_row x ∷ r) (marked_same rows m)
    ]

contains_later : (x z : Row) (xs : List Row) → Contains xs z → Contains (x ∷ xs) z
contains_later x z xs c = (suc c.0, omega (arith, c.1), c.2)

contains_by : (x z : Row) (xs ys : List Row) → (Contains xs z → Contains ys z) → Contains (x ∷ xs) z → Contains (x ∷ ys) z
contains_by x z xs ys f c = at c.0 c.1 c.2
  where
    at : (k : ℕ) → k < length (x ∷ xs) → slice_index_or (x ∷ xs) k z ≡ z → Contains (x ∷ ys) z
    at zero l e = (0, omega arith, e)
    at (suc k) l e = contains_later x z ys (f (k, omega (arith, l), e))

left_contains : (rows : List Row) (m : ℕ) (row : Row) → Contains (map unmarked_row (without rows m)) row → Contains (map unmarked_row rows) row
left_contains [] m row c = c
left_contains (x ∷ rows) m row c =
    elim (x.1.number == m) as (λ b. Contains (map unmarked_row (cond b rows (x ∷ without rows m))) row → Contains (map unmarked_row (x ∷ rows)) row) [
      | true ↦ contains_later (unmarked_row x) row (map unmarked_row rows)
      | false ↦ contains_by (unmarked_row x) row (map unmarked_row (without rows m)) (map unmarked_row rows) (left_contains rows m row)
    ] c

-- a tree in which an entry is marked or gone
record Beside (before after : Content) (entry : ℕ) : Type 0 where
  beside : (n : ℕ) → n == entry ≡ false → numbered after.rows n ≡ numbered before.rows n
  going : (row : Row) → Contains (map unmarked_row after.rows) row → Contains (map unmarked_row before.rows) row

marked_or_not : (tree : Content) (entry : ℕ) (b : Bool) → Beside tree (if b then with_mark tree entry true else tree) entry
marked_or_not tree entry true = record {
  beside = λ n e. marked_beside tree.rows entry n e;
  going = λ row c. subst (λ (rows : List Row). Contains rows row) (marked_same tree.rows entry) c;
}
marked_or_not tree entry false = record { beside = λ _ _. refl; going = λ _ c. c }

gone_or_not : (tree : Content) (entry : ℕ) (b : Bool) → Beside tree (if b then removed tree entry else tree) entry
gone_or_not tree entry true = record {
  beside = λ n e. numbered_beside tree.rows entry n e;
  going = λ row c. left_contains tree.rows entry row c;
}
gone_or_not tree entry false = record { beside = λ _ _. refl; going = λ _ c. c }

closed_beside : (state : StoreState) (row : OpenRow) → Beside state.tree (closed_open state row).tree row.entry
closed_beside state row =
    let one = marked_or_not state.tree row.entry (row.delete_on_close && is_deletable state.tree.rows row.entry) in
    let two = gone_or_not (tree_marked state.tree row) row.entry (is_due (tree_marked state.tree row) (without_open row.number state.opens) row.entry) in
    record {
      beside = λ n e. two.beside n e ∙ one.beside n e;
      going = λ r c. one.going r (two.going r c);
    }

-- the end of an open whose entry is to go
closed_due : (state : StoreState) (row : OpenRow) → is_to_go state row.entry ≡ true → LeavesFiles state (closed_open state row)
closed_due state row go =
    let left = closed_beside state row in
    record {
      due = λ n e. elim (n == row.entry) as (λ b. n == row.entry ≡ b → is_to_go state n ≡ true) [
        | true ↦ λ q. (let here : n ≡ row.entry = grind (arith, nat_tests, q) in ap (is_to_go state) here ∙ go)
        | false ↦ λ q. or_more (has_mark state.tree.rows n) (opens_to_delete (without_open row.number state.opens) n) (opens_to_delete state.opens n) (left_to_delete row.number state.opens n)
            (ap (λ (o : Option Row). option_map_or (λ (r : Row). r.1.mark) o false || opens_to_delete (without_open row.number state.opens) n) (sym (left.beside n q)) ∙ e)
      ] refl;
      same = λ n e. elim (n == row.entry) as (λ b. n == row.entry ≡ b → numbered (closed_open state row).tree.rows n ≡ numbered state.tree.rows n) [
        | true ↦ λ q. (let here : n ≡ row.entry = grind (arith, nat_tests, q) in let both : true ≡ false = sym go ∙ ap (is_to_go state) (sym here) ∙ e in absurd (cc))
        | false ↦ λ q. left.beside n q
      ] refl;
      going = left.going;
    }

-- of one whose entry is not
neither : (a b : Bool) → (a || b) ≡ false → (a ≡ false) × (b ≡ false)
neither a b h = (grind (arith, h), grind (arith, h))

closed_quiet : (state : StoreState) (row : OpenRow) → open_of state.opens row.number ≡ Some row → is_to_go state row.entry ≡ false → (closed_open state row).tree ≡ state.tree
closed_quiet state row e go =
    let none = neither (has_mark state.tree.rows row.entry) (opens_to_delete state.opens row.entry) go in
    let keeps : row.delete_on_close ≡ false = still_not (opens_to_delete state.opens row.entry) row.delete_on_close (found_to_delete state.opens row.number row e) none.1 in
    let marked : tree_marked state.tree row ≡ state.tree = rw keeps refl in
    ap (λ (x : Content). tree_cleared x (without_open row.number state.opens) row.entry) marked ∙ rw none.0 refl

closed_open_leaves : (state : StoreState) (row : OpenRow) → open_of state.opens row.number ≡ Some row → LeavesFiles state (closed_open state row)
closed_open_leaves state row e =
    elim (is_to_go state row.entry) as (λ b. is_to_go state row.entry ≡ b → LeavesFiles state (closed_open state row)) [
      | true ↦ closed_due state row
      | false ↦ λ go. leaves_files_by state (closed_open state row) (closed_quiet state row e go) (λ n h. left_to_delete row.number state.opens n h)
    ] refl

pub closed_leaves : (state : StoreState) (number : ℕ) → LeavesFiles state (closed state number)
closed_leaves state number =
    elim (open_of state.opens number) as (λ o. open_of state.opens number ≡ o → LeavesFiles state (option_map_or (closed_open state) o state)) [
      | None ↦ λ _. leaves_files_refl state
      | Some row ↦ λ e. closed_open_leaves state row (ap (open_of state.opens) (number_found state.opens number row e) ∙ e)
    ] refl

each_closed_leaves : (state : StoreState) (numbers : List ℕ) → LeavesFiles state (closed_each state numbers)
each_closed_leaves state [] = leaves_files_refl state
each_closed_leaves state (number ∷ numbers) =
    leaves_files_trans state (closed state number) (closed_each (closed state number) numbers) (closed_leaves state number) (each_closed_leaves (closed state number) numbers)

-- one request of a reader, and several
pub step_leaves_files : (state : StoreState) (step : StoreStep) → IsOfReader state step → LeavesFiles state (stepped state step)
step_leaves_files state (creates ask moment) may = created_leaves state ask moment may.0 may.1
step_leaves_files state (writes number offset buffer moment) may = absurd ((refuses_changes state number may.0.0 may.0.1 may.0.2).0 may.1.0 offset buffer may.1.1)
step_leaves_files state (locks number asks) may = locks_leave (λ entry. locked state.locks entry number asks) state (open_view state number)
step_leaves_files state (unlocks number asks) may = locks_leave (λ entry. unlocked state.locks entry number asks) state (open_view state number)
step_leaves_files state (sets_delete number is_deleted) may = absurd ((refuses_changes state number may.0.0 may.0.1 may.0.2).1 is_deleted may.1)
step_leaves_files state (sets_size number size is_allocation moment) may = absurd ((refuses_changes state number may.0.0 may.0.1 may.0.2).2 size may.1)
step_leaves_files state (sets_basic number ask moment) may = absurd ((refuses_changes state number may.0.0 may.0.1 may.0.2).3 ask may.1)
step_leaves_files state (renames number name moment) may = absurd ((refuses_changes state number may.0.0 may.0.1 may.0.2).4 name may.1.0 may.1.1)
step_leaves_files state (sets_scan number scan) may = leaves_files_by state (scan_set state number scan) refl (λ n h. sym (scan_to_delete number scan state.opens n) ∙ h)
step_leaves_files state (closes number) may = closed_leaves state number
step_leaves_files state (closes_all owner) may = each_closed_leaves state (open_numbers (filter (is_held_by owner) state.opens))

pub steps_leave_files : (state : StoreState) (steps : List StoreStep) → AreOfReaders state steps → LeavesFiles state (stepped_all state steps)
steps_leave_files state [] all = leaves_files_refl state
steps_leave_files state (step ∷ steps) all =
    leaves_files_trans state (stepped state step) (stepped_all (stepped state step) steps) (step_leaves_files state step all.0) (steps_leave_files (stepped state step) steps all.1)
