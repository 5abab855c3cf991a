-- Each request that succeeds leaves a good store good.
use Rattle.std.proofs.Common.{◌≡◌, ℕ, ◌+◌, ◌<◌, ◌≤◌, ◌==◌, ◌||◌, Bool, true, false, not, nat_lt, if◌then◌else◌, List, [], ◌∷◌, ◌++◌, length, Option, None, Some, Result, Ok, is_some, refl, sym, ap, subst, ◌∙◌, arith}
use Rattle.std.proofs.lemmas.Bool.{not-false, ltb-false}
use Rattle.std.proofs.lemmas.Bool.Decides.{nat_tests}
use Rattle.std.specs.Prelude.{slice_index}
use Rattle.std.specs.List.{list_all}
use Rattle.std.specs.Option.{option_map_or}
use Rattle.smb_wire.specs.declared.access.Access.{Access}
use Rattle.smb_wire.specs.declared.fault.PathFault.{PathFault}
use Rattle.smb_wire.specs.declared.fault.PathFault.TheVariants.{LeadingSeparator, TooDeep as TooManyParts, BadName}
use Rattle.smb_wire.specs.declared.nt_status.NtStatus.TheVariants.{Success, FileClosed}
use Rattle.smb_wire.specs.Paths.{is_separator, is_lawful_component, path_fault, path_spelled}
use Rattle.smb_tree.specs.declared.fault.TreeFault.{TreeFault}
use Rattle.smb_tree.specs.declared.fault.TreeFault.TheVariants.{ParentAbsent, Exists, Full}
use Rattle.smb_tree.specs.Content.{Path, Row, Content, is_same_path, entry_at, numbered, parent, used_space, changed_in}
use Rattle.smb_tree.specs.Parts.{with_bytes, with_size, would_be_too_deep}
use Rattle.smb_tree.specs.Entries.{Entry, is_folder, is_folder_kind}
use Rattle.smb_tree.specs.Faults.{add_fault, write_fault, move_fault}
use Rattle.smb_tree.proofs.Apart.{numbered-from_at}
use Rattle.smb_locks.specs.declared.ask.LockAsk.{LockAsk}
use Rattle.smb_locks.specs.Locking.{lock_all_fault}
use Rattle.smb_locks.specs.Table.{locks_on, locked, unlocked}
use Rattle.smb_access.specs.declared.fault.StoreFault.{StoreFault}
use Rattle.smb_access.specs.declared.open_row.OpenRow.{OpenRow}
use Rattle.smb_access.specs.declared.view.View.{View}
use Rattle.smb_access.specs.Access.{granted}
use Rattle.smb_access.specs.Asked.{FileAsked, kind_asked, attributes_asked}
use Rattle.smb_access.specs.Parts.{opened_by, standing_tree, is_marked, has_conflict, use_of}
use Rattle.smb_access.specs.Found.{path_asked, is_read_only_file, is_reached}
use Rattle.smb_access.specs.Looked.{target_of}
use Rattle.smb_access.specs.Opens.{open_of, with_scan}
use Rattle.smb_refusals.specs.declared.refusal.Refusal.{Refusal}
use Rattle.smb_refusals.specs.declared.set_info.RenameRefusal.{RenameRefusal}
use Rattle.smb_refusals.specs.declared.set_info.RenameRefusal.TheVariants.{NameBeginsWithSeparator, NameIsNoPath, PathTooDeep}
use Rattle.smb_refusals.specs.Rows.{StatusRow, first_status, with_statuses, DecidingRow, first_decided, with_decided_statuses}
use Rattle.smb_refusals.proofs.Fails.{set_disposition_fails, rename_fails}
use Rattle.smb_refusals.proofs.RowLemmas.{unrefused, decided_unrefused, decided_before}
use Rattle.smb_access.proofs.Trees.{reached_folder}
use Rattle.smb_entry.specs.declared.ask.BasicAsk.{BasicAsk}
use Rattle.smb_entry.specs.Parts.{has_no_room, keeps_from_writing, write_rows, written_tree, delete_set, entry_set, resized_file, leaves_size, has_entries, has_no_space, delete_rows, size_rows, basic_rows, is_not_replaced, rename_rows, renamed_tree, path_numbered}
use Rattle.smb_entry.specs.Rename.{path_named}
use Rattle.smb_entry.specs.Ways.{way_between, name_rows, way_rows, count_replaced}
use Rattle.smb_entry.proofs.Under.{path_found}
use Rattle.smb_opens.specs.Bytes.{write_status, written_to}
use Rattle.smb_opens.specs.Close.{closed}
use Rattle.smb_opens.specs.Parts.{closed_open, created_by, has_all_opens, has_all_entries, conflicts, with_locks_of}
use Rattle.smb_opens.specs.Create.{create_rows, create_status}
use Rattle.smb_opens.specs.Effect.{created}
use Rattle.smb_opens.specs.Found.{entry_asked}
use Rattle.smb_opens.specs.Good.{UnmarkedTree, GoodStore, IsKept}
use Rattle.smb_opens.specs.Locks.{lock_status, locked_through}
use Rattle.smb_opens.specs.Renames.{rename_status, renamed_through}
use Rattle.smb_opens.specs.SetInfo.{delete_status, size_status, basic_status, delete_set_through, size_set_through, basic_set_through}
use Rattle.smb_opens.specs.State.{StoreState}
use Rattle.smb_opens.specs.Steps.{StoreStep, creates, writes, locks, unlocks, sets_delete, sets_size, sets_basic, renames, sets_scan, closes, closes_all, stepped, stepped_all}
use Rattle.smb_opens.specs.Views.{open_view, status_through}
use Rattle.smb_opens.proofs.Closing.{good_closed}
use Rattle.smb_opens.proofs.Decided.{rows_by, way_told, no_fault as no_move_fault, refusal_moved}
use Rattle.smb_opens.proofs.Held.{kept_locked, kept_unlocked}
use Rattle.smb_opens.proofs.Leaving.{all_left}
use Rattle.smb_opens.proofs.Made.{masked_open, kept_added, kept_standing, alone_opened, made_standing}
use Rattle.smb_opens.proofs.RenameStates.{kept_renamed, renamed_done}
use Rattle.smb_opens.proofs.ScanLaws.{kept_scanned}
use Rattle.smb_opens.proofs.Shows.{ShownBy, shown_by, entry_of}
use Rattle.smb_opens.proofs.StoreSettings.{at_shown, set_through, kept_based, kept_deleted, kept_sized, sized_done, nothing_set}
use Rattle.smb_opens.proofs.Through.{kept_shown, stored, room_shown}
use Rattle.smb_content_laws.specs.GoodStores.{Succeeds, AllSucceed}
use Rattle.smb_content_laws.specs.Successes.{NoneHolds}
use Rattle.smb_content_laws.proofs.May.{create_succeeds, write_succeeds, size_succeeds}
use Rattle.smb_content_laws.proofs.ThroughOpens.{is_locked}

-- a good store, with its numbers counted
counted : (state : StoreState) → GoodStore state → IsKept state.tree state.opens state.locks state.next (length state.opens) (length state.tree.rows)
counted state good = record { good = good; opens_counted = refl; entries_counted = refl }

-- at the start
pub begins_good : (content : Content) (number : ℕ) → UnmarkedTree content → GoodStore (record { tree = content; opens = []; locks = []; next = number })
begins_good content number tree = record {
  tree = tree.good;
  lawful = tree.lawful;
  present = tt;
  rising = tt;
  below = tt;
  few = omega arith;
  masked = tt;
  compatible = λ one other first second a b apart same. absurd (let e : None ≡ Some first = a in cc);
  marked = λ entry h. absurd (let none = tree.unmarked entry in cc);
  locked = record { rising = tt; listed = tt; good = tt };
  few_locks = tt;
  held = λ file lock c. absurd (let l = c.1 in omega arith);
}

-- a name that is a path
record IsPath (name : List ℕ) : Type 0 where
  short : length (path_spelled name) ≤ 32
  lawful : list_all is_lawful_component (path_spelled name) ≡ true

path_by : (first deep lawful : Bool) → is_some (let o : Option PathFault = if first then Some LeadingSeparator else if deep then Some TooManyParts else if not lawful then Some BadName else None in o) ≡ false → (deep ≡ false) × (lawful ≡ true)
path_by true deep lawful h = absurd (let e : true ≡ false = h in cc)
path_by false true lawful h = absurd (let e : true ≡ false = h in cc)
path_by false false true h = (refl, refl)
path_by false false false h = absurd (let e : true ≡ false = h in cc)

is_path : (name : List ℕ) → is_some (path_fault name) ≡ false → IsPath name
is_path name h =
    let parts = path_by (is_separator (slice_index name 0)) (nat_lt 32 (length (path_spelled name))) (list_all is_lawful_component (path_spelled name)) h in
    record { short = ltb-false 32 (length (path_spelled name)) parts.0; lawful = parts.1 }

-- CREATE
free_by : (folder taken full : Bool) → folder ≡ true → taken ≡ false → full ≡ false → (if not folder then Some ParentAbsent else if taken then Some Exists else if full then Some Full else None) ≡ None
free_by folder taken full e f g = rw (e, f, g) refl

second_off : (a b : Bool) → (a || b) ≡ false → b ≡ false
second_off true b h = absurd (let e : true ≡ false = h in cc)
second_off false b h = h

made_good : (state : StoreState) (ask : FileAsked) (moment : ℕ) (found : Option Entry) → GoodStore state → entry_at state.tree.rows (path_asked ask) ≡ found → NoneHolds (create_rows state ask found) →
    GoodStore (created_by state ask moment (granted ask.access ask.read_only (is_read_only_file found)) found)
made_good state ask moment None good absent f =
    let path = is_path ask.name f.1.1.1.1.0 in
    let reached : is_reached state.tree.rows (path_asked ask) ≡ true = not-false (is_reached state.tree.rows (path_asked ask)) f.1.1.1.1.1.1.1.0 in
    let above : is_marked (entry_at state.tree.rows (parent (path_asked ask))) ≡ false = second_off (is_marked (entry_at state.tree.rows (path_asked ask))) (is_marked (entry_at state.tree.rows (parent (path_asked ask)))) f.1.1.1.1.1.1.1.1.0 in
    let folder = reached_folder state.tree good.tree (path_asked ask) reached absent in
    let taken : is_some (entry_at state.tree.rows (path_asked ask)) ≡ false = ap (λ (o : Option Entry). is_some o) absent in
    let room : has_all_opens state ≡ false = f.1.1.1.1.1.1.1.1.1.1.1.1.1.1.1.1.1.0 in
    let full : has_all_entries state ≡ false = f.1.1.1.1.1.1.1.1.1.1.1.1.1.1.1.1.1.1.0 in
    let free : add_fault state.tree (path_asked ask) ≡ None = free_by (is_folder (entry_at state.tree.rows (parent (path_asked ask)))) (is_some (entry_at state.tree.rows (path_asked ask))) (has_all_entries state) folder taken full in
    let access : Access = granted ask.access ask.read_only false in
    let row : OpenRow = opened_by ask state.next state.tree.next access in
    (kept_added state (length state.opens) (length state.tree.rows) (path_spelled ask.name) (kind_asked ask) (attributes_asked (kind_asked ask) ask) moment row (counted state good) path.short path.lawful
    (masked_open ask state.next state.tree.next access false row refl refl) free above room refl refl).good
made_good state ask moment (Some entry) good at f =
    let room : has_all_opens state ≡ false = f.1.1.1.1.1.1.1.1.1.1.1.1.1.1.1.1.1.0 in
    let conflict : conflicts state ask (Some entry) ≡ false = f.1.1.1.1.1.1.1.1.1.1.1.1.1.1.1.1.0 in
    let access : Access = granted ask.access ask.read_only (is_read_only_file (Some entry)) in
    let row : OpenRow = opened_by ask state.next entry.number access in
    let there = numbered-from_at state.tree.rows (path_asked ask) entry good.tree.apart at in
    let alone : has_conflict state.opens row.entry (use_of row) ≡ false = alone_opened state.opens ask state.next (target_of entry) access row refl refl conflict in
    let kept = kept_standing state ask moment (length state.opens) (length state.tree.rows) row entry.number (path_asked ask) entry (counted state good)
    (masked_open ask state.next entry.number access (is_read_only_file (Some entry)) row refl refl) there room alone refl refl in
    subst GoodStore (made_standing state ask moment access access (Some entry) entry entry.number (standing_tree state.tree ask moment entry.number) (state.opens ++ row ∷ []) row refl refl refl refl refl refl) kept.good

created_good : (state : StoreState) (ask : FileAsked) (moment : ℕ) → GoodStore state → create_status state ask ≡ Success → GoodStore (created state ask moment)
created_good state ask moment good h = made_good state ask moment (entry_asked state ask) good refl ((create_succeeds state ask).0 h)

-- what an open shows, where a status through it is STATUS_SUCCESS
record Shows (state : StoreState) (number : ℕ) : Type 0 where
  view : View
  shown : open_view state number ≡ Some view
  by : ShownBy state number view

shows : (state : StoreState) (number : ℕ) (rows : View → List StatusRow) → status_through state number rows ≡ Success → Shows state number
shows state number rows h =
    elim (open_view state number) as (λ o. open_view state number ≡ o → option_map_or (λ view. first_status (rows view)) o FileClosed ≡ Success → Shows state number) [
      | None ↦ λ _ e. absurd (let f : FileClosed ≡ Success = e in cc)
      | Some view ↦ λ s _. record { view = view; shown = s; by = shown_by state number view (sym s) }
    ] refl h

-- WRITE
no_fault : (o : Option TreeFault) → is_some o ≡ false → o ≡ None
no_fault None h = refl
no_fault (Some fault) h = absurd (let e : true ≡ false = h in cc)

room_of : (tree : Content) (n offset : ℕ) (buffer : List ℕ) → offset + length buffer ≤ tree.limits.file_bytes → used_space (with_bytes tree n offset buffer).rows ≤ tree.capacity → has_no_room tree n offset buffer ≡ false
room_of tree n offset buffer small fits = grind (arith, nat_tests, small, fits)

written_good : (most : ℕ) (state : StoreState) (number offset : ℕ) (buffer : List ℕ) (moment : ℕ) → GoodStore state → write_status state most number offset buffer ≡ Success → GoodStore (written_to state number offset buffer moment)
written_good most state number offset buffer moment good h = at_length (length buffer == 0) refl
  where
    table : View → List StatusRow
    table view = with_statuses (λ refusal. Refusal.Write refusal) (write_rows most view (keeps_from_writing state.locks number view offset (length buffer)) offset (length buffer) (has_no_room state.tree view.entry offset buffer))

    at_length : (b : Bool) → (length buffer == 0) ≡ b → GoodStore (written_to state number offset buffer moment)
    at_length true e =
        elim (open_of state.opens number) as (λ o. GoodStore (option_map_or (λ (row : OpenRow). let s : StoreState = if length buffer == 0 then state else record state { tree = written_tree state.tree row.entry offset buffer moment } in s) o state)) [
          | None ↦ good
          | Some row ↦ rw e good
        ]
    at_length false e =
        let s = shows state number table h in
        let may = (write_succeeds state most number offset buffer s.view s.shown).0 h in
        let some : 0 < length buffer = grind (arith, nat_tests, e) in
        let room = room_of state.tree s.view.entry offset buffer (may.small some) (may.fits some) in
        let free : write_fault state.tree s.view.entry offset (length buffer) ≡ None = no_fault (write_fault state.tree s.view.entry offset (length buffer)) (room_shown state number s.view offset buffer good.tree s.by may.file ∙ room) in
        let after : Content = written_tree state.tree s.view.entry offset buffer moment in
        let result : Result ℕ StoreFault = Ok 0 in
        let kept = kept_shown result state after (length state.opens) (length state.tree.rows) number offset buffer moment s.view s.by may.file refl free tt (counted state good) in
        subst GoodStore (stored result state after number offset buffer moment s.view s.by e refl) kept.good

-- LOCK and UNLOCK
locked_good : (state : StoreState) (number : ℕ) (asks : List LockAsk) → GoodStore state → lock_status state number asks ≡ Success → GoodStore (locked_through state number asks)
locked_good state number asks good h =
    let l = is_locked state number asks good.locked h in
    let s = shown_by state number l.view (sym l.shown) in
    let entry = entry_of state number l.view s in
    let free : lock_all_fault state.tree.limits.locks (locks_on state.locks s.held.entry) number asks ≡ None = ap (λ (n : ℕ). lock_all_fault state.tree.limits.locks (locks_on state.locks n) number asks) (sym entry) ∙ l.free in
    let kept = kept_locked state number s.held asks (length state.opens) (length state.tree.rows) (counted state good) s.opened free in
    let after : locked_through state number asks ≡ record state { locks = locked state.locks s.held.entry number asks } = l.after ∙ ap (λ (n : ℕ). let x : StoreState = record state { locks = locked state.locks n number asks } in x) entry in
    subst GoodStore (sym after) kept.good

unlocked_good : (state : StoreState) (number : ℕ) (asks : List LockAsk) (view : Option View) → GoodStore state → GoodStore (with_locks_of (λ entry. unlocked state.locks entry number asks) state view)
unlocked_good state number asks None good = good
unlocked_good state number asks (Some view) good =
    elim (is_folder_kind view.kind) as (λ b. GoodStore (let s : StoreState = if b then state else record state { locks = unlocked state.locks view.entry number asks } in s)) [
      | true ↦ good
      | false ↦ (kept_unlocked state number view.entry asks (length state.opens) (length state.tree.rows) (counted state good)).good
    ]

-- SET_INFO
deleted_good : (state : StoreState) (number : ℕ) (is_deleted : Bool) → GoodStore state → delete_status state number is_deleted ≡ Success → GoodStore (delete_set_through state number is_deleted)
deleted_good state number is_deleted good h =
    let table : View → List StatusRow = λ view. with_statuses (λ refusal. Refusal.SetDisposition refusal) (delete_rows view (has_entries state.tree.rows view.entry) is_deleted) in
    let s = shows state number table h in
    let lawful : first_status (table s.view) ≡ Success = sym (ap (λ (o : Option View). option_map_or (λ view. first_status (table view)) o FileClosed) s.shown) ∙ h in
    let after : Content = changed_in (delete_set is_deleted) state.tree s.view.entry in
    let refusal = unrefused (λ refusal. Refusal.SetDisposition refusal) set_disposition_fails (delete_rows s.view (has_entries state.tree.rows s.view.entry) is_deleted) lawful in
    let kept = kept_deleted state number s.view is_deleted after (length state.opens) (length state.tree.rows) s.by refl refusal (counted state good) in
    subst GoodStore (set_through (delete_set is_deleted) state number s.view after s.by refl) kept.good

based_good : (state : StoreState) (number : ℕ) (ask : BasicAsk) (moment : ℕ) → GoodStore state → basic_status state number ask ≡ Success → GoodStore (basic_set_through state number ask moment)
based_good state number ask moment good h =
    let s = shows state number (λ view. with_statuses (λ refusal. Refusal.SetBasic refusal) (basic_rows view ask)) h in
    let after : Content = changed_in (entry_set ask moment) state.tree s.view.entry in
    let kept = kept_based state number s.view ask moment after (length state.opens) (length state.tree.rows) s.by refl (counted state good) in
    subst GoodStore (set_through (entry_set ask moment) state number s.view after s.by refl) kept.good

space_of_size : (tree : Content) (n size : ℕ) → size ≤ tree.limits.file_bytes → used_space (with_size tree n size).rows ≤ tree.capacity → has_no_space tree n size ≡ false
space_of_size tree n size small fits = grind (arith, nat_tests, small, fits)

sized_good : (state : StoreState) (number size : ℕ) (is_allocation : Bool) (moment : ℕ) → GoodStore state → size_status state number size ≡ Success → GoodStore (size_set_through state number size is_allocation moment)
sized_good state number size is_allocation moment good h =
    let s = shows state number (λ view. with_statuses (λ refusal. Refusal.SetSize refusal) (size_rows view (has_no_space state.tree view.entry size))) h in
    let may = (size_succeeds state number size s.view s.shown).0 h in
    let free = space_of_size state.tree s.view.entry size may.small may.fits in
    let after : Content = changed_in (resized_file size moment) state.tree s.view.entry in
    let result : Result ℕ StoreFault = Ok 0 in
    let kept = kept_sized result state number s.view size moment after (length state.opens) (length state.tree.rows) s.by may.file free refl tt (counted state good) in
    elim (leaves_size s.view.size size is_allocation) as (λ b. leaves_size s.view.size size is_allocation ≡ b → GoodStore (size_set_through state number size is_allocation moment)) [
      | true ↦ λ e. subst GoodStore (nothing_set state number s.view size is_allocation moment s.by e) good
      | false ↦ λ e. subst GoodStore (sized_done result state number s.view size is_allocation moment after s.by e refl) kept.good
    ] refl

-- a rename
name_passes : (empty bad : Bool) (rest : List (DecidingRow RenameRefusal)) → first_decided ((empty, Some NameBeginsWithSeparator) ∷ (bad, Some NameIsNoPath) ∷ rest) ≡ None → (empty ≡ false) × (bad ≡ false) × (first_decided rest ≡ None)
name_passes true bad rest h = absurd (cc)
name_passes false true rest h = absurd (cc)
name_passes false false rest h = (refl, refl, h)

name_lawful : (empty bad : Bool) → empty ≡ false → bad ≡ false → (rest : List (DecidingRow RenameRefusal)) → first_decided ((empty, Some NameBeginsWithSeparator) ∷ (bad, Some NameIsNoPath) ∷ rest) ≡ first_decided rest
name_lawful empty bad e f rest = rw (e, f) refl

renamed_good : (state : StoreState) (number : ℕ) (name : List ℕ) (moment : ℕ) (replace : Bool) → GoodStore state → rename_status state number name replace ≡ Success → GoodStore (renamed_through state number name moment)
renamed_good state number name moment replace good h =
    let rows : List Row = state.tree.rows in
    let to : Path = path_named name in
    let table : View → List StatusRow = λ view. with_decided_statuses (λ refusal. Refusal.Rename refusal) (rename_rows rows state.opens view name replace (path_numbered rows view.entry) to) in
    let s = shows state number table h in
    let view : View = s.view in
    let row : Row = s.by.row in
    let at : numbered rows view.entry ≡ Some row = at_shown state number view s.by in
    let from : path_numbered rows view.entry ≡ row.0 = path_found rows view.entry row at in
    let whole : first_status (with_decided_statuses (λ refusal. Refusal.Rename refusal) (rename_rows rows state.opens view name replace row.0 to)) ≡ Success =
    ap (λ (p : Path). first_status (with_decided_statuses (λ refusal. Refusal.Rename refusal) (rename_rows rows state.opens view name replace p to))) (sym from)
    ∙ sym (ap (λ (o : Option View). option_map_or (λ view. first_status (table view)) o FileClosed) s.shown) ∙ h in
    let refusal : first_decided (rename_rows rows state.opens view name replace row.0 to) ≡ None = decided_unrefused (λ refusal. Refusal.Rename refusal) rename_fails (rename_rows rows state.opens view name replace row.0 to) whole in
    let middle : List (DecidingRow RenameRefusal) = rows_by rows state.opens view row.0 to replace (is_same_path row.0 to) (is_some (entry_at rows to)) (is_not_replaced state.opens (entry_at rows to)) in
    let named = name_passes (length name == 0 || is_separator (slice_index name 0)) (is_some (path_fault name)) (middle ++ (would_be_too_deep rows row.0 to, Some PathTooDeep) ∷ []) refusal in
    let lawful : (rest : List (DecidingRow RenameRefusal)) → first_decided (name_rows name ++ rest) ≡ first_decided rest = name_lawful (length name == 0 || is_separator (slice_index name 0)) (is_some (path_fault name)) named.0 named.1 in
    let passed : first_decided middle ≡ None = decided_before middle ((would_be_too_deep rows row.0 to, Some PathTooDeep) ∷ []) named.2 in
    let free : move_fault state.tree view.entry to ≡ None = no_move_fault (move_fault state.tree view.entry to) (sym (refusal_moved state.tree state.opens view row to name replace good.tree at lawful passed) ∙ refusal) in
    let way = way_between rows (path_numbered rows view.entry) to in
    let told : first_decided (way_rows rows state.opens view way replace) ≡ None =
    ap (λ (p : Path). first_decided (way_rows rows state.opens view (way_between rows p to) replace)) from
    ∙ ap first_decided (way_told rows state.opens view row to replace good.tree.apart at from) ∙ passed in
    let path = is_path name named.1 in
    let after : Content = renamed_tree state.tree view.entry (path_spelled name) moment in
    let kept = kept_renamed state number view way name (path_spelled name) replace None (length state.opens) (length rows) moment (count_replaced view.entry way.target) after s.by (record { found = refl; spelled = refl; lawful = lawful })
    (counted state good) (sym told) refl free path.lawful refl refl in
    subst GoodStore (renamed_done state number view name (path_spelled name) moment after s.by refl refl) kept.good

-- CLOSE
closed_good : (state : StoreState) (number : ℕ) → GoodStore state → GoodStore (closed state number)
closed_good state number good =
    elim (open_of state.opens number) as (λ o. open_of state.opens number ≡ o → GoodStore (closed state number)) [
      | None ↦ λ e. subst GoodStore (sym (ap (λ (o : Option OpenRow). option_map_or (closed_open state) o state) e)) good
      | Some row ↦ λ e. good_closed state number good (ap (λ (o : Option OpenRow). is_some o) e)
    ] refl

step_good : (most : ℕ) (state : StoreState) (step : StoreStep) → GoodStore state → Succeeds most state step → GoodStore (stepped state step)
step_good most state (creates ask moment) good h = created_good state ask moment good h
step_good most state (writes number offset buffer moment) good h = written_good most state number offset buffer moment good h
step_good most state (locks number asks) good h = locked_good state number asks good h
step_good most state (unlocks number asks) good h = unlocked_good state number asks (open_view state number) good
step_good most state (sets_delete number is_deleted) good h = deleted_good state number is_deleted good h
step_good most state (sets_size number size is_allocation moment) good h = sized_good state number size is_allocation moment good h
step_good most state (sets_basic number ask moment) good h = based_good state number ask moment good h
step_good most state (renames number name moment) good h = renamed_good state number name moment h.0 good h.1
step_good most state (sets_scan number scan) good h =
    (kept_scanned state.tree state.opens (with_scan number scan state.opens) state.locks state.next (length state.opens) (length state.tree.rows) number scan refl (counted state good)).good
step_good most state (closes number) good h = closed_good state number good
step_good most state (closes_all owner) good h = (all_left state owner good).good

pub steps_good : (most : ℕ) (state : StoreState) (steps : List StoreStep) → GoodStore state → AllSucceed most state steps → GoodStore (stepped_all state steps)
steps_good most state [] good h = good
steps_good most state (step ∷ steps) good h = steps_good most (stepped state step) steps (step_good most state step good h.0) h.1
