-- LOCK and UNLOCK through an open of a store.
use Rattle.std.proofs.Common.{◌≡◌, ◌≢◌, ℕ, Bool, true, false, not, if◌then◌else◌, List, ◌++◌, length, take, Option, None, Some, is_some, Contains, refl, sym, ap, subst, ◌∙◌}
use Rattle.std.specs.Prelude.{unwrap_or, option_and_then, cond}
use Rattle.std.specs.Option.{option_map, option_map_or}
use Rattle.smb_wire.specs.declared.nt_status.NtStatus.TheVariants.{Success, InvalidParameter, InvalidDeviceRequest, AccessDenied, EndOfFile, FileLockConflict, FileClosed, DiskFull}
use Rattle.smb_tree.specs.Entries.{is_folder_kind}
use Rattle.smb_locks.specs.declared.ask.LockAsk.{LockAsk}
use Rattle.smb_locks.specs.declared.fault.LockFault.{LockFault}
use Rattle.smb_locks.specs.declared.fault.LockFault.TheVariants.{BadFlags, BadRange, Full, NotGranted, NotLocked, NoMemory}
use Rattle.smb_locks.specs.declared.fault.UnlockError.{UnlockError}
use Rattle.smb_locks.specs.declared.lock.Lock.{Lock}
use Rattle.smb_locks.specs.Asks.{locks_asked}
use Rattle.smb_locks.specs.Parts.{are_locks}
use Rattle.smb_locks.specs.Good.{GoodLockTable}
use Rattle.smb_locks.specs.Laws.{others_locks}
use Rattle.smb_locks.specs.Conflicts.{is_write_barred}
use Rattle.smb_locks.specs.Locking.{locks_fault, lock_all_fault}
use Rattle.smb_locks.specs.Ranges.{Overlap}
use Rattle.smb_locks.specs.Table.{Table, locks_on, locked, unlocked, without_holder}
use Rattle.smb_locks.specs.Unlocking.{unlock_all_error}
use Rattle.smb_locks.proofs.Asked.{no_memory}
use Rattle.smb_locks.proofs.Members.{others_kept}
use Rattle.smb_locks.proofs.Tables.{on_with, on_dropped}
use Rattle.smb_access.specs.declared.open_row.OpenRow.{OpenRow}
use Rattle.smb_access.specs.declared.view.View.{View}
use Rattle.smb_access.specs.Opens.{open_of}
use Rattle.smb_refusals.specs.declared.refusal.Refusal.{Refusal}
use Rattle.smb_refusals.specs.Rows.{first_status, with_statuses}
use Rattle.smb_entry.specs.Parts.{keeps_from_reading, keeps_from_writing, read_rows, write_rows, has_no_room, locks_shown}
use Rattle.smb_entry.specs.Locks.{lock_refusal_of, lock_fault_status, lock_status_by}
use Rattle.smb_opens.specs.Bytes.{read_status, write_status}
use Rattle.smb_opens.specs.Close.{closed}
use Rattle.smb_opens.specs.Parts.{closed_open, with_locks_of}
use Rattle.smb_opens.specs.Locks.{lock_status, unlock_status, locked_through, unlocked_through}
use Rattle.smb_opens.specs.State.{StoreState}
use Rattle.smb_opens.specs.Views.{open_view}
use Rattle.smb_opens.proofs.Closing.{number_found}
use Rattle.smb_opens.proofs.Locking.{has_row}
use Rattle.smb_content_laws.specs.Locking.{LosesEach}
use Rattle.smb_content_laws.proofs.OthersLocks.{others_locked, others_unlocked, others_twice}
use Rattle.smb_content_laws.proofs.Taken.{takes_asked, takes_before}
use Rattle.smb_content_laws.proofs.Granted.{reads_locked, writes_locked}

-- a view that is no folder's, and nothing that refuses
record IsGrantedBy (view : Option View) (fault : Option LockFault) : Type 0 where
  shown : View
  is : view ≡ Some shown
  file : is_folder_kind shown.kind ≡ false
  free : fault ≡ None

no_fault : (fault : Option LockFault) → (fault ≡ Some NoMemory → ⊥) → unwrap_or (option_and_then lock_fault_status fault) Success ≡ Success → fault ≡ None
no_fault None memory h = refl
no_fault (Some BadFlags) memory h = cc
no_fault (Some BadRange) memory h = cc
no_fault (Some Full) memory h = cc
no_fault (Some NotGranted) memory h = cc
no_fault (Some NotLocked) memory h = cc
no_fault (Some NoMemory) memory h = absurd (memory refl)

granted_by : (view : Option View) (fault : Option LockFault) → (fault ≡ Some NoMemory → ⊥) → lock_status_by view fault ≡ Success → IsGrantedBy view fault
granted_by None fault memory h = absurd (let e : FileClosed ≡ Success = h in cc)
granted_by (Some view) fault memory h = at_kind (is_folder_kind view.kind) refl h
  where
    at_kind : (b : Bool) → is_folder_kind view.kind ≡ b → (if b then InvalidDeviceRequest else unwrap_or (option_and_then lock_fault_status fault) Success) ≡ Success → IsGrantedBy (Some view) fault
    at_kind true t e = absurd (let f : InvalidDeviceRequest ≡ Success = e in cc)
    at_kind false t e = record { shown = view; is = refl; file = t; free = no_fault fault memory e }

lock_memory : (most : ℕ) (locks : List Lock) (holder : ℕ) (asks : List LockAsk) → lock_all_fault most locks holder asks ≡ Some NoMemory → ⊥
lock_memory most locks holder asks h =
    elim (are_locks asks) as (λ b. (if not b then Some BadFlags else locks_fault most locks (locks_asked holder asks)) ≡ Some NoMemory → ⊥) [
      | true ↦ no_memory most locks (locks_asked holder asks)
      | false ↦ λ e. cc
    ] h

unlock_memory : (locks : List Lock) (holder : ℕ) (asks : List LockAsk) → option_map (λ (error : UnlockError). error.fault) (unlock_all_error locks holder asks) ≡ Some NoMemory → ⊥
unlock_memory locks holder asks h =
    elim (unlock_all_error locks holder asks) as (λ o. unlock_all_error locks holder asks ≡ o → option_map (λ (error : UnlockError). error.fault) o ≡ Some NoMemory → ⊥) [
      | None ↦ λ _ e. cc
      | Some error ↦ λ e f. (
          let told = has_row locks holder asks error e in
          let same : error.fault ≡ NoMemory = cc in
          let none : is_some (lock_refusal_of error.fault) ≡ false = ap (λ (fault : LockFault). is_some (lock_refusal_of fault)) same in
          absurd (cc)
          )
    ] refl h

no_error : (o : Option UnlockError) → option_map (λ (error : UnlockError). error.fault) o ≡ None → o ≡ None
no_error None h = refl
no_error (Some error) h = cc

-- the store after a LOCK or an UNLOCK of a file
through_is : (table : ℕ → Table) (state : StoreState) (view : Option View) (shown : View) → view ≡ Some shown → is_folder_kind shown.kind ≡ false → with_locks_of table state view ≡ record state { locks = table shown.entry }
through_is table state view shown is file = ap (with_locks_of table state) is ∙ rw file refl

-- what is granted is of what the open of a number shows
same_shown : (state : StoreState) (number : ℕ) (view shown : View) → open_view state number ≡ Some view → open_view state number ≡ Some shown → shown ≡ view
same_shown state number view shown one other = let both : Some shown ≡ Some view = sym other ∙ one in cc

pub lock_free : (state : StoreState) (number : ℕ) (asks : List LockAsk) (view : View) → open_view state number ≡ Some view → lock_status state number asks ≡ Success → (is_folder_kind view.kind ≡ false) × (lock_all_fault state.tree.limits.locks (locks_on state.locks view.entry) number asks ≡ None)
lock_free state number asks view shown h =
    let g = granted_by (open_view state number) (lock_all_fault state.tree.limits.locks (locks_shown state.locks (open_view state number)) number asks) (lock_memory state.tree.limits.locks (locks_shown state.locks (open_view state number)) number asks) h in (
      ap (λ (v : View). is_folder_kind v.kind) (sym (same_shown state number view g.shown shown g.is)) ∙ g.file,
      ap (λ (v : Option View). lock_all_fault state.tree.limits.locks (locks_shown state.locks v) number asks) (sym shown) ∙ g.free,
    )

pub unlock_free : (state : StoreState) (number : ℕ) (asks : List LockAsk) (view : View) → open_view state number ≡ Some view → unlock_status state number asks ≡ Success → (is_folder_kind view.kind ≡ false) × (unlock_all_error (locks_on state.locks view.entry) number asks ≡ None)
unlock_free state number asks view shown h =
    let error = unlock_all_error (locks_shown state.locks (open_view state number)) number asks in
    let g = granted_by (open_view state number) (option_map (λ (e : UnlockError). e.fault) error) (unlock_memory (locks_shown state.locks (open_view state number)) number asks) h in (
      ap (λ (v : View). is_folder_kind v.kind) (sym (same_shown state number view g.shown shown g.is)) ∙ g.file,
      ap (λ (v : Option View). unlock_all_error (locks_shown state.locks v) number asks) (sym shown) ∙ no_error error g.free,
    )

module _ (state : StoreState) (number : ℕ) (asks : List LockAsk) (good : GoodLockTable state.locks) where
  pub record IsLocked : Type 0 where
    pub view : View
    pub shown : open_view state number ≡ Some view
    pub file : is_folder_kind view.kind ≡ false
    pub free : lock_all_fault state.tree.limits.locks (locks_on state.locks view.entry) number asks ≡ None
    pub after : locked_through state number asks ≡ record state { locks = locked state.locks view.entry number asks }

  pub is_locked : lock_status state number asks ≡ Success → IsLocked
  is_locked h =
      let g = granted_by (open_view state number) (lock_all_fault state.tree.limits.locks (locks_shown state.locks (open_view state number)) number asks) (lock_memory state.tree.limits.locks (locks_shown state.locks (open_view state number)) number asks) h in
      record {
        view = g.shown;
        shown = g.is;
        file = g.file;
        free = ap (λ (v : Option View). lock_all_fault state.tree.limits.locks (locks_shown state.locks v) number asks) (sym g.is) ∙ g.free;
        after = through_is (λ entry. locked state.locks entry number asks) state (open_view state number) g.shown g.is g.file;
      }

  pub adds_through : (view : View) → open_view state number ≡ Some view → is_folder_kind view.kind ≡ false →
      (locks_on (locked_through state number asks).locks view.entry ≡ locks_on state.locks view.entry ++ locks_asked number asks)
      × ((other : ℕ) → other ≢ view.entry → locks_on (locked_through state number asks).locks other ≡ locks_on state.locks other)
  adds_through view shown file =
      let table : (locked_through state number asks).locks ≡ locked state.locks view.entry number asks = ap (λ (s : StoreState). s.locks) (through_is (λ entry. locked state.locks entry number asks) state (open_view state number) view shown file) in (
        ap (λ (t : Table). locks_on t view.entry) table ∙ on_with state.locks view.entry (locks_on state.locks view.entry ++ locks_asked number asks) good,
        λ other apart. ap (λ (t : Table). locks_on t other) table ∙ (others_kept state.locks view.entry other number asks apart).0,
      )

  pub takes_through : (view : View) → open_view state number ≡ Some view → is_folder_kind view.kind ≡ false →
      (unlock_all_error (locks_on state.locks view.entry) number asks ≡ None → LosesEach number asks (locks_on state.locks view.entry) (locks_on (unlocked_through state number asks).locks view.entry))
      × ((error : UnlockError) → unlock_all_error (locks_on state.locks view.entry) number asks ≡ Some error → LosesEach number (take error.done asks) (locks_on state.locks view.entry) (locks_on (unlocked_through state number asks).locks view.entry))
      × ((other : ℕ) → other ≢ view.entry → locks_on (unlocked_through state number asks).locks other ≡ locks_on state.locks other)
  takes_through view shown file =
      let table : (unlocked_through state number asks).locks ≡ unlocked state.locks view.entry number asks = ap (λ (s : StoreState). s.locks) (through_is (λ entry. unlocked state.locks entry number asks) state (open_view state number) view shown file) in (
        λ free. subst (λ (t : Table). LosesEach number asks (locks_on state.locks view.entry) (locks_on t view.entry)) (sym table) (takes_asked state.locks view.entry number asks good free),
        λ error refused. subst (λ (t : Table). LosesEach number (take error.done asks) (locks_on state.locks view.entry) (locks_on t view.entry)) (sym table) (takes_before state.locks view.entry number asks error good refused),
        λ other apart. ap (λ (t : Table). locks_on t other) table ∙ (others_kept state.locks view.entry other number asks apart).1,
      )

  -- whether the request is refused or not
  others_through : (table : ℕ → Table) (file : ℕ) → ((entry : ℕ) → others_locks number (locks_on (table entry) file) ≡ others_locks number (locks_on state.locks file)) → (view : Option View) →
      others_locks number (locks_on (with_locks_of table state view).locks file) ≡ others_locks number (locks_on state.locks file)
  others_through table file same None = refl
  others_through table file same (Some view) =
      elim (is_folder_kind view.kind) as (λ b. others_locks number (locks_on (let s : StoreState = if b then state else record state { locks = table view.entry } in s).locks file) ≡ others_locks number (locks_on state.locks file)) [
        | true ↦ refl
        | false ↦ same view.entry
      ]

  own_closed : (file : ℕ) (o : Option OpenRow) → open_of state.opens number ≡ o → is_some o ≡ true → locks_on (closed state number).locks file ≡ others_locks number (locks_on state.locks file)
  own_closed file None e some = absurd (cc)
  own_closed file (Some row) e some =
      let dropped : (closed state number).locks ≡ without_holder row.number state.locks = ap (λ (o : Option OpenRow). (option_map_or (closed_open state) o state).locks) e in
      let own : row.number ≡ number = number_found state.opens number row e in
      ap (λ (t : Table). locks_on t file) (dropped ∙ ap (λ (n : ℕ). without_holder n state.locks) own) ∙ on_dropped number file state.locks good.rising

  others_closed : (file : ℕ) (o : Option OpenRow) → open_of state.opens number ≡ o → others_locks number (locks_on (closed state number).locks file) ≡ others_locks number (locks_on state.locks file)
  others_closed file None e =
      let left : closed state number ≡ state = ap (λ (o : Option OpenRow). option_map_or (closed_open state) o state) e in
      ap (λ (s : StoreState). others_locks number (locks_on s.locks file)) left
  others_closed file (Some row) e =
      ap (others_locks number) (own_closed file (Some row) e refl) ∙ others_twice number (locks_on state.locks file)

  pub other_opens : (file : ℕ) →
      (others_locks number (locks_on (locked_through state number asks).locks file) ≡ others_locks number (locks_on state.locks file))
      × (others_locks number (locks_on (unlocked_through state number asks).locks file) ≡ others_locks number (locks_on state.locks file))
      × (others_locks number (locks_on (closed state number).locks file) ≡ others_locks number (locks_on state.locks file))
      × (is_some (open_of state.opens number) ≡ true → locks_on (closed state number).locks file ≡ others_locks number (locks_on state.locks file))
  other_opens file = (
    others_through (λ entry. locked state.locks entry number asks) file (λ entry. others_locked state.locks entry number good file asks) (open_view state number),
    others_through (λ entry. unlocked state.locks entry number asks) file (λ entry. others_unlocked state.locks entry number good file asks) (open_view state number),
    others_closed file (open_of state.opens number) refl,
    own_closed file (open_of state.opens number) refl,
  )

-- no row but that of the locks is their conflict
no_read_row : (a b c e : Bool) → (cond a InvalidParameter (cond b InvalidDeviceRequest (cond c AccessDenied (cond e EndOfFile Success)))) ≡ FileLockConflict → ⊥
no_read_row true b c e h = cc
no_read_row false true c e h = cc
no_read_row false false true e h = cc
no_read_row false false false true h = cc
no_read_row false false false false h = cc

no_write_row : (a b c e : Bool) → (cond a InvalidParameter (cond b InvalidDeviceRequest (cond c AccessDenied (cond e DiskFull Success)))) ≡ FileLockConflict → ⊥
no_write_row true b c e h = cc
no_write_row false true c e h = cc
no_write_row false false true e h = cc
no_write_row false false false true h = cc
no_write_row false false false false h = cc

pub read_locked : (state : StoreState) (number most minimum : ℕ) (asks : List LockAsk) (lock : Lock) → GoodLockTable state.locks → lock_status state number asks ≡ Success → Contains (locks_asked number asks) lock →
    read_status (locked_through state number asks) most number lock.range.offset lock.range.length minimum ≢ FileLockConflict
read_locked state number most minimum asks lock good h c e =
    let l = is_locked state number asks good h in
    let table : Table = locked state.locks l.view.entry number asks in
    let after : StoreState = record state { locks = table } in
    let free : keeps_from_reading table number l.view lock.range.offset lock.range.length ≡ false = reads_locked state.tree.limits.locks state.locks l.view.entry number asks lock good l.free c in
    let status : read_status (locked_through state number asks) most number lock.range.offset lock.range.length minimum ≡ first_status (with_statuses (λ refusal. Refusal.Read refusal) (read_rows most l.view false lock.range.offset lock.range.length minimum)) =
    ap (λ (s : StoreState). read_status s most number lock.range.offset lock.range.length minimum) l.after
    ∙ ap (λ (v : Option View). option_map_or (λ view. first_status (with_statuses (λ refusal. Refusal.Read refusal) (read_rows most view (keeps_from_reading table number view lock.range.offset lock.range.length) lock.range.offset lock.range.length minimum))) v FileClosed) l.shown
    ∙ ap (λ (b : Bool). first_status (with_statuses (λ refusal. Refusal.Read refusal) (read_rows most l.view b lock.range.offset lock.range.length minimum))) free in
    no_read_row _ _ _ _ (sym status ∙ e)

pub write_locked : (state : StoreState) (number most : ℕ) (buffer : List ℕ) (asks : List LockAsk) (lock : Lock) → GoodLockTable state.locks → lock_status state number asks ≡ Success → Contains (locks_asked number asks) lock → lock.exclusive ≡ true →
    ((also : Lock) → Contains (locks_asked number asks) also → also.exclusive ≡ false → Overlap also.range lock.range → ⊥) → lock.range.length ≡ length buffer →
    write_status (locked_through state number asks) most number lock.range.offset buffer ≢ FileLockConflict
write_locked state number most buffer asks lock good h c exclusive alone long e =
    let l = is_locked state number asks good h in
    let table : Table = locked state.locks l.view.entry number asks in
    let offset : ℕ = lock.range.offset in
    let full : Bool = has_no_room state.tree l.view.entry offset buffer in
    let barred : is_write_barred (locks_on table l.view.entry) number lock.range ≡ false = writes_locked state.tree.limits.locks state.locks l.view.entry number asks lock good l.free c exclusive alone in
    let free : keeps_from_writing table number l.view offset (length buffer) ≡ false =
    ap (λ (n : ℕ). is_write_barred (locks_on table l.view.entry) number (record { offset = offset; length = n })) (sym long) ∙ barred in
    let status : write_status (locked_through state number asks) most number offset buffer ≡ first_status (with_statuses (λ refusal. Refusal.Write refusal) (write_rows most l.view false offset (length buffer) full)) =
    ap (λ (s : StoreState). write_status s most number offset buffer) l.after
    ∙ ap (λ (v : Option View). option_map_or (λ view. first_status (with_statuses (λ refusal. Refusal.Write refusal) (write_rows most view (keeps_from_writing table number view offset (length buffer)) offset (length buffer) (has_no_room state.tree view.entry offset buffer)))) v FileClosed) l.shown
    ∙ ap (λ (b : Bool). first_status (with_statuses (λ refusal. Refusal.Write refusal) (write_rows most l.view b offset (length buffer) full))) free in
    no_write_row _ _ _ _ (sym status ∙ e)
