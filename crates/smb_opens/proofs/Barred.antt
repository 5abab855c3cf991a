-- What locks keep opens from.
use Rattle.std.proofs.Common.{◌≡◌, ◌≢◌, ℕ, List, length, Bool, true, false, cond, Option, None, Some, Contains, refl, sym, ap, subst, ◌∙◌}
use Rattle.std.specs.Option.{option_map_or}
use Rattle.smb_wire.specs.declared.nt_status.NtStatus.TheVariants.{Success, InvalidParameter, InvalidDeviceRequest, AccessDenied, FileLockConflict, FileClosed}
use Rattle.smb_refusals.specs.declared.refusal.Refusal.{Refusal}
use Rattle.smb_refusals.specs.Rows.{first_status, with_statuses}
use Rattle.smb_locks.specs.declared.lock.Lock.{Lock}
use Rattle.smb_locks.specs.Conflicts.{BarsRead, BarsWrite}
use Rattle.smb_locks.specs.Parts.{bars_read, bars_write}
use Rattle.smb_locks.specs.Table.{locks_on}
use Rattle.smb_locks.proofs.Ends.{read_test_from_bar, write_test_from_bar, test_from_some}
use Rattle.smb_access.specs.declared.open_row.OpenRow.{OpenRow}
use Rattle.smb_access.specs.declared.view.View.{View}
use Rattle.smb_entry.specs.Parts.{keeps_from_reading, keeps_from_writing, read_rows, write_rows, has_no_room}
use Rattle.smb_access.specs.Opens.{open_of}
use Rattle.smb_opens.specs.Laws.{ALockKeepsOthersOut}
use Rattle.smb_opens.specs.State.{StoreState}
use Rattle.smb_opens.specs.Views.{open_view}
use Rattle.smb_opens.proofs.Shows.{shown_by, entry_of}

-- where a lock bars the range, some row before it or its own decides
barred_row : (one two three : Bool) → (cond one InvalidParameter (cond two InvalidDeviceRequest (cond three AccessDenied FileLockConflict))) ≢ Success
barred_row true two three e = cc
barred_row false true three e = cc
barred_row false false true e = cc
barred_row false false false e = cc

-- the open that shows this is the one of the number
same_entry : (state : StoreState) (number : ℕ) (row : OpenRow) (view : View) → open_of state.opens number ≡ Some row → Some view ≡ open_view state number → view.entry ≡ row.entry
same_entry state number row view opened v =
    let s = shown_by state number view v in
    let one : Some s.held ≡ Some row = sym s.opened ∙ opened in
    let same : s.held ≡ row = cc in
    entry_of state number view s ∙ ap (λ (r : OpenRow). r.entry) same

read_barred : (state : StoreState) (number offset count : ℕ) (view : View) (lock : Lock) → Contains (locks_on state.locks view.entry) lock → BarsRead number (record { offset = offset; length = count }) lock →
    keeps_from_reading state.locks number view offset count ≡ true
read_barred state number offset count view lock c bar =
    test_from_some (bars_read number (record { offset = offset; length = count })) (BarsRead number (record { offset = offset; length = count })) (read_test_from_bar number (record { offset = offset; length = count }))
    (locks_on state.locks view.entry) (c.0, lock, c.1, c.2, bar)

write_barred : (state : StoreState) (number offset count : ℕ) (view : View) (lock : Lock) → Contains (locks_on state.locks view.entry) lock → BarsWrite number (record { offset = offset; length = count }) lock →
    keeps_from_writing state.locks number view offset count ≡ true
write_barred state number offset count view lock c bar =
    test_from_some (bars_write number (record { offset = offset; length = count })) (BarsWrite number (record { offset = offset; length = count })) (write_test_from_bar number (record { offset = offset; length = count }))
    (locks_on state.locks view.entry) (c.0, lock, c.1, c.2, bar)

read_refused : (state : StoreState) (most number offset count minimum : ℕ) (row : OpenRow) (lock : Lock) (view : Option View) → view ≡ open_view state number → open_of state.opens number ≡ Some row → Contains (locks_on state.locks row.entry) lock →
    BarsRead number (record { offset = offset; length = count }) lock →
    option_map_or (λ view. first_status (with_statuses (λ refusal. Refusal.Read refusal) (read_rows most view (keeps_from_reading state.locks number view offset count) offset count minimum))) view FileClosed ≢ Success
read_refused state most number offset count minimum row lock None v opened c bar = λ e. cc
read_refused state most number offset count minimum row lock (Some view) v opened c bar =
    let here : Contains (locks_on state.locks view.entry) lock = subst (λ (n : ℕ). Contains (locks_on state.locks n) lock) (sym (same_entry state number row view opened v)) c in
    rw (read_barred state number offset count view lock here bar) (barred_row _ _ _)

write_refused : (state : StoreState) (most number offset : ℕ) (buffer : List ℕ) (row : OpenRow) (lock : Lock) (view : Option View) → view ≡ open_view state number → open_of state.opens number ≡ Some row → Contains (locks_on state.locks row.entry) lock →
    BarsWrite number (record { offset = offset; length = length buffer }) lock →
    option_map_or (λ view. first_status (with_statuses (λ refusal. Refusal.Write refusal) (write_rows most view (keeps_from_writing state.locks number view offset (length buffer)) offset (length buffer) (has_no_room state.tree view.entry offset buffer)))) view FileClosed ≢ Success
write_refused state most number offset buffer row lock None v opened c bar = λ e. cc
write_refused state most number offset buffer row lock (Some view) v opened c bar =
    let here : Contains (locks_on state.locks view.entry) lock = subst (λ (n : ℕ). Contains (locks_on state.locks n) lock) (sym (same_entry state number row view opened v)) c in
    rw (write_barred state number offset (length buffer) view lock here bar) (barred_row _ _ _)

pub keeps_out : ALockKeepsOthersOut
keeps_out state most number offset count minimum buffer row lock opened c = (
  λ exclusive other overlap. read_refused state most number offset count minimum row lock (open_view state number) refl opened c (overlap, exclusive, other),
  λ either overlap. write_refused state most number offset buffer row lock (open_view state number) refl opened c (overlap, either),
)
