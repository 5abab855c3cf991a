-- A table through an open: its status is that of its refusal, and a call by statuses follows the one by rows.
use Rattle.std.proofs.Common.{◌≡◌, ◌≢◌, ℕ, List, true, false, Bool, Option, None, Some, if◌then◌else◌, refl, sym, ap, subst, ◌∙◌}
use Rattle.std.specs.Option.{option_map_or, option_map, option_and_then}
use Rattle.std.specs.Prelude.{Result, Ok, Err, IfErr, IsErrAnd, unwrap_or}
use Rattle.smb_wire.specs.NtStatus.{status_code}
use Rattle.smb_wire.specs.declared.nt_status.NtStatus.{NtStatus}
use Rattle.smb_wire.specs.declared.nt_status.NtStatus.TheVariants.{Success, FileClosed}
use Rattle.smb_tree.specs.Entries.{is_folder_kind}
use Rattle.smb_locks.specs.declared.fault.LockFault.{LockFault}
use Rattle.smb_refusals.specs.declared.file.LockRefusal.{LockRefusal}
use Rattle.smb_refusals.specs.declared.refusal.Refusal.{Refusal}
use Rattle.smb_refusals.specs.declared.refused_by.RefusedBy.{RefusedBy}
use Rattle.smb_refusals.specs.declared.refused_by.RefusedBy.TheVariants.{Row, NoMemory}
use Rattle.smb_refusals.specs.Refusals.{refusal_status}
use Rattle.smb_refusals.specs.Refused.{IsRefusedBy, refused_as}
use Rattle.smb_refusals.specs.Rows.{RefusalRow, first_refusal, first_status, with_statuses, first_decided, with_decided_statuses}
use Rattle.smb_refusals.proofs.RowLemmas.{status_is, decided_status_is}
use Rattle.smb_access.specs.declared.fault.StoreFault.{StoreFault}
use Rattle.smb_access.specs.declared.view.View.{View}
use Rattle.smb_access.specs.Faults.{IsRefusal, store_fault}
use Rattle.smb_entry.specs.Locks.{lock_refusal_of, lock_refusal_by, lock_fault_status, lock_status_by}
use Rattle.smb_opens.specs.Renames.{rename_refusals, rename_refusal, rename_status}
use Rattle.smb_opens.specs.State.{StoreState}
use Rattle.smb_opens.specs.Views.{open_view, refusal_through, status_through}

-- the status of a refusal, or SUCCESS where there is none
abbrev pub status_by : {R : Type 0} → (R → Refusal) → Option R → NtStatus
status_by refusal_of refusal = option_map_or (λ row. refusal_status (refusal_of row)) refusal Success

-- the status through an open that exists is that of its refusal
pub through_is : {R : Type 0} (refusal_of : R → Refusal) (state : StoreState) (number : ℕ) (view : View) (rows : View → List (RefusalRow R)) → Some view ≡ open_view state number →
    status_through state number (λ view. with_statuses refusal_of (rows view)) ≡ status_by refusal_of (refusal_through state number rows)
through_is refusal_of state number view rows shows =
    ap (λ (o : Option View). option_map_or (λ v. first_status (with_statuses refusal_of (rows v))) o FileClosed) (sym shows)
    ∙ status_is refusal_of (rows view)
    ∙ ap (λ (o : Option View). status_by refusal_of (option_and_then (λ v. first_refusal (rows v)) o)) shows

pub renamed_is : (state : StoreState) (number : ℕ) (view : View) (name : List ℕ) (replace : Bool) → Some view ≡ open_view state number →
    rename_status state number name replace ≡ status_by (λ refusal. Refusal.Rename refusal) (rename_refusal state number name replace)
renamed_is state number view name replace shows =
    ap (λ (o : Option View). option_map_or (λ v. first_status (with_decided_statuses (λ refusal. Refusal.Rename refusal) (rename_refusals state name replace v))) o FileClosed) (sym shows)
    ∙ decided_status_is (λ refusal. Refusal.Rename refusal) (rename_refusals state name replace view)
    ∙ ap (λ (o : Option View). status_by (λ refusal. Refusal.Rename refusal) (option_and_then (λ v. first_decided (rename_refusals state name replace v)) o)) shows

named_status : (refusal : Option LockRefusal) → unwrap_or (option_map (λ refusal. refusal_status (Refusal.Lock refusal)) refusal) Success ≡ status_by (λ refusal. Refusal.Lock refusal) refusal
named_status None = refl
named_status (Some refusal) = refl

fault_status : (fault : Option LockFault) → unwrap_or (option_and_then lock_fault_status fault) Success ≡ status_by (λ refusal. Refusal.Lock refusal) (option_and_then lock_refusal_of fault)
fault_status None = refl
fault_status (Some fault) = named_status (lock_refusal_of fault)

locked_by : (view : View) (fault : Option LockFault) → lock_status_by (Some view) fault ≡ status_by (λ refusal. Refusal.Lock refusal) (lock_refusal_by (Some view) fault)
locked_by view fault =
    elim (is_folder_kind view.kind) as (λ b. (if b then refusal_status (Refusal.Lock LockRefusal.EntryIsDirectory) else unwrap_or (option_and_then lock_fault_status fault) Success) ≡ status_by (λ refusal. Refusal.Lock refusal) (if b then Some LockRefusal.EntryIsDirectory else option_and_then lock_refusal_of fault)) [
      | true ↦ refl
      | false ↦ fault_status fault
    ]

pub lock_is : (view : Option View) (shown : View) (fault : Option LockFault) → Some shown ≡ view → lock_status_by view fault ≡ status_by (λ refusal. Refusal.Lock refusal) (lock_refusal_by view fault)
lock_is view shown fault shows =
    subst (λ (o : Option View). lock_status_by o fault ≡ status_by (λ refusal. Refusal.Lock refusal) (lock_refusal_by o fault)) shows (locked_by shown fault)

-- a call that no row refuses
pub passes : {R : Type 0} (refusal_of : R → Refusal) (status : NtStatus) (refusal : Option R) → status ≡ status_by refusal_of refusal → refusal ≡ None → status ≡ Success
passes refusal_of status refusal is none = is ∙ ap (status_by refusal_of) none

-- a call that is refused by a row, by its status
pub refused_status : {R : Type 0} (refusal_of : R → Refusal) (status : NtStatus) (refusal : Option R) (row : R) (answer : NtStatus) → status ≡ status_by refusal_of refusal → refusal ≡ Some row → answer ≡ refusal_status (refusal_of row) → status ≡ answer
refused_status refusal_of status refusal row answer is by e = is ∙ ap (status_by refusal_of) by ∙ sym e

-- a call that is refused by a row, or for want of memory
pub refused_fault : {R : Type 0} (refusal_of : R → Refusal) → ((row : R) → refusal_status (refusal_of row) ≢ Success) → (status : NtStatus) (refusal : Option R) (refused : RefusedBy R) (fault : StoreFault) →
    status ≡ status_by refusal_of refusal → IsRefusedBy refusal refused → fault ≡ store_fault (refused_as refusal_of refused) → IsRefusal status fault
refused_fault refusal_of fails status refusal (Row row) fault is by e =
    let named : status ≡ refusal_status (refusal_of row) = is ∙ ap (status_by refusal_of) by in
    subst (IsRefusal status) (sym e) (ap status_code (sym named), λ q. fails row (sym named ∙ q))
refused_fault refusal_of fails status refusal NoMemory fault is by e =
    subst (IsRefusal status) (sym e) (is ∙ ap (status_by refusal_of) by)

-- what an inner call refuses, handed on
pub handed_row : {X R : Type 0} (r : Result X (RefusedBy R)) (row : R) (refusal : Option R) → IsErrAnd r (λ refused. refused ≡ Row row) → refusal ≡ Some row → IfErr r (λ refused. IsRefusedBy refusal refused)
handed_row (Ok x) row refusal gives is = tt
handed_row (Err refused) row refusal gives is = subst (IsRefusedBy refusal) (sym gives) is

pub handed_refused : {X R : Type 0} (r : Result X (RefusedBy R)) (refused : RefusedBy R) (refusal : Option R) → IsErrAnd r (λ found. found ≡ refused) → IsRefusedBy refusal refused → IfErr r (λ found. IsRefusedBy refusal found)
handed_refused (Ok x) refused refusal gives why = tt
handed_refused (Err found) refused refusal gives why = subst (IsRefusedBy refusal) (sym gives) why
