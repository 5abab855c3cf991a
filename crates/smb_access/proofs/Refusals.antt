-- A refusal by a row of a table is, among the faults of a store, the status of that table.
use Rattle.std.proofs.Common.{◌≡◌, ◌≢◌, List, sym, ap, subst, ◌∙◌}
use Rattle.smb_wire.specs.NtStatus.{status_code}
use Rattle.smb_wire.specs.declared.nt_status.NtStatus.TheVariants.{Success}
use Rattle.smb_refusals.specs.declared.refusal.Refusal.{Refusal}
use Rattle.smb_refusals.specs.declared.refused_by.RefusedBy.{RefusedBy}
use Rattle.smb_refusals.specs.declared.refused_by.RefusedBy.TheVariants.{Row, NoMemory}
use Rattle.smb_refusals.specs.Refusals.{refusal_status}
use Rattle.smb_refusals.specs.Refused.{IsRefusedBy, refused_as}
use Rattle.smb_refusals.specs.Rows.{RefusalRow, first_refusal, first_status, with_statuses}
use Rattle.smb_refusals.proofs.RowLemmas.{succeeds, fails_by}
use Rattle.smb_access.specs.declared.fault.StoreFault.{StoreFault}
use Rattle.smb_access.specs.Faults.{IsRefusal, store_fault}

pub store_fault_is : {R : Type 0} (refusal_of : R → Refusal) → ((row : R) → refusal_status (refusal_of row) ≢ Success) → (rows : List (RefusalRow R)) (refused : RefusedBy R) (fault : StoreFault) →
    fault ≡ store_fault (refused_as refusal_of refused) → IsRefusedBy (first_refusal rows) refused → IsRefusal (first_status (with_statuses refusal_of rows)) fault
store_fault_is refusal_of fails rows (Row row) fault e h =
    let status : first_status (with_statuses refusal_of rows) ≡ refusal_status (refusal_of row) = fails_by refusal_of rows row h in
    subst (IsRefusal _) (sym e) (ap status_code (sym status), λ q. fails row (sym status ∙ q))
store_fault_is refusal_of fails rows NoMemory fault e h = subst (IsRefusal _) (sym e) (succeeds refusal_of rows h)
