-- Refusals of a store.
use Rattle.std.specs.Prelude.{◌≡◌, ◌≢◌}
use Rattle.smb_access.specs.declared.fault.StoreFault.{StoreFault}
use Rattle.smb_access.specs.declared.fault.StoreFault.TheVariants.{Status, NoMemory as NoRoom}
use Rattle.smb_wire.specs.declared.nt_status.NtStatus.{NtStatus}
use Rattle.smb_wire.specs.declared.nt_status.NtStatus.TheVariants.{Success}
use Rattle.smb_wire.specs.NtStatus.{status_code}
use Rattle.smb_refusals.specs.declared.refused_by.RefusedBy.{RefusedBy}
use Rattle.smb_refusals.specs.declared.refusal.Refusal.{Refusal}
use Rattle.smb_refusals.specs.Refusals.{refusal_status}

-- a refusal tells the status, which is not STATUS_SUCCESS; want of memory comes only in its place
abbrev pub IsRefusal : NtStatus → StoreFault → Type 0
IsRefusal status (Status code) = (code ≡ status_code status) × (status ≢ Success)
IsRefusal status NoRoom = status ≡ Success

-- a refusal by a row, as the store gives it: by its status
abbrev pub store_fault : RefusedBy Refusal → StoreFault
store_fault (RefusedBy.Row refusal) = Status (status_code (refusal_status refusal))
store_fault RefusedBy.NoMemory = NoRoom
