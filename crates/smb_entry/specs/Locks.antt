-- Why a LOCK is refused, and by which status, by what an open shows ([MS-SMB2] 3.3.5.14). The rows are those of
-- docs/PROFILE.md.
use Rattle.std.specs.Prelude.{Option, None, Some, unwrap_or, option_and_then, if◌then◌else◌}
use Rattle.std.specs.Option.{option_map}
use Rattle.smb_wire.specs.declared.nt_status.NtStatus.{NtStatus}
use Rattle.smb_wire.specs.declared.nt_status.NtStatus.TheVariants.{Success, FileClosed}
use Rattle.smb_refusals.specs.declared.file.LockRefusal.{LockRefusal}
use Rattle.smb_refusals.specs.declared.file.LockRefusal.TheVariants.{EntryIsDirectory, FlagsInvalid, RangePastTheEnd, NoLockLeft, LockConflicts, RangeNotLocked}
use Rattle.smb_refusals.specs.declared.refusal.Refusal.{Refusal}
use Rattle.smb_refusals.specs.Refusals.{refusal_status}
use Rattle.smb_tree.specs.Entries.{is_folder_kind}
use Rattle.smb_locks.specs.declared.fault.LockFault.{LockFault}
use Rattle.smb_locks.specs.declared.fault.LockFault.TheVariants.{BadFlags, BadRange, Full, NotGranted, NotLocked, NoMemory}
use Rattle.smb_access.specs.declared.view.View.{View}

-- why an element of a LOCK is refused, or all of it for its flags ([MS-SMB2] 3.3.5.14.1, 3.3.5.14.2): LK2 to LK6; no
-- definition refuses for being out of memory
abbrev pub lock_refusal_of : LockFault → Option LockRefusal
lock_refusal_of BadFlags = Some FlagsInvalid
lock_refusal_of BadRange = Some RangePastTheEnd
lock_refusal_of Full = Some NoLockLeft
lock_refusal_of NotGranted = Some LockConflicts
lock_refusal_of NotLocked = Some RangeNotLocked
lock_refusal_of NoMemory = None

-- why a LOCK of an open that shows this is refused, by why its elements are: LK1, a folder has no locks ([MS-FSA]
-- 2.1.5.8), before all else
abbrev pub lock_refusal_by : Option View → Option LockFault → Option LockRefusal
lock_refusal_by None fault = None
lock_refusal_by (Some view) fault =
    if is_folder_kind view.kind then Some EntryIsDirectory else option_and_then lock_refusal_of fault

-- the status by which an element is refused
abbrev pub lock_fault_status : LockFault → Option NtStatus
lock_fault_status fault = option_map (λ refusal. refusal_status (Refusal.Lock refusal)) (lock_refusal_of fault)

-- the status of a LOCK of an open that shows this, by why its elements are refused; no open of the number exists where
-- it shows nothing
abbrev pub lock_status_by : Option View → Option LockFault → NtStatus
lock_status_by None fault = FileClosed
lock_status_by (Some view) fault =
    if is_folder_kind view.kind then refusal_status (Refusal.Lock EntryIsDirectory)
    else unwrap_or (option_and_then lock_fault_status fault) Success
