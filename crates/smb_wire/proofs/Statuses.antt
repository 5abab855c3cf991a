-- Statuses: which one is STATUS_SUCCESS, and that each is read again by its number.
use Rattle.std.proofs.Common.{◌≡◌, ◌≢◌, true, false, refl}
use Rattle.smb_wire.specs.declared.nt_status.NtStatus.{NtStatus}
use Rattle.smb_wire.specs.declared.nt_status.NtStatus.TheVariants.{Success, BufferOverflow, NoMoreFiles, InvalidInfoClass, InfoLengthMismatch, MoreProcessingRequired, InvalidParameter, NoSuchFile, InvalidDeviceRequest, EndOfFile, AccessDenied, ObjectNameInvalid, ObjectNameNotFound, ObjectNameCollision, ObjectPathNotFound, SharingViolation, FileLockConflict, LockNotGranted, DeletePending, LogonFailure, RangeNotLocked, DiskFull, FileIsADirectory, NotSupported, NetworkNameDeleted, BadNetworkName, RequestNotAccepted, DirectoryNotEmpty, NotADirectory, TooManyOpenedFiles, CannotDelete, FileClosed, InvalidLockRange, UserSessionDeleted, Unsuccessful}
use Rattle.smb_wire.specs.NtStatus.{status_code, status_of, is_success}

-- STATUS_SUCCESS alone is a success
pub success_is : (status : NtStatus) → is_success status ≡ true → status ≡ Success
unfolding is_success
success_is Success e = refl
success_is status e = absurd (cc)

pub success_not : (status : NtStatus) → status ≢ Success → is_success status ≡ false
unfolding is_success
success_not Success h = absurd (h refl)
success_not status h = refl

pub success_yes : (status : NtStatus) → status ≡ Success → is_success status ≡ true
unfolding is_success
success_yes Success e = refl
success_yes status e = absurd (cc)

pub read_again : (status : NtStatus) → status_of (status_code status) ≡ status
unfolding status_code status_of
read_again Success = refl
read_again BufferOverflow = refl
read_again NoMoreFiles = refl
read_again InvalidInfoClass = refl
read_again InfoLengthMismatch = refl
read_again MoreProcessingRequired = refl
read_again InvalidParameter = refl
read_again NoSuchFile = refl
read_again InvalidDeviceRequest = refl
read_again EndOfFile = refl
read_again AccessDenied = refl
read_again ObjectNameInvalid = refl
read_again ObjectNameNotFound = refl
read_again ObjectNameCollision = refl
read_again ObjectPathNotFound = refl
read_again SharingViolation = refl
read_again FileLockConflict = refl
read_again LockNotGranted = refl
read_again DeletePending = refl
read_again LogonFailure = refl
read_again RangeNotLocked = refl
read_again DiskFull = refl
read_again FileIsADirectory = refl
read_again NotSupported = refl
read_again NetworkNameDeleted = refl
read_again BadNetworkName = refl
read_again RequestNotAccepted = refl
read_again DirectoryNotEmpty = refl
read_again NotADirectory = refl
read_again TooManyOpenedFiles = refl
read_again CannotDelete = refl
read_again FileClosed = refl
read_again InvalidLockRange = refl
read_again UserSessionDeleted = refl
read_again Unsuccessful = refl
