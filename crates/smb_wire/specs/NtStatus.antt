-- NTSTATUS values, by the standard's names without STATUS_ before them ([MS-ERREF] 2.3.1).
use Rattle.std.specs.Prelude.{◌≡◌, ◌==◌, ℕ, Bool, true, false, List, [], ◌∷◌, find, unwrap_or}
use Rattle.smb_wire.specs.declared.nt_status.NtStatus.{NtStatus}
use Rattle.smb_wire.specs.declared.nt_status.NtStatus.TheVariants.{Success, BufferOverflow, NoMoreFiles, InvalidInfoClass, InfoLengthMismatch, MoreProcessingRequired, InvalidParameter, NoSuchFile, InvalidDeviceRequest, EndOfFile, AccessDenied, ObjectNameInvalid, ObjectNameNotFound, ObjectNameCollision, ObjectPathNotFound, SharingViolation, FileLockConflict, LockNotGranted, DeletePending, LogonFailure, RangeNotLocked, DiskFull, FileIsADirectory, NotSupported, NetworkNameDeleted, BadNetworkName, RequestNotAccepted, DirectoryNotEmpty, NotADirectory, TooManyOpenedFiles, CannotDelete, FileClosed, InvalidLockRange, UserSessionDeleted, Unsuccessful}

-- the number of a status
unfoldable pub status_code : NtStatus → ℕ
status_code Success = 0
status_code BufferOverflow = 0x80000005
status_code NoMoreFiles = 0x80000006
status_code InvalidInfoClass = 0xC0000003
status_code InfoLengthMismatch = 0xC0000004
status_code MoreProcessingRequired = 0xC0000016
status_code InvalidParameter = 0xC000000D
status_code NoSuchFile = 0xC000000F
status_code InvalidDeviceRequest = 0xC0000010
status_code EndOfFile = 0xC0000011
status_code AccessDenied = 0xC0000022
status_code ObjectNameInvalid = 0xC0000033
status_code ObjectNameNotFound = 0xC0000034
status_code ObjectNameCollision = 0xC0000035
status_code ObjectPathNotFound = 0xC000003A
status_code SharingViolation = 0xC0000043
status_code FileLockConflict = 0xC0000054
status_code LockNotGranted = 0xC0000055
status_code DeletePending = 0xC0000056
status_code LogonFailure = 0xC000006D
status_code RangeNotLocked = 0xC000007E
status_code DiskFull = 0xC000007F
status_code FileIsADirectory = 0xC00000BA
status_code NotSupported = 0xC00000BB
status_code NetworkNameDeleted = 0xC00000C9
status_code BadNetworkName = 0xC00000CC
status_code RequestNotAccepted = 0xC00000D0
status_code DirectoryNotEmpty = 0xC0000101
status_code NotADirectory = 0xC0000103
status_code TooManyOpenedFiles = 0xC000011F
status_code CannotDelete = 0xC0000121
status_code FileClosed = 0xC0000128
status_code InvalidLockRange = 0xC00001A1
status_code UserSessionDeleted = 0xC0000203
status_code Unsuccessful = 0xC0000001

-- the statuses that the share answers
abbrev pub statuses : List NtStatus
statuses =
    Success ∷ BufferOverflow ∷ NoMoreFiles ∷ InvalidInfoClass ∷ InfoLengthMismatch ∷ MoreProcessingRequired
    ∷ InvalidParameter ∷ NoSuchFile ∷ InvalidDeviceRequest ∷ EndOfFile ∷ AccessDenied ∷ ObjectNameInvalid
    ∷ ObjectNameNotFound ∷ ObjectNameCollision ∷ ObjectPathNotFound ∷ SharingViolation ∷ FileLockConflict
    ∷ LockNotGranted ∷ DeletePending ∷ LogonFailure ∷ RangeNotLocked ∷ DiskFull ∷ FileIsADirectory
    ∷ NotSupported ∷ NetworkNameDeleted ∷ BadNetworkName ∷ RequestNotAccepted ∷ DirectoryNotEmpty
    ∷ NotADirectory ∷ TooManyOpenedFiles ∷ CannotDelete ∷ FileClosed ∷ InvalidLockRange ∷ UserSessionDeleted ∷ []

-- the status of a number; a number that none of them has is STATUS_UNSUCCESSFUL, which the share never answers
unfoldable pub status_of : ℕ → NtStatus
status_of code = unwrap_or (find (λ status. status_code status == code) statuses) Unsuccessful

-- the status is STATUS_SUCCESS
unfoldable pub is_success : NtStatus → Bool
is_success Success = true
is_success status = false

-- a status's number is read as the status
abbrev pub EachStatusIsReadAgain : Type 0
EachStatusIsReadAgain = (status : NtStatus) → status_of (status_code status) ≡ status
