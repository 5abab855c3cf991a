-- Why a request is refused: the status that answers each row of each table, and the label of the row.
use Rattle.std.specs.Prelude.{ℕ, List, codes}
use Rattle.smb_wire.specs.declared.nt_status.NtStatus.{NtStatus}
use Rattle.smb_wire.specs.declared.nt_status.NtStatus.TheVariants.{InvalidParameter, NotSupported, UserSessionDeleted, NetworkNameDeleted, FileClosed, RequestNotAccepted, LogonFailure, BadNetworkName, ObjectNameInvalid, AccessDenied, ObjectPathNotFound, DeletePending, ObjectNameNotFound, ObjectNameCollision, FileIsADirectory, NotADirectory, CannotDelete, SharingViolation, TooManyOpenedFiles, DiskFull, InvalidDeviceRequest, FileLockConflict, EndOfFile, InvalidLockRange, LockNotGranted, RangeNotLocked, InvalidInfoClass, InfoLengthMismatch, NoSuchFile, NoMoreFiles, DirectoryNotEmpty}
use Rattle.smb_refusals.specs.declared.refusal.Refusal.{Refusal}
use Rattle.smb_refusals.specs.declared.refusal.Refusal.TheVariants.{Request, Negotiate, SessionSetup, Logoff, TreeConnect, TreeDisconnect, Create, Close, Read, Write, Lock, QueryDirectory, QueryInfo, SetInfo, SetBasic, SetDisposition, SetSize, Rename}
use Rattle.smb_refusals.specs.declared.request.RequestRefusal.{RequestRefusal}
use Rattle.smb_refusals.specs.declared.request.NegotiateRefusal.{NegotiateRefusal}
use Rattle.smb_refusals.specs.declared.session.SetupRefusal.{SetupRefusal}
use Rattle.smb_refusals.specs.declared.session.LogoffRefusal.{LogoffRefusal}
use Rattle.smb_refusals.specs.declared.session.TreeConnectRefusal.{TreeConnectRefusal}
use Rattle.smb_refusals.specs.declared.session.TreeDisconnectRefusal.{TreeDisconnectRefusal}
use Rattle.smb_refusals.specs.declared.create.CreateRefusal.{CreateRefusal}
use Rattle.smb_refusals.specs.declared.file.CloseRefusal.{CloseRefusal}
use Rattle.smb_refusals.specs.declared.file.ReadRefusal.{ReadRefusal}
use Rattle.smb_refusals.specs.declared.file.WriteRefusal.{WriteRefusal}
use Rattle.smb_refusals.specs.declared.file.LockRefusal.{LockRefusal}
use Rattle.smb_refusals.specs.declared.query.QueryDirectoryRefusal.{QueryDirectoryRefusal}
use Rattle.smb_refusals.specs.declared.query.QueryInfoRefusal.{QueryInfoRefusal}
use Rattle.smb_refusals.specs.declared.set_info.SetInfoRefusal.{SetInfoRefusal}
use Rattle.smb_refusals.specs.declared.set_info.SetBasicRefusal.{SetBasicRefusal}
use Rattle.smb_refusals.specs.declared.set_info.SetDispositionRefusal.{SetDispositionRefusal}
use Rattle.smb_refusals.specs.declared.set_info.SetSizeRefusal.{SetSizeRefusal}
use Rattle.smb_refusals.specs.declared.set_info.RenameRefusal.{RenameRefusal}
use Rattle.smb_refusals.specs.declared.login.LoginRefusal.{LoginRefusal}
use Rattle.smb_refusals.specs.declared.login.LoginRefusal.TheVariants.{TokenUnreadable, MessageUnknown, NoUnicode, LoginUnreadable, ProofWrong, NoGuests}

-- the status that answers a refused request ([MS-SMB2] 3.3.5)
abbrev pub refusal_status : Refusal → NtStatus
refusal_status (Request RequestRefusal.NotSigned) = AccessDenied
refusal_status (Request RequestRefusal.SignatureWrong) = AccessDenied
refusal_status (Request RequestRefusal.UnknownCommand) = InvalidParameter
refusal_status (Request RequestRefusal.CommandNotPerformed) = NotSupported
refusal_status (Request RequestRefusal.BodyUnreadable) = InvalidParameter
refusal_status (Request RequestRefusal.ChargeTooSmall) = InvalidParameter
refusal_status (Request RequestRefusal.UnknownSession) = UserSessionDeleted
refusal_status (Request RequestRefusal.UnknownTreeConnect) = NetworkNameDeleted
refusal_status (Request RequestRefusal.NoOpenHandedOn) = InvalidParameter
refusal_status (Request (RequestRefusal.CreateBeforeRefused status)) = status
refusal_status (Request RequestRefusal.UnknownOpen) = FileClosed
refusal_status (Negotiate NegotiateRefusal.NoDialect) = NotSupported
refusal_status (SessionSetup SetupRefusal.BindingAsked) = RequestNotAccepted
refusal_status (SessionSetup SetupRefusal.NoSessionLeft) = RequestNotAccepted
refusal_status (SessionSetup SetupRefusal.UnknownSession) = UserSessionDeleted
refusal_status (SessionSetup SetupRefusal.SessionFinished) = RequestNotAccepted
refusal_status (SessionSetup SetupRefusal.Denied) = LogonFailure
refusal_status (Logoff LogoffRefusal.UnknownSession) = UserSessionDeleted
refusal_status (TreeConnect TreeConnectRefusal.UnknownSession) = UserSessionDeleted
refusal_status (TreeConnect TreeConnectRefusal.UnknownShare) = BadNetworkName
refusal_status (TreeConnect TreeConnectRefusal.NoTreeConnectLeft) = RequestNotAccepted
refusal_status (TreeDisconnect TreeDisconnectRefusal.UnknownSession) = UserSessionDeleted
refusal_status (TreeDisconnect TreeDisconnectRefusal.UnknownTreeConnect) = NetworkNameDeleted
refusal_status (Create CreateRefusal.UnknownDisposition) = InvalidParameter
refusal_status (Create CreateRefusal.DirectoryToBeOverwritten) = InvalidParameter
refusal_status (Create CreateRefusal.NameBeginsWithSeparator) = InvalidParameter
refusal_status (Create CreateRefusal.OpenByFileId) = NotSupported
refusal_status (Create CreateRefusal.NameIsNoPath) = ObjectNameInvalid
refusal_status (Create CreateRefusal.NoAccessAsked) = AccessDenied
refusal_status (Create CreateRefusal.SessionMayOnlyRead) = AccessDenied
refusal_status (Create CreateRefusal.PathNotFound) = ObjectPathNotFound
refusal_status (Create CreateRefusal.EntryToBeDeleted) = DeletePending
refusal_status (Create CreateRefusal.EntryAbsent) = ObjectNameNotFound
refusal_status (Create CreateRefusal.SessionMayNotAdd) = AccessDenied
refusal_status (Create CreateRefusal.EntryExists) = ObjectNameCollision
refusal_status (Create CreateRefusal.EntryIsDirectory) = FileIsADirectory
refusal_status (Create CreateRefusal.EntryIsFile) = NotADirectory
refusal_status (Create CreateRefusal.FileIsReadOnly) = AccessDenied
refusal_status (Create CreateRefusal.EntryNotDeletable) = CannotDelete
refusal_status (Create CreateRefusal.OpenConflicts) = SharingViolation
refusal_status (Create CreateRefusal.NoOpenLeft) = TooManyOpenedFiles
refusal_status (Create CreateRefusal.NoEntryLeft) = DiskFull
refusal_status (Close CloseRefusal.UnknownOpen) = FileClosed
refusal_status (Read ReadRefusal.LengthTooGreat) = InvalidParameter
refusal_status (Read ReadRefusal.EntryIsDirectory) = InvalidDeviceRequest
refusal_status (Read ReadRefusal.ReadNotGranted) = AccessDenied
refusal_status (Read ReadRefusal.RangeLocked) = FileLockConflict
refusal_status (Read ReadRefusal.EndOfFile) = EndOfFile
refusal_status (Write WriteRefusal.LengthTooGreat) = InvalidParameter
refusal_status (Write WriteRefusal.EntryIsDirectory) = InvalidDeviceRequest
refusal_status (Write WriteRefusal.WriteNotGranted) = AccessDenied
refusal_status (Write WriteRefusal.RangeLocked) = FileLockConflict
refusal_status (Write WriteRefusal.NoSpaceLeft) = DiskFull
refusal_status (Lock LockRefusal.EntryIsDirectory) = InvalidDeviceRequest
refusal_status (Lock LockRefusal.FlagsInvalid) = InvalidParameter
refusal_status (Lock LockRefusal.RangePastTheEnd) = InvalidLockRange
refusal_status (Lock LockRefusal.NoLockLeft) = LockNotGranted
refusal_status (Lock LockRefusal.LockConflicts) = LockNotGranted
refusal_status (Lock LockRefusal.RangeNotLocked) = RangeNotLocked
refusal_status (QueryDirectory QueryDirectoryRefusal.LengthTooGreat) = InvalidParameter
refusal_status (QueryDirectory QueryDirectoryRefusal.EntryIsFile) = InvalidParameter
refusal_status (QueryDirectory QueryDirectoryRefusal.ListNotGranted) = AccessDenied
refusal_status (QueryDirectory QueryDirectoryRefusal.UnknownClass) = InvalidInfoClass
refusal_status (QueryDirectory QueryDirectoryRefusal.PatternTooLong) = ObjectNameInvalid
refusal_status (QueryDirectory QueryDirectoryRefusal.NoRoomForFields) = InfoLengthMismatch
refusal_status (QueryDirectory QueryDirectoryRefusal.NoNameMatches) = NoSuchFile
refusal_status (QueryDirectory QueryDirectoryRefusal.NoMoreNames) = NoMoreFiles
refusal_status (QueryDirectory QueryDirectoryRefusal.NoRoomForName) = InfoLengthMismatch
refusal_status (QueryInfo QueryInfoRefusal.TypeNotSupported) = NotSupported
refusal_status (QueryInfo QueryInfoRefusal.UnknownType) = InvalidParameter
refusal_status (QueryInfo QueryInfoRefusal.LengthTooGreat) = InvalidParameter
refusal_status (QueryInfo QueryInfoRefusal.UnknownClass) = InvalidInfoClass
refusal_status (QueryInfo QueryInfoRefusal.NoRoomForFields) = InfoLengthMismatch
refusal_status (SetInfo SetInfoRefusal.TypeNotSupported) = NotSupported
refusal_status (SetInfo SetInfoRefusal.UnknownType) = InvalidParameter
refusal_status (SetInfo SetInfoRefusal.UnknownClass) = InvalidInfoClass
refusal_status (SetInfo SetInfoRefusal.BufferTooShort) = InfoLengthMismatch
refusal_status (SetInfo SetInfoRefusal.RenameSaysNoName) = InvalidParameter
refusal_status (SetBasic SetBasicRefusal.TimeOrAttributesInvalid) = InvalidParameter
refusal_status (SetBasic SetBasicRefusal.AttributesNotGranted) = AccessDenied
refusal_status (SetDisposition SetDispositionRefusal.DeleteNotGranted) = AccessDenied
refusal_status (SetDisposition SetDispositionRefusal.EntryNotDeletable) = CannotDelete
refusal_status (SetDisposition SetDispositionRefusal.DirectoryNotEmpty) = DirectoryNotEmpty
refusal_status (SetSize SetSizeRefusal.EntryIsDirectory) = InvalidParameter
refusal_status (SetSize SetSizeRefusal.WriteNotGranted) = AccessDenied
refusal_status (SetSize SetSizeRefusal.NoSpaceLeft) = DiskFull
refusal_status (Rename RenameRefusal.NameBeginsWithSeparator) = InvalidParameter
refusal_status (Rename RenameRefusal.NameIsNoPath) = ObjectNameInvalid
refusal_status (Rename RenameRefusal.DeleteNotGranted) = AccessDenied
refusal_status (Rename RenameRefusal.EntryToBeDeleted) = DeletePending
refusal_status (Rename RenameRefusal.NewPathIsBeneath) = InvalidParameter
refusal_status (Rename RenameRefusal.PathNotFound) = ObjectPathNotFound
refusal_status (Rename RenameRefusal.OpenBeneath) = AccessDenied
refusal_status (Rename RenameRefusal.TargetToBeDeleted) = DeletePending
refusal_status (Rename RenameRefusal.TargetExists) = ObjectNameCollision
refusal_status (Rename RenameRefusal.TargetNotReplaceable) = AccessDenied
refusal_status (Rename RenameRefusal.PathTooDeep) = ObjectNameInvalid

-- the label of a row, as docs/PROFILE.md has it
abbrev pub refusal_label : Refusal → List ℕ
refusal_label (Request RequestRefusal.NotSigned) = codes "P0a"
refusal_label (Request RequestRefusal.SignatureWrong) = codes "P0b"
refusal_label (Request RequestRefusal.UnknownCommand) = codes "P1"
refusal_label (Request RequestRefusal.CommandNotPerformed) = codes "P2"
refusal_label (Request RequestRefusal.BodyUnreadable) = codes "P3"
refusal_label (Request RequestRefusal.ChargeTooSmall) = codes "P3b"
refusal_label (Request RequestRefusal.UnknownSession) = codes "P4"
refusal_label (Request RequestRefusal.UnknownTreeConnect) = codes "P5"
refusal_label (Request RequestRefusal.NoOpenHandedOn) = codes "P6"
refusal_label (Request (RequestRefusal.CreateBeforeRefused status)) = codes "P7"
refusal_label (Request RequestRefusal.UnknownOpen) = codes "P8"
refusal_label (Negotiate NegotiateRefusal.NoDialect) = codes "NG1"
refusal_label (SessionSetup SetupRefusal.BindingAsked) = codes "SS1"
refusal_label (SessionSetup SetupRefusal.NoSessionLeft) = codes "SS2"
refusal_label (SessionSetup SetupRefusal.UnknownSession) = codes "SS3"
refusal_label (SessionSetup SetupRefusal.SessionFinished) = codes "SS4"
refusal_label (SessionSetup SetupRefusal.Denied) = codes "SS5"
refusal_label (Logoff LogoffRefusal.UnknownSession) = codes "LO1"
refusal_label (TreeConnect TreeConnectRefusal.UnknownSession) = codes "TC1"
refusal_label (TreeConnect TreeConnectRefusal.UnknownShare) = codes "TC2"
refusal_label (TreeConnect TreeConnectRefusal.NoTreeConnectLeft) = codes "TC3"
refusal_label (TreeDisconnect TreeDisconnectRefusal.UnknownSession) = codes "TD1"
refusal_label (TreeDisconnect TreeDisconnectRefusal.UnknownTreeConnect) = codes "TD2"
refusal_label (Create CreateRefusal.UnknownDisposition) = codes "C1"
refusal_label (Create CreateRefusal.DirectoryToBeOverwritten) = codes "C2"
refusal_label (Create CreateRefusal.NameBeginsWithSeparator) = codes "C3"
refusal_label (Create CreateRefusal.OpenByFileId) = codes "C4"
refusal_label (Create CreateRefusal.NameIsNoPath) = codes "C5"
refusal_label (Create CreateRefusal.NoAccessAsked) = codes "C6"
refusal_label (Create CreateRefusal.SessionMayOnlyRead) = codes "C6b"
refusal_label (Create CreateRefusal.PathNotFound) = codes "C7"
refusal_label (Create CreateRefusal.EntryToBeDeleted) = codes "C8"
refusal_label (Create CreateRefusal.EntryAbsent) = codes "C9"
refusal_label (Create CreateRefusal.SessionMayNotAdd) = codes "C9b"
refusal_label (Create CreateRefusal.EntryExists) = codes "C10"
refusal_label (Create CreateRefusal.EntryIsDirectory) = codes "C11"
refusal_label (Create CreateRefusal.EntryIsFile) = codes "C12"
refusal_label (Create CreateRefusal.FileIsReadOnly) = codes "C13"
refusal_label (Create CreateRefusal.EntryNotDeletable) = codes "C14"
refusal_label (Create CreateRefusal.OpenConflicts) = codes "C15"
refusal_label (Create CreateRefusal.NoOpenLeft) = codes "C16"
refusal_label (Create CreateRefusal.NoEntryLeft) = codes "C17"
refusal_label (Close CloseRefusal.UnknownOpen) = codes "CL1"
refusal_label (Read ReadRefusal.LengthTooGreat) = codes "RD1"
refusal_label (Read ReadRefusal.EntryIsDirectory) = codes "RD2"
refusal_label (Read ReadRefusal.ReadNotGranted) = codes "RD3"
refusal_label (Read ReadRefusal.RangeLocked) = codes "RD4"
refusal_label (Read ReadRefusal.EndOfFile) = codes "RD5"
refusal_label (Write WriteRefusal.LengthTooGreat) = codes "WR1"
refusal_label (Write WriteRefusal.EntryIsDirectory) = codes "WR2"
refusal_label (Write WriteRefusal.WriteNotGranted) = codes "WR3"
refusal_label (Write WriteRefusal.RangeLocked) = codes "WR4"
refusal_label (Write WriteRefusal.NoSpaceLeft) = codes "WR5"
refusal_label (Lock LockRefusal.EntryIsDirectory) = codes "LK1"
refusal_label (Lock LockRefusal.FlagsInvalid) = codes "LK2"
refusal_label (Lock LockRefusal.RangePastTheEnd) = codes "LK3"
refusal_label (Lock LockRefusal.NoLockLeft) = codes "LK4"
refusal_label (Lock LockRefusal.LockConflicts) = codes "LK5"
refusal_label (Lock LockRefusal.RangeNotLocked) = codes "LK6"
refusal_label (QueryDirectory QueryDirectoryRefusal.LengthTooGreat) = codes "QD1"
refusal_label (QueryDirectory QueryDirectoryRefusal.EntryIsFile) = codes "QD1"
refusal_label (QueryDirectory QueryDirectoryRefusal.ListNotGranted) = codes "QD2"
refusal_label (QueryDirectory QueryDirectoryRefusal.UnknownClass) = codes "QD3"
refusal_label (QueryDirectory QueryDirectoryRefusal.PatternTooLong) = codes "QD4"
refusal_label (QueryDirectory QueryDirectoryRefusal.NoRoomForFields) = codes "QD5"
refusal_label (QueryDirectory QueryDirectoryRefusal.NoNameMatches) = codes "QD6"
refusal_label (QueryDirectory QueryDirectoryRefusal.NoMoreNames) = codes "QD7"
refusal_label (QueryDirectory QueryDirectoryRefusal.NoRoomForName) = codes "QD8"
refusal_label (QueryInfo QueryInfoRefusal.TypeNotSupported) = codes "QI1"
refusal_label (QueryInfo QueryInfoRefusal.UnknownType) = codes "QI2"
refusal_label (QueryInfo QueryInfoRefusal.LengthTooGreat) = codes "QI3"
refusal_label (QueryInfo QueryInfoRefusal.UnknownClass) = codes "QI4"
refusal_label (QueryInfo QueryInfoRefusal.NoRoomForFields) = codes "QI5"
refusal_label (SetInfo SetInfoRefusal.TypeNotSupported) = codes "SI1"
refusal_label (SetInfo SetInfoRefusal.UnknownType) = codes "SI2"
refusal_label (SetInfo SetInfoRefusal.UnknownClass) = codes "SI3"
refusal_label (SetInfo SetInfoRefusal.BufferTooShort) = codes "SI4"
refusal_label (SetInfo SetInfoRefusal.RenameSaysNoName) = codes "N1"
refusal_label (SetBasic SetBasicRefusal.TimeOrAttributesInvalid) = codes "SB1"
refusal_label (SetBasic SetBasicRefusal.AttributesNotGranted) = codes "SB2"
refusal_label (SetDisposition SetDispositionRefusal.DeleteNotGranted) = codes "SD1"
refusal_label (SetDisposition SetDispositionRefusal.EntryNotDeletable) = codes "SD2"
refusal_label (SetDisposition SetDispositionRefusal.DirectoryNotEmpty) = codes "SD3"
refusal_label (SetSize SetSizeRefusal.EntryIsDirectory) = codes "SZ1"
refusal_label (SetSize SetSizeRefusal.WriteNotGranted) = codes "SZ2"
refusal_label (SetSize SetSizeRefusal.NoSpaceLeft) = codes "SZ3"
refusal_label (Rename RenameRefusal.NameBeginsWithSeparator) = codes "N1"
refusal_label (Rename RenameRefusal.NameIsNoPath) = codes "N2"
refusal_label (Rename RenameRefusal.DeleteNotGranted) = codes "N3"
refusal_label (Rename RenameRefusal.EntryToBeDeleted) = codes "N4"
refusal_label (Rename RenameRefusal.NewPathIsBeneath) = codes "N5"
refusal_label (Rename RenameRefusal.PathNotFound) = codes "N6"
refusal_label (Rename RenameRefusal.OpenBeneath) = codes "N8"
refusal_label (Rename RenameRefusal.TargetToBeDeleted) = codes "N9"
refusal_label (Rename RenameRefusal.TargetExists) = codes "N10"
refusal_label (Rename RenameRefusal.TargetNotReplaceable) = codes "N11"
refusal_label (Rename RenameRefusal.PathTooDeep) = codes "N12"

-- the label of a row by which a login by NTLM is denied
abbrev pub login_label : LoginRefusal → List ℕ
login_label TokenUnreadable = codes "LG1"
login_label MessageUnknown = codes "LG3"
login_label NoUnicode = codes "LG4"
login_label LoginUnreadable = codes "LG6"
login_label ProofWrong = codes "LG8"
login_label NoGuests = codes "LG10"
