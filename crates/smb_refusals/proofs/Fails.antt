-- No refusal of a table is answered by STATUS_SUCCESS, but for the one by a CREATE's status.
use Rattle.std.proofs.Common.{◌≢◌}
use Rattle.smb_wire.specs.declared.nt_status.NtStatus.TheVariants.{Success}
use Rattle.smb_refusals.specs.declared.refusal.Refusal.{Refusal}
use Rattle.smb_refusals.specs.Refusals.{refusal_status}
use Rattle.smb_refusals.specs.declared.request.NegotiateRefusal.{NegotiateRefusal}
use Rattle.smb_refusals.specs.declared.session.SetupRefusal.{SetupRefusal}
use Rattle.smb_refusals.specs.declared.session.LogoffRefusal.{LogoffRefusal}
use Rattle.smb_refusals.specs.declared.session.TreeConnectRefusal.{TreeConnectRefusal}
use Rattle.smb_refusals.specs.declared.session.TreeDisconnectRefusal.{TreeDisconnectRefusal}
use Rattle.smb_refusals.specs.declared.create.CreateRefusal.{CreateRefusal}
use Rattle.smb_refusals.specs.declared.file.CloseRefusal.{CloseRefusal}
use Rattle.smb_refusals.specs.declared.file.ReadRefusal.{ReadRefusal}
use Rattle.smb_refusals.specs.declared.file.WriteRefusal.{WriteRefusal}
use Rattle.smb_refusals.specs.declared.file.LockRefusal.{LockRefusal}
use Rattle.smb_refusals.specs.declared.query.QueryDirectoryRefusal.{QueryDirectoryRefusal}
use Rattle.smb_refusals.specs.declared.query.QueryInfoRefusal.{QueryInfoRefusal}
use Rattle.smb_refusals.specs.declared.set_info.SetInfoRefusal.{SetInfoRefusal}
use Rattle.smb_refusals.specs.declared.set_info.SetBasicRefusal.{SetBasicRefusal}
use Rattle.smb_refusals.specs.declared.set_info.SetDispositionRefusal.{SetDispositionRefusal}
use Rattle.smb_refusals.specs.declared.set_info.SetSizeRefusal.{SetSizeRefusal}
use Rattle.smb_refusals.specs.declared.set_info.RenameRefusal.{RenameRefusal}

pub negotiate_fails : (refusal : NegotiateRefusal) → refusal_status (Refusal.Negotiate refusal) ≢ Success
negotiate_fails refusal = elim refusal as (λ r. refusal_status (Refusal.Negotiate r) ≢ Success) [ NegotiateRefusal.NoDialect ↦ λ q. cc ]

pub setup_fails : (refusal : SetupRefusal) → refusal_status (Refusal.SessionSetup refusal) ≢ Success
setup_fails refusal = elim refusal as (λ r. refusal_status (Refusal.SessionSetup r) ≢ Success) [ SetupRefusal.BindingAsked ↦ λ q. cc | SetupRefusal.NoSessionLeft ↦ λ q. cc | SetupRefusal.UnknownSession ↦ λ q. cc | SetupRefusal.SessionFinished ↦ λ q. cc | SetupRefusal.Denied ↦ λ q. cc ]

pub logoff_fails : (refusal : LogoffRefusal) → refusal_status (Refusal.Logoff refusal) ≢ Success
logoff_fails refusal = elim refusal as (λ r. refusal_status (Refusal.Logoff r) ≢ Success) [ LogoffRefusal.UnknownSession ↦ λ q. cc ]

pub tree_connect_fails : (refusal : TreeConnectRefusal) → refusal_status (Refusal.TreeConnect refusal) ≢ Success
tree_connect_fails refusal = elim refusal as (λ r. refusal_status (Refusal.TreeConnect r) ≢ Success) [ TreeConnectRefusal.UnknownSession ↦ λ q. cc | TreeConnectRefusal.UnknownShare ↦ λ q. cc | TreeConnectRefusal.NoTreeConnectLeft ↦ λ q. cc ]

pub tree_disconnect_fails : (refusal : TreeDisconnectRefusal) → refusal_status (Refusal.TreeDisconnect refusal) ≢ Success
tree_disconnect_fails refusal = elim refusal as (λ r. refusal_status (Refusal.TreeDisconnect r) ≢ Success) [ TreeDisconnectRefusal.UnknownSession ↦ λ q. cc | TreeDisconnectRefusal.UnknownTreeConnect ↦ λ q. cc ]

pub create_fails : (refusal : CreateRefusal) → refusal_status (Refusal.Create refusal) ≢ Success
create_fails refusal = elim refusal as (λ r. refusal_status (Refusal.Create r) ≢ Success) [ CreateRefusal.UnknownDisposition ↦ λ q. cc | CreateRefusal.DirectoryToBeOverwritten ↦ λ q. cc | CreateRefusal.NameBeginsWithSeparator ↦ λ q. cc | CreateRefusal.OpenByFileId ↦ λ q. cc | CreateRefusal.NameIsNoPath ↦ λ q. cc | CreateRefusal.NoAccessAsked ↦ λ q. cc | CreateRefusal.SessionMayOnlyRead ↦ λ q. cc | CreateRefusal.PathNotFound ↦ λ q. cc | CreateRefusal.EntryToBeDeleted ↦ λ q. cc | CreateRefusal.EntryAbsent ↦ λ q. cc | CreateRefusal.SessionMayNotAdd ↦ λ q. cc | CreateRefusal.EntryExists ↦ λ q. cc | CreateRefusal.EntryIsDirectory ↦ λ q. cc | CreateRefusal.EntryIsFile ↦ λ q. cc | CreateRefusal.FileIsReadOnly ↦ λ q. cc | CreateRefusal.EntryNotDeletable ↦ λ q. cc | CreateRefusal.OpenConflicts ↦ λ q. cc | CreateRefusal.NoOpenLeft ↦ λ q. cc | CreateRefusal.NoEntryLeft ↦ λ q. cc ]

pub close_fails : (refusal : CloseRefusal) → refusal_status (Refusal.Close refusal) ≢ Success
close_fails refusal = elim refusal as (λ r. refusal_status (Refusal.Close r) ≢ Success) [ CloseRefusal.UnknownOpen ↦ λ q. cc ]

pub read_fails : (refusal : ReadRefusal) → refusal_status (Refusal.Read refusal) ≢ Success
read_fails refusal = elim refusal as (λ r. refusal_status (Refusal.Read r) ≢ Success) [ ReadRefusal.LengthTooGreat ↦ λ q. cc | ReadRefusal.EntryIsDirectory ↦ λ q. cc | ReadRefusal.ReadNotGranted ↦ λ q. cc | ReadRefusal.RangeLocked ↦ λ q. cc | ReadRefusal.EndOfFile ↦ λ q. cc ]

pub write_fails : (refusal : WriteRefusal) → refusal_status (Refusal.Write refusal) ≢ Success
write_fails refusal = elim refusal as (λ r. refusal_status (Refusal.Write r) ≢ Success) [ WriteRefusal.LengthTooGreat ↦ λ q. cc | WriteRefusal.EntryIsDirectory ↦ λ q. cc | WriteRefusal.WriteNotGranted ↦ λ q. cc | WriteRefusal.RangeLocked ↦ λ q. cc | WriteRefusal.NoSpaceLeft ↦ λ q. cc ]

pub lock_fails : (refusal : LockRefusal) → refusal_status (Refusal.Lock refusal) ≢ Success
lock_fails refusal = elim refusal as (λ r. refusal_status (Refusal.Lock r) ≢ Success) [ LockRefusal.EntryIsDirectory ↦ λ q. cc | LockRefusal.FlagsInvalid ↦ λ q. cc | LockRefusal.RangePastTheEnd ↦ λ q. cc | LockRefusal.NoLockLeft ↦ λ q. cc | LockRefusal.LockConflicts ↦ λ q. cc | LockRefusal.RangeNotLocked ↦ λ q. cc ]

pub query_directory_fails : (refusal : QueryDirectoryRefusal) → refusal_status (Refusal.QueryDirectory refusal) ≢ Success
query_directory_fails refusal = elim refusal as (λ r. refusal_status (Refusal.QueryDirectory r) ≢ Success) [ QueryDirectoryRefusal.LengthTooGreat ↦ λ q. cc | QueryDirectoryRefusal.EntryIsFile ↦ λ q. cc | QueryDirectoryRefusal.ListNotGranted ↦ λ q. cc | QueryDirectoryRefusal.UnknownClass ↦ λ q. cc | QueryDirectoryRefusal.PatternTooLong ↦ λ q. cc | QueryDirectoryRefusal.NoRoomForFields ↦ λ q. cc | QueryDirectoryRefusal.NoNameMatches ↦ λ q. cc | QueryDirectoryRefusal.NoMoreNames ↦ λ q. cc | QueryDirectoryRefusal.NoRoomForName ↦ λ q. cc ]

pub query_info_fails : (refusal : QueryInfoRefusal) → refusal_status (Refusal.QueryInfo refusal) ≢ Success
query_info_fails refusal = elim refusal as (λ r. refusal_status (Refusal.QueryInfo r) ≢ Success) [ QueryInfoRefusal.TypeNotSupported ↦ λ q. cc | QueryInfoRefusal.UnknownType ↦ λ q. cc | QueryInfoRefusal.LengthTooGreat ↦ λ q. cc | QueryInfoRefusal.UnknownClass ↦ λ q. cc | QueryInfoRefusal.NoRoomForFields ↦ λ q. cc ]

pub set_info_fails : (refusal : SetInfoRefusal) → refusal_status (Refusal.SetInfo refusal) ≢ Success
set_info_fails refusal = elim refusal as (λ r. refusal_status (Refusal.SetInfo r) ≢ Success) [ SetInfoRefusal.TypeNotSupported ↦ λ q. cc | SetInfoRefusal.UnknownType ↦ λ q. cc | SetInfoRefusal.UnknownClass ↦ λ q. cc | SetInfoRefusal.BufferTooShort ↦ λ q. cc | SetInfoRefusal.RenameSaysNoName ↦ λ q. cc ]

pub set_basic_fails : (refusal : SetBasicRefusal) → refusal_status (Refusal.SetBasic refusal) ≢ Success
set_basic_fails refusal = elim refusal as (λ r. refusal_status (Refusal.SetBasic r) ≢ Success) [ SetBasicRefusal.TimeOrAttributesInvalid ↦ λ q. cc | SetBasicRefusal.AttributesNotGranted ↦ λ q. cc ]

pub set_disposition_fails : (refusal : SetDispositionRefusal) → refusal_status (Refusal.SetDisposition refusal) ≢ Success
set_disposition_fails refusal = elim refusal as (λ r. refusal_status (Refusal.SetDisposition r) ≢ Success) [ SetDispositionRefusal.DeleteNotGranted ↦ λ q. cc | SetDispositionRefusal.EntryNotDeletable ↦ λ q. cc | SetDispositionRefusal.DirectoryNotEmpty ↦ λ q. cc ]

pub set_size_fails : (refusal : SetSizeRefusal) → refusal_status (Refusal.SetSize refusal) ≢ Success
set_size_fails refusal = elim refusal as (λ r. refusal_status (Refusal.SetSize r) ≢ Success) [ SetSizeRefusal.EntryIsDirectory ↦ λ q. cc | SetSizeRefusal.WriteNotGranted ↦ λ q. cc | SetSizeRefusal.NoSpaceLeft ↦ λ q. cc ]

pub rename_fails : (refusal : RenameRefusal) → refusal_status (Refusal.Rename refusal) ≢ Success
rename_fails refusal = elim refusal as (λ r. refusal_status (Refusal.Rename r) ≢ Success) [ RenameRefusal.NameBeginsWithSeparator ↦ λ q. cc | RenameRefusal.NameIsNoPath ↦ λ q. cc | RenameRefusal.DeleteNotGranted ↦ λ q. cc | RenameRefusal.EntryToBeDeleted ↦ λ q. cc | RenameRefusal.NewPathIsBeneath ↦ λ q. cc | RenameRefusal.PathNotFound ↦ λ q. cc | RenameRefusal.OpenBeneath ↦ λ q. cc | RenameRefusal.TargetToBeDeleted ↦ λ q. cc | RenameRefusal.TargetExists ↦ λ q. cc | RenameRefusal.TargetNotReplaceable ↦ λ q. cc | RenameRefusal.PathTooDeep ↦ λ q. cc ]
