use Rattle.smb_access.proofs.Mores.{more_conflicts}
use Rattle.smb_opens.proofs.Barred.{keeps_out}
use Rattle.smb_opens.proofs.Conflicts.{conflict_mutual}
use Rattle.smb_opens.proofs.OnePath.{new_tree}
use Rattle.smb_opens.proofs.Readers.{steps_leave_files, refuses_changes, reader_opens}
use Rattle.smb_opens.proofs.RenameLaws.{rename_keeps}
use Rattle.smb_opens.proofs.ScanLaws.{scan_leaves}
use Rattle.smb_opens.proofs.SetLaws.{front, not_opened}
use Rattle.smb_opens.proofs.laws.laws_of_stores.Goals as goal

pub returns : goal.returns
returns c = record {
  new_tree = new_tree;
  conflicts = λ access share other. (conflict_mutual (access, share) other, λ more. more_conflicts access more share other);
  kept_out = keeps_out;
  front = front;
  not_opened = not_opened;
  renamed = rename_keeps;
  scans = scan_leaves;
  readers = steps_leave_files;
  readers_refused = refuses_changes;
  readers_create = reader_opens;
}
