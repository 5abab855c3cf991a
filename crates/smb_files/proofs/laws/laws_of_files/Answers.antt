use Rattle.std.proofs.Common.{refl, ap}
use Rattle.smb_wire.specs.Paths.{folded_path}
use Rattle.smb_tree.specs.Entries.{new_entry, kept_basic}
use Rattle.smb_tree.specs.Content.{written, resized}
use Rattle.smb_files.proofs.Equations.{files_added, files_with_bytes, files_set}
use Rattle.smb_files.proofs.Removal.{files_removed}
use Rattle.smb_files.proofs.Moved.{files_moved}
use Rattle.smb_files.proofs.Told.{same_at}
use Rattle.smb_files.specs.Files.{Files}
use Rattle.smb_files.proofs.laws.laws_of_files.Goals as goal

pub returns-clause-additions : goal.returns-clause-additions
returns-clause-additions c = λ content parts kind attributes moment good free.
    files_added content (folded_path parts) (new_entry content.next parts kind attributes moment) good refl refl

pub returns-clause-writes : goal.returns-clause-writes
returns-clause-writes c = λ content number. (
  λ offset buffer. files_with_bytes (written offset buffer) content number,
  λ size. files_with_bytes (resized size) content number,
)

pub returns-clause-settings : goal.returns-clause-settings
returns-clause-settings c = λ content number row good found. (
  λ basic. files_set (λ entry. record entry { basic = kept_basic basic }) content number row good (λ e. refl)
      (λ e. refl) found,
  λ mark. files_set (λ entry. record entry { mark = mark }) content number row good (λ e. refl) (λ e. refl) found,
)

pub returns-clause-removals : goal.returns-clause-removals
returns-clause-removals c = files_removed

pub returns-clause-moves : goal.returns-clause-moves
returns-clause-moves c = files_moved

pub returns-clause-told : goal.returns-clause-told
returns-clause-told c = λ one other good good_other lawful lawful_other same. (
  λ path. same_at one other path (record {
    good = good;
    good_other = good_other;
    lawful = lawful;
    lawful_other = lawful_other;
    same = same;
  }),
  ap (λ (files : Files). files.next) same,
)
