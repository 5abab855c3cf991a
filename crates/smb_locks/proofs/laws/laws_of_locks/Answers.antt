use Rattle.smb_locks.specs.Conflicts.{BarsRead, BarsWrite}
use Rattle.smb_locks.specs.Parts.{bars_read, bars_write}
use Rattle.smb_locks.proofs.Ends.{overlap_from_ends, ends_from_overlap, overlap_turned, empty_apart, conflict_from_test, test_from_conflict, bar_from_read_test, read_test_from_bar, bar_from_write_test, write_test_from_bar, some_from_test, test_from_some}
use Rattle.smb_locks.proofs.Members.{others_kept}
use Rattle.smb_locks.proofs.Tables.{good_empty, good_on, on_with, on_other, good_locked, good_unlocked, good_dropped, few_locked, few_unlocked, few_dropped, on_dropped, compatible_pair}
use Rattle.smb_locks.proofs.laws.laws_of_locks.Goals as goal

pub returns-clause-ends : goal.returns-clause-ends
returns-clause-ends c = λ a b. ((overlap_from_ends a b, ends_from_overlap a b), overlap_turned a b, empty_apart a b)

pub returns-clause-conflicts : goal.returns-clause-conflicts
returns-clause-conflicts c = (
  λ asked held. (conflict_from_test asked held, test_from_conflict asked held),
  λ locks holder range. (
    (some_from_test (bars_read holder range) (BarsRead holder range) (bar_from_read_test holder range) locks, test_from_some (bars_read holder range) (BarsRead holder range) (read_test_from_bar holder range) locks),
    (some_from_test (bars_write holder range) (BarsWrite holder range) (bar_from_write_test holder range) locks, test_from_some (bars_write holder range) (BarsWrite holder range) (write_test_from_bar holder range) locks),
  ),
)

pub returns-clause-apart : goal.returns-clause-apart
returns-clause-apart c = λ table file a b good ca cb. compatible_pair _ a b (good_on table file good).compatible ca cb

pub returns-clause-files : goal.returns-clause-files
returns-clause-files c = λ table file locks good. (on_with table file locks good, λ other apart. on_other table file other locks apart)

pub returns-clause-others : goal.returns-clause-others
returns-clause-others c = λ table file holder. (λ other asks apart. others_kept table file other holder asks apart, λ good. on_dropped holder file table good.rising)

pub returns-clause-good : goal.returns-clause-good
returns-clause-good c = (
  good_empty,
  λ most table file holder asks good. (
    λ free. good_locked most table file holder asks good free,
    good_unlocked table file holder asks good,
    good_dropped holder table good,
  ),
  λ most table file holder asks few. (
    λ free. few_locked most table file holder asks few free,
    few_unlocked most table file holder asks few,
    few_dropped holder most table few,
  ),
)
