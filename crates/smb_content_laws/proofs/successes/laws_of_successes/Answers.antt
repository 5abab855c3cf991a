use Rattle.std.proofs.Common.{false, refl}
use Rattle.smb_content_laws.proofs.ExampleStore.{example_is_good}
use Rattle.smb_content_laws.proofs.May.{create_succeeds, read_succeeds, write_succeeds, lock_succeeds, unlock_succeeds, mark_succeeds, size_succeeds, times_succeed}
use Rattle.smb_content_laws.proofs.Rows.{none_success, first_decides, shown_status}
use Rattle.smb_content_laws.proofs.successes.laws_of_successes.Goals as goal

pub returns-clause-rows : goal.returns-clause-rows
returns-clause-rows c = (none_success, first_decides, shown_status)

pub returns-clause-creates : goal.returns-clause-creates
returns-clause-creates c = create_succeeds

pub returns-clause-requests : goal.returns-clause-requests
returns-clause-requests c = λ state number view shown. (
  λ most offset count minimum. read_succeeds state most number offset count minimum view shown,
  λ most offset buffer. write_succeeds state most number offset buffer view shown,
  λ is_deleted. mark_succeeds state number is_deleted view shown,
  λ size. size_succeeds state number size view shown,
  λ ask. times_succeed state number ask view shown,
  λ asks. lock_succeeds state number view shown asks,
  λ asks. unlock_succeeds state number view shown asks,
)

pub returns-clause-examples : goal.returns-clause-examples
returns-clause-examples c = record {
  good = example_is_good;
  create = refl;
  write = refl;
  read = (refl, refl);
  lock = (refl, refl, refl);
  mark = refl;
  size = refl;
  times = refl;
  rename = refl;
  close = refl;
}

pub returns-clause-session : goal.returns-clause-session
returns-clause-session c = ((refl, (refl, (refl, (refl, (tt, ((false, refl), (tt, tt))))))), refl)
