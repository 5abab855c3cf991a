use Rattle.smb_tree.proofs.Apart.{numbered-from_at, at-from_numbered, apart_added, apart_changed}
use Rattle.smb_tree.proofs.AsMap.{get-as_map, as_map-push, as_map-changed, as_map-without}
use Rattle.smb_tree.proofs.Parts.{length-written, stays_written, gap_written}
use Rattle.smb_tree.proofs.AfterWrites.{other_changed, read_written}
use Rattle.smb_tree.proofs.Removals.{apart_removed}
use Rattle.smb_tree.proofs.Siblings.{come_in_turn}
use Rattle.smb_tree.proofs.laws.laws_of_contents.Goals as goal

pub returns-clause-map : goal.returns-clause-map
returns-clause-map c = λ rows path. (
  get-as_map rows path,
  as_map-push rows path,
  λ apart number entry there. (λ change. as_map-changed change rows number path entry apart there, as_map-without rows number path entry apart there),
)

pub returns-clause-numbers : goal.returns-clause-numbers
returns-clause-numbers c = λ rows path entry a. (numbered-from_at rows path entry a, λ n. at-from_numbered rows path entry n a)

pub returns-clause-apart : goal.returns-clause-apart
returns-clause-apart c = λ rows apart. (
  λ path entry above none. apart_added rows path entry apart above none,
  λ change number keeps. apart_changed change rows number keeps apart,
  λ number. apart_removed rows number apart,
)

pub returns-clause-written : goal.returns-clause-written
returns-clause-written c = λ offset buffer. (
  λ content number row there. read_written content number offset buffer row there,
  λ bytes. (stays_written offset buffer bytes, gap_written offset buffer bytes, length-written offset buffer bytes),
)

pub returns-clause-others : goal.returns-clause-others
returns-clause-others c = other_changed

pub returns-clause-children : goal.returns-clause-children
returns-clause-children c = come_in_turn
