use Rattle.smb_tree.proofs.Kept.{entry_moved, beneath_moved, nothing_left, others_kept, numbers_kept, replaced_gone, root_kept, adds_nothing, good_kept}
use Rattle.smb_tree.proofs.Lawful.{lawful_moved}
use Rattle.smb_tree.proofs.laws.laws_of_moves.Goals as goal

pub returns-clause-entry : goal.returns-clause-entry
returns-clause-entry c = λ content number parts from entry can. (
  entry_moved content number parts from entry can,
  λ name rest. beneath_moved content number parts from entry name rest can,
  λ path apart within. nothing_left content number parts from entry path can apart within,
  λ path apart away. others_kept content number parts from entry path can apart away,
)

pub returns-clause-numbers : goal.returns-clause-numbers
returns-clause-numbers c = λ content number parts from entry other can. (
  λ own. numbers_kept content number parts from entry other can own,
  λ there apart. replaced_gone content number parts from entry other can there apart,
)

pub returns-clause-root : goal.returns-clause-root
returns-clause-root c = root_kept

pub returns-clause-good : goal.returns-clause-good
returns-clause-good c = λ content number parts.
    let adds = adds_nothing content number parts in
    (adds.rows, adds.space, good_kept content number parts, lawful_moved content number parts)
