use Rattle.smb_journal_start.proofs.Recovered.{unmarked_tree, unmarked_left}
use Rattle.smb_journal_start.proofs.left.end_marked.Goals as goal

pub returns-then-is_none_marked-clause-unmarked : goal.returns-then-is_none_marked-clause-unmarked
returns-then-is_none_marked-clause-unmarked g c =
    unmarked_tree _ _ c.args.numbers.now c.remove_all_marked.ensures c.requires.numbers (c.is_none_marked.ensures c.if-is_none_marked.true) c.requires.lawful

pub returns-then-is_none_marked-clause-files : goal.returns-then-is_none_marked-clause-files
returns-then-is_none_marked-clause-files g c =
    unmarked_left _ _ c.args.numbers.now c.remove_all_marked.ensures c.requires.numbers (c.is_none_marked.ensures c.if-is_none_marked.true)
