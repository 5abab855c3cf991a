use Rattle.std.proofs.Common.{sym}
use Rattle.smb_replay.proofs.Lines.{lines-some, lines-none}
use Rattle.smb_replay.proofs.script.next_line.Goals as goal

pub returns-in-Some-clause-lines : goal.returns-in-Some-clause-lines
returns-in-Some-clause-lines c = lines-some _ _ (sym c.in-Some.ensures.place)

pub returns-in-None-clause-lines : goal.returns-in-None-clause-lines
returns-in-None-clause-lines c = lines-none _ (sym c.in-None.ensures.place)
