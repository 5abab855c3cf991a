use Rattle.smb_engine.proofs.ahead.Ahead.take_of.Goals as goal

pub returns-clause-next : goal.returns-clause-next
returns-clause-next g c = λ payload others e. c.take_next.ensures.next payload others (rw e at c.look.ensures)

pub returns-clause-others : goal.returns-clause-others
returns-clause-others g c = λ payload others e. c.take_next.ensures.others payload others (rw e at c.look.ensures)
