use Rattle.smb_journaled_tree.proofs.Settled.{whole_there}
use Rattle.smb_journaled_tree.proofs.journal.JournaledTree.kept.Goals as goal

pub returns-clause-there : goal.returns-clause-there
returns-clause-there g c = rw (← c.self.view_is) (whole_there _ _ _ _ _ _ c.self.invariant.journal)
