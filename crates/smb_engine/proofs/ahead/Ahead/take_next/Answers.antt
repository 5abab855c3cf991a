use Rattle.smb_engine.proofs.Knowing.{one_taken}
use Rattle.smb_engine.proofs.ahead.Ahead.take_next.Goals as goal

pub returns-clause-next : goal.returns-clause-next
returns-clause-next c = λ payload others h. (rw (← c.self.view_is) at h).0

pub returns-clause-others : goal.returns-clause-others
returns-clause-others c = λ payload others h.
    one_taken payload others c.self.inside.first c.self.inside.second c.self.inside.third c.self.inside.fourth (rw (← c.self.view_is) at h)
