use Rattle.smb_session.proofs.Windows.{good_without}
use Rattle.smb_session.proofs.window.Window.take_runs.Goals as goal

pub invariant_of-self : goal.invariant_of-self
invariant_of-self c = record {
  good = rw c.take_out-self-inside.ensures.rest (good_without _ _ c.self.invariant.good);
  within = c.take_out-self-inside.ensures.within;
}
