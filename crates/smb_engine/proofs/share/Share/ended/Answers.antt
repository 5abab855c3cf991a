use Rattle.std.proofs.Common.{refl}
use Rattle.smb_engine.proofs.Kept.{kept_over}
use Rattle.smb_engine.proofs.share.Share.ended.Goals as goal

pub invariant_of-self : goal.invariant_of-self
invariant_of-self g c = rw c.remove_stream.ensures (kept_over _ _ c.args.connection c.self.inside.streams.entries c.self.inside.next c.self.inside.most_connections c.disconnect.ensures.ended c.good.ensures.sessions.connections c.self.invariant)

pub returns-clause-state : goal.returns-clause-state
returns-clause-state g c =
    rw (← c.self.view_is, c.remove_stream.ensures, c.disconnect.ensures.ended) refl
