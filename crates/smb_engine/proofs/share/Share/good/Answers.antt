use Rattle.smb_engine.proofs.Kept.{kept_good}
use Rattle.smb_engine.proofs.share.Share.good.Goals as goal

pub returns : goal.returns
returns g c = rw (← c.self.view_is) (kept_good _ c.good.ensures.lawful c.good.ensures.named c.good.ensures.room c.good.ensures.limits c.good.ensures.sessions c.good.ensures.store c.good.ensures.owned c.self.invariant)
