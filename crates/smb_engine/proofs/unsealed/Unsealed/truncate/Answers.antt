use Rattle.std.proofs.Common.{List, ℕ, take, ap, ◌∙◌}
use Rattle.smb_head.specs.Sealed.{sealed}
use Rattle.smb_engine.proofs.unsealed.Unsealed.truncate.Goals as goal

pub returns : goal.returns
unfolding sealed
returns c = rw (c.sign.ensures.none, c.truncate.ensures.items) (ap (λ (l : List ℕ). take c.args.len l) (c.sign.ensures.signed ∙ c.self.view_is))
