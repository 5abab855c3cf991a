use Rattle.std.proofs.Common.{◌∙◌}
use Rattle.smb_access.proofs.Keyed.{lookup_open_of}
use Rattle.smb_access.proofs.plain.PlainOpensOpens.get.Goals as goal

pub returns : goal.returns
returns c = rw (← c.self.view_is) (c.get.ensures.value ∙ lookup_open_of _ _ c.self.invariant)
