use Rattle.smb_access.proofs.Keyed.{values_without, keyed_removed}
use Rattle.smb_access.proofs.plain.PlainOpensOpens.remove.Goals as goal

pub invariant_of-self : goal.invariant_of-self
invariant_of-self c = rw c.shift_remove.ensures.entries (keyed_removed _ _ c.self.invariant)

pub returns : goal.returns
returns c = rw (← c.self.view_is, c.shift_remove.ensures.entries) (values_without _ _ c.self.invariant)
