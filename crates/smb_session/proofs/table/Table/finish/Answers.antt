use Rattle.std.proofs.Common.{refl}
use Rattle.smb_session.specs.Parts.{finished_by}
use Rattle.smb_session.proofs.Steps.{held_any, finish_good}
use Rattle.smb_session.proofs.table.Table.finish.Goals as goal

pub invariant_of-self : goal.invariant_of-self
invariant_of-self c = rw c.finish.ensures (held_any _ _ _ (finished_by c.args.user.items c.args.read_only c.args.signing) (λ s. refl) (finish_good c.args.user.items c.args.read_only c.args.signing c.requires) c.args.number c.self.invariant)
