use Rattle.std.proofs.Common.{refl}
use Rattle.smb_session.specs.Parts.{without_tree}
use Rattle.smb_session.proofs.Steps.{held_any, without_good}
use Rattle.smb_session.proofs.table.Table.drop_tree.Goals as goal

pub invariant_of-self : goal.invariant_of-self
invariant_of-self c = rw c.drop_tree.ensures (held_any _ _ _ (without_tree c.args.tree) (λ s. refl) (without_good c.args.tree) c.args.number c.self.invariant)
