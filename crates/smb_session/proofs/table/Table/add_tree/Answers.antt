use Rattle.smb_session.proofs.Steps.{held_tree}
use Rattle.smb_session.proofs.table.Table.add_tree.Goals as goal

pub invariant_of-self : goal.invariant_of-self
invariant_of-self c =
    let finished = rw (← c.self.view_is) at c.requires.finished in
    let room = rw (← c.self.view_is) at c.requires.room in
    rw c.add_tree.ensures.state (held_tree _ _ _ c.args.number finished room c.self.invariant)
