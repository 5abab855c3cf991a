use Rattle.smb_journaled_tree.proofs.Keeping.{keeps_resized}
use Rattle.smb_journaled_tree.proofs.journal.JournaledTreeTree.set_size.Goals as goal

pub invariant_of-self-in-Ok-set_size : goal.invariant_of-self-in-Ok-set_size
invariant_of-self-in-Ok-set_size g c = record {
  journal = rw (c.in-Ok.ensures.held) c.self.invariant.journal;
  noted = keeps_resized (g.T.Tree.content c.self.inside.tree) _ _ _ _ _ c.self.invariant.noted _ c.args.number c.args.size
      c.in-Ok-set_size.ensures.lawful c.in-Ok-set_size.ensures.ok c.in-Ok.ensures.writable c.in-Ok.ensures.ok;
  renewed = c.self.invariant.renewed;
}
