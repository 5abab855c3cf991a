use Rattle.smb_journaled_tree.proofs.Keeping.{keeps_written}
use Rattle.smb_journaled_tree.proofs.journal.JournaledTreeTree.write.Goals as goal

pub invariant_of-self-in-Ok-write : goal.invariant_of-self-in-Ok-write
invariant_of-self-in-Ok-write g c = record {
  journal = rw (c.in-Ok.ensures.held) c.self.invariant.journal;
  noted = keeps_written (g.T.Tree.content c.self.inside.tree) _ _ _ _ _ c.self.invariant.noted _ c.args.number c.args.offset c.args.buffer.now
      c.in-Ok-write.ensures.lawful c.in-Ok-write.ensures.ok c.in-Ok.ensures.writable c.in-Ok.ensures.ok;
  renewed = c.self.invariant.renewed;
}
