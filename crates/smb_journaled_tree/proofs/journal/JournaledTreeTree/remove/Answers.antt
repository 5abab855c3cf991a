use Rattle.smb_journaled_tree.proofs.Keeping.{keeps_removed}
use Rattle.smb_journaled_tree.proofs.journal.JournaledTreeTree.remove.Goals as goal

pub invariant_of-self-2 : goal.invariant_of-self-2
invariant_of-self-2 g c = record {
  journal = c.self.invariant.journal;
  noted = keeps_removed (g.T.Tree.content c.self.inside.tree) _ _ _ _ _ c.self.invariant.noted _ c.args.number c.requires
      c.in-Ok.ensures.lawful c.in-Ok.ensures.ok (c.mark.ensures.dirty, c.mark.ensures.others);
  renewed = c.self.invariant.renewed;
}
