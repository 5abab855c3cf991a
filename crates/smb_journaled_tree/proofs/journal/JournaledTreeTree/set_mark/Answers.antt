use Rattle.std.proofs.Common.{refl}
use Rattle.smb_journaled_tree.proofs.Keeping.{keeps_set}
use Rattle.smb_journaled_tree.proofs.journal.JournaledTreeTree.set_mark.Goals as goal

pub invariant_of-self-2 : goal.invariant_of-self-2
invariant_of-self-2 g c = record {
  journal = c.self.invariant.journal;
  noted = keeps_set (g.T.Tree.content c.self.inside.tree) _ _ _ _ _ c.self.invariant.noted
      (λ entry. record entry { mark = c.args.mark }) _ c.args.number c.in-Ok.ensures.lawful (λ e. refl) (λ e. refl) (λ e. refl)
      c.in-Ok.ensures.ok (c.mark.ensures.dirty, c.mark.ensures.others);
  renewed = c.self.invariant.renewed;
}
