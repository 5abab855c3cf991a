use Rattle.std.proofs.Common.{refl}
use Rattle.smb_journaled_tree.proofs.Keeping.{keeps_settled}
use Rattle.smb_journaled_tree.proofs.Settling.{keeps_whole}
use Rattle.smb_journaled_tree.proofs.journal.JournaledTree.resume.Goals as goal

pub invariant_of-result : goal.invariant_of-result
invariant_of-result g c = rw c.of-settled.ensures (record {
  journal = record {
    written = c.requires.written;
    long = refl;
    left = keeps_whole (g.T.Tree.content c.args.tree) (g.J.JournalFile.held c.args.file) c.args.chain.first c.args.chain.number c.args.chain.seed c.requires.written;
  };
  noted = keeps_settled (g.T.Tree.content c.args.tree) _ _ _ c.requires.good c.requires.counted
      (λ q row h. c.in_ok-slots.ensures.all q (c.requires.all q row h)) c.in_ok-slots.ensures.clean c.new.ensures;
  renewed = tt;
})
