use Rattle.std.proofs.Common.{◌≡◌, ◌≢◌, sym, ◌∙◌, arith}
use Rattle.std.proofs.lemmas.Bool.Decides.{nat_tests}
use Rattle.smb_wire.specs.PathViews.{parts_of}
use Rattle.smb_journaled_tree.proofs.Moving.{same_one, no_one, keeps_moved_alone, keeps_moved_over}
use Rattle.smb_journaled_tree.proofs.journal.JournaledTreeTree.move_entry.Goals as goal

pub invariant_of-self-then-other-number : goal.invariant_of-self-then-other-number
invariant_of-self-then-other-number g c =
    let apart : c.in-Some.other ≢ c.args.number = grind (arith, nat_tests, c.if-other-number.true) in
    record {
      journal = c.self.invariant.journal;
      noted = keeps_moved_over (g.T.Tree.content c.self.inside.tree) _ _ _ _ _ _ c.args.number (parts_of c.args.path.now) c.self.invariant.noted c.in-Ok.ensures.lawful c.in-Ok.ensures.ok _ c.in-Some.other (sym c.find-there.ensures ∙ c.in-Some.is) apart (c.mark.ensures.dirty, c.mark.ensures.others) (c.mark-in-Some.ensures.dirty, c.mark-in-Some.ensures.others);
      renewed = c.self.invariant.renewed;
    }

pub invariant_of-self-else-other-number : goal.invariant_of-self-else-other-number
invariant_of-self-else-other-number g c =
    let same : c.in-Some.other ≡ c.args.number = grind (arith, nat_tests, c.if-other-number.false) in
    record {
      journal = c.self.invariant.journal;
      noted = keeps_moved_alone (g.T.Tree.content c.self.inside.tree) _ _ _ _ _ _ c.args.number (parts_of c.args.path.now) c.self.invariant.noted c.in-Ok.ensures.lawful c.in-Ok.ensures.ok
          (λ other h. same_one _ c.in-Some.other other c.args.number (sym c.find-there.ensures ∙ c.in-Some.is) h same) (c.mark.ensures.dirty, c.mark.ensures.others);
      renewed = c.self.invariant.renewed;
    }

pub invariant_of-self-in_default : goal.invariant_of-self-in_default
invariant_of-self-in_default g c = record {
  journal = c.self.invariant.journal;
  noted = keeps_moved_alone (g.T.Tree.content c.self.inside.tree) _ _ _ _ _ _ c.args.number (parts_of c.args.path.now) c.self.invariant.noted c.in-Ok.ensures.lawful c.in-Ok.ensures.ok
      (λ other h. no_one _ other c.args.number (sym c.find-there.ensures ∙ c.in_default.is) h) (c.mark.ensures.dirty, c.mark.ensures.others);
  renewed = c.self.invariant.renewed;
}
