use Rattle.std.proofs.Common.{◌≡◌, ap, sym, ◌∙◌}
use Rattle.smb_tree.specs.Content.{Content}
use Rattle.smb_journaled_tree.specs.Journal.{JournalState}
use Rattle.smb_journaled_tree.proofs.Settled.{kept_replaced}
use Rattle.smb_journaled_tree.proofs.journal.JournaledTree.renew.Goals as goal

pub invariant_of-self-in-Some-replace_file : goal.invariant_of-self-in-Some-replace_file
invariant_of-self-in-Some-replace_file g c =
    let content = g.T.Tree.content c.self.inside.tree in
    let settled = g.T.Tree.content c.self.inside.settled.value in
    let same : settled ≡ content = ap (λ (s : JournalState). s.settled) c.self.view_is ∙ c.requires ∙ sym (ap (λ (s : JournalState). s.content) c.self.view_is) in
    let some = c.in-Some-replace_file.ensures.some in
    kept_replaced content settled _ _ _ _ c.in-Some-go_on_renewal.renewal _ _ _ _ same (c.in-Some-go_on_renewal.ensures.all c.if-not-all.false)
    some.0 some.1 some.2 some.3 c.self.invariant.noted c.take.ensures.after
