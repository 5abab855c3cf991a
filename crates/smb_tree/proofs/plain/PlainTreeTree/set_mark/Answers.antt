use Rattle.std.proofs.Common.{refl, sym, ◌∙◌}
use Rattle.smb_tree.proofs.Changes.{marked, marked_space}
use Rattle.smb_tree.proofs.Places.{place_found}
use Rattle.smb_tree.proofs.plain.PlainTreeTree.set_mark.Goals as goal

pub invariant_of-self : goal.invariant_of-self
invariant_of-self c =
    let place = c.in-Some.ensures.place _ c.index_mut.ensures.value in
    c.self.invariant ∙ sym (marked_space _ _ _ _ _ c.args.mark place c.put_mark.ensures)

pub returns-clause-ok : goal.returns-clause-ok
returns-clause-ok c =
    let place = c.in-Some.ensures.place _ c.index_mut.ensures.value in
    let rows = marked _ _ _ _ _ c.args.mark place c.put_mark.ensures in
    rw (← c.self.view_is, rows) refl

pub returns-clause-lawful : goal.returns-clause-lawful
returns-clause-lawful c =
    let found = place_found _ _ _ _ (c.in-Some.ensures.place _ c.index_mut.ensures.value) in
    rw (← c.self.view_is, found) refl
