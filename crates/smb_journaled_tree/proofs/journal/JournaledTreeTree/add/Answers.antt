use Rattle.std.proofs.Common.{◌≡◌, ◌∙◌, None, take, ap, sym, refl, arith}
use Rattle.std.proofs.lemmas.List.{take_at}
use Rattle.smb_wire.specs.Paths.{folded_path}
use Rattle.smb_wire.specs.PathViews.{parts_of}
use Rattle.smb_changes.specs.Open.{changes_in_batch}
use Rattle.smb_tree.specs.Faults.{add_fault}
use Rattle.smb_journaled_tree.proofs.Keeping.{number_left, keeps_added, keeps_slotted}
use Rattle.smb_journaled_tree.proofs.journal.JournaledTreeTree.add.Goals as goal

pub invariant_of-self : goal.invariant_of-self
invariant_of-self g c =
    let content = g.T.Tree.content c.self.inside.tree in
    let free : add_fault content (folded_path (parts_of c.args.path.now)) ≡ None = sym c.add_fault.ensures ∙ c.in_default.is in
    let next = number_left content (folded_path (parts_of c.args.path.now)) _ _ free c.next_no.ensures c.unwrap_or-next.ensures in
    record {
      journal = c.self.invariant.journal;
      noted = keeps_slotted content _ _ _ _ _ c.self.invariant.noted _ _ _ next refl refl (c.in-Err.ensures.dirty, c.in-Err.ensures.others);
      renewed = c.self.invariant.renewed;
    }

pub invariant_of-self-in-Err-note_change : goal.invariant_of-self-in-Err-note_change
invariant_of-self-in-Err-note_change g c =
    let content = g.T.Tree.content c.self.inside.tree in
    let free : add_fault content (folded_path (parts_of c.args.path.now)) ≡ None = sym c.add_fault.ensures ∙ c.in_default.is in
    let next = number_left content (folded_path (parts_of c.args.path.now)) _ _ free c.next_no.ensures c.unwrap_or-next.ensures in
    record {
      journal = rw (c.in-Err-note_change.ensures.held) c.self.invariant.journal;
      noted = keeps_slotted content _ _ _ _ _ c.self.invariant.noted _ _ _ next refl c.in-Err-note_change.ensures.err
          (c.in-Ok.ensures.dirty, c.in-Ok.ensures.others);
      renewed = c.self.invariant.renewed;
    }

pub invariant_of-self-in-Err-add : goal.invariant_of-self-in-Err-add
invariant_of-self-in-Err-add g c =
    let content = g.T.Tree.content c.self.inside.tree in
    let free : add_fault content (folded_path (parts_of c.args.path.now)) ≡ None = sym c.add_fault.ensures ∙ c.in_default.is in
    let next = number_left content (folded_path (parts_of c.args.path.now)) _ _ free c.next_no.ensures c.unwrap_or-next.ensures in
    let back = c.truncate.ensures ∙ ap (take c.len-count.result) c.in-Ok-note_change.ensures.ok ∙ take_at (changes_in_batch c.self.inside.pending) _ c.len-count.result (omega (arith, c.len-count.ensures)) in
    record {
      journal = rw (c.in-Ok-note_change.ensures.held) c.self.invariant.journal;
      noted = keeps_slotted content _ _ _ _ _ c.self.invariant.noted _ _ _ next c.in-Err-add.ensures.err back
          (c.in-Ok.ensures.dirty, c.in-Ok.ensures.others);
      renewed = c.self.invariant.renewed;
    }

pub invariant_of-self-in-Ok-add : goal.invariant_of-self-in-Ok-add
invariant_of-self-in-Ok-add g c =
    let parts = parts_of c.args.path.now in
    let content = g.T.Tree.content c.self.inside.tree in
    let next = number_left content (folded_path parts) _ _ c.in-Ok-add.ensures.lawful c.next_no.ensures c.unwrap_or-next.ensures in
    record {
      journal = rw (c.in-Ok-note_change.ensures.held) c.self.invariant.journal;
      noted = keeps_added content _ _ _ _ _ c.self.invariant.noted _ _ parts c.args.kind c.args.attributes.0 c.args.moment _
          (omega (arith, c.len-few.ensures.len, c.len-few.ensures.few)) c.in-Ok-add.ensures.lawful c.in-Ok-add.ensures.ok
          (rw (next, c.parent_of.ensures, c.of.ensures, c.name_of.ensures) refl) c.in-Ok-note_change.ensures.writable
          c.in-Ok-note_change.ensures.ok (rw (← next) (c.in-Ok.ensures.dirty, c.in-Ok.ensures.others)) (rw (← next) c.in-Ok.ensures.ok);
      renewed = c.self.invariant.renewed;
    }
