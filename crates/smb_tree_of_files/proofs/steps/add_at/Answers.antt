use Rattle.std.proofs.Common.{◌≡◌, arith, sym, ◌∙◌}
use Rattle.smb_wire.specs.PathViews.{parts_of}
use Rattle.smb_wire.proofs.Parting.{ends_count}
use Rattle.smb_tree_of_files.proofs.Begun.{leads_added, leads_on, next_is}
use Rattle.smb_tree_of_files.proofs.steps.add_at.Goals as goal

pub returns-in-Ok : goal.returns-in-Ok
returns-in-Ok c = λ files held.
    let content = c.skip_to.new.tree in
    let same : content.next ≡ c.args.number = next_is content c.next_no.result c.args.number c.next_no.ensures
    (sym c.ne.ensures ∙ c.if-ne.false) in
    leads_on files c.args.tree.now content c.add.new.self (c.skip_to.ensures files)
    (rw c.in-Ok.ensures.ok (leads_added files content (parts_of c.args.path.now) c.args.kind 0 0 (rw same held)
    c.args.path.now.kept.lawful (omega (
      arith,
      ends_count _ _ _ c.args.path.now.kept.ends,
      c.args.path.now.kept.ends.few,
    ))
    c.in-Ok.ensures.lawful))
