use Rattle.std.proofs.Common.{if◌then◌else◌, Some, None, is_some, length, ap, subst, sym, ◌∙◌}
use Rattle.smb_tree.specs.Content.{Content}
use Rattle.smb_tree.specs.Parts.{with_basic}
use Rattle.smb_tree.specs.Faults.{basic_fault, write_fault}
use Rattle.smb_tree.specs.Views.{Shown, shown}
use Rattle.smb_entry.specs.Parts.{written_basic}
use Rattle.smb_access.proofs.Trees.{row_of_shown}
use Rattle.smb_refusals.specs.Refused.{IsRefusedBy}
use Rattle.smb_refusals.specs.declared.refused_by.RefusedBy.{RefusedBy}
use Rattle.smb_refusals.specs.declared.file.WriteRefusal.{WriteRefusal}
use Rattle.smb_refusals.specs.declared.file.WriteRefusal.TheVariants.{NoSpaceLeft}
use Rattle.smb_entry.proofs.Writes.{write_done, basic_there, write_refusal}
use Rattle.smb_entry.proofs.bytes.write_file.Goals as goal

pub unreachable-requires-in-Err-set_basic : goal.unreachable-requires-in-Err-set_basic
unreachable-requires-in-Err-set_basic g c =
    let r = row_of_shown (g.T.Tree.content c.args.tree.now).rows c.args.entry (shown c.in-Some.seen) c.in-Some.ensures in
    let due = ap (λ (x : Content). basic_fault x c.args.entry) c.in_default-write.ensures.ok ∙ basic_there (g.T.Tree.content c.args.tree.now) c.args.entry c.args.offset c.args.buffer.now r.0 r.1 in
    let told = c.in-Err-set_basic.ensures.why in cc

pub returns-in-Err-clause-why : goal.returns-in-Err-clause-why
returns-in-Err-clause-why g c =
    subst (λ (told : RefusedBy WriteRefusal). IsRefusedBy (if is_some (write_fault (g.T.Tree.content c.args.tree.now) c.args.entry c.args.offset (length c.args.buffer.now)) then Some NoSpaceLeft else None) told) (sym c.refused_by_tree.ensures)
    (write_refusal (g.T.Tree.content c.args.tree.now) c.args.entry c.args.offset (length c.args.buffer.now) c.in-Err.fault c.requires.file c.in-Err.ensures.why c.in-Err.ensures.memory)

pub returns-clause-ok : goal.returns-clause-ok
returns-clause-ok g c =
    let r = row_of_shown (g.T.Tree.content c.args.tree.now).rows c.args.entry (shown c.in-Some.seen) c.in-Some.ensures in
    c.in-Ok.ensures.ok ∙ ap (λ (x : Content). with_basic x c.args.entry c.written_basic-basic.result) c.in_default-write.ensures.ok
    ∙ write_done (g.T.Tree.content c.args.tree.now) c.args.entry c.args.offset c.args.buffer.now c.args.moment c.written_basic-basic.result r.0 r.1
    (c.written_basic-basic.ensures ∙ ap (λ (s : Shown). written_basic c.args.moment s.basic) r.2)
