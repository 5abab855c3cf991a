use Rattle.std.proofs.Common.{ap, ◌∙◌}
use Rattle.smb_wire.specs.PathViews.{parts_of}
use Rattle.smb_tree.specs.declared.entry.Basic.{Basic}
use Rattle.smb_tree.specs.Content.{Content}
use Rattle.smb_tree.specs.Parts.{with_basic}
use Rattle.smb_tree.specs.Faults.{basic_fault}
use Rattle.smb_tree.specs.Views.{shown}
use Rattle.smb_entry.proofs.Renaming.{basic_free, dated_done}
use Rattle.smb_entry.proofs.rename.move_to.Goals as goal

pub unreachable-requires-in-Err-set_basic : goal.unreachable-requires-in-Err-set_basic
unreachable-requires-in-Err-set_basic g c =
    let due = ap (λ (x : Content). basic_fault x c.args.entry) c.in-Ok.ensures.ok ∙ basic_free (g.T.Tree.content c.args.tree.now) c.args.entry (parts_of c.args.path.now) (shown c.in-Some.seen) c.requires.good c.in-Some.ensures c.in-Ok.ensures.lawful in
    let told = c.in-Err-set_basic.ensures.why in cc

pub returns-clause-ok : goal.returns-clause-ok
returns-clause-ok g c =
    let basic : Basic = record c.in-Some.seen.basic { change_time = c.args.moment } in
    c.in-Ok-set_basic.ensures.ok ∙ ap (λ (x : Content). with_basic x c.args.entry basic) c.in-Ok.ensures.ok
    ∙ dated_done (g.T.Tree.content c.args.tree.now) c.args.entry (parts_of c.args.path.now) (shown c.in-Some.seen) c.args.moment c.requires.good c.in-Some.ensures c.in-Ok.ensures.lawful
