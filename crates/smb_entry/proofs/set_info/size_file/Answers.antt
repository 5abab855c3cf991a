use Rattle.std.proofs.Common.{refl, ap, ◌∙◌}
use Rattle.smb_tree.specs.Content.{Content, resized}
use Rattle.smb_tree.specs.Parts.{with_basic}
use Rattle.smb_tree.specs.Entries.{Entry}
use Rattle.smb_tree.specs.Faults.{basic_fault}
use Rattle.smb_tree.specs.Views.{Shown, shown}
use Rattle.smb_entry.specs.Parts.{written_basic}
use Rattle.smb_entry.proofs.Settings.{basic_left, size_done}
use Rattle.smb_access.proofs.Trees.{row_of_shown}
use Rattle.smb_entry.proofs.set_info.size_file.Goals as goal

pub unreachable-requires-in-Err-set_basic : goal.unreachable-requires-in-Err-set_basic
unreachable-requires-in-Err-set_basic g c =
    let r = row_of_shown (g.T.Tree.content c.args.tree.now).rows c.args.entry (shown c.in-Some.seen) c.in-Some.ensures in
    let due = ap (λ (x : Content). basic_fault x c.args.entry) c.in_default-set_size.ensures.ok ∙ basic_left (λ (entry : Entry). record entry { bytes = resized c.args.size entry.bytes }) (g.T.Tree.content c.args.tree.now) c.args.entry r.0 (λ _. refl) r.1 in
    let told = c.in-Err-set_basic.ensures.why in cc

pub returns-clause-ok : goal.returns-clause-ok
returns-clause-ok g c =
    let r = row_of_shown (g.T.Tree.content c.args.tree.now).rows c.args.entry (shown c.in-Some.seen) c.in-Some.ensures in
    c.in-Ok.ensures.ok ∙ ap (λ (x : Content). with_basic x c.args.entry c.written_basic-basic.result) c.in_default-set_size.ensures.ok
    ∙ size_done (g.T.Tree.content c.args.tree.now) c.args.entry c.args.size c.args.moment c.written_basic-basic.result r.0 r.1
    (c.written_basic-basic.ensures ∙ ap (λ (s : Shown). written_basic c.args.moment s.basic) r.2)
