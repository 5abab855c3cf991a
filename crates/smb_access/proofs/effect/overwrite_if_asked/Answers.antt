use Rattle.std.proofs.Common.{sym, ap, ◌∙◌}
use Rattle.smb_tree.specs.Content.{Content}
use Rattle.smb_tree.specs.Parts.{with_basic}
use Rattle.smb_tree.specs.Faults.{basic_fault}
use Rattle.smb_wire.specs.Dispositions.{overwrites_by}
use Rattle.smb_access.specs.Asked.{asked}
use Rattle.smb_access.specs.Looked.{refusal_of}
use Rattle.smb_access.proofs.Overwrites.{only_memory, size_free, basic_free, overwritten_done, standing_over}
use Rattle.smb_access.proofs.effect.overwrite_if_asked.Goals as goal

pub returns-in-Err-clause-memory : goal.returns-in-Err-clause-memory
returns-in-Err-clause-memory g c =
    c.refusal_of.ensures
    ∙ ap refusal_of (only_memory _ _ (size_free (g.T.Tree.content c.args.tree.now) c.args.target.number c.args.target c.requires.good c.requires.target (c.requires.file (ap overwrites_by (sym c.requires.disposition) ∙ sym c.if-not-overwrites.ensures))) c.in-Err.ensures.why)

pub unreachable-requires : goal.unreachable-requires
unreachable-requires g c =
    let due = ap (λ (x : Content). basic_fault x c.args.target.number) c.in_default.ensures.ok ∙ basic_free (g.T.Tree.content c.args.tree.now) c.args.target.number c.args.target c.requires.target in
    let told = c.in-Err-set_basic.ensures.why in cc

pub returns-clause-ok : goal.returns-clause-ok
returns-clause-ok g c =
    let over = ap overwrites_by (sym c.requires.disposition) ∙ sym c.if-not-overwrites.ensures in
    c.in-Ok.ensures.ok ∙ ap (λ (x : Content). with_basic x c.args.target.number c.overwritten_basic-basic.result) c.in_default.ensures.ok
    ∙ overwritten_done (g.T.Tree.content c.args.tree.now) (asked c.args.ask.now) c.args.moment c.args.target.number c.args.target c.overwritten_basic-basic.result c.requires.target c.overwritten_basic-basic.ensures
    ∙ standing_over (g.T.Tree.content c.args.tree.now) (asked c.args.ask.now) c.args.moment c.args.target.number over
