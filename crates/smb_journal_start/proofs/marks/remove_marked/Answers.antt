use Rattle.std.proofs.Common.{sym, ◌∙◌}
use Rattle.smb_journal_start.proofs.Leaving.{left_after}
use Rattle.smb_journal_start.proofs.marks.remove_marked.Goals as goal

pub returns : goal.returns
returns g c = λ before left. left_after c.remove.result before _ _ c.args.number left c.if-number-eq-ROOT.false
    (sym c.has_mark.ensures ∙ c.if-not-has_mark.false) c.remove.ensures.lawful c.remove.ensures.ok c.remove.ensures.err
