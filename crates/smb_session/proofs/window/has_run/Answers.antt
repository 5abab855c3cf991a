use Rattle.std.proofs.Common.{sym, ◌∙◌}
use Rattle.smb_session.proofs.Runs.{opened, found_other, found_next, found_skip}
use Rattle.smb_session.proofs.window.has_run.Goals as goal

pub returns-then-number-first : goal.returns-then-number-first
returns-then-number-first c =
    found_other _ _ _ _ _ _ c.loop-found-test.true c.if-first-number.true (λ e. c.if-number-first.true (e ∙ sym c.from.ensures))
    (opened _ _ _ _ _ c.in-len1-up.len_at_least c.loop-found.invariant)

pub loop-found-preserved-else-number-first : goal.loop-found-preserved-else-number-first
loop-found-preserved-else-number-first c =
    found_next _ _ _ _ _ _ c.loop-found-test.true c.if-first-number.true (c.if-number-first.false ∙ c.from.ensures)
    (opened _ _ _ _ _ c.in-len1-up.len_at_least c.loop-found.invariant)

pub loop-found-preserved : goal.loop-found-preserved
loop-found-preserved c = found_skip _ _ _ _ _ _ c.if-first-number.false (opened _ _ _ _ _ c.in-len1-up.len_at_least c.loop-found.invariant)
