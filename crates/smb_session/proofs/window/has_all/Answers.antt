use Rattle.std.proofs.Common.{sym, ◌∙◌}
use Rattle.smb_session.proofs.Runs.{all_rest, all_none}
use Rattle.smb_session.specs.Window.{contains}
use Rattle.smb_session.proofs.window.has_all.Goals as goal

pub returns-then-not-has_run : goal.returns-then-not-has_run
returns-then-not-has_run c =
    sym (all_none (contains c.args.usable.now) c.loop-rest.rest.now c.in-len1-up.len_at_least (sym c.has_run.ensures ∙ c.if-not-has_run.true)) ∙ c.loop-rest.invariant

pub loop-rest-preserved : goal.loop-rest-preserved
loop-rest-preserved c =
    all_rest (contains c.args.usable.now) c.loop-rest.rest.now c.in-len1-up.len_at_least (sym c.has_run.ensures ∙ c.if-not-has_run.false) ∙ c.loop-rest.invariant
