use Rattle.std.proofs.Common.{sym, ◌∙◌}
use Rattle.smb_session.proofs.Runs.{distinct_rest, distinct_none}
use Rattle.smb_session.proofs.window.all_distinct.Goals as goal

pub returns-then-not-is_apart_from : goal.returns-then-not-is_apart_from
returns-then-not-is_apart_from c =
    sym (distinct_none c.loop-rest.rest.now c.in-len1-up.len_at_least (sym c.is_apart_from.ensures ∙ c.if-not-is_apart_from.true)) ∙ c.loop-rest.invariant

pub loop-rest-preserved : goal.loop-rest-preserved
loop-rest-preserved c =
    distinct_rest c.loop-rest.rest.now c.in-len1-up.len_at_least (sym c.is_apart_from.ensures ∙ c.if-not-is_apart_from.false) ∙ c.loop-rest.invariant
