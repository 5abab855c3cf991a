use Rattle.std.proofs.Common.{◌∙◌}
use Rattle.smb_engine.proofs.Endings.{runs_passed, runs_found}
use Rattle.smb_engine.proofs.ending.missing_of.Goals as goal

pub returns-in-Some : goal.returns-in-Some
returns-in-Some c = runs_found c.args.window.now c.loop-rest.rest.now _ c.in-len1-up.len_at_least c.in-Some.ensures ∙ c.loop-rest.invariant

pub loop-rest-preserved : goal.loop-rest-preserved
loop-rest-preserved c = runs_passed c.args.window.now c.loop-rest.rest.now c.in-len1-up.len_at_least c.in-None.ensures ∙ c.loop-rest.invariant
