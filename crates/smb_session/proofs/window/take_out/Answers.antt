use Rattle.std.proofs.Common.{drop, refl, arith}
use Rattle.smb_session.proofs.Taken.{take_first, all_taken}
use Rattle.smb_session.proofs.window.take_out.Goals as goal

pub loop-rest-init : goal.loop-rest-init
loop-rest-init c = record { left = record { rising = c.requires.rising; same = refl }; within = c.requires.within }

pub take_run-front-requires : goal.take_run-front-requires
take_run-front-requires c = record { rising = c.loop-rest.invariant.left.rising; within = c.loop-rest.invariant.within }

pub loop-rest-preserved : goal.loop-rest-preserved
loop-rest-preserved c = record {
  left = take_first _ _ _ _ (drop c.take_run-front.result c.take_run-front.new.numbers.items) c.loop-rest.invariant.left c.in-len1-up.len_at_least c.take_run-front.ensures.rest;
  within = c.take_run-front.ensures.within;
}

pub returns-clause-rest : goal.returns-clause-rest
returns-clause-rest c = all_taken _ c.loop-rest.rest.now _ _ c.loop-rest.invariant.left (omega (arith, c.in_default.len_below))
