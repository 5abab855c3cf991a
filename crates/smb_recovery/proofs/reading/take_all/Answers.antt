use Rattle.std.proofs.Common.{[]}
use Rattle.smb_recovery.proofs.Joining.{read_on, step_more, more_longer, number_below}
use Rattle.smb_recovery.proofs.reading.take_all.Goals as goal

pub take_next-requires : goal.take_next-requires
take_next-requires g c = number_below c.args.seed (g.S.Source.read c.loop-found.source) [] c.loop-found.found c.loop-found.invariant

pub loop-found-preserved : goal.loop-found-preserved
loop-found-preserved g c =
    read_on c.args.seed (g.S.Source.read c.take_next.new.source) (g.S.Source.read c.loop-found.source) c.take_next.new.buffer.items c.loop-found.found c.take_next.new.found c.in-Ok-true.ensures.read c.loop-found.invariant
    (step_more c.in-Ok-true.field-0 c.loop-found.found c.take_next.new.found c.take_next.new.buffer.items c.in-Ok-true.field-0-test c.in-Ok-true.ensures.step)

pub loop-found-smaller : goal.loop-found-smaller
loop-found-smaller g c =
    more_longer c.take_next.new.buffer.items c.loop-found.found c.take_next.new.found
    (step_more c.in-Ok-true.field-0 c.loop-found.found c.take_next.new.found c.take_next.new.buffer.items c.in-Ok-true.field-0-test c.in-Ok-true.ensures.step)

pub returns-in-Err-clause-why : goal.returns-in-Err-clause-why
returns-in-Err-clause-why g c = λ later. c.in-Err.ensures.why c.args.seed c.loop-found.invariant later
