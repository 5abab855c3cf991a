use Rattle.smb_recovery.proofs.Joining.{found_there}
use Rattle.smb_recovery.proofs.reading.recover.Goals as goal

pub returns-in-Ok-finish-clause-files : goal.returns-in-Ok-finish-clause-files
returns-in-Ok-finish-clause-files g c =
    (found_there c.args.seed (g.S.Source.read c.take_all.new.source) (g.S.Source.read c.finish.new.source) c.take_all.new.buffer.items c.in-Ok.found c.in-Ok-finish.done (g.S.Source.ended c.take_all.new.source) c.in-Ok.ensures.read c.in-Ok-finish.ensures.done).files

pub returns-in-Ok-finish-clause-written : goal.returns-in-Ok-finish-clause-written
returns-in-Ok-finish-clause-written g c =
    (found_there c.args.seed (g.S.Source.read c.take_all.new.source) (g.S.Source.read c.finish.new.source) c.take_all.new.buffer.items c.in-Ok.found c.in-Ok-finish.done (g.S.Source.ended c.take_all.new.source) c.in-Ok.ensures.read c.in-Ok-finish.ensures.done).read

pub returns-in-Ok-finish-clause-all : goal.returns-in-Ok-finish-clause-all
returns-in-Ok-finish-clause-all g c =
    (found_there c.args.seed (g.S.Source.read c.take_all.new.source) (g.S.Source.read c.finish.new.source) c.take_all.new.buffer.items c.in-Ok.found c.in-Ok-finish.done (g.S.Source.ended c.take_all.new.source) c.in-Ok.ensures.read c.in-Ok-finish.ensures.done).long

pub returns-in-Ok-finish-clause-undamaged : goal.returns-in-Ok-finish-clause-undamaged
returns-in-Ok-finish-clause-undamaged g c =
    (found_there c.args.seed (g.S.Source.read c.take_all.new.source) (g.S.Source.read c.finish.new.source) c.take_all.new.buffer.items c.in-Ok.found c.in-Ok-finish.done (g.S.Source.ended c.take_all.new.source) c.in-Ok.ensures.read c.in-Ok-finish.ensures.done).undamaged

pub returns-in-Ok-clause-why : goal.returns-in-Ok-clause-why
returns-in-Ok-clause-why g c = λ later. c.in-Err-finish.ensures.why c.args.seed c.in-Ok.ensures.read later
