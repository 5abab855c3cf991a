use Rattle.smb_engine.proofs.SoFar.{pushed}
use Rattle.smb_engine.proofs.stream.take_held.Goals as goal

pub take_payloads-requires : goal.take_payloads-requires
take_payloads-requires g c = (pushed c.args.buffer.now c.push.new.self c.args.bytes.now c.requires.limit c.requires.sound c.in-Ok.ensures.ok).0

pub returns-in-Ok-clause-taken : goal.returns-in-Ok-clause-taken
returns-in-Ok-clause-taken g c = rw (← (pushed c.args.buffer.now c.push.new.self c.args.bytes.now c.requires.limit c.requires.sound c.in-Ok.ensures.ok).1) c.take_payloads.ensures.taken

pub returns-in-Ok-clause-err : goal.returns-in-Ok-clause-err
returns-in-Ok-clause-err g c = rw (← (pushed c.args.buffer.now c.push.new.self c.args.bytes.now c.requires.limit c.requires.sound c.in-Ok.ensures.ok).1) c.take_payloads.ensures.err

pub returns-in-Ok-clause-few : goal.returns-in-Ok-clause-few
returns-in-Ok-clause-few g c = rw (← (pushed c.args.buffer.now c.push.new.self c.args.bytes.now c.requires.limit c.requires.sound c.in-Ok.ensures.ok).1) c.take_payloads.ensures.few

pub returns-in-Ok-clause-observed : goal.returns-in-Ok-clause-observed
returns-in-Ok-clause-observed g c = rw (← (pushed c.args.buffer.now c.push.new.self c.args.bytes.now c.requires.limit c.requires.sound c.in-Ok.ensures.ok).1) c.take_payloads.ensures.observed
