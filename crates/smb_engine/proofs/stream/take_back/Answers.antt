use Rattle.std.proofs.Common.{◌≡◌, [], drop, arith}
use Rattle.std.proofs.lemmas.List.{drop_all}
use Rattle.smb_engine.proofs.SoFar.{none_held, tail_is, taken_then, stopped_then}
use Rattle.smb_engine.proofs.Observed.{back_heard}
use Rattle.smb_engine.proofs.stream.take_back.Goals as goal

-- nothing is behind the whole frames
pub returns-then-used-back-clause-taken : goal.returns-then-used-back-clause-taken
returns-then-used-back-clause-taken g c =
    let e = none_held c.args.buffer.now.bytes (c.is_empty.ensures.0 c.if-not-is_empty.false) in
    let none : drop c.in_ok-open_still.used c.args.back.now ≡ [] = drop_all c.in_ok-open_still.used c.args.back.now (omega arith) in
    rw e (rw (none, c.if-not-open_still.false) at c.in_ok-open_still.ensures.taken)

pub returns-in-Ok-clause-taken : goal.returns-in-Ok-clause-taken
returns-in-Ok-clause-taken g c =
    let e = none_held c.args.buffer.now.bytes (c.is_empty.ensures.0 c.if-not-is_empty.false) in
    let one = c.in_ok-open_still.ensures.taken.all c.if-not-open_still.false in
    let two = rw (e, tail_is c.args.back.now c.in_ok-open_still.used) at c.in-Ok.ensures.taken in
    rw e (taken_then g.A.Authenticator.meaning g.K.Sink.hears _ _ _ _ _ _ _ _ _ _ _ _ _ _ _ _ one two)

pub returns-in-Err-clause-err : goal.returns-in-Err-clause-err
returns-in-Err-clause-err g c =
    let e = none_held c.args.buffer.now.bytes (c.is_empty.ensures.0 c.if-not-is_empty.false) in
    let one = c.in_ok-open_still.ensures.taken.all c.if-not-open_still.false in
    let two = rw (e, tail_is c.args.back.now c.in_ok-open_still.used) at c.in-Err.ensures.err in
    rw e (stopped_then g.A.Authenticator.meaning g.K.Sink.hears _ _ _ _ _ _ _ _ _ _ _ _ one two)

pub returns-in-Ok-clause-observed : goal.returns-in-Ok-clause-observed
returns-in-Ok-clause-observed g c =
    let e = none_held c.args.buffer.now.bytes (c.is_empty.ensures.0 c.if-not-is_empty.false) in
    let two = rw (e, tail_is c.args.back.now c.in_ok-open_still.used) at c.in-Ok.ensures.observed in
    rw e (back_heard g.A.Authenticator.meaning c.args.arrival _ _ _ _ _ _ _ _ _ _ _ _ (c.in_ok-open_still.ensures.taken.partial c.if-not-open_still.false) c.in_ok-open_still.ensures.observed two)
