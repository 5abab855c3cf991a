use Rattle.std.proofs.Common.{◌≤◌, length, take, arith, rules}
use Rattle.std.proofs.lemmas.List.{length-take-le}
use Rattle.smb_frame.specs.Unread.{lacking}
use Rattle.smb_engine.proofs.SoFar.{parts_over, parts_stopped, parts_far, taken_then, stopped_then, taken_rest, split_is, sound_front, sum_small}
use Rattle.smb_engine.proofs.Observed.{parts_heard, parts_heard_over}
use Rattle.smb_engine.proofs.stream.take_parts.Goals as goal

pub returns-in_err-open_still-clause-err : goal.returns-in_err-open_still-clause-err
returns-in_err-open_still-clause-err g c =
    let stopped = parts_stopped g.A.Authenticator.meaning g.K.Sink.hears c.args.arrival _ _ c.args.buffer.now.bytes _ _ c.args.piece.now _ _ (split_is c.args.piece.now c.min-count.result) c.in_err-open_still.ensures.err in
    search rules

pub returns-then-not-open_still-clause-taken : goal.returns-then-not-open_still-clause-taken
returns-then-not-open_still-clause-taken g c =
    parts_over g.A.Authenticator.meaning g.K.Sink.hears c.args.arrival _ _ _ c.args.buffer.now.bytes _ _ c.args.piece.now _ _ _ _ _ _
    (split_is c.args.piece.now c.min-count.result) c.if-not-open_still.true c.in_ok-open_still.ensures.taken

pub take_back-requires-2-clause-sound : goal.take_back-requires-2-clause-sound
take_back-requires-2-clause-sound g c =
    let count : length (take c.min-count.result c.args.piece.now) ≤ lacking c.args.buffer.now.bytes =
    omega (arith, length-take-le c.min-count.result c.args.piece.now (omega arith)) in
    let left = taken_rest g.A.Authenticator.meaning g.K.Sink.hears c.args.arrival _ _ _ _ _ _ _ _ _ _ c.in_ok-open_still.ensures.taken c.if-not-open_still.false in
    sound_front c.args.buffer.now.bytes _ _ c.requires.partial c.requires.sound count left.0

pub overflow_add-result : goal.overflow_add-result
overflow_add-result g c =
    let count : length (take c.min-count.result c.args.piece.now) ≤ lacking c.args.buffer.now.bytes =
    omega (arith, length-take-le c.min-count.result c.args.piece.now (omega arith)) in
    let left = taken_rest g.A.Authenticator.meaning g.K.Sink.hears c.args.arrival _ _ _ _ _ _ _ _ _ _ c.in_ok-open_still.ensures.taken c.if-not-open_still.false in
    let sound = sound_front c.args.buffer.now.bytes _ _ c.requires.partial c.requires.sound count left.0 in
    let small = sum_small c.args.buffer.now.bytes c.take_held.new.buffer.bytes c.args.piece.now c.min-count.result c.in_ok-open_still.done c.in-Ok.more
    c.requires.partial c.requires.sound left.1 sound (omega arith) c.in_ok-open_still.ensures.taken.few c.in-Ok.ensures.taken.few in
    search rules

pub overflow_add-done : goal.overflow_add-done
overflow_add-done g c =
    let count : length (take c.min-count.result c.args.piece.now) ≤ lacking c.args.buffer.now.bytes =
    omega (arith, length-take-le c.min-count.result c.args.piece.now (omega arith)) in
    let left = taken_rest g.A.Authenticator.meaning g.K.Sink.hears c.args.arrival _ _ _ _ _ _ _ _ _ _ c.in_ok-open_still.ensures.taken c.if-not-open_still.false in
    let sound = sound_front c.args.buffer.now.bytes _ _ c.requires.partial c.requires.sound count left.0 in
    let small = sum_small c.args.buffer.now.bytes c.take_held.new.buffer.bytes c.args.piece.now c.min-count.result c.in_ok-open_still.done c.in-Err.ran_out.done
    c.requires.partial c.requires.sound left.1 sound (omega arith) c.in_ok-open_still.ensures.taken.few c.in-Err.ensures.few in
    search rules

pub returns-in-Ok-clause-taken : goal.returns-in-Ok-clause-taken
returns-in-Ok-clause-taken g c =
    let one = parts_far g.A.Authenticator.meaning g.K.Sink.hears c.args.arrival _ _ _ c.args.buffer.now.bytes _ _ c.args.piece.now _ _ _ _ _ _
    (split_is c.args.piece.now c.min-count.result) c.if-not-open_still.false c.in_ok-open_still.ensures.taken in
    taken_then g.A.Authenticator.meaning g.K.Sink.hears c.args.arrival _ _ _ _ _ _ _ _ _ _ _ _ _ _ _ one c.in-Ok.ensures.taken

pub returns-in-Err-clause-err : goal.returns-in-Err-clause-err
returns-in-Err-clause-err g c =
    let one = parts_far g.A.Authenticator.meaning g.K.Sink.hears c.args.arrival _ _ _ c.args.buffer.now.bytes _ _ c.args.piece.now _ _ _ _ _ _
    (split_is c.args.piece.now c.min-count.result) c.if-not-open_still.false c.in_ok-open_still.ensures.taken in
    stopped_then g.A.Authenticator.meaning g.K.Sink.hears c.args.arrival _ _ _ _ _ _ _ _ _ _ _ one c.in-Err.ensures.err

pub returns-then-not-open_still-clause-observed : goal.returns-then-not-open_still-clause-observed
returns-then-not-open_still-clause-observed g c =
    parts_heard_over g.A.Authenticator.meaning c.args.arrival g.K.Sink.hears _ _ _ c.args.buffer.now.bytes _ _ c.args.piece.now _ _ _ _ _ _ _ _ _ _
    (split_is c.args.piece.now c.min-count.result) c.if-not-open_still.true c.in_ok-open_still.ensures.taken c.in_ok-open_still.ensures.observed

pub returns-in-Ok-clause-observed : goal.returns-in-Ok-clause-observed
returns-in-Ok-clause-observed g c =
    parts_heard g.A.Authenticator.meaning c.args.arrival g.K.Sink.hears _ _ _ c.args.buffer.now.bytes _ _ c.args.piece.now _ _ _ _ _ _ _ _ _ _ _ _
    (split_is c.args.piece.now c.min-count.result) c.if-not-open_still.false c.in_ok-open_still.ensures.taken c.in_ok-open_still.ensures.observed c.in-Ok.ensures.observed
