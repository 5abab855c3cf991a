use Rattle.std.proofs.Common.{refl, ◌∙◌}
use Rattle.smb_engine.proofs.Pieces.{stopped_in, short_in, stays_as, ends_as}
use Rattle.smb_engine.proofs.SoFar.{taken_says, taken_short, taken_rest}
use Rattle.smb_engine.proofs.Observed.{piece_heard}
use Rattle.smb_engine.proofs.stream.take_piece.Goals as goal

pub returns-in-Err-clause-err : goal.returns-in-Err-clause-err
returns-in-Err-clause-err g c =
    let w = rw (← c.stream.view_is) at c.requires in
    rw (← c.stream.view_is) (stopped_in g.A.Authenticator.meaning c.args.arrival c.args.server.now _ c.args.piece.now _ _ _ w refl c.in-Err.ensures.err)

pub returns-in_default-clause-err : goal.returns-in_default-clause-err
returns-in_default-clause-err g c =
    let w = rw (← c.stream.view_is) at c.requires in
    rw (← c.stream.view_is) (stopped_in g.A.Authenticator.meaning c.args.arrival c.args.server.now _ c.args.piece.now _ _ _ w refl c.in-Ok.ensures.taken.stopped)

pub returns-then-stays_open-clause-ok : goal.returns-then-stays_open-clause-ok
returns-then-stays_open-clause-ok g c =
    let w = rw (← c.stream.view_is) at c.requires in
    let taken = c.in-Ok.ensures.taken in
    rw (← c.stream.view_is) (stays_as g.A.Authenticator.meaning c.args.arrival g.K.Sink.hears c.args.server.now _ c.args.piece.now _ _ _ _ _ _ _ w refl
    (taken_says g.A.Authenticator.meaning g.K.Sink.hears c.args.arrival _ _ _ _ _ _ _ _ _ _ taken)
    (taken_rest g.A.Authenticator.meaning g.K.Sink.hears c.args.arrival _ _ _ _ _ _ _ _ _ _ taken) c.if-stays_open.ensures.open c.good.ensures.good).0

pub returns-then-stays_open-clause-outputs : goal.returns-then-stays_open-clause-outputs
returns-then-stays_open-clause-outputs g c =
    let w = rw (← c.stream.view_is) at c.requires in
    let taken = c.in-Ok.ensures.taken in
    rw (← c.stream.view_is) (stays_as g.A.Authenticator.meaning c.args.arrival g.K.Sink.hears c.args.server.now _ c.args.piece.now _ _ _ _ _ _ _ w refl
    (taken_says g.A.Authenticator.meaning g.K.Sink.hears c.args.arrival _ _ _ _ _ _ _ _ _ _ taken)
    (taken_rest g.A.Authenticator.meaning g.K.Sink.hears c.args.arrival _ _ _ _ _ _ _ _ _ _ taken) c.if-stays_open.ensures.open c.good.ensures.good).1

pub returns-clause-ok : goal.returns-clause-ok
returns-clause-ok g c =
    let w = rw (← c.stream.view_is) at c.requires in
    let taken = c.in-Ok.ensures.taken in
    rw (← c.stream.view_is) (ends_as g.A.Authenticator.meaning c.args.arrival g.K.Sink.hears c.args.server.now _ _ c.args.piece.now _ _ _ _ _ _ _ w refl
    (taken_says g.A.Authenticator.meaning g.K.Sink.hears c.args.arrival _ _ _ _ _ _ _ _ _ _ taken)
    (taken_rest g.A.Authenticator.meaning g.K.Sink.hears c.args.arrival _ _ _ _ _ _ _ _ _ _ taken) c.if-stays_open.ensures.open).0

pub returns-clause-outputs : goal.returns-clause-outputs
returns-clause-outputs g c =
    let w = rw (← c.stream.view_is) at c.requires in
    let taken = c.in-Ok.ensures.taken in
    c.in-Ok-put_end.ensures.ok ∙
    rw (← c.stream.view_is) (ends_as g.A.Authenticator.meaning c.args.arrival g.K.Sink.hears c.args.server.now _ (record { received = c.stream.inside.buffer.bytes; connection = c.stream.inside.connection }) c.args.piece.now _ _ _ _ _ _ _ w refl
    (taken_says g.A.Authenticator.meaning g.K.Sink.hears c.args.arrival _ _ _ _ _ _ _ _ _ _ taken)
    (taken_rest g.A.Authenticator.meaning g.K.Sink.hears c.args.arrival _ _ _ _ _ _ _ _ _ _ taken) c.if-stays_open.ensures.open).1

pub returns-then-stays_open-clause-short : goal.returns-then-stays_open-clause-short
returns-then-stays_open-clause-short g c =
    let w = rw (← c.stream.view_is) at c.requires in
    rw (← c.stream.view_is) (short_in g.A.Authenticator.meaning c.args.arrival c.args.server.now _ c.args.piece.now _ w refl
    (taken_short g.A.Authenticator.meaning g.K.Sink.hears c.args.arrival _ _ _ _ _ _ _ _ _ _ c.in-Ok.ensures.taken))

pub returns-clause-short : goal.returns-clause-short
returns-clause-short g c =
    let w = rw (← c.stream.view_is) at c.requires in
    rw (← c.stream.view_is) (short_in g.A.Authenticator.meaning c.args.arrival c.args.server.now _ c.args.piece.now _ w refl
    (taken_short g.A.Authenticator.meaning g.K.Sink.hears c.args.arrival _ _ _ _ _ _ _ _ _ _ c.in-Ok.ensures.taken))

pub returns-then-stays_open-clause-observed : goal.returns-then-stays_open-clause-observed
returns-then-stays_open-clause-observed g c =
    let w = rw (← c.stream.view_is) at c.requires in
    rw (← c.stream.view_is) (piece_heard g.A.Authenticator.meaning c.args.arrival g.K.Sink.hears c.args.server.now _ c.args.piece.now _ _ _ _ _ _ _ _ _ _ _ _ _ _ w refl
    c.in-Ok.ensures.taken c.in-Ok.ensures.observed c.if-stays_open.ensures.observed)

pub returns-clause-observed : goal.returns-clause-observed
returns-clause-observed g c =
    let w = rw (← c.stream.view_is) at c.requires in
    rw (← c.stream.view_is) (piece_heard g.A.Authenticator.meaning c.args.arrival g.K.Sink.hears c.args.server.now _ c.args.piece.now _ _ _ _ _ _ _ _ _ _ _ _ _ _ w refl
    c.in-Ok.ensures.taken c.in-Ok.ensures.observed c.if-stays_open.ensures.observed)
