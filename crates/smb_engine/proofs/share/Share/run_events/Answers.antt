use Rattle.std.proofs.Common.{refl, arith}
use Rattle.smb_engine.proofs.Streams.{same_unread}
use Rattle.smb_engine.proofs.Runs.{run_none, run_more, run_stops, connection_read}
use Rattle.smb_engine.proofs.Short.{more_short, same_short}
use Rattle.smb_engine.proofs.Observed.{grew_none, run_heard_more, run_heard_all}
use Rattle.smb_engine.proofs.share.Share.run_events.Goals as goal

pub loop-event-init : goal.loop-event-init
loop-event-init g c = record { so_far = run_none g.A.Authenticator.meaning _ _ _ (rw (← c.self.view_is) (same_unread _ c.self.invariant.waits)); place = refl; observed = grew_none _ _; short = λ h. h }

pub returns-in-Err-clause-err : goal.returns-in-Err-clause-err
returns-in-Err-clause-err g c =
    run_stops g.A.Authenticator.meaning _ _ _ _ _ _ _ _ _ _ _ c.loop-event.invariant.so_far c.loop-event.invariant.place c.loop-event-test.true c.event-item.is c.in-Err.ensures.err c.in-Err.ensures.kept

pub returns-in-Err-clause-connection : goal.returns-in-Err-clause-connection
returns-in-Err-clause-connection g c =
    rw (c.loop-event.invariant.place, c.connection-connection.ensures) (connection_read g.A.Authenticator.meaning _ _ _ c.loop-event-test.true c.event-item.is)

pub loop-event-preserved : goal.loop-event-preserved
loop-event-preserved g c = record {
  so_far = run_more g.A.Authenticator.meaning _ _ _ _ _ _ _ _ _ c.loop-event.invariant.so_far c.loop-event-test.true c.event-item.is c.in-Ok.ensures.unrefused c.in-Ok.ensures.state c.in-Ok.ensures.outputs;
  place = omega arith;
  observed = run_heard_more g.A.Authenticator.meaning _ _ _ _ _ _ _ _ _ _ _ _ _ c.loop-event.invariant.so_far c.loop-event-test.true c.event-item.is c.in-Ok.ensures.unrefused
      c.loop-event.invariant.observed c.in-Ok.ensures.observed;
  short = λ h. more_short _ _ _ c.in-Ok.ensures.outputs (c.loop-event.invariant.short h) c.in-Ok.ensures.short;
}

pub returns-in-Err-clause-short : goal.returns-in-Err-clause-short
returns-in-Err-clause-short g c = λ h. same_short _ _ c.in-Err.ensures.kept (c.loop-event.invariant.short h)

pub returns-clause-observed : goal.returns-clause-observed
returns-clause-observed g c = run_heard_all g.A.Authenticator.meaning _ c.args.events.now c.loop-event.event-index _ _ _ _ (omega arith) c.loop-event.invariant.observed
