use Rattle.std.proofs.Common.{refl, sym, ap, ◌∙◌, rules, arith}
use Rattle.std.proofs.lemmas.Bool.{false≢true}
use Rattle.std.proofs.lemmas.List.{drop-drop, length-drop}
use Rattle.smb_engine.proofs.Chains.{count_few, within_few}
use Rattle.smb_engine.proofs.Steps.{steps_more, steps_over, steps_over_short, steps_refused, steps_stopped, steps_stopped_in, steps_within, steps_done, front_kept, kept_more}
use Rattle.smb_engine.proofs.Knowing.{payloads_from}
use Rattle.smb_engine.proofs.SoFar.{first_behind, tail_is, tail_long}
use Rattle.smb_engine.proofs.Observed.{heard_more, heard_over, heard_all}
use Rattle.smb_engine.proofs.stream.take_frames.Goals as goal

pub returns-then-done-most-clause-err : goal.returns-then-done-most-clause-err
returns-then-done-most-clause-err g c = record {
  within = steps_done g.A.Authenticator.meaning g.K.Sink.hears _ _ _ _ _ _ _ _ _ _ c.loop-payload.invariant.so_far;
  state = steps_stopped g.A.Authenticator.meaning g.K.Sink.hears _ _ _ _ _ _ _ _ _ _ c.loop-payload.invariant.so_far;
}

pub returns-then-done-most-2-clause-err : goal.returns-then-done-most-2-clause-err
returns-then-done-most-2-clause-err g c = record {
  within = steps_done g.A.Authenticator.meaning g.K.Sink.hears _ _ _ _ _ _ _ _ _ _ c.loop-payload.invariant.so_far;
  state = steps_stopped g.A.Authenticator.meaning g.K.Sink.hears _ _ _ _ _ _ _ _ _ _ c.loop-payload.invariant.so_far;
}

pub returns-in-Err-clause-err : goal.returns-in-Err-clause-err
returns-in-Err-clause-err g c =
    let f = first_behind c.args.bytes.now c.loop-payload.used _ c.in-Some.ensures.first in
    record {
      within = steps_within g.A.Authenticator.meaning g.K.Sink.hears _ _ _ _ _ _ _ _ _ _ _ _ c.loop-payload.invariant.so_far f c.in-Err.ensures.err.within;
      state = steps_stopped_in g.A.Authenticator.meaning g.K.Sink.hears _ _ _ _ _ _ _ _ _ _ _ _ _ c.loop-payload.invariant.so_far f c.in-Err.ensures.err.within c.in-Err.ensures.err.state;
    }

pub returns-in-Ok-None-clause-kept : goal.returns-in-Ok-None-clause-kept
returns-in-Ok-None-clause-kept g c =
    kept_more _ _ _ c.loop-payload.invariant.kept (front_kept _ _ _ (ap (λ p. p.out) c.in-Ok-None.ensures.ok))

pub loop-payload-preserved : goal.loop-payload-preserved
loop-payload-preserved g c =
    let e = rw c.in-Ok-Some.field-0-is at c.in-Ok-Some.ensures.ok in
    record {
      so_far = steps_more g.A.Authenticator.meaning g.K.Sink.hears _ _ _ _ _ _ _ _ _ _ _ _ _ _ _ _ c.loop-payload.invariant.so_far
          (first_behind c.args.bytes.now c.loop-payload.used _ c.in-Some.ensures.first)
          e (rw c.in-Ok-Some.field-0-is at c.in-Ok-Some.ensures.count)
          (sym (drop-drop _ c.loop-payload.used c.args.bytes.now))
          (count_few g.A.Authenticator.meaning _ _ _ _ _ (rw c.in-Ok-Some.field-0-is at c.in-Ok-Some.ensures.count))
          c.in-Ok-Some.ensures.short;
      kept = kept_more _ _ _ c.loop-payload.invariant.kept (front_kept _ _ _ (ap (λ p. p.out) e));
      within = let long = c.in-Some.ensures.long in omega (arith, long, c.loop-payload.invariant.within, tail_long c.args.bytes.now c.loop-payload.used);
      observed = heard_more g.A.Authenticator.meaning c.args.arrival g.K.Sink.hears _ _ _ _ _ _ _ _ _ _ _ _ _ _ _ _ c.loop-payload.invariant.observed
          (first_behind c.args.bytes.now c.loop-payload.used _ c.in-Some.ensures.first) e (sym (drop-drop _ c.loop-payload.used c.args.bytes.now)) c.in-Ok-Some.ensures.observed;
      known = c.put_payload.ensures.known ∙ c.loop-payload.invariant.known;
      ahead = c.take_of-known.ensures.others c.in-Some.payload.now _
          (payloads_from c.args.bytes.now c.loop-payload.used _ c.in-Some.payload.now (first_behind c.args.bytes.now c.loop-payload.used _ c.in-Some.ensures.first) refl);
    }

pub take_of-known-requires : goal.take_of-known-requires
take_of-known-requires g c = rw (tail_is c.args.bytes.now c.loop-payload.used) c.loop-payload.invariant.ahead

pub put_payload-requires : goal.put_payload-requires
put_payload-requires g c =
    c.take_of-known.ensures.next c.in-Some.payload.now _
    (payloads_from c.args.bytes.now c.loop-payload.used _ c.in-Some.payload.now (first_behind c.args.bytes.now c.loop-payload.used _ c.in-Some.ensures.first) refl)

pub overflow_add-done : goal.overflow_add-done
overflow_add-done g c =
    let few = within_few g.A.Authenticator.meaning _ _ _ _ _ c.in-Err.ensures.err.within in
    let count = c.loop-payload.invariant.so_far.count in
    search rules

pub overflow_add-done-in-Ok-Some : goal.overflow_add-done-in-Ok-Some
overflow_add-done-in-Ok-Some g c =
    let few = count_few g.A.Authenticator.meaning _ _ _ _ _ (rw c.in-Ok-Some.field-0-is at c.in-Ok-Some.ensures.count) in
    let count = c.loop-payload.invariant.so_far.count in
    search rules

pub returns-in-Ok-None-clause-taken : goal.returns-in-Ok-None-clause-taken
returns-in-Ok-None-clause-taken g c =
    let e = rw c.in-Ok-None.field-0-is at c.in-Ok-None.ensures.ok in
    let f = first_behind c.args.bytes.now c.loop-payload.used _ c.in-Some.ensures.first in
    record {
      all = λ t. absurd (false≢true t);
      partial = λ t. absurd (false≢true t);
      over = λ _. record {
        says = steps_over g.A.Authenticator.meaning g.K.Sink.hears _ _ _ _ _ _ _ _ _ _ _ _ _ _ c.loop-payload.invariant.so_far f e;
        short = steps_over_short g.A.Authenticator.meaning g.K.Sink.hears _ _ _ _ _ _ _ _ _ _ _ c.loop-payload.invariant.so_far f (sym (ap (λ p. p.stays_open) e)) c.in-Ok-None.ensures.short;
      };
      stopped = record {
        within = steps_done g.A.Authenticator.meaning g.K.Sink.hears _ _ _ _ _ _ _ _ _ _ c.loop-payload.invariant.so_far;
        state = (steps_refused g.A.Authenticator.meaning g.K.Sink.hears _ _ _ _ _ _ _ _ e).0
            ∙ steps_stopped g.A.Authenticator.meaning g.K.Sink.hears _ _ _ _ _ _ _ _ _ _ c.loop-payload.invariant.so_far;
      };
      few = let count = c.loop-payload.invariant.so_far.count in omega (arith, count);
    }

pub returns-clause-taken : goal.returns-clause-taken
returns-clause-taken g c = record {
  all = λ t. c.loop-payload.invariant.so_far;
  partial = λ t. first_behind c.args.bytes.now c.loop-payload.used _ c.in_default.ensures.first;
  over = λ f. absurd (false≢true (sym f));
  stopped = record {
    within = steps_done g.A.Authenticator.meaning g.K.Sink.hears _ _ _ _ _ _ _ _ _ _ c.loop-payload.invariant.so_far;
    state = steps_stopped g.A.Authenticator.meaning g.K.Sink.hears _ _ _ _ _ _ _ _ _ _ c.loop-payload.invariant.so_far;
  };
  few = let count = c.loop-payload.invariant.so_far.count in omega (arith, count);
}

pub returns-in-Err-clause-few : goal.returns-in-Err-clause-few
returns-in-Err-clause-few g c =
    let few = within_few g.A.Authenticator.meaning _ _ _ _ _ c.in-Err.ensures.err.within in
    let count = c.loop-payload.invariant.so_far.count in
    let long = c.in-Some.ensures.long in
    omega (arith, few, count, long, tail_long c.args.bytes.now c.loop-payload.used, length-drop c.loop-payload.used c.args.bytes.now)

pub returns-in-Ok-None-clause-observed : goal.returns-in-Ok-None-clause-observed
returns-in-Ok-None-clause-observed g c =
    heard_over g.A.Authenticator.meaning c.args.arrival g.K.Sink.hears _ _ _ _ _ _ _ _ _ _ _ _ _ _ _ c.loop-payload.invariant.observed
    (first_behind c.args.bytes.now c.loop-payload.used _ c.in-Some.ensures.first) (rw c.in-Ok-None.field-0-is at c.in-Ok-None.ensures.ok) c.in-Ok-None.ensures.observed

pub returns-clause-observed : goal.returns-clause-observed
returns-clause-observed g c =
    heard_all g.A.Authenticator.meaning c.args.arrival _ _ _ _ _ _ _ _ c.loop-payload.invariant.observed (first_behind c.args.bytes.now c.loop-payload.used _ c.in_default.ensures.first)
