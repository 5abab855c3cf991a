use Rattle.std.proofs.Common.{refl, sym, ap, take, ◌∙◌, Some, arith, rules}
use Rattle.std.proofs.lemmas.List.{take_all}
use Rattle.smb_engine.proofs.Chains.{chain_begins, writer_at, out_at, chain_more, chain_stopped, chain_so_far, chain_left, chain_count, done_least, kept_on}
use Rattle.smb_engine.proofs.Steps.{front_kept, kept_more}
use Rattle.smb_engine.proofs.Observed.{grew_none, chain_heard_one, chain_heard_more, chain_heard_all, chain_heard_none}
use Rattle.smb_engine.proofs.Knowing.{one_whole}
use Rattle.smb_engine.proofs.Endings.{ends_by_fault, none_admitted}
use Rattle.smb_engine.specs.Run.{chain_step}
use Rattle.smb_peers.specs.declared.ending.Ending.{Ending}
use Rattle.smb_engine.proofs.chain.chain_payload.Goals.{then-len-eq1, else-len-eq1}
use Rattle.smb_engine.proofs.chain.chain_payload.Goals as goal

pub returns-in-Err-clause-ok : goal.returns-in-Err-clause-ok
unfolding chain_step
returns-in-Err-clause-ok g c =
    let none = none_admitted c.args.connection.now c.args.payload.now _ (ends_by_fault c.args.connection.now c.args.payload.now _ c.in-Err.ensures.err) in
    search rules

pub returns-in-Err-admit-clause-ok : goal.returns-in-Err-admit-clause-ok
unfolding chain_step
returns-in-Err-admit-clause-ok g c =
    let none = none_admitted c.args.connection.now c.args.payload.now _ (c.in-Err-admit.ensures.err c.args.payload.now c.in-Ok.ensures.ok) in
    search rules

pub returns-in-Err-admit-clause-observed : goal.returns-in-Err-admit-clause-observed
returns-in-Err-admit-clause-observed g c =
    chain_heard_none g.A.Authenticator.meaning c.args.arrival c.args.server.now c.args.connection.now c.args.payload.now _ _ _ _ _
    (c.in-Err-admit.ensures.err c.args.payload.now c.in-Ok.ensures.ok) c.ended-in-Err-admit.ensures

pub loop-i-init : goal.loop-i-init
loop-i-init g c = record {
  so_far = chain_begins g.A.Authenticator.meaning _ _ _ _ _ refl refl refl c.first.ensures c.begin.ensures.placed refl;
  known = refl;
  base = c.begin.ensures.base;
  order = omega (arith, c.begin.ensures.base, c.begin.ensures.last);
  within = omega (arith, c.begin.ensures.last);
  few = omega (arith, c.begin.ensures.count);
  kept = take_all _ _ (omega arith);
  observed = grew_none _ _;
  room = omega arith;
}

pub returns-in-Err-perform_one-clause-kept : goal.returns-in-Err-perform_one-clause-kept
returns-in-Err-perform_one-clause-kept g c =
    c.truncate-in-Err-perform_one.ensures.items ∙ ap (λ n. take n c.perform_one.new.out.items) c.in-Ok-open_frame.ensures.start
    ∙ kept_more _ _ _ (front_kept _ _ _ c.in-Ok-open_frame.ensures.ok) (kept_on _ _ _ _ _ c.loop-i.invariant.base c.perform_one.ensures.kept c.loop-i.invariant.kept)

pub returns-in-Err-perform_one-clause-err : goal.returns-in-Err-perform_one-clause-err
returns-in-Err-perform_one-clause-err g c = record {
  within =
      let count = chain_count g.A.Authenticator.meaning c.args.arrival c.args.server.now c.args.connection.now c.args.payload.now _ (c.in_default.ensures.admitted c.args.payload.now c.in-Ok.ensures.ok) in
      omega (arith, count, c.len-i-end.ensures.len, done_least c.in-Err-perform_one.no_reply c.loop-i.i c.done_behind-done.result c.done_behind-done.ensures, c.loop-i-test.true);
  state =
      chain_left g.A.Authenticator.meaning c.args.arrival c.args.server.now c.args.connection.now c.args.payload.now _ c.admit.new.connection _ _ (c.in_default.ensures.admitted c.args.payload.now c.in-Ok.ensures.ok) c.in_default.ensures.taken
      (rw c.done_behind-done.ensures
      (chain_stopped g.A.Authenticator.meaning _ _ _ _ _ _ _ _ c.in-Err-perform_one.no_reply c.loop-i.invariant.so_far c.request_at.ensures.request c.in-Err-perform_one.ensures.err));
}

pub returns-then-i-most-clause-kept : goal.returns-then-i-most-clause-kept
returns-then-i-most-clause-kept g c =
    c.truncate.ensures.items ∙ ap (λ n. take n c.loop-i.out.items) c.in-Ok-open_frame.ensures.start ∙ kept_more _ _ _ (front_kept _ _ _ c.in-Ok-open_frame.ensures.ok) c.loop-i.invariant.kept

pub returns-then-i-most-clause-err : goal.returns-then-i-most-clause-err
returns-then-i-most-clause-err g c = record {
  within =
      let count = chain_count g.A.Authenticator.meaning c.args.arrival c.args.server.now c.args.connection.now c.args.payload.now _ (c.in_default.ensures.admitted c.args.payload.now c.in-Ok.ensures.ok) in
      omega (arith, count, c.len-i-end.ensures.len, c.loop-i-test.true);
  state =
      chain_left g.A.Authenticator.meaning c.args.arrival c.args.server.now c.args.connection.now c.args.payload.now _ c.admit.new.connection _ _ (c.in_default.ensures.admitted c.args.payload.now c.in-Ok.ensures.ok) c.in_default.ensures.taken
      (chain_so_far g.A.Authenticator.meaning _ _ _ _ _ _ c.loop-i.invariant.so_far);
}

pub loop-i-preserved : goal.loop-i-preserved
loop-i-preserved g c = record {
  so_far = chain_more g.A.Authenticator.meaning _ _ _ _ _ _ _ _ c.loop-i.invariant.so_far c.request_at.ensures.request
      (c.in-Ok-perform_one.ensures.ok _ _ (writer_at g.A.Authenticator.meaning _ _ _ _ _ _ c.loop-i.invariant.so_far) (out_at g.A.Authenticator.meaning _ _ _ _ _ _ c.loop-i.invariant.so_far));
  known = c.perform_one.ensures.known ∙ c.loop-i.invariant.known;
  base = c.perform_one.ensures.base ∙ c.loop-i.invariant.base;
  order = c.perform_one.ensures.order;
  within = c.in-Ok-perform_one.ensures.within;
  few = omega (arith, c.perform_one.ensures.few, c.loop-i.invariant.few);
  kept = kept_on _ _ _ _ _ c.loop-i.invariant.base c.perform_one.ensures.kept c.loop-i.invariant.kept;
  observed = chain_heard_more g.A.Authenticator.meaning _ c.args.payload.now _ _ _ _ _ _ _ _ _ _ _ c.request_at.ensures.request
      (chain_heard_one g.A.Authenticator.meaning _ _ c.args.payload.now _ _ _ _ _ c.loop-i.invariant.so_far) c.loop-i.invariant.observed c.in-Ok-perform_one.ensures.observed;
  room = omega (arith, c.in-Ok-perform_one.ensures.len, c.loop-i.invariant.room, c.loop-i.invariant.base);
}

pub returns-clause-count : goal.returns-clause-count
returns-clause-count g c =
    c.len-count.ensures.len
    ∙ sym (chain_count g.A.Authenticator.meaning c.args.arrival c.args.server.now c.args.connection.now c.args.payload.now _ (c.in_default.ensures.admitted c.args.payload.now c.in-Ok.ensures.ok))

pub returns-in-Err-clause-observed : goal.returns-in-Err-clause-observed
returns-in-Err-clause-observed g c =
    let ends = ends_by_fault c.args.connection.now c.args.payload.now _ c.in-Err.ensures.err ∙ ap (λ (e : Ending). Some e) (sym c.fault_ending-ending.ensures) in
    chain_heard_none g.A.Authenticator.meaning c.args.arrival c.args.server.now c.args.connection.now c.args.payload.now _ _ _ _ _ ends c.ended.ensures

pub returns-clause-observed : goal.returns-clause-observed
returns-clause-observed g c =
    chain_heard_all g.A.Authenticator.meaning c.args.arrival c.args.server.now c.args.connection.now _ c.args.payload.now _ _ _ _ _ _ (c.in_default.ensures.admitted c.args.payload.now c.in-Ok.ensures.ok) c.in_default.ensures.taken (omega arith) c.loop-i.invariant.observed

pub perform_one-requires-clause-known : goal.perform_one-requires-clause-known
perform_one-requires-clause-known g c =
    elim c.if-len-eq1.branch [
      | then-len-eq1 w ↦
          let one = one_whole c.args.payload.now c.request_at.result.1.now _ c.loop-i.i c.in-Ok.ensures.ok (sym c.len.ensures.len ∙ w.if-len-eq1.true) c.request_at.ensures.request in
          rw (w.known-is, ← one) c.requires.known
      | else-len-eq1 w ↦ rw w.known-is tt
    ]
