use Rattle.std.proofs.Common.{arith, ◌∙◌}
use Rattle.smb_serving.proofs.Resting.{tracked_whole}
use Rattle.smb_serving.proofs.Turning.{kept_more, sent_all}
use Rattle.smb_serving.proofs.serving.send_from.Goals as goal

pub loop-place-preserved-then-serve_noted : goal.loop-place-preserved-then-serve_noted
loop-place-preserved-then-serve_noted g c = record {
  so_far = kept_more c.loop-place.invariant.so_far c.if-serve_noted.ensures.served;
  tracked = c.if-serve_noted.ensures.tracked;
  opened = c.serve_noted.ensures.opened ∙ c.loop-place.invariant.opened;
}

pub loop-place-preserved : goal.loop-place-preserved
loop-place-preserved g c = record {
  so_far = kept_more c.loop-place.invariant.so_far c.if-serve_noted.ensures.served;
  tracked = c.if-serve_noted.ensures.tracked;
  opened = c.serve_noted.ensures.opened ∙ c.loop-place.invariant.opened;
}

pub serve_noted-requires-clause-tracked : goal.serve_noted-requires-clause-tracked
serve_noted-requires-clause-tracked g c = c.loop-place.invariant.tracked

pub returns-clause-tracked : goal.returns-clause-tracked
returns-clause-tracked g c = tracked_whole _ _ _ c.loop-place.invariant.tracked (omega arith)

pub returns-clause-served : goal.returns-clause-served
returns-clause-served g c = λ k. let b = c.loop-place.invariant.so_far k in (b.0, sent_all b.1 (omega arith))
