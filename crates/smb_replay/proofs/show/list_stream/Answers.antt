use Rattle.std.proofs.Common.{sym, ap, ◌∙◌, ◌+◌, length, arith, length-drop}
use Rattle.smb_replay.proofs.Shows.{at_limit, held-whole, shown_more, shown_last, shown_all}
use Rattle.smb_replay.proofs.show.list_stream.Goals as goal

pub loop-payload-init : goal.loop-payload-init
loop-payload-init c = record {
  left = rw (c.new-text.ensures.bytes, c.in_ok-buffer.ensures) (held-whole c.args.stream.now);
  limit = ap (λ b. b.limit) c.in_ok-buffer.ensures;
  count = rw c.in_ok-buffer.ensures (omega arith);
}

pub returns-then-not-branch : goal.returns-then-not-branch
returns-then-not-branch c =
    shown_last c.args.stream.now _ _ c.loop-payload.buffer.bytes c.in-Some.payload.now c.loop-payload.frame c.loop-payload.invariant.left
    (at_limit c.loop-payload.buffer.limit c.loop-payload.buffer.bytes _ c.loop-payload.invariant.limit c.in-Some.ensures.first)
    c.in_ok-put_payload.ensures.text (sym c.if-not-branch.true ∙ c.in_ok-put_payload.ensures.good)

pub loop-payload-preserved : goal.loop-payload-preserved
loop-payload-preserved c =
    let done = c.done.ensures _ (sym c.in-Some.ensures.first) in
    let held = ap (λ b. b.bytes) done in
    record {
      left = shown_more c.args.stream.now _ _ c.loop-payload.buffer.bytes _ c.in-Some.payload.now c.loop-payload.frame c.loop-payload.invariant.left
          (at_limit c.loop-payload.buffer.limit c.loop-payload.buffer.bytes _ c.loop-payload.invariant.limit c.in-Some.ensures.first)
          c.in_ok-put_payload.ensures.text (sym c.if-not-branch.false ∙ c.in_ok-put_payload.ensures.good) held;
      limit = ap (λ b. b.limit) done ∙ c.loop-payload.invariant.limit;
      count = rw held (omega (arith, c.loop-payload.invariant.count, c.in-Some.ensures.long, length-drop (length c.in-Some.payload.now + 4) c.loop-payload.buffer.bytes));
    }

pub returns : goal.returns
returns c =
    shown_all c.args.stream.now _ _ c.loop-payload.buffer.bytes c.loop-payload.frame _ c.loop-payload.invariant.left
    (at_limit c.loop-payload.buffer.limit c.loop-payload.buffer.bytes _ c.loop-payload.invariant.limit c.in_default.ensures.first)
    c.in_ok-is_good.ensures.text c.in_ok-is_good.ensures.good
