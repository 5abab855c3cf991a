use Rattle.std.proofs.Common.{◌≡◌, length, arith, ◌∙◌}
use Rattle.std.proofs.lemmas.List.{length-set}
use Rattle.smb_signing.proofs.Blocks.{front_more, back_more, all_padded}
use Rattle.smb_signing.proofs.hmac.padded_key.Goals as goal

pub loop-i-preserved : goal.loop-i-preserved
loop-i-preserved c = record {
  room = length-set c.loop-i.block c.loop-i.i _ ∙ c.loop-i.invariant.room;
  front = front_more c.loop-i.block c.args.key.now c.loop-i.i c.args.byte (omega (arith, c.loop-i.invariant.room)) (omega arith) c.loop-i.invariant.front;
  back = back_more c.loop-i.block c.loop-i.i c.args.byte _ c.loop-i.invariant.back;
}

pub returns : goal.returns
returns c =
    let whole : c.loop-i.i ≡ length c.args.key.now = omega arith in
    all_padded c.loop-i.block c.args.key.now c.args.byte (rw whole at c.loop-i.invariant.front) (rw whole at c.loop-i.invariant.back)
