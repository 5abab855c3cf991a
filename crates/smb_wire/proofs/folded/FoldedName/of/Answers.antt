use Rattle.std.proofs.Common.{◌<◌, ◌≡◌, ◌∙◌, ap, rules, arith, length}
use Rattle.smb_wire.specs.Names.{folded_unit}
use Rattle.smb_wire.specs.Units.{units_of}
use Rattle.smb_wire.proofs.Padding.{front_more, back_more}
use Rattle.smb_wire.proofs.folded.FoldedName.of.Goals as goal

pub loop-i-preserved : goal.loop-i-preserved
loop-i-preserved c = record {
  room = search rules;
  front =
      let within : c.loop-i.i < length (units_of c.args.text) = omega arith in
      front_more _ _ _ _ (omega (arith, c.loop-i.invariant.room)) within c.loop-i.invariant.front (c.fold_unit.ensures ∙ ap folded_unit c.unit.ensures);
  back = back_more _ _ _ c.loop-i.invariant.back;
}

pub invariant_of-result : goal.invariant_of-result
invariant_of-result c =
    let all : c.loop-i.i ≡ c.len-count.result = omega arith in
    record { within = omega arith; zeros = rw (← all) c.loop-i.invariant.back; room = c.loop-i.invariant.room }
