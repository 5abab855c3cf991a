use Rattle.std.proofs.Common.{arith}
use Rattle.smb_wire.specs.Units.{units_of}
use Rattle.smb_wire.proofs.Parting.{too_many, few_enough}
use Rattle.smb_wire.proofs.parts.ends_of.Goals as goal

pub returns-then-count-eq-MOST_COMPONENTS-clause-some : goal.returns-then-count-eq-MOST_COMPONENTS-clause-some
returns-then-count-eq-MOST_COMPONENTS-clause-some c =
    too_many (units_of c.args.text) c.loop-i.places c.loop-i.count c.loop-i.i (omega arith) c.loop-i.invariant.room c.if-count-eq-MOST_COMPONENTS.true c.loop-i.invariant.ends

pub returns-then-count-eq-MOST_COMPONENTS-2-clause-some : goal.returns-then-count-eq-MOST_COMPONENTS-2-clause-some
returns-then-count-eq-MOST_COMPONENTS-2-clause-some c =
    too_many (units_of c.args.text) c.loop-i.places c.loop-i.count c.loop-i.i (omega arith) c.loop-i.invariant.room c.if-count-eq-MOST_COMPONENTS-2.true c.loop-i.invariant.ends

pub returns-clause-some : goal.returns-clause-some
returns-clause-some c =
    few_enough (units_of c.args.text) c.loop-i.places c.loop-i.count c.loop-i.i (omega arith) c.loop-i.invariant.room (omega (arith, c.loop-i.invariant.few)) (omega arith) c.loop-i.invariant.ends
