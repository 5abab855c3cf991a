use Rattle.std.proofs.Common.{arith}
use Rattle.smb_wire.specs.Units.{units_of}
use Rattle.smb_tree.proofs.Lasts.{last_at, parent_at, last_at_start, parent_at_start}
use Rattle.smb_tree.proofs.texts.last_begin.Goals as goal

pub returns-then-unit-eq-SEPARATOR-clause-last : goal.returns-then-unit-eq-SEPARATOR-clause-last
returns-then-unit-eq-SEPARATOR-clause-last c =
    last_at (units_of c.args.text) c.loop-begin.begin c.unit.result c.loop-begin-test.true c.loop-begin.invariant.within c.unit.ensures c.if-unit-eq-SEPARATOR.true c.loop-begin.invariant.none

pub returns-then-unit-eq-SEPARATOR-clause-parent : goal.returns-then-unit-eq-SEPARATOR-clause-parent
returns-then-unit-eq-SEPARATOR-clause-parent c =
    parent_at (units_of c.args.text) c.loop-begin.begin c.unit.result c.loop-begin-test.true c.loop-begin.invariant.within c.unit.ensures c.if-unit-eq-SEPARATOR.true c.loop-begin.invariant.none c.requires

pub returns-clause-last : goal.returns-clause-last
returns-clause-last c = last_at_start (units_of c.args.text) c.loop-begin.begin (omega arith) c.loop-begin.invariant.none

pub returns-clause-parent : goal.returns-clause-parent
returns-clause-parent c = parent_at_start (units_of c.args.text) c.loop-begin.begin (omega arith) c.loop-begin.invariant.none
