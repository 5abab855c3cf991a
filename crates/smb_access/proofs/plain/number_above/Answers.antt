use Rattle.std.proofs.Common.{sym, ◌∙◌, arith}
use Rattle.indexmap.specs.IndexMap.{values}
use Rattle.smb_access.proofs.Above.{taken_above, passed_above, none_above}
use Rattle.smb_access.proofs.Keyed.{value_at, length-values}
use Rattle.smb_access.proofs.plain.number_above.Goals as goal

pub returns-then-is_above : goal.returns-then-is_above
returns-then-is_above c =
    let here = value_at c.args.rows.now.entries c.loop-place.place c.in-Some.field-0-0.now c.in-Some.row.now c.in-Some.ensures.entry in
    taken_above (values c.args.rows.now) c.loop-place.place c.args.after c.in-Some.row.now here (sym c.is_above.ensures ∙ c.if-is_above.true) ∙ c.loop-place.invariant

pub loop-place-preserved : goal.loop-place-preserved
loop-place-preserved c =
    let here = value_at c.args.rows.now.entries c.loop-place.place c.in-Some.field-0-0.now c.in-Some.row.now c.in-Some.ensures.entry in
    passed_above (values c.args.rows.now) c.loop-place.place c.args.after c.in-Some.row.now here (sym c.is_above.ensures ∙ c.if-is_above.false) ∙ c.loop-place.invariant

pub returns : goal.returns
returns c =
    none_above (values c.args.rows.now) c.loop-place.place c.args.after (let long = length-values c.args.rows.now.entries in omega (arith, long, c.len-place-end.ensures.len, c.loop-place-test.false)) ∙ c.loop-place.invariant
