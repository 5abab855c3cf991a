use Rattle.std.proofs.Common.{sym, ◌∙◌, arith}
use Rattle.indexmap.specs.IndexMap.{values}
use Rattle.smb_access.proofs.Keyed.{taken_at, passed_at, none_at, value_at, length-values}
use Rattle.smb_access.proofs.plain.number_from.Goals as goal

pub returns-then-is_after : goal.returns-then-is_after
returns-then-is_after c =
    let here = value_at c.args.rows.now.entries c.loop-place.place c.in-Some.field-0-0.now c.in-Some.row.now c.in-Some.ensures.entry in
    taken_at (values c.args.rows.now) c.loop-place.place c.args.entry c.args.number c.in-Some.row.now here (sym c.is_after.ensures ∙ c.if-is_after.true) ∙ c.loop-place.invariant

pub loop-place-preserved : goal.loop-place-preserved
loop-place-preserved c =
    let here = value_at c.args.rows.now.entries c.loop-place.place c.in-Some.field-0-0.now c.in-Some.row.now c.in-Some.ensures.entry in
    passed_at (values c.args.rows.now) c.loop-place.place c.args.entry c.args.number c.in-Some.row.now here (sym c.is_after.ensures ∙ c.if-is_after.false) ∙ c.loop-place.invariant

pub returns : goal.returns
returns c =
    none_at (values c.args.rows.now) c.loop-place.place c.args.entry c.args.number (let long = length-values c.args.rows.now.entries in omega (arith, long, c.len-place-end.ensures.len, c.loop-place-test.false)) ∙ c.loop-place.invariant
