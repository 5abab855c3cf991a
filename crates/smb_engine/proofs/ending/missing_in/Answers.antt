use Rattle.std.proofs.Common.{rules, sym, ◌∙◌}
use Rattle.smb_engine.proofs.Endings.{below_next}
use Rattle.smb_engine.proofs.ending.missing_in.Goals as goal

pub overflow_add-number : goal.overflow_add-number
overflow_add-number c =
    let below = below_next c.args.window.now c.loop-left.number c.good.ensures.good (sym c.holds.ensures ∙ c.if-not-holds.false) in
    let next = c.good.ensures.next in
    search rules
