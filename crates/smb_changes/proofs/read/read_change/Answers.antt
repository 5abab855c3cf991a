use Rattle.std.proofs.Common.{arith, ap, take, drop, sym, ◌∙◌}
use Rattle.std.specs.Option.{option_map}
use Rattle.smb_changes.specs.Shown.{change_shown}
use Rattle.smb_changes.proofs.Reading.{change_read}
use Rattle.smb_changes.proofs.read.read_change.Goals as goal

pub returns : goal.returns
returns c =
    change_read c.in_ok-kind.kind.now c.u64_in-size.result c.u64_in.result c.u64_in-2.result c.args.bytes.now c.in_ok-kind.bytes.now c.split_at-2.result.0.now c.split_at-2.result.1.now _
    c.in_ok-kind.ensures.cases.0 c.u64_in-size.ensures (omega (arith, c.if-bytes-lt24.false, c.if-size-bytes.false)) c.u64_in.ensures c.u64_in-2.ensures (c.split_at-2.ensures.front ∙ ap (take c.u64_in-size.result) c.split_at.ensures.back) (c.split_at-2.ensures.back ∙ ap (drop c.u64_in-size.result) c.split_at.ensures.back)
    (ap (option_map change_shown) (sym c.in_ok-change.was) ∙ c.change_of.ensures)

pub returns-in_err-change : goal.returns-in_err-change
returns-in_err-change c =
    rw c.from_residual-in_err-change.ensures
    (change_read c.in_ok-kind.kind.now c.u64_in-size.result c.u64_in.result c.u64_in-2.result c.args.bytes.now c.in_ok-kind.bytes.now c.split_at-2.result.0.now c.split_at-2.result.1.now _
    c.in_ok-kind.ensures.cases.0 c.u64_in-size.ensures (omega (arith, c.if-bytes-lt24.false, c.if-size-bytes.false)) c.u64_in.ensures c.u64_in-2.ensures (c.split_at-2.ensures.front ∙ ap (take c.u64_in-size.result) c.split_at.ensures.back) (c.split_at-2.ensures.back ∙ ap (drop c.u64_in-size.result) c.split_at.ensures.back)
    (ap (option_map change_shown) (sym c.in_err-change.was) ∙ c.change_of.ensures))
