use Rattle.std.proofs.Common.{arith, sym, ◌∙◌}
use Rattle.smb_changes.proofs.Reading.{no_batch_read, batch_read, rest_read}
use Rattle.smb_changes.proofs.read.read_batch.Goals as goal

pub returns-then-bytes-lt33-clause-whole : goal.returns-then-bytes-lt33-clause-whole
returns-then-bytes-lt33-clause-whole c = sym (no_batch_read c.args.seed c.args.number c.args.bytes.now (omega (arith, c.if-bytes-lt33.true)))

pub returns-then-size-bytes-clause-whole : goal.returns-then-size-bytes-clause-whole
returns-then-size-bytes-clause-whole c =
    sym (no_batch_read c.args.seed c.args.number c.args.bytes.now (omega (arith, c.if-bytes-lt33.false, c.if-size-bytes.true, c.u64_in-size.ensures)))

pub returns-then-is_whole-clause-whole : goal.returns-then-is_whole-clause-whole
returns-then-is_whole-clause-whole c =
    sym (batch_read c.args.seed c.args.number c.u64_in-size.result c.check_of-check.result c.args.bytes.now c.split_at.result.0.now c.split_at.result.1.now c.split_at-2.result.0.now c.split_at-2.result.1.now c.split_at-3.result.0.now c.split_at-3.result.1.now
    c.split_at.ensures.front c.split_at.ensures.back c.u64_in-size.ensures c.split_at-2.ensures.front c.split_at-2.ensures.back c.split_at-3.ensures.front (omega (arith, c.if-bytes-lt33.false, c.if-size-bytes.false)) c.check_of-check.ensures
    ∙ sym c.is_whole.ensures ∙ c.if-is_whole.true)

pub returns-else-is_whole-clause-whole : goal.returns-else-is_whole-clause-whole
returns-else-is_whole-clause-whole c =
    sym (batch_read c.args.seed c.args.number c.u64_in-size.result c.check_of-check.result c.args.bytes.now c.split_at.result.0.now c.split_at.result.1.now c.split_at-2.result.0.now c.split_at-2.result.1.now c.split_at-3.result.0.now c.split_at-3.result.1.now
    c.split_at.ensures.front c.split_at.ensures.back c.u64_in-size.ensures c.split_at-2.ensures.front c.split_at-2.ensures.back c.split_at-3.ensures.front (omega (arith, c.if-bytes-lt33.false, c.if-size-bytes.false)) c.check_of-check.ensures
    ∙ sym c.is_whole.ensures ∙ c.if-is_whole.false)

pub returns-then-is_whole-clause-rest : goal.returns-then-is_whole-clause-rest
returns-then-is_whole-clause-rest c =
    rest_read c.args.seed c.args.number c.u64_in-size.result c.check_of-check.result c.args.bytes.now c.split_at.result.0.now c.split_at.result.1.now c.split_at-2.result.0.now c.split_at-2.result.1.now c.split_at-3.result.0.now c.split_at-3.result.1.now
    c.split_at.ensures.back c.u64_in-size.ensures c.split_at-2.ensures.back c.split_at-3.ensures.back
