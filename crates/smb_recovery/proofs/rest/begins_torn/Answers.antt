use Rattle.std.proofs.Common.{arith, sym, ◌∙◌}
use Rattle.smb_recovery.proofs.Taking.{torn_whole}
use Rattle.smb_recovery.proofs.rest.begins_torn.Goals as goal

pub returns : goal.returns
returns c = c.are_zeros.ensures ∙ torn_whole c.args.seed c.args.number c.u64_in-size.result c.args.bytes.now c.split_at.result.0.now c.split_at.result.1.now c.split_at-2.result.1.now (sym c.is_front.ensures ∙ c.if-not-is_front.false) c.split_at.ensures.front c.split_at.ensures.back c.u64_in-size.ensures (omega arith) (omega arith) c.split_at-2.ensures.back
