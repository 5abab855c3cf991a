use Rattle.std.proofs.Common.{◌∙◌, ap, length, arith}
use Rattle.std.proofs.lemmas.List.{length-take-le}
use Rattle.smb_signing.proofs.four.split.Goals as goal

pub first_block-requires : goal.first_block-requires
first_block-requires c = ap length c.parts.ensures.front ∙ length-take-le 48 c.args.message.now.bytes.now (omega arith)
