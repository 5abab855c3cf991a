use Rattle.std.proofs.Common.{refl, arith}
use Rattle.smb_lanes.proofs.Blocks.{supplied}
use Rattle.smb_lanes.proofs.source.Source.new.Goals as goal

pub returns : goal.returns
returns c n whole before =
    supplied c.args.rest.now c.split_at.result.0.now c.split_at.result.1.now c.last_blocks.result n _ _ _ whole
    refl c.split_at.ensures.front c.split_at.ensures.back (omega arith) c.last_blocks.ensures refl
