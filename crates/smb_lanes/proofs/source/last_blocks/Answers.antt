use Rattle.std.proofs.Common.{refl}
use Rattle.smb_lanes.proofs.Blocks.{last_blocks_are}
use Rattle.smb_lanes.proofs.source.last_blocks.Goals as goal

pub returns : goal.returns
returns c =
    rw (c.copy_from_slice.ensures.after, c.copy_from_slice-2.ensures.after, c.to_be_bytes.ensures)
    (last_blocks_are c.args.left.now _ _ _ c.requires refl refl)
