use Rattle.std.proofs.Common.{refl, sym}
use Rattle.sha2.proofs.Schedule256.{rounds_first}
use Rattle.smb_lanes.proofs.Fours.{word_lane_at}
use Rattle.smb_lanes.specs.Lanes.{word_lane, state_lane}
use Rattle.smb_lanes.proofs.rounds.early_round.Goals as goal

pub returns : goal.returns
returns c j lane b h window before =
    rounds_first b h (word_lane j c.args.w.now) (state_lane j c.args.v) c.args.t _ _ _ c.requires window before refl
    (sym (word_lane_at c.args.w.now c.args.t j)) (c.round.ensures j lane)
