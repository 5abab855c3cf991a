use Rattle.std.proofs.Common.{arith}
use Rattle.sha2.proofs.Schedule256.{IsRoundsAt_at}
use Rattle.smb_lanes.proofs.rounds.four_late_rounds.Goals as goal

pub returns : goal.returns
returns c j lane b h before =
    let one = c.late_round-v.ensures j lane b h before in
    let two = c.late_round-v-2.ensures j lane b h one in
    let three = c.late_round-v-3.ensures j lane b h (IsRoundsAt_at b h _ _ _ _ (omega arith) two) in
    IsRoundsAt_at b h _ _ _ _ (omega arith) (c.late_round.ensures j lane b h (IsRoundsAt_at b h _ _ _ _ (omega arith) three))
