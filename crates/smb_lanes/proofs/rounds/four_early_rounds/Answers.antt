use Rattle.std.proofs.Common.{ap, ◌∙◌, arith}
use Rattle.sha2.specs.Sha256.{rounds, schedule}
use Rattle.smb_lanes.proofs.rounds.four_early_rounds.Goals as goal

pub returns : goal.returns
returns c j lane b h window before =
    let left = rounds h (schedule b 48) in
    let one = c.early_round-v.ensures j lane b h window before in
    let two = c.early_round-v-2.ensures j lane b h window one in
    let three = c.early_round-v-3.ensures j lane b h window (two ∙ ap left (omega arith)) in
    c.early_round.ensures j lane b h window (three ∙ ap left (omega arith)) ∙ ap left (omega arith)
