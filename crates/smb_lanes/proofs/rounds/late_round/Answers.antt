use Rattle.std.proofs.Common.{◌≡◌, ◌+◌, ◌*◌, ◌%◌, ◌∙◌, arith, refl}
use Rattle.sha2.proofs.Schedule256.{IsRoundsAt_at, rounds_window, window_word_place}
use Rattle.smb_lanes.specs.Lanes.{word_lane, state_lane}
use Rattle.smb_lanes.proofs.rounds.late_round.Goals as goal

pub returns : goal.returns
returns c j lane b h before =
    let w = word_lane j c.args.w.now in
    let t = 16 * c.args.turn + c.args.place in
    let place : t % 16 ≡ c.args.place = omega arith in
    let window = c.next_words-word.ensures.window j lane in
    IsRoundsAt_at b h _ _ (t + 1) _ (omega arith)
    (rounds_window b h w (state_lane j c.args.v) t _ _ _ _ (omega arith) (omega arith) before.0 before.1
    (c.next_words-word.ensures.value j lane ∙ window_word_place w c.args.turn c.args.place) (rw place window) refl (c.round.ensures j lane))
