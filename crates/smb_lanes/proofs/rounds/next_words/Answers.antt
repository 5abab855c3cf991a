use Rattle.std.proofs.Common.{◌≡◌, ◌%◌, arith, refl}
use Rattle.smb_lanes.proofs.Fours.{word_lane_at, word_lane_set}
use Rattle.smb_lanes.proofs.rounds.next_words.Goals as goal

pub returns-clause-value : goal.returns-clause-value
returns-clause-value c j h =
    let place : c.args.place % 16 ≡ c.args.place = omega arith in
    rw (
      c.add-word.ensures j h,
      c.add.ensures j h,
      c.add-recent.ensures j h,
      c.lower_sigma_1.ensures j h,
      c.lower_sigma_0.ensures j h,
      place,
    ) (simp word_lane_at refl)

pub returns-clause-window : goal.returns-clause-window
returns-clause-window c j h = word_lane_set c.args.w.now c.args.place c.add-word.result j
