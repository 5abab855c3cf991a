use Rattle.std.proofs.Common.{◌≡◌, ℕ, ◌<◌, ◌*◌, length, slice_index}
use Rattle.sha2.specs.Sha256.{IsRoundsAt, word_at}
use Rattle.smb_lanes.specs.Lanes.{nth, state_lane, word_lane}
use Rattle.smb_lanes.proofs.rounds.compress.Given as goal

-- the words before are those of the blocks
abbrev pub invariant-load : goal.invariant-load
invariant-load l = record {
  room : length l.w ≡ 16;
  loaded : (j : ℕ) → j < 4 → (k : ℕ) → k < l.i → slice_index (word_lane j l.w) k ≡ word_at (nth l.a l.b l.c l.d j) (4 * k);
}

-- each lane is at the same round of its own block
abbrev pub invariant-turns : goal.invariant-turns
invariant-turns l = (j : ℕ) → j < 4
    → IsRoundsAt (nth l.a l.b l.c l.d j) (state_lane j l.state) (word_lane j l.w) (state_lane j l.v) (16 * l.turn)
