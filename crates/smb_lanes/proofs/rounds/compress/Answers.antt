use Rattle.std.proofs.Common.{◌≡◌, ◌*◌, ◌∙◌, refl, ap, arith}
use Rattle.std.proofs.lemmas.List.{length-set}
use Rattle.sha2.specs.Sha256.{add_state, compress, rounds}
use Rattle.sha2.proofs.Schedule256.{IsRoundsAt_at, IsWindow_first}
use Rattle.smb_lanes.specs.Lanes.{nth, state_lane, word_lane}
use Rattle.smb_lanes.proofs.Fours.{length-word_lane, loaded_more}
use Rattle.smb_lanes.proofs.rounds.compress.Goals as goal

pub load-preserved : goal.load-preserved
load-preserved c = record {
  room = length-set c.load.w c.load.i _ ∙ c.load.invariant.room;
  loaded = λ j lane.
      loaded_more c.load.w c.words_of.result (nth c.args.a.now c.args.b.now c.args.c.now c.args.d.now j) c.load.i j
      (omega (arith, c.load.invariant.room)) (c.load.invariant.loaded j lane) (c.words_of.ensures j lane);
}

pub turns-init : goal.turns-init
unfolding rounds
turns-init c j lane =
    let b = nth c.args.a.now c.args.b.now c.args.c.now c.args.d.now j in
    let h = state_lane j c.args.state.now in
    let window = IsWindow_first b (word_lane j c.load.w) (length-word_lane j c.load.w ∙ c.load.invariant.room) (λ k lt. c.load.invariant.loaded j lane k (omega arith)) in
    let four = c.four_early_rounds-v.ensures j lane b h window refl in
    let eight = c.four_early_rounds-v-2.ensures j lane b h window four in
    let twelve = c.four_early_rounds-v-3.ensures j lane b h window eight in
    (window, c.four_early_rounds-v-4.ensures j lane b h window twelve)

pub turns-preserved : goal.turns-preserved
turns-preserved c j lane =
    let b = nth c.args.a.now c.args.b.now c.args.c.now c.args.d.now j in
    let h = state_lane j c.args.state.now in
    let four = c.four_late_rounds-v4.ensures j lane b h (IsRoundsAt_at b h _ _ _ _ (omega arith) (c.turns.invariant j lane)) in
    let eight = c.four_late_rounds-v8.ensures j lane b h four in
    let twelve = c.four_late_rounds-v12.ensures j lane b h eight in
    IsRoundsAt_at b h _ _ _ _ (omega arith) (c.four_late_rounds-v16.ensures j lane b h twelve)

pub returns : goal.returns
unfolding compress
returns c j lane =
    let done : 16 * c.turns.turn ≡ 64 = omega (arith, c.turns.auto.turn-end (omega arith)) in
    c.add_states-next.ensures j lane
    ∙ ap (add_state (state_lane j c.args.state.now)) (rw done at (c.turns.invariant j lane).1)
