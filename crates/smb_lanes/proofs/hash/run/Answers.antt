use Rattle.std.proofs.Common.{◌≡◌, ℕ, List, ◌+◌, ◌*◌, ◌/◌, ◌<◌, ◌≤◌, length, take, drop, arith, ap, ◌∙◌}
use Rattle.sha2.specs.Sha256.{hash_after}
use Rattle.smb_lanes.specs.declared.source.Source.{Source}
use Rattle.smb_lanes.specs.Lanes.{nth, state_lane}
use Rattle.smb_lanes.specs.Sources.{Supplies}
use Rattle.smb_lanes.proofs.Fours.{below_four}
use Rattle.smb_lanes.proofs.Runs.{hash_after_none, run_step}
use Rattle.smb_lanes.proofs.hash.run.Goals as goal

pub turns-init : goal.turns-init
turns-init c j lane q s = (
  λ le. hash_after_none (state_lane j c.args.start) q,
  λ le. absurd (omega arith),
)

pub turns-preserved : goal.turns-preserved
turns-preserved c j lane q s =
    let t : ℕ = c.turns.t in
    let source : ℕ → Source = nth c.args.a.now c.args.b.now c.args.c.now c.args.d.now in
    let block : ℕ → List ℕ = nth c.block.result.now c.block-in-turns.result.now c.block-in-turns-2.result.now c.block-in-turns-3.result.now in
    let was : ℕ → List ℕ = nth c.turns.first c.turns.second c.turns.third c.turns.fourth in
    let now : ℕ → List ℕ = nth c.keep.new.kept c.keep-in-turns.new.kept c.keep-in-turns-2.new.kept c.keep-in-turns-3.new.kept in
    let blocks = below_four (λ j. (q : List ℕ) → Supplies (source j) q → t < (source j).count → block j ≡ take 64 (drop (t * 64) q))
    c.block.ensures.value c.block-in-turns.ensures.value c.block-in-turns-2.ensures.value c.block-in-turns-3.ensures.value j lane q s in
    let taken = below_four (λ j. t + 1 ≡ (source j).count → now j ≡ state_lane j c.compress.new.state)
    c.keep.ensures.taken c.keep-in-turns.ensures.taken c.keep-in-turns-2.ensures.taken c.keep-in-turns-3.ensures.taken j lane in
    let left = below_four (λ j. (t + 1 ≡ (source j).count → ⊥) → now j ≡ was j)
    c.keep.ensures.left c.keep-in-turns.ensures.left c.keep-in-turns-2.ensures.left c.keep-in-turns-3.ensures.left j lane in
    let so_far = c.turns.invariant j lane q s in
    run_step (state_lane j c.args.start) q (state_lane j c.turns.state) (state_lane j c.compress.new.state) (block j) (was j) (now j) t (source j).count
    so_far.0 so_far.1 (c.compress.ensures j lane) blocks taken left

pub returns : goal.returns
returns c j lane q s =
    let source : ℕ → Source = nth c.args.a.now c.args.b.now c.args.c.now c.args.d.now in
    let short = below_four (λ j. (source j).count ≤ c.turns.t) (omega arith) (omega arith) (omega arith) (omega arith) j lane in
    let count : (source j).count ≡ length q / 64 = omega (arith, s.1) in
    (c.turns.invariant j lane q s).1 short ∙ ap (hash_after (state_lane j c.args.start) q) count
