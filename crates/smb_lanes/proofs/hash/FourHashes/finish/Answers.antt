use Rattle.std.proofs.Common.{◌≡◌, ℕ, List, ◌+◌, ◌%◌, ◌^◌, ◌++◌, length, ◌∙◌}
use Rattle.sha2.specs.Sha256.{digest_bytes, padding}
use Rattle.smb_lanes.specs.Hashes.{words_of}
use Rattle.smb_lanes.specs.Lanes.{nth, state_lane}
use Rattle.smb_lanes.specs.Sources.{Supplies}
use Rattle.smb_lanes.proofs.Fours.{below_four}
use Rattle.smb_lanes.proofs.Runs.{digest_is, held_count, held_state, held_whole}
use Rattle.smb_lanes.proofs.hash.FourHashes.finish.Goals as goal

pub returns : goal.returns
returns c j lane p held =
    let s = c.args.self in
    let rest : ℕ → List ℕ = nth c.args.a.now c.args.b.now c.args.c.now c.args.d.now in
    let words : ℕ → List ℕ = nth c.run.result.0 c.run.result.1 c.run.result.2 c.run.result.3 in
    let supplied = below_four (λ j. (n : ℕ) → n % 64 ≡ 0 → s.before ≡ n % 2 ^ 64
    → Supplies (nth c.new-first.result c.new-second.result c.new-third.result c.new-fourth.result j) (rest j ++ padding (n + length (rest j))))
    c.new-first.ensures c.new-second.ensures c.new-third.ensures c.new-fourth.ensures j lane (length p) (held_whole s j p held) (held_count s j p held) in
    let digests = below_four (λ j. nth c.digest.result c.digest-2.result c.digest-3.result c.digest-4.result j ≡ digest_bytes (words j) 8)
    c.digest.ensures c.digest-2.ensures c.digest-3.ensures c.digest-4.ensures j lane in
    digests ∙ digest_is p (rest j) (state_lane j (words_of s)) (words j) (held_whole s j p held) (held_state s j p held) (rw c.words.ensures at (c.run.ensures j lane _ supplied))
