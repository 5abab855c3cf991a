use Rattle.std.proofs.Common.{◌≡◌, ◌∙◌, ap, length, refl}
use Rattle.sha2.specs.Sha256.{compress}
use Rattle.smb_lanes.specs.Lanes.{nth, state_lane}
use Rattle.smb_lanes.proofs.Fours.{below_four}
use Rattle.smb_lanes.proofs.Runs.{more_held}
use Rattle.smb_lanes.proofs.hash.FourHashes.add_blocks.Goals as goal

pub returns : goal.returns
returns c j lane p held =
    let block = nth c.args.a.now c.args.b.now c.args.c.now c.args.d.now in
    let lengths = below_four (λ j. length (block j) ≡ 64) c.told-a c.told-b c.told-c c.told-d j lane in
    more_held c.args.self.now _ j p (block j) held lengths refl (c.compress.ensures j lane ∙ ap (λ w. compress (state_lane j w) (block j)) c.words-words.ensures)
