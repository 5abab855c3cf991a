use Rattle.std.proofs.Common.{◌≡◌, ℕ, Option, List, ◌≤◌, IfSome, length, take}
use Rattle.smb_lanes.specs.Lanes.{nth}
use Rattle.smb_lanes.proofs.Fours.{below_four}
use Rattle.smb_signing.specs.declared.four.Message.{Message}
use Rattle.smb_signing.specs.declared.four.Pieces.{Pieces}
use Rattle.smb_signing.specs.Pieces.{ArePiecesOf}
use Rattle.smb_signing.proofs.Together.{signature_is}
use Rattle.smb_signing.proofs.four.signatures_beside.Goals as goal

pub returns : goal.returns
returns c j lane =
    let message : ℕ → Option Message = nth c.args.first.now c.args.second.now c.args.third.now c.args.fourth.now in
    let p : ℕ → Pieces = nth c.split_any.result c.split_any-2.result c.split_any-3.result c.split_any-4.result in
    let digest : ℕ → List ℕ = nth c.hmacs.result.0 c.hmacs.result.1 c.hmacs.result.2 c.hmacs.result.3 in
    let are = below_four (λ j. IfSome (message j) (λ m. 64 ≤ length m.bytes.now → ArePiecesOf m (p j)))
    c.split_any.ensures c.split_any-2.ensures c.split_any-3.ensures c.split_any-4.ensures j lane in
    let short = below_four (λ j. nth c.shortened.result c.shortened-2.result c.shortened-3.result c.shortened-4.result j ≡ take 16 (digest j))
    c.shortened.ensures c.shortened-2.ensures c.shortened-3.ensures c.shortened-4.ensures j lane in
    signature_is (message j) (p j) (digest j) _ are (c.hmacs.ensures j lane) short
