use Rattle.std.proofs.Common.{◌≡◌, ℕ, [], refl}
use Rattle.smb_lanes.specs.Lanes.{nth}
use Rattle.smb_lanes.proofs.Fours.{below_four}
use Rattle.smb_signing.specs.declared.four.Pieces.{Pieces}
use Rattle.smb_signing.specs.Signature.{padded_key}
use Rattle.smb_signing.proofs.Together.{hmac_is}
use Rattle.smb_signing.proofs.four.hmacs.Goals as goal

pub returns : goal.returns
returns c j lane =
    let p : ℕ → Pieces = nth c.args.a.now c.args.b.now c.args.c.now c.args.d.now in
    let inner = below_four (λ j. nth c.padded_key.result c.padded_key-2.result c.padded_key-3.result c.padded_key-4.result j ≡ padded_key (p j).key 0x36)
    c.padded_key.ensures c.padded_key-2.ensures c.padded_key-3.ensures c.padded_key-4.ensures j lane in
    let outer = below_four (λ j. nth c.padded_key-5.result c.padded_key-6.result c.padded_key-7.result c.padded_key-8.result j ≡ padded_key (p j).key 0x5C)
    c.padded_key-5.ensures c.padded_key-6.ensures c.padded_key-7.ensures c.padded_key-8.ensures j lane in
    let first = below_four (λ j. nth (p 0).first (p 1).first (p 2).first (p 3).first j ≡ (p j).first) refl refl refl refl j lane in
    let rest = below_four (λ j. nth (p 0).rest.now (p 1).rest.now (p 2).rest.now (p 3).rest.now j ≡ (p j).rest.now) refl refl refl refl j lane in
    let keyed = c.add_blocks.ensures j lane [] (c.new-inner.ensures j lane) in
    let held = c.add_blocks-2.ensures j lane _ keyed in
    let keyed_again = c.add_blocks-3.ensures j lane [] (c.new-outer.ensures j lane) in
    hmac_is (p j) _ _ _ _ _ _ inner outer first rest (c.finish.ensures j lane _ held) (c.finish-2.ensures j lane _ keyed_again)
