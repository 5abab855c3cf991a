use Rattle.std.proofs.Common.{◌∙◌, ap, arith, ℕ, ◌≡◌, ◌/◌, ◌+◌, ◌-◌, ◌*◌, take, drop, length}
use Rattle.smb_ntlm.specs.Md4.{hash_of}
use Rattle.smb_ntlm.proofs.Digests.{hash_first, hash_more}
use Rattle.smb_ntlm.proofs.md4.hash_of.Goals as goal

pub loop-n-init : goal.loop-n-init
loop-n-init c = hash_first c.args.padded.now

pub loop-n-preserved : goal.loop-n-preserved
loop-n-preserved c =
    let width : 64 * c.loop-n.n + 64 - 64 * c.loop-n.n ≡ 64 = omega arith in
    hash_more c.args.padded.now c.loop-n.state c.compress-next.result _ c.loop-n.n c.loop-n.invariant
    (ap (λ (w : ℕ). take w (drop (64 * c.loop-n.n) c.args.padded.now)) width) c.compress-next.ensures

pub returns : goal.returns
returns c =
    let done : c.loop-n.n ≡ length c.args.padded.now / 64 = omega arith in
    c.loop-n.invariant ∙ ap (hash_of c.args.padded.now) done
