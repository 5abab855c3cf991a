use Rattle.std.proofs.Common.{refl, ◌∙◌, ap, arith, ◌≡◌}
use Rattle.md5.specs.Md5.{add_state}
use Rattle.smb_ntlm.specs.Md4.{operations}
use Rattle.smb_ntlm.proofs.Digests.{operations_more}
use Rattle.smb_ntlm.proofs.md4.compress.Goals as goal

pub loop-t-init : goal.loop-t-init
unfolding operations
loop-t-init c = refl

pub loop-t-preserved : goal.loop-t-preserved
loop-t-preserved c = operations_more c.args.state c.loop-t.words c.operated-words.result c.args.block.now c.loop-t.t c.loop-t.invariant c.operated-words.ensures

pub returns : goal.returns
returns c =
    let done : c.loop-t.t ≡ 48 = omega arith in
    ap (add_state c.args.state) (c.loop-t.invariant ∙ ap (operations c.args.state c.args.block.now) done)
