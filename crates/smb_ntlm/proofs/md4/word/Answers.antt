use Rattle.std.proofs.Common.{arith}
use Rattle.smb_ntlm.proofs.Digests.{place_low}
use Rattle.smb_ntlm.proofs.md4.word.Goals as goal

pub bounds-block-at : goal.bounds-block-at
bounds-block-at c = omega (arith, place_low c.args.t c.requires.operation)

pub bounds-block-at-2 : goal.bounds-block-at-2
bounds-block-at-2 c = omega (arith, place_low c.args.t c.requires.operation)

pub bounds-block-at-3 : goal.bounds-block-at-3
bounds-block-at-3 c = omega (arith, place_low c.args.t c.requires.operation)

pub bounds-block-at-4 : goal.bounds-block-at-4
bounds-block-at-4 c = omega (arith, place_low c.args.t c.requires.operation)
