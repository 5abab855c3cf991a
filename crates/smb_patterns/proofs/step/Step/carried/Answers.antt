use Rattle.std.proofs.Common.{Bool, ◌&&◌, ◌||◌, ◌∙◌, ap}
use Rattle.smb_patterns.specs.Bits.{bit, below}
use Rattle.smb_patterns.proofs.Words.{carried_bits}
use Rattle.smb_patterns.proofs.step.Step.carried.Goals as goal

pub returns : goal.returns
returns c = λ i h.
    c.filled.ensures i h
    ∙ ap (λ (b : Bool). b || (bit c.args.self.skips i && below c.args.new (bit c.filled.result) i))
    (carried_bits c.moved_up.result c.args.self.takes c.args.word c.args.self.stays i (below c.args.old (bit c.args.word) i) (c.moved_up.ensures i h))
