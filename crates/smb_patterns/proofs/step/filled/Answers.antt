use Rattle.std.proofs.Common.{Bool, ◌&&◌, ◌∙◌, ap}
use Rattle.std.specs.Prelude.{bit_and}
use Rattle.smb_patterns.specs.Bits.{bit}
use Rattle.smb_patterns.proofs.Words.{bit-and, filled, fill_of}
use Rattle.smb_patterns.proofs.step.filled.Goals as goal

pub returns : goal.returns
unfolding fill_of
returns c = λ i h.
    filled c.args.word c.args.skips (bit_and c.moved_up.result c.args.skips) c.args.first i h
    (λ j f. bit-and c.moved_up.result c.args.skips j ∙ ap (λ (b : Bool). b && bit c.args.skips j) (c.moved_up.ensures j f))
