use Rattle.smb_patterns.specs.Bits.{AreShown}
use Rattle.smb_patterns.proofs.symbols.Symbols.of.Given as goal

abbrev pub invariant-loop-n : goal.invariant-loop-n
invariant-loop-n l = AreShown l.pattern l.n l.symbols
