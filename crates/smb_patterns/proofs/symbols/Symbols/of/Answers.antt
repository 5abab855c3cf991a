use Rattle.std.proofs.Common.{ℕ, ◌≡◌, ◌+◌, ◌-◌, ◌∙◌, length, get_or, ap, arith}
use Rattle.smb_patterns.specs.Patterns.{symbol_of}
use Rattle.smb_patterns.specs.PatternRows.{symbol_at}
use Rattle.smb_patterns.proofs.SymbolSets.{added_shown}
use Rattle.smb_patterns.proofs.symbols.Symbols.of.Goals as goal

pub loop-n-init : goal.loop-n-init
loop-n-init c = c.none-symbols.ensures c.args.pattern.now

pub loop-n-preserved : goal.loop-n-preserved
loop-n-preserved c =
    let n : ℕ = c.loop-n.n in
    let place : c.len-count.result - n - 1 ≡ length c.args.pattern.now - (n + 1) = omega (arith, c.len-count.ensures.len) in
    let first : c.symbol.result ≡ symbol_at c.args.pattern.now (n + 1) = c.symbol.ensures ∙ ap (λ (k : ℕ). symbol_of (get_or c.args.pattern.now k 0)) place in
    added_shown c.args.pattern.now n c.symbol.result c.loop-n.symbols c.add.new.self c.loop-n.invariant c.add.ensures (omega (arith, c.len-count.ensures.len)) (omega (arith, c.len-count.ensures.len, c.len-count.ensures.few)) first
