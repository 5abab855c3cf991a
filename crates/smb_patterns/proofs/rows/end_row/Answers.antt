use Rattle.std.proofs.Common.{ℕ, Bool, ◌≡◌, ◌+◌, ◌-◌, ◌<◌, ◌∙◌, ◌&&◌, false, List, [], suc, length, get_or, sym, ap, subst, arith}
use Rattle.std.specs.Bool.{Decides}
use Rattle.std.proofs.lemmas.Bool.{and_left, and_right}
use Rattle.smb_patterns.specs.Patterns.{symbol_of, Takes}
use Rattle.smb_patterns.specs.PatternRows.{symbol_at}
use Rattle.smb_patterns.specs.Bits.{has}
use Rattle.smb_patterns.specs.declared.symbol.Symbol.{Symbol}
use Rattle.smb_patterns.specs.declared.rests.Rests.{Rests}
use Rattle.smb_patterns.proofs.RowSteps.{EndRow, ends_none, ends_then, ends_else}
use Rattle.smb_patterns.proofs.rows.end_row.Goals as goal
use Rattle.smb_patterns.proofs.rows.end_row.Goals.{then-takes_nothing+then-has, else-takes_nothing, else-takes_nothing-via-then-takes_nothing+else-has, else-takes_nothing-via-else-takes_nothing}

pub loop-n-init : goal.loop-n-init
loop-n-init c = ends_none c.args.pattern.now (has c.add.new.self) (has c.none-row.result) c.add.ensures c.none-row.ensures

pub loop-n-preserved : goal.loop-n-preserved
loop-n-preserved c =
    let ps : List ℕ = c.args.pattern.now in
    let n : ℕ = c.loop-n.n in
    let old : ℕ → Bool = has c.loop-n.row in
    let t : Bool = c.takes_nothing_at_the_end-takes_nothing.result in
    let within : n < length ps = omega (arith, c.len-count.ensures.len) in
    let place : c.len-count.result - n - 1 ≡ length ps - suc n = omega (arith, c.len-count.ensures.len) in
    let first : c.symbol.result ≡ symbol_at ps (suc n) = c.symbol.ensures ∙ ap (λ (k : ℕ). symbol_of (get_or ps k 0)) place in
    let right : Decides t (Takes (symbol_at ps (suc n)) [] []) =
    subst (λ (s : Symbol). Decides t (Takes s [] [])) first c.takes_nothing_at_the_end-takes_nothing.ensures in
    elim c.if-takes_nothing.branch [
      | then-takes_nothing+then-has w ↦
          subst (λ (r : Rests). EndRow ps (n + 1) (has r)) (sym w.row-is)
          (ends_then ps n old (has w.add-then-has.new.self) t c.loop-n.invariant within right w.if-takes_nothing.true (sym w.has.ensures ∙ w.if-has.true) w.add-then-has.ensures)
      | else-takes_nothing w ↦
          let none : (old n && t) ≡ false = elim w.else-takes_nothing.branch [
            | else-takes_nothing-via-then-takes_nothing+else-has v ↦ and_left (old n) t (sym v.has.ensures ∙ v.if-has.false)
            | else-takes_nothing-via-else-takes_nothing v ↦ and_right (old n) t v.if-takes_nothing.false
          ] in
          subst (λ (r : Rests). EndRow ps (n + 1) (has r)) (sym w.row-is)
          (ends_else ps n old t c.loop-n.invariant within right none)
    ]
