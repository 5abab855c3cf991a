use Rattle.std.proofs.Common.{◌≡◌, ◌+◌, ◌==◌, ◌&&◌, Bool, true, false, get_or, drop, arith, sym, ap, ◌∙◌, eq-eqb, ne_eqb}
use Rattle.std.proofs.lemmas.Bool.{and_left}
use Rattle.smb_wire.specs.Names.{folded_unit, is_same_name}
use Rattle.smb_ntlm.proofs.Names.{same_more, same_none}
use Rattle.smb_ntlm.proofs.account.is_same_name.Goals as goal

pub returns-then-capital : goal.returns-then-capital
returns-then-capital c =
    let other : (folded_unit (get_or c.args.left.now c.loop-i.i 0) == folded_unit (get_or c.args.right.now c.loop-i.i 0)) ≡ false =
    ne_eqb _ _ (λ h. c.if-capital.true (c.capital.ensures ∙ h ∙ sym c.capital-in-loop-i.ensures)) in
    sym (and_left _ _ other) ∙ sym (same_more c.args.left.now c.args.right.now c.loop-i.i (omega arith) (omega arith)) ∙ c.loop-i.invariant

pub loop-i-preserved : goal.loop-i-preserved
loop-i-preserved c =
    let same : (folded_unit (get_or c.args.left.now c.loop-i.i 0) == folded_unit (get_or c.args.right.now c.loop-i.i 0)) ≡ true =
    eq-eqb _ _ (sym c.capital.ensures ∙ c.if-capital.false ∙ c.capital-in-loop-i.ensures) in
    let rest : Bool = is_same_name (drop (c.loop-i.i + 1) c.args.left.now) (drop (c.loop-i.i + 1) c.args.right.now) in
    sym (ap (λ (b : Bool). b && rest) same) ∙ sym (same_more c.args.left.now c.args.right.now c.loop-i.i (omega arith) (omega arith)) ∙ c.loop-i.invariant

pub returns : goal.returns
returns c = sym (same_none c.args.left.now c.args.right.now c.loop-i.i (omega arith) (omega arith)) ∙ c.loop-i.invariant
