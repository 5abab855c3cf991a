use Rattle.std.proofs.Common.{sym, ◌∙◌, ap, refl, arith, ℕ, Option, subst}
use Rattle.smb_recovery.specs.Steps.{begins_torn, IsSearched}
use Rattle.smb_recovery.proofs.Ending.{long_why}
use Rattle.smb_recovery.proofs.Joining.{torn_why, zeros_why, end_found}
use Rattle.smb_recovery.proofs.reading.finish.Goals as goal

pub returns-then-not-begins_torn-clause-why : goal.returns-then-not-begins_torn-clause-why
returns-then-not-begins_torn-clause-why g c = λ first out later.
    torn_why first (g.S.Source.read c.args.source.now) c.args.buffer.now.items c.args.found (g.S.Source.ended c.args.source.now) out later
    (ap (begins_torn c.args.found.seed c.args.found.number) (sym c.deref.ensures.value) ∙ sym c.begins_torn.ensures ∙ c.if-not-begins_torn.true)

pub returns-in-Ok-None-clause-why : goal.returns-in-Ok-None-clause-why
returns-in-Ok-None-clause-why g c = λ first out later.
    let P : Option ℕ → Type 0 = λ found. IsSearched found (g.S.Source.read c.args.source.now) (g.S.Source.read c.take_zeros.new.source) (g.S.Source.ended c.args.source.now) in
    zeros_why first (g.S.Source.read c.args.source.now) c.args.buffer.now.items c.args.found (g.S.Source.ended c.args.source.now) out (g.S.Source.read c.take_zeros.new.source) later
    (subst P c.in-Ok-None.field-0-is c.in-Ok-None.ensures.zeros)

pub returns-clause-done : goal.returns-clause-done
returns-clause-done g c =
    let P : Option ℕ → Type 0 = λ found. IsSearched found (g.S.Source.read c.args.source.now) (g.S.Source.read c.take_zeros.new.source) (g.S.Source.ended c.args.source.now) in
    end_found c.args.found (record c.args.found { cut = c.in-Some.cut }) c.args.buffer.now.items (g.S.Source.read c.args.source.now) (g.S.Source.read c.take_zeros.new.source) (g.S.Source.ended c.args.source.now) c.in-Ok-Some.zeros c.in-Some.cut c.requires
    (ap (begins_torn c.args.found.seed c.args.found.number) (sym c.deref.ensures.value) ∙ sym c.begins_torn.ensures ∙ c.if-not-begins_torn.false)
    (subst P c.in-Ok-Some.field-0-is c.in-Ok-Some.ensures.zeros) (omega (arith, c.in-Some.ensures, c.len-begun.ensures)) refl

pub returns-in-Err-clause-why : goal.returns-in-Err-clause-why
returns-in-Err-clause-why g c = λ first out later. long_why first (g.S.Source.read c.take_zeros.new.source) later c.in-Err.fault c.in-Err.ensures.err
