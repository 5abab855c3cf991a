use Rattle.std.proofs.Common.{sym, ap, ◌∙◌, Some}
use Rattle.smb_peers.specs.declared.ending.Ending.{Ending}
use Rattle.smb_engine.proofs.Endings.{ends_by_negotiate, ends_by_runs, admitted_by_runs}
use Rattle.smb_engine.proofs.admission.admit.Goals as goal

pub returns-then-not-put_runs-clause-err : goal.returns-then-not-put_runs-clause-err
returns-then-not-put_runs-clause-err c = λ payload h.
    ends_by_negotiate c.args.connection.now payload _ h (sym c.put_runs.ensures.keeps ∙ c.if-not-put_runs.true)
    ∙ ap (λ (e : Ending). Some e) (sym c.negotiate_ending.ensures)

pub returns-then-not-take_runs-clause-err : goal.returns-then-not-take_runs-clause-err
returns-then-not-take_runs-clause-err c = λ payload h.
    ends_by_runs c.args.connection.now payload _ _ _ _ h (sym c.put_runs.ensures.keeps ∙ c.if-not-put_runs.false)
    c.if-not-take_runs.ensures.kept (c.deref-then-not-take_runs.ensures.0 ∙ c.put_runs.ensures.runs) c.ids_ending.ensures

pub returns-clause-admitted : goal.returns-clause-admitted
returns-clause-admitted c = λ payload h.
    admitted_by_runs c.args.connection.now payload _ _ h (sym c.put_runs.ensures.keeps ∙ c.if-not-put_runs.false)
    (c.deref.ensures.0 ∙ c.put_runs.ensures.runs) (sym c.take_runs.ensures.all ∙ c.if-not-take_runs.false)
