use Rattle.std.proofs.Common.{◌≡◌, ◌||◌, ◌+◌, drop, sym, ap, ◌∙◌, eqb, arith}
use Rattle.std.proofs.lemmas.Bool.{eq-eqb, ne_eqb}
use Rattle.std.specs.List.{list_any}
use Rattle.smb_engine.specs.Parts.{is_negotiate_request}
use Rattle.smb_engine.proofs.Chains.{runs_skip, runs_more}
use Rattle.smb_engine.proofs.Lists.{any_or_found, any_or_passed}
use Rattle.smb_engine.proofs.admission.put_runs.Goals as goal
use Rattle.smb_engine.proofs.admission.put_runs.Goals.{then-code, else-code, then-code-2, else-code-2}

pub loop-i-preserved : goal.loop-i-preserved
loop-i-preserved c =
    let negotiates : (c.if-code.negotiates || list_any is_negotiate_request (drop (c.loop-i.i + 1) c.args.chain.now)) ≡ list_any is_negotiate_request c.args.chain.now = elim c.if-code.branch [
      | then-code w ↦ rw w.negotiates-is
          (any_or_found _ is_negotiate_request _ _ _ c.request_at.ensures.request c.loop-i.invariant.negotiates
          (ap (λ h. eqb h.command.0 0) (sym c.request_at.ensures.header) ∙ eq-eqb _ _ (w.if-code.true ∙ c.code.ensures)))
      | else-code w ↦ rw w.negotiates-is
          (any_or_passed _ is_negotiate_request _ _ _ c.request_at.ensures.request c.loop-i.invariant.negotiates
          (ap (λ h. eqb h.command.0 0) (sym c.request_at.ensures.header) ∙ ne_eqb _ _ (λ q. w.if-code.false (q ∙ sym c.code.ensures))))
    ] in
    elim c.if-code-2.branch [
      | then-code-2 w ↦ record {
        left = rw (w.runs-is, w.push.ensures.items, w.charge_of-charge.ensures.charge, c.request_at.ensures.header)
            (runs_more _ _ _ _ _ c.request_at.ensures.request c.loop-i.invariant.left
            (ap (λ h. eqb h.command.0 12) (sym c.request_at.ensures.header) ∙ ne_eqb _ _ (λ q. w.if-code-2.true (q ∙ sym c.code-in-loop-i.ensures))));
        few = rw w.runs-is (omega (arith, w.push.ensures.len, c.loop-i.invariant.few));
        negotiates = negotiates;
      }
      | else-code-2 w ↦ record {
        left = rw w.runs-is
            (runs_skip _ _ _ _ _ c.request_at.ensures.request c.loop-i.invariant.left
            (ap (λ h. eqb h.command.0 12) (sym c.request_at.ensures.header) ∙ eq-eqb _ _ (w.if-code-2.false ∙ c.code-in-loop-i.ensures)));
        few = rw w.runs-is (omega (arith, c.loop-i.invariant.few));
        negotiates = negotiates;
      }
    ]
