use Rattle.std.proofs.Common.{◌∷◌, ◌++◌, List, ℕ, sym, ap, ◌∙◌}
use Rattle.smb_body.proofs.Smb1Lemmas.{zero_found, text_found, nothing_found, tail_of}
use Rattle.smb_body.proofs.smb1.text_and_rest.Goals as goal

pub returns-in_default-clause-none : goal.returns-in_default-clause-none
returns-in_default-clause-none c = nothing_found c.args.bytes.now (sym c.in_default.ensures)

pub returns-clause-split : goal.returns-clause-split
returns-clause-split c =
    zero_found c.args.bytes.now _ _ c.in-Some.end (sym c.in-Some.ensures) c.split_at.ensures.front c.split_at.ensures.back
    ∙ ap (λ (xs : List ℕ). c.split_at.result.0.now ++ (0 ∷ xs)) (sym (tail_of c.split_at.result.1.now))

pub returns-clause-text : goal.returns-clause-text
returns-clause-text c = text_found c.args.bytes.now _ c.in-Some.end (sym c.in-Some.ensures) c.split_at.ensures.front
