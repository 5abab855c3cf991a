-- A refusal of which something is known whatever it is.
use Rattle.std.specs.Prelude.{Result, Ok, Err, IfErr}

pub refused_by : {X E P : Type 0} (r : Result X E) (Q : E → Type 0) → P → IfErr r (λ e. Q e → P)
refused_by (Ok x) Q p = tt
refused_by (Err e) Q p = λ _. p
