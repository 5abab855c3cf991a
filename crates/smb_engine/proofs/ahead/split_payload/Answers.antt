use Rattle.std.proofs.Common.{List, ℕ, ◌∷◌, ◌+◌, length, sym, ap, ◌∙◌}
use Rattle.smb_wire.specs.Limits.{longest_payload}
use Rattle.smb_frame.specs.Reading.{payloads}
use Rattle.smb_frame.proofs.Streams.{payloads-none, payloads-some}
use Rattle.smb_engine.proofs.SoFar.{tail_is}
use Rattle.smb_engine.proofs.ahead.split_payload.Goals as goal

pub returns-in-Some : goal.returns-in-Some
returns-in-Some c =
    payloads-some longest_payload c.args.bytes.now c.in-Some.payload.now (sym c.in-Some.ensures.first)
    ∙ ap (λ (l : List ℕ). c.in-Some.payload.now ∷ payloads longest_payload l) (sym (tail_is c.args.bytes.now (length c.in-Some.payload.now + 4)))

pub returns-in-None : goal.returns-in-None
returns-in-None c = payloads-none longest_payload c.args.bytes.now (sym c.in-None.ensures.first)
