use Rattle.std.proofs.Common.{◌≡◌, rules}
use Rattle.std.specs.Prelude.{IfOk, is_some}
use Rattle.smb_engine.specs.Output.{output_bytes}
use Rattle.smb_engine.specs.InPlace.{step_behind}
use Rattle.smb_engine.specs.Run.{payload_step}
use Rattle.smb_engine.proofs.Sealing.{result_sealed, result_apart}
use Rattle.smb_engine.proofs.chain.perform_payload.Goals as goal

pub returns-in-Some-clause-ok : goal.returns-in-Some-clause-ok
unfolding payload_step
returns-in-Some-clause-ok g c =
    let step = payload_step g.A.Authenticator.meaning c.args.arrival c.args.server.now c.args.connection.now c.args.payload.now in
    let held : IfOk c.first_payload.result (λ count. record { server = c.args.server.now; connection = c.first_payload.new.connection; stays_open = is_some count; out = c.first_payload.new.out.items }
    ≡ step_behind output_bytes c.args.out.now.items step) = search rules in
    result_sealed c.first_payload.result c.args.unsigned.now c.args.out.now.items c.first_payload.new.out.items c.args.server.now c.first_payload.new.connection step c.requires.apart held

pub returns-in-Some-clause-apart : goal.returns-in-Some-clause-apart
unfolding payload_step
returns-in-Some-clause-apart g c =
    let step = payload_step g.A.Authenticator.meaning c.args.arrival c.args.server.now c.args.connection.now c.args.payload.now in
    let held : IfOk c.first_payload.result (λ count. record { server = c.args.server.now; connection = c.first_payload.new.connection; stays_open = is_some count; out = c.first_payload.new.out.items }
    ≡ step_behind output_bytes c.args.out.now.items step) = search rules in
    result_apart c.first_payload.result c.args.unsigned.now c.args.out.now.items c.first_payload.new.out.items c.args.server.now c.first_payload.new.connection step c.requires.apart held c.first_payload.ensures.kept
