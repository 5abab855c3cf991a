use Rattle.std.proofs.Common.{◌++◌, sym, ap, ◌∙◌, arith}
use Rattle.std.specs.List.{flat_map}
use Rattle.smb_engine.specs.Output.{reply_frame}
use Rattle.smb_engine.specs.Parts.{server_after}
use Rattle.smb_engine.specs.Run.{payload_step}
use Rattle.smb_engine.proofs.Chains.{payload_whole}
use Rattle.smb_engine.proofs.Steps.{frame_of, no_frame}
use Rattle.smb_engine.proofs.Short.{step_short}
use Rattle.smb_engine.proofs.stream.put_payload.Goals as goal

pub returns-in_default-clause-err : goal.returns-in_default-clause-err
returns-in_default-clause-err g c =
    let n = rw c.in-Ok-Some.field-0-is at c.in-Ok-Some.ensures.count in
    let step = payload_step g.A.Authenticator.meaning c.args.arrival c.args.server.now c.args.connection.now c.args.payload.now in
    record {
      within = omega (arith, n);
      state = ap (λ p. p.server) c.in-Ok-Some.ensures.ok
          ∙ sym (payload_whole g.A.Authenticator.meaning c.args.arrival c.args.server.now c.args.connection.now c.args.payload.now).whole
          ∙ ap (server_after c.args.server.now step.requests) (sym n);
    }

pub returns-in-Ok-clause-ok : goal.returns-in-Ok-clause-ok
returns-in-Ok-clause-ok g c =
    let f = frame_of g.A.Authenticator.meaning g.K.Sink.hears c.args.arrival c.args.server.now c.args.connection.now c.args.payload.now _ _ c.take_bytes-bytes.result _
    (rw c.in-Ok-Some.field-0-is at c.in-Ok-Some.ensures.ok) in
    f.2 (g.K.Sink.content c.args.out.now) (g.K.Sink.content c.give_frame.new.self)
    (c.in-Ok.ensures.ok c.take_bytes-bytes.result f.0 c.take_bytes-bytes.ensures.lent f.1
    ∙ ap (λ t. t ++ flat_map g.K.Sink.hears (reply_frame c.args.arrival.connection_id f.0)) c.take_bytes-bytes.ensures.content)

pub returns-in-Ok-clause-short : goal.returns-in-Ok-clause-short
returns-in-Ok-clause-short g c =
    step_short (payload_step g.A.Authenticator.meaning c.args.arrival c.args.server.now c.args.connection.now c.args.payload.now) _ _ _ c.take_bytes-bytes.result _ c.in-Ok-Some.ensures.ok c.in-Ok-Some.ensures.len

pub returns-in-Ok-None-clause-short : goal.returns-in-Ok-None-clause-short
returns-in-Ok-None-clause-short g c =
    step_short (payload_step g.A.Authenticator.meaning c.args.arrival c.args.server.now c.args.connection.now c.args.payload.now) _ _ _ c.take_bytes-bytes.result _ c.in-Ok-None.ensures.ok c.in-Ok-None.ensures.len

pub returns-in-Ok-None-clause-ok : goal.returns-in-Ok-None-clause-ok
returns-in-Ok-None-clause-ok g c =
    let f = no_frame g.A.Authenticator.meaning g.K.Sink.hears c.args.arrival c.args.server.now c.args.connection.now c.args.payload.now _ _ c.take_bytes-bytes.result _
    (rw c.in-Ok-None.field-0-is at c.in-Ok-None.ensures.ok) in
    f.1 (g.K.Sink.content c.args.out.now) (g.K.Sink.content c.give_back.new.self)
    (c.give_back.ensures c.take_bytes-bytes.result c.take_bytes-bytes.ensures.lent f.0 ∙ c.take_bytes-bytes.ensures.content)
