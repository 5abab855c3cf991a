use Rattle.std.proofs.Common.{◌≡◌, ◌∙◌, false, sym, ap}
use Rattle.smb_wire.specs.Commands.{known_command}
use Rattle.smb_request.specs.Call.{call_of}
use Rattle.smb_request.specs.Parts.{is_cancel_command}
use Rattle.smb_request.proofs.Verified.{refused_put}
use Rattle.smb_request.proofs.server.Server.perform.Goals as goal

pub returns-in_ok-answered-in-Some-clause-ok : goal.returns-in_ok-answered-in-Some-clause-ok
returns-in_ok-answered-in-Some-clause-ok g c =
    let call = call_of c.args.connection c.args.moment c.args.dialect.now c.args.context.now c.args.request.now in
    let same : is_cancel_command (known_command c.args.header.now.command.0) ≡ is_cancel_command call.command =
    ap (λ h. is_cancel_command (known_command h.command.0)) c.requires.header in
    let cancel = c.is_cancel.ensures in
    let no = c.if-not-is_cancel.true in
    let other : is_cancel_command call.command ≡ false = cc in
    let answered = c.in_ok-answered-in-Some.ensures.ok c.args.connection c.args.moment c.args.dialect.now in
    refused_put g.A.Authenticator.meaning c.args.connection c.args.moment c.args.self.now c.args.dialect.now c.args.context.now c.args.request.now c.args.out.now.items
    c.args.signing c.in-Some.refusal _ _ other c.requires.signing c.in-Some.ensures answered.0 answered.1
