use Rattle.std.proofs.Common.{◌≡◌, ◌∙◌, Option, true, false, sym, ap, rules}
use Rattle.std.specs.Option.{option_map}
use Rattle.smb_wire.specs.Commands.{known_command}
use Rattle.smb_wire.specs.declared.command.Command.{Command}
use Rattle.smb_request.specs.Bodies.{response_step, is_listing}
use Rattle.smb_request.specs.Held.{asked_value}
use Rattle.smb_request.specs.declared.call.Call.{Call}
use Rattle.smb_request.specs.declared.context.Context.{Context}
use Rattle.smb_request.specs.Context.{open_for_next_related}
use Rattle.smb_request.specs.State.{ServerState}
use Rattle.smb_request.specs.Call.{body_of, call_of}
use Rattle.smb_request.specs.InPlace.{answer_held, answer_behind}
use Rattle.smb_request.specs.Parts.{is_cancel_command, performed_by}
use Rattle.smb_request.specs.Response.{CommandStep}
use Rattle.smb_request.proofs.Performed.{call_read, dialect_unwritten, server_unwritten, still_listing, performed_put, performed_server, performed_dialect}
use Rattle.smb_request.proofs.server.Server.perform_verified.Goals as goal
use Rattle.smb_request.proofs.server.Server.perform_verified.Goals.{in-Ok, in-Err-Row, in-Some-Cancel, in_default, in_default-2}

-- a call and a body that were read from one request
pub respond-requires : goal.respond-requires
respond-requires g c =
    let request = c.args.request.now in
    let body = option_map asked_value c.body_of-body.result in
    let read : body ≡ body_of (known_command c.args.header.now.command.0) request = c.body_of-body.ensures in
    let known : body ≡ body_of c.known-command.result request = read ∙ ap (λ (x : Option Command). body_of x request) (sym c.known-command.ensures) in
    let is : c.of-call.result ≡ call_of c.args.connection c.args.moment c.args.dialect.now c.args.context.now request = c.of-call.ensures request c.requires c.known-command.ensures known in
    let whole : body ≡ body_of (call_of c.args.connection c.args.moment c.args.dialect.now c.args.context.now request).command request = read ∙ ap (λ h. body_of (known_command h.command.0) request) c.requires in
    rw (is, whole) (call_read c.args.connection c.args.moment c.args.dialect.now c.args.context.now request)

pub returns-in-Ok-put-clause-ok : goal.returns-in-Ok-put-clause-ok
returns-in-Ok-put-clause-ok g c =
    let request = c.args.request.now in
    let call = c.of-call.result in
    let body = option_map asked_value c.body_of-body.result in
    let read : body ≡ body_of (known_command c.args.header.now.command.0) request = c.body_of-body.ensures in
    let known : body ≡ body_of c.known-command.result request = read ∙ ap (λ (x : Option Command). body_of x request) (sym c.known-command.ensures) in
    let is : call ≡ call_of c.args.connection c.args.moment c.args.dialect.now c.args.context.now request = c.of-call.ensures request c.requires c.known-command.ensures known in
    let named : body ≡ body_of call.command request =
    read ∙ ap (λ h. body_of (known_command h.command.0) request) c.requires ∙ ap (λ (x : Call). body_of x.command request) (sym is) in
    let same : c.known-command.result ≡ call.command = c.known-command.ensures ∙ ap (λ h. known_command h.command.0) c.requires ∙ ap (λ (x : Call). x.command) (sym is) in
    let unnamed : is_cancel_command c.known-command.result ≡ false = elim c.match-matches.branch [
      | in-Some-Cancel w ↦ (let no : true ≡ false = sym w.matches-is ∙ c.if-matches.false in cc)
      | in_default w ↦ search rules
      | in_default-2 w ↦ search rules
    ] in
    let other : is_cancel_command call.command ≡ false = ap is_cancel_command (sym same) ∙ unnamed in
    let step : response_step g.A.Authenticator.meaning c.respond.new.self call c.match-respond.response ≡ performed_by g.A.Authenticator.meaning c.args.self.now call body = elim c.match-respond.branch [
      | in-Ok w ↦ ap (response_step g.A.Authenticator.meaning c.respond.new.self call) w.response-is ∙ w.in-Ok.ensures.ok
      | in-Err-Row w ↦ ap (response_step g.A.Authenticator.meaning c.respond.new.self call) (w.response-is ∙ w.refused-response.ensures) ∙ (rw w.in-Err-Row.field-0-is at w.in-Err-Row.ensures.ok)
    ] in
    let next = ap
    (λ n. let x : Context = record { ids = c.in-Ok-put.answered.ids; last_open = open_for_next_related call.inherited n call.command call.file_id c.in-Ok-put.answered.status } in x)
    (c.next_number-next.ensures ∙ ap (λ (s : ServerState g.row.A.Denot). s.store.next) c.self.view_is) in
    performed_put g.A.Authenticator.meaning c.args.connection c.args.moment c.args.self.now c.args.dialect.now c.args.context.now request call is body named other c.args.out.now.items
    c.put.new.self c.respond.new.dialect c.context_behind.result (answer_held c.in-Ok-put.answered c.put.new.out.items)
    (c.in-Ok-put.ensures.server ∙ ap (λ (s : CommandStep g.row.A.Denot). s.server) step) c.respond.ensures.dialect
    (c.in-Ok-put.ensures.ok ∙ ap (λ (s : CommandStep g.row.A.Denot). answer_behind c.args.out.now.items s.response) step) (c.context_behind.ensures ∙ next)

-- where the response could not be written, nothing was performed of a listing, and all of another request
pub returns-clause-err : goal.returns-clause-err
returns-clause-err g c =
    let request = c.args.request.now in
    let call = c.of-call.result in
    let body = option_map asked_value c.body_of-body.result in
    let read : body ≡ body_of (known_command c.args.header.now.command.0) request = c.body_of-body.ensures in
    let known : body ≡ body_of c.known-command.result request = read ∙ ap (λ (x : Option Command). body_of x request) (sym c.known-command.ensures) in
    let is : call ≡ call_of c.args.connection c.args.moment c.args.dialect.now c.args.context.now request = c.of-call.ensures request c.requires c.known-command.ensures known in
    let named : body ≡ body_of call.command request =
    read ∙ ap (λ h. body_of (known_command h.command.0) request) c.requires ∙ ap (λ (x : Call). body_of x.command request) (sym is) in
    let same : c.known-command.result ≡ call.command = c.known-command.ensures ∙ ap (λ h. known_command h.command.0) c.requires ∙ ap (λ (x : Call). x.command) (sym is) in
    let unnamed : is_cancel_command c.known-command.result ≡ false = elim c.match-matches.branch [
      | in-Some-Cancel w ↦ (let no : true ≡ false = sym w.matches-is ∙ c.if-matches.false in cc)
      | in_default w ↦ search rules
      | in_default-2 w ↦ search rules
    ] in
    let other : is_cancel_command call.command ≡ false = ap is_cancel_command (sym same) ∙ unnamed in
    let step : response_step g.A.Authenticator.meaning c.respond.new.self call c.match-respond.response ≡ performed_by g.A.Authenticator.meaning c.args.self.now call body = elim c.match-respond.branch [
      | in-Ok w ↦ ap (response_step g.A.Authenticator.meaning c.respond.new.self call) w.response-is ∙ w.in-Ok.ensures.ok
      | in-Err-Row w ↦ ap (response_step g.A.Authenticator.meaning c.respond.new.self call) (w.response-is ∙ w.refused-response.ensures) ∙ (rw w.in-Err-Row.field-0-is at w.in-Err-Row.ensures.ok)
    ] in
    let left : is_listing c.match-respond.response ≡ true → c.respond.new.self ≡ c.args.self.now = elim c.match-respond.branch [
      | in-Ok w ↦ λ e. still_listing c.args.self.now c.respond.new.self _ w.in-Ok.ensures.put.1 (ap is_listing (sym w.response-is) ∙ e)
      | in-Err-Row w ↦ λ e. (let no : false ≡ true = ap is_listing (sym w.refused-response.ensures) ∙ ap is_listing (sym w.response-is) ∙ e in cc)
    ] in
    c.in-Err.ensures.state
    ∙ server_unwritten g.A.Authenticator.meaning call c.match-respond.response c.in-Err.no_reply c.args.self.now c.respond.new.self _ c.in-Err.ensures.err
    (ap (λ (s : CommandStep g.row.A.Denot). s.server) step
    ∙ performed_server g.A.Authenticator.meaning c.args.connection c.args.moment c.args.self.now c.args.dialect.now c.args.context.now request call is body named other) left

pub returns-clause-dialect : goal.returns-clause-dialect
returns-clause-dialect g c =
    let request = c.args.request.now in
    let call = c.of-call.result in
    let body = option_map asked_value c.body_of-body.result in
    let read : body ≡ body_of (known_command c.args.header.now.command.0) request = c.body_of-body.ensures in
    let known : body ≡ body_of c.known-command.result request = read ∙ ap (λ (x : Option Command). body_of x request) (sym c.known-command.ensures) in
    let is : call ≡ call_of c.args.connection c.args.moment c.args.dialect.now c.args.context.now request = c.of-call.ensures request c.requires c.known-command.ensures known in
    let named : body ≡ body_of call.command request =
    read ∙ ap (λ h. body_of (known_command h.command.0) request) c.requires ∙ ap (λ (x : Call). body_of x.command request) (sym is) in
    let same : c.known-command.result ≡ call.command = c.known-command.ensures ∙ ap (λ h. known_command h.command.0) c.requires ∙ ap (λ (x : Call). x.command) (sym is) in
    let unnamed : is_cancel_command c.known-command.result ≡ false = elim c.match-matches.branch [
      | in-Some-Cancel w ↦ (let no : true ≡ false = sym w.matches-is ∙ c.if-matches.false in cc)
      | in_default w ↦ search rules
      | in_default-2 w ↦ search rules
    ] in
    let other : is_cancel_command call.command ≡ false = ap is_cancel_command (sym same) ∙ unnamed in
    let left : is_listing c.match-respond.response ≡ true → c.respond.new.dialect ≡ c.args.dialect.now = elim c.match-respond.branch [
      | in-Ok w ↦ λ e. w.in-Ok.ensures.listing (ap is_listing (sym w.response-is) ∙ e)
      | in-Err-Row w ↦ λ e. (let no : false ≡ true = ap is_listing (sym w.refused-response.ensures) ∙ ap is_listing (sym w.response-is) ∙ e in cc)
    ] in
    dialect_unwritten c.match-respond.response c.in-Err.no_reply c.args.dialect.now _ c.respond.new.dialect c.in-Err.ensures.err
    (c.respond.ensures.dialect
    ∙ performed_dialect g.A.Authenticator.meaning c.args.connection c.args.moment c.args.self.now c.args.dialect.now c.args.context.now request call is body named other) left
