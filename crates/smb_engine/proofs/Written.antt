-- A request of a chain whose reply is written behind the others.
use Rattle.std.proofs.Common.{◌≡◌, ℕ, List, [], ◌∷◌, ◌++◌, Option, None, Some, refl, ap, ◌∙◌}
use Rattle.std.specs.Option.{option_map}
use Rattle.smb_wire.specs.declared.dialect.Dialect.{Dialect}
use Rattle.smb_signing.specs.declared.key.Key.{Key}
use Rattle.smb_head.specs.declared.header.Header.{Header}
use Rattle.smb_head.specs.Headers.{header_of}
use Rattle.smb_head.specs.Replies.{Reply}
use Rattle.smb_head.specs.Placed.{ReplyPlaces, placed, replies_written, with_open_reply}
use Rattle.smb_session.specs.Authenticator.{Meaning}
use Rattle.smb_session.specs.Window.{WindowState, credits_granted, with_more}
use Rattle.smb_request.specs.declared.context.Context.{Context}
use Rattle.smb_request.specs.declared.response.Answered.{Answered}
use Rattle.smb_request.specs.InPlace.{AnswerHeld, PerformedHeld, answer_held, answer_behind, performed_behind}
use Rattle.smb_request.specs.Request.{performed, response_key}
use Rattle.smb_request.specs.Response.{ResponseState}
use Rattle.smb_request.specs.State.{ServerState}
use Rattle.smb_engine.specs.declared.arrival.Arrival.{Arrival}
use Rattle.smb_engine.specs.declared.connection.Connection.{Connection}
use Rattle.smb_engine.specs.InPlace.{ChainStatePlaced, chain_state_behind}
use Rattle.smb_engine.specs.declared.session_keys.SessionKey.{SessionKey}
use Rattle.smb_engine.specs.Parts.{reply_to, key_or_kept, keys_behind}
use Rattle.smb_engine.specs.Run.{one_performed}

-- a response that was put is that of the request
pub some_response : (held : AnswerHeld) (front : List ℕ) (response : Option ResponseState) → Some held ≡ option_map (answer_behind front) response →
    (is : ResponseState) × (response ≡ Some is) × (held ≡ answer_behind front is)
some_response held front None e = cc
some_response held front (Some response) e = (response, refl, cc)

-- the reply that is written is that to the request
pub same_reply : (answered : Answered) (front out : List ℕ) (response : ResponseState) (request : List ℕ) (key : Option Key) (credits : ℕ) (header : Header) → answer_held answered out ≡ answer_behind front response →
    header ≡ (reply_to request (record { status = answered.status; refusal = answered.refusal; ids = answered.ids; body = response.body }) key credits).header →
    (let reply : Reply = record { header = header; body = response.body; key = key } in reply) ≡ reply_to request response key credits
same_reply answered front out response request key credits header e h =
    let status = ap (λ (t : AnswerHeld). t.status) e in
    let ids = ap (λ (t : AnswerHeld). t.ids) e in
    rw (h, status, ids) refl

-- its key is that of the response, over the server that the request left
pub same_key : {S : Type 0} (answered : Answered) (front out : List ℕ) (response : ResponseState) (before after done : ServerState S) (connection : ℕ) (context : Context) (request : List ℕ) (keys : List SessionKey) →
    answer_held answered out ≡ answer_behind front response → after ≡ done →
    key_or_kept keys request answered.ids (response_key before after connection context request answered.ids answered.status)
    ≡ key_or_kept keys request response.ids (response_key before done connection context request response.ids response.status)
same_key answered front out response before after done connection context request keys e s =
    let status = ap (λ (t : AnswerHeld). t.status) e in
    let ids = ap (λ (t : AnswerHeld). t.ids) e in
    rw (s, status, ids) refl

-- the keys behind it are those behind the response
same_keys : (answered : Answered) (front out : List ℕ) (response : ResponseState) (request : List ℕ) (keys : List SessionKey) (key : Option Key) →
    answer_held answered out ≡ answer_behind front response →
    keys_behind keys request answered.ids answered.status key ≡ keys_behind keys request response.ids response.status key
same_keys answered front out response request keys key e =
    let status = ap (λ (t : AnswerHeld). t.status) e in
    let ids = ap (λ (t : AnswerHeld). t.ids) e in
    rw (status, ids) refl

module _ {S : Type 0} (m : Meaning S) (arrival : Arrival) (front : List ℕ) (before : List Reply) (server : ServerState S) (connection : Connection) (context : Context) (request : List ℕ) where
  pub one_written : (response : ResponseState) → (performed m arrival.connection_id arrival.moment server connection.dialect context request).response ≡ Some response →
      (server' : ServerState S) (dialect' : Option Dialect) (context' : Context) (window' : WindowState) (keys' : List SessionKey) (key : Option Key) (writer : ReplyPlaces) (out : List ℕ) →
      server' ≡ (performed m arrival.connection_id arrival.moment server connection.dialect context request).server →
      dialect' ≡ (performed m arrival.connection_id arrival.moment server connection.dialect context request).dialect →
      context' ≡ (performed m arrival.connection_id arrival.moment server connection.dialect context request).context →
      window' ≡ with_more connection.window (credits_granted connection.window (header_of request).credits) →
      key ≡ key_or_kept connection.keys request response.ids (response_key server (performed m arrival.connection_id arrival.moment server connection.dialect context request).server arrival.connection_id context request response.ids response.status) →
      keys' ≡ keys_behind connection.keys request response.ids response.status key →
      writer ≡ placed front (before ++ reply_to request response key (credits_granted connection.window (header_of request).credits) ∷ []) →
      out ≡ replies_written front (before ++ reply_to request response key (credits_granted connection.window (header_of request).credits) ∷ []) →
      (let is : Connection = record { payload_came = connection.payload_came; dialect = dialect'; window = window'; keys = keys' } in
      let x : ChainStatePlaced S = record { server = server'; connection = is; context = context'; writer = writer; out = out } in x)
      ≡ chain_state_behind front (one_performed m arrival (record { server = server; connection = connection; context = context; replies = before }) request)
  unfolding one_performed
  one_written response r server' dialect' context' window' keys' key writer out s d x w k ks p o = rw (r, s, d, x, w, p, o, ks, k) refl

  pub one_put : (answered : Answered) (opened put written : List ℕ) (server' : ServerState S) (dialect' : Option Dialect) (context' : Context) (window' : WindowState) (keys' : List SessionKey) (credits : ℕ) (key : Option Key) (header : Header) (writer : ReplyPlaces) →
      (let held : PerformedHeld S = record { server = server'; dialect = dialect'; context = context'; response = Some (answer_held answered put) } in held)
      ≡ performed_behind opened (performed m arrival.connection_id arrival.moment server connection.dialect context request) →
      opened ≡ with_open_reply front before → credits ≡ credits_granted connection.window (header_of request).credits → window' ≡ with_more connection.window credits →
      key ≡ key_or_kept connection.keys request answered.ids (response_key server server' arrival.connection_id context request answered.ids answered.status) →
      keys' ≡ keys_behind connection.keys request answered.ids answered.status key →
      ((body : List ℕ) → header ≡ (reply_to request (record { status = answered.status; refusal = answered.refusal; ids = answered.ids; body = body }) key credits).header) →
      ((body : List ℕ) → writer ≡ placed front (before ++ record { header = header; body = body; key = key } ∷ [])) →
      ((body : List ℕ) → put ≡ with_open_reply front before ++ body → written ≡ replies_written front (before ++ record { header = header; body = body; key = key } ∷ [])) →
      (let is : Connection = record { payload_came = connection.payload_came; dialect = dialect'; window = window'; keys = keys' } in
      let x : ChainStatePlaced S = record { server = server'; connection = is; context = context'; writer = writer; out = written } in x)
      ≡ chain_state_behind front (one_performed m arrival (record { server = server; connection = connection; context = context; replies = before }) request)
  one_put answered opened put written server' dialect' context' window' keys' credits key header writer whole front_is granted more keyed kept headed placed_is closed =
      let found = some_response (answer_held answered put) opened (performed m arrival.connection_id arrival.moment server connection.dialect context request).response (ap (λ (t : PerformedHeld S). t.response) whole) in
      let response = found.0 in
      let left = ap (λ (t : PerformedHeld S). t.server) whole in
      let bytes : put ≡ with_open_reply front before ++ response.body =
      ap (λ (h : AnswerHeld). h.out) found.2 ∙ ap (λ (bytes : List ℕ). bytes ++ response.body) front_is in
      let replied = same_reply answered opened put response request key credits header found.2 (headed response.body) ∙ ap (λ (n : ℕ). reply_to request response key n) granted in
      one_written response found.1 server' dialect' context' window' keys' key writer written left
      (ap (λ (t : PerformedHeld S). t.dialect) whole) (ap (λ (t : PerformedHeld S). t.context) whole) (more ∙ ap (with_more connection.window) granted)
      (keyed ∙ same_key answered opened put response server server' _ arrival.connection_id context request connection.keys found.2 left)
      (kept ∙ same_keys answered opened put response request connection.keys key found.2)
      (placed_is response.body ∙ ap (λ (r : Reply). placed front (before ++ r ∷ [])) replied)
      (closed response.body bytes ∙ ap (λ (r : Reply). replies_written front (before ++ r ∷ [])) replied)
