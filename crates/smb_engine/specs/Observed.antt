-- What an observer hears of a share: which requests are performed, how they are responded to, and by which rules connections
-- are ended, in the order in which the share does this. Nothing that the share does depends on it.
use Rattle.std.specs.Prelude.{ℕ, List, [], ◌∷◌, ◌++◌, length, drop, Option, Some, None, ◌||◌, if◌then◌else◌}
use Rattle.std.specs.Option.{option_map, option_map_or}
use Rattle.std.specs.List.{flat_map}
use Rattle.smb_wire.specs.Limits.{longest_payload}
use Rattle.smb_frame.specs.Reading.{payloads, rest, fault_of}
use Rattle.smb_head.specs.Headers.{header_of}
use Rattle.smb_body.specs.Smb1.{smb1_of}
use Rattle.smb_body.specs.declared.smb1.Smb1Dialects.{Smb1Dialects}
use Rattle.smb_session.specs.Authenticator.{Meaning}
use Rattle.smb_request.specs.State.{ServerState}
use Rattle.smb_request.specs.Response.{ResponseState}
use Rattle.smb_peers.specs.declared.ending.Ending.{Ending}
use Rattle.smb_peers.specs.declared.ending.Ending.TheVariants.{Frame, Smb1NoDialect}
use Rattle.smb_peers.specs.Observed.{Observed, performed, responded, ended}
use Rattle.smb_peers.specs.declared.observer.Acting.{Acting}
use Rattle.smb_wire.specs.Commands.{code_of}
use Rattle.smb_wire.specs.declared.command.Command.TheVariants.{Negotiate}
use Rattle.smb_wire.specs.declared.dialect.Dialect.{Dialect}
use Rattle.smb_wire.specs.declared.nt_status.NtStatus.TheVariants.{Success}
use Rattle.smb_request.specs.declared.context.Context.{Context}
use Rattle.smb_request.specs.Call.{call_of}
use Rattle.smb_peers.specs.Event.{EventText, opens, brings, ends}
use Rattle.smb_engine.specs.declared.arrival.Arrival.{Arrival}
use Rattle.smb_engine.specs.declared.connection.Connection.{Connection}
use Rattle.smb_engine.specs.declared.fault.ServeFault.{ServeFault}
use Rattle.smb_engine.specs.State.{StreamState, ShareState, stream_of}
use Rattle.smb_engine.specs.Run.{PerformedRequest, ending_of, payload_step, payload_steps, event_step, event_refusal}

-- what a request acts on that comes behind the requests of a context: the session and the tree connect that it acts under,
-- and the number of the open that it names, 0 where it names none (3.3.5.2.7.2)
abbrev pub acting_on : Arrival → Option Dialect → Context → List ℕ → Acting
acting_on arrival dialect context request =
    let call = call_of arrival.connection_id arrival.moment dialect context request in
    record { session_id = call.ids.session_id; tree_id = call.ids.tree_id; open_number = call.open_number }

-- of a request: how it was responded to, where it was
abbrev pub response_observed : ℕ → List ℕ → ℕ → Option ResponseState → List Observed
response_observed connection request credits response = option_map_or
    (λ (response : ResponseState). responded connection (record {
      message_id = (header_of request).message_id;
      command = (header_of request).command;
      status = response.status;
      refusal = response.refusal;
      credits = credits;
    }) ∷ [])
    response []

-- of a request: that it was performed, and its response
abbrev pub request_observed : Arrival → Option Dialect → Context → List ℕ → ℕ → Option ResponseState → List Observed
request_observed arrival dialect context request credits response =
    performed arrival.connection_id request (acting_on arrival dialect context request)
    ∷ response_observed arrival.connection_id request credits response

-- of an SMB_COM_NEGOTIATE that is answered: it is performed, by its payload, and its response is to MessageId 0 of a
-- NEGOTIATE (3.3.5.3.1)
abbrev pub smb1_observed : ℕ → List ℕ → ℕ → List Observed
smb1_observed connection payload credits =
    performed connection payload (record { session_id = 0; tree_id = 0; open_number = 0 })
    ∷ responded connection (record {
      message_id = 0;
      command = record { 0 = code_of Negotiate };
      status = Success;
      refusal = None;
      credits = credits;
    })
    ∷ []

-- of the requests of a payload that were performed
abbrev pub requests_observed : {S : Type 0} → Arrival → List ℕ → List (PerformedRequest S) → List Observed
requests_observed {S} arrival payload requests = flat_map
    (λ (came : PerformedRequest S). option_map_or
    (λ request. request_observed arrival came.dialect came.context request came.credits came.response)
    came.request
    (smb1_observed arrival.connection_id payload came.credits))
    requests

-- of a connection that is ended by a rule, or by none
abbrev pub ending_observed : ℕ → Option Ending → List Observed
ending_observed connection ending = option_map_or (λ rule. ended connection rule ∷ []) ending []

-- by which rule an SMB_COM_NEGOTIATE ends its connection: it lists no dialect of the share (3.3.5.3.1)
abbrev pub smb1_ending : Smb1Dialects → Option Ending
smb1_ending dialects = if dialects.smb_2_wildcard || dialects.smb_2_002 then None else Some Smb1NoDialect

-- by which rule a payload ends its connection, where it does: the first may be an SMB_COM_NEGOTIATE (3.3.5.3.1)
abbrev pub payload_ending : Connection → List ℕ → Option Ending
payload_ending connection payload = option_map_or
    smb1_ending
    (if connection.payload_came then None else smb1_of payload)
    (ending_of connection payload)

module _ {S : Type 0} (authenticator : Meaning S) (arrival : Arrival) where
  -- of a payload: its requests, or the rule by which it ends the connection
  abbrev pub payload_observed : ServerState S → Connection → List ℕ → List Observed
  payload_observed server connection payload =
      requests_observed arrival payload (payload_step authenticator arrival server connection payload).requests
      ++ ending_observed arrival.connection_id (payload_ending connection payload)

  -- of payloads in order, up to one that ends the connection
  abbrev pub payloads_observed : ServerState S → Connection → List (List ℕ) → List Observed
  payloads_observed server connection [] = []
  payloads_observed server connection (payload ∷ payloads) =
      let step = payload_step authenticator arrival server connection payload in
      payload_observed server connection payload
      ++ (if step.stays_open then payloads_observed step.server step.connection payloads else [])

  -- of a piece: of the payloads that it adds to the stream, and, where they leave the connection open, of a fault in the
  -- unread bytes (2.1)
  abbrev pub piece_observed : ServerState S → StreamState → List ℕ → List Observed
  piece_observed server stream piece =
      let received = stream.received ++ piece in
      let added = drop (length (payloads longest_payload stream.received)) (payloads longest_payload received) in
      let step = payload_steps authenticator arrival server stream.connection added in
      payloads_observed server stream.connection added
      ++ (if step.stays_open
      then ending_observed arrival.connection_id (option_map Frame (fault_of longest_payload (rest longest_payload received)))
      else [])

-- of an event that is not refused; on a connection that is not open a piece is passed over
abbrev pub event_observed : {S : Type 0} → Meaning S → ShareState S → EventText → List Observed
event_observed authenticator s (opens connection) = []
event_observed authenticator s (brings connection moment piece) = option_map_or
    (λ (stream : StreamState). piece_observed authenticator (record { connection_id = connection; moment = moment }) s.server stream piece)
    (stream_of connection s.streams) []
event_observed authenticator s (ends connection) = []

-- of a run of events in order, up to one that is refused
abbrev pub run_observed : {S : Type 0} → Meaning S → ShareState S → List EventText → List Observed
run_observed authenticator s [] = []
run_observed authenticator s (event ∷ events) = option_map_or
    (λ (fault : ServeFault). [])
    (event_refusal s event)
    (event_observed authenticator s event ++ run_observed authenticator (event_step authenticator s event).state events)
