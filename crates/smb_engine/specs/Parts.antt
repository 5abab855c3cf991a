-- For the proofs; nothing here need be believed.
-- Parts of the definitions that the proofs and private functions speak of.
use Rattle.std.specs.Prelude.{ℕ, Bool, true, ◌&&◌, ◌||◌, ◌==◌, not, nat_lt, List, [], ◌∷◌, ◌++◌, filter, map, replicate, Option, Some, None, is_none, is_some, if◌then◌else◌, slice_get, ◌+◌, ◌*◌, ◌≤◌, length, ◌≡◌, take, drop, false, suc}
use Rattle.std.specs.Option.{option_map_or, option_map}
use Rattle.smb_wire.specs.Limits.{longest_payload, most_requests, longest_response}
use Rattle.smb_wire.specs.Commands.{code_of}
use Rattle.smb_wire.specs.declared.command.Command.TheVariants.{Negotiate, Cancel}
use Rattle.smb_wire.specs.declared.dialect.Dialect.{Dialect}
use Rattle.smb_frame.specs.Reading.{rest, fault_of, payloads}
use Rattle.smb_head.specs.Headers.{header_of}
use Rattle.smb_session.specs.Window.{WindowState, contains, without_ids, credits_granted, with_more}
use Rattle.smb_request.specs.Charge.{charge_of}
use Rattle.smb_request.specs.Context.{first_context}
use Rattle.smb_request.specs.State.{ServerState}
use Rattle.smb_request.specs.declared.context.HeaderIds.{HeaderIds}
use Rattle.smb_request.specs.Request.{response_key, is_set_up}
use Rattle.smb_request.specs.Response.{ResponseState, Performed}
use Rattle.smb_engine.specs.declared.connection.Connection.{Connection}
use Rattle.smb_engine.specs.declared.fault.ServeFault.{ServeFault}
use Rattle.smb_engine.specs.declared.fault.ServeFault.TheVariants.{BadEvent, TooManyConnections, NoMemory, BadConfig}
use Rattle.smb_engine.specs.declared.session_keys.SessionKey.{SessionKey}
use Rattle.smb_engine.specs.Keys.{kept_key, with_key}
use Rattle.smb_engine.specs.State.{ShareState, ended, StreamState, is_open}
use Rattle.smb_engine.specs.Output.{reply_frame, end_of, Output, frame_to, output_bytes}
use Rattle.smb_signing.specs.declared.key.Key.{Key}
use Rattle.smb_head.specs.Replies.{Reply, joined_replies}
use Rattle.smb_head.specs.Chains.{is_related, is_signed}
use Rattle.smb_wire.specs.NtStatus.{status_code}
use Rattle.smb_wire.specs.declared.nt_status.NtStatus.{NtStatus}
use Rattle.smb_body.specs.Smb1.{smb1_of}
use Rattle.smb_body.specs.declared.smb1.Smb1Dialects.{Smb1Dialects}
use Rattle.std.specs.List.{find, fold, concat, AllByRecursion}
use Rattle.smb_request.specs.Laws.{AllMayOnlyRead}
use Rattle.smb_engine.specs.declared.arrival.Arrival.{Arrival}
use Rattle.smb_engine.specs.Run.{PerformedRequest, one_performed, requests_of_chain, ChainState, EventStep, Step, message_ids, event_refusal, Stop, Ran}
use Rattle.smb_peers.specs.Event.{EventText, connection_of, text_of, opens, brings, ends}
use Rattle.smb_peers.specs.declared.answer.Answer.{Answer}
use Rattle.smb_peers.specs.declared.answer.Answer.TheVariants.{Frame, End}
use Rattle.smb_session.specs.Authenticator.{Meaning}
use Rattle.smb_engine.specs.Refusals.{EventOutOfMemory}
use Rattle.std.specs.Map.{set_value, remove_entry}
use Rattle.std.specs.BTreeMap.{is_at}
use Rattle.std.specs.Ordering.{nat_cmp}
use Rattle.smb_peers.specs.declared.event.Event.{Event}

-- the reply to a request: its header has the request's numbers, the flag SERVER_TO_REDIR (1), RELATED_OPERATIONS (4)
-- where the request had it, SIGNED (8) where it is signed, and the credits that are granted (3.3.4.1)
abbrev pub reply_to : List ℕ → ResponseState → Option Key → ℕ → Reply
reply_to request response key credits = record {
  header = record {
    credit_charge = (header_of request).credit_charge;
    status = status_code response.status;
    command = (header_of request).command;
    credits = credits;
    flags = record { 0 = (if is_related request then 5 else 1) + (if is_some key then 8 else 0) };
    next_command = 0;
    message_id = (header_of request).message_id;
    reserved = (header_of request).reserved;
    tree_id = response.ids.tree_id;
    session_id = response.ids.session_id;
    signature = replicate 16 0;
  };
  body = response.body;
  key = key;
}

-- a payload that ends the connection: nothing of it is performed
abbrev pub refused_step : {S : Type 0} → ServerState S → Connection → Step S
refused_step server connection = record { server = server; connection = connection; outputs = []; stays_open = false; requests = [] }

-- the first payload of a connection may be an SMB_COM_NEGOTIATE: which dialects it lists (3.3.5.3.1)
abbrev pub first_negotiate : Connection → List ℕ → Option Smb1Dialects
first_negotiate connection payload = if connection.payload_came then None else smb1_of payload

-- an event that puts nothing out
abbrev pub quiet_step : {S : Type 0} → ShareState S → EventStep S
quiet_step s = record { state = s; outputs = []; requests = [] }

-- the server after the first k of some requests that were performed
abbrev pub server_after : {S : Type 0} → ServerState S → List (PerformedRequest S) → ℕ → ServerState S
server_after {S} server requests k =
    let after : ServerState S → PerformedRequest S → ServerState S = λ before request. request.after in
    fold after server (take k requests)

-- the streams with another in the place of a connection's, and without it
abbrev pub with_stream : ℕ → StreamState → List (ℕ × StreamState) → List (ℕ × StreamState)
with_stream connection stream streams = set_value (is_at (nat_cmp connection)) streams stream

abbrev pub without_stream : ℕ → List (ℕ × StreamState) → List (ℕ × StreamState)
without_stream connection streams = remove_entry (is_at (nat_cmp connection)) streams

-- the key of a response with these ids: its own, or where there is none, and the request is signed, the one that is
-- kept of its session
abbrev pub key_or_kept : List SessionKey → List ℕ → HeaderIds → Option Key → Option Key
key_or_kept keys request ids own = if is_some own || not (is_signed request) then own else kept_key keys ids.session_id

-- the keys behind a response with these ids and this status that is signed by a key, if by one
abbrev pub keys_behind : List SessionKey → List ℕ → HeaderIds → NtStatus → Option Key → List SessionKey
keys_behind keys request ids status key =
    option_map_or (λ key. if is_set_up (header_of request).command.0 status then with_key keys ids.session_id key else keys) key keys

-- a chain after a request that was performed: its response grants credits and joins the replies (3.3.1.2); without a
-- response neither changes
abbrev pub replied : {S : Type 0} → ℕ → ChainState S → List ℕ → Performed S → ChainState S
replied connection chain request p = option_map_or
    (λ response.
    let credits = credits_granted chain.connection.window (header_of request).credits in
    let own = response_key chain.server p.server connection chain.context request response.ids response.status in
    let key = key_or_kept chain.connection.keys request response.ids own in
    record {
      server = p.server;
      connection = record chain.connection {
        dialect = p.dialect;
        window = with_more chain.connection.window credits;
        keys = keys_behind chain.connection.keys request response.ids response.status key;
      };
      context = p.context;
      replies = chain.replies ++ reply_to request response key credits ∷ [];
    })
    p.response
    (record { server = p.server; connection = record chain.connection { dialect = p.dialect }; context = p.context; replies = chain.replies })

-- whether a request is a CANCEL (2.2.30), or a NEGOTIATE (2.2.3)
abbrev pub is_cancel : List ℕ → Bool
is_cancel request = (header_of request).command.0 == code_of Cancel

abbrev pub is_negotiate_request : List ℕ → Bool
is_negotiate_request request = (header_of request).command.0 == code_of Negotiate

-- the MessageIds that a chain uses in a dialect, by request: its own, and how many from there upward; a CANCEL uses none
-- (3.3.5.2.3)
abbrev pub runs_of : Option Dialect → List (List ℕ) → List (ℕ × ℕ)
runs_of dialect requests =
    map (λ request. ((header_of request).message_id, charge_of dialect (header_of request).credit_charge)) (filter (λ request. not (is_cancel request)) requests)

-- the first of some MessageIds that a window lacks
abbrev pub missing : WindowState → List ℕ → Option ℕ
missing window ids = find (λ id. not (contains window.usable id)) ids

-- where a chain begins: its MessageIds are no more in the window (3.3.1.1)
abbrev pub chain_begun : {S : Type 0} → ServerState S → Connection → List (List ℕ) → ChainState S
chain_begun server connection requests = record {
  server = server;
  connection = record connection { payload_came = true; window = without_ids connection.window (message_ids connection.dialect requests) };
  context = first_context;
  replies = [];
}

-- two steps, one after the other
abbrev pub after_step : {S : Type 0} → Step S → Step S → Step S
after_step step next = record next { outputs = step.outputs ++ next.outputs; requests = step.requests ++ next.requests }

-- a step, and the others after it where the connection stays open
abbrev pub and_then : {S : Type 0} → (ServerState S → Connection → Step S) → Step S → Step S
and_then others step = if step.stays_open then after_step step (others step.server step.connection) else step

-- after the payloads of a piece: one of them ends the connection, or a fault in the unread bytes of its stream does
abbrev pub closed_by : {S : Type 0} → ℕ → List ℕ → Step S → Step S
closed_by connection_id received step =
    let stays_open = step.stays_open && is_none (fault_of longest_payload (rest longest_payload received)) in
    record step { outputs = if stays_open then step.outputs else step.outputs ++ end_of connection_id ∷ []; stays_open = stays_open }

-- the share after a piece: a connection that stays open has received these bytes; else it has ended
abbrev pub settled : {S : Type 0} → ShareState S → ℕ → List ℕ → Step S → EventStep S
settled s connection received step = record {
  state = if step.stays_open
      then record s { server = step.server; streams = with_stream connection (record { received = received; connection = step.connection }) s.streams }
      else ended (record s { server = step.server }) connection;
  outputs = step.outputs;
  requests = step.requests;
}

-- an event on a number that was never opened is refused
abbrev pub unknown_refusal : {S : Type 0} → ShareState S → ℕ → Option ServeFault
unknown_refusal s connection = if nat_lt 0 connection && nat_lt connection s.next then None else Some BadEvent

abbrev pub connection_at : List EventText → ℕ → Option ℕ
connection_at events place = option_map connection_of (slice_get events place)

-- an answer, without where its bytes lie
abbrev pub output_of : Answer → Output
output_of answer = elim answer [ Frame connection bytes ↦ frame_to connection bytes.items | End connection ↦ end_of connection ]

-- the most bytes of a frame's payload, to a client: the responses to the requests of a chain
abbrev pub longest_reply : ℕ
longest_reply = most_requests * longest_response

-- a frame's payload has at most that many bytes, behind the 4 of its length
abbrev pub IsShort : Output → Type 0
IsShort output = length (output_bytes output) ≤ 4 + longest_reply

-- where one event stops: it is refused and changes nothing, or memory ran out after some of its requests
abbrev pub EventStopped : {S : Type 0} → Meaning S → ShareState S → EventText → ServeFault → ShareState S → Type 0
EventStopped authenticator s event (NoMemory done) left = (event_refusal s event ≡ None) × EventOutOfMemory authenticator s event done left
EventStopped authenticator s event TooManyConnections left = (event_refusal s event ≡ Some TooManyConnections) × (left ≡ s)
EventStopped authenticator s event BadEvent left = (event_refusal s event ≡ Some BadEvent) × (left ≡ s)
EventStopped authenticator s event BadConfig left = ⊥

-- the payloads that a piece adds to the bytes received before
abbrev pub added_payloads : List ℕ → List ℕ → List (List ℕ)
added_payloads received piece = drop (length (payloads longest_payload received)) (payloads longest_payload (received ++ piece))

-- a share as the code holds it: of each stream the unread bytes alone
abbrev pub unread_stream : StreamState → StreamState
unread_stream stream = record stream { received = rest longest_payload stream.received }

abbrev pub unread_entry : ℕ × StreamState → ℕ × StreamState
unread_entry entry = (entry.0, unread_stream entry.1)

module _ {S : Type 0} (authenticator : Meaning S) (arrival : Arrival) where
  -- the requests of a chain, in order (3.3.5.2.7)
  abbrev pub all_performed : ChainState S → List (List ℕ) → ChainState S
  all_performed chain requests = fold (one_performed authenticator arrival) chain requests

  -- the requests of a chain, their replies in one frame
  abbrev pub framed_chain : ChainState S → List (List ℕ) → Step S
  framed_chain chain requests = record {
    server = (all_performed chain requests).server;
    connection = (all_performed chain requests).connection;
    outputs = reply_frame arrival.connection_id (joined_replies (all_performed chain requests).replies);
    stays_open = true;
    requests = requests_of_chain authenticator arrival chain requests;
  }

abbrev pub events_of : List Event → List EventText
events_of events = map text_of events

-- whether memory can be wanting at an event: at no end, and at a piece only where its connection is open
abbrev pub can_want_memory : {S : Type 0} → ShareState S → EventText → Bool
can_want_memory s event = elim event as (λ e. Bool) [
  | opens connection ↦ true
  | brings connection moment piece ↦ is_open s connection
  | ends connection ↦ false
]

-- a step, and a run behind it; a stop is seen one event earlier; and a run that is refused at its first event
abbrev pub later : Stop → Stop
later stop = record stop { place = suc stop.place }

abbrev pub then_ran : {S : Type 0} → EventStep S → Ran S → Ran S
then_ran step ran = record { state = ran.state; outputs = step.outputs ++ ran.outputs; stop = option_map later ran.stop }

abbrev pub refused_at_once : {S : Type 0} → ShareState S → ServeFault → Ran S
refused_at_once s fault = record { state = s; outputs = []; stop = Some (record { place = 0; fault = fault }) }

-- a stop behind a place is seen one event later
abbrev pub later_behind : ℕ → Stop → Stop
later_behind place stop = if nat_lt place stop.place then later stop else stop

abbrev pub with_one_more_at : {S : Type 0} → ℕ → Ran S → Ran S
with_one_more_at place ran = record ran { stop = option_map (later_behind place) ran.stop }

-- a stop of a second run, behind a first one of so many events
abbrev pub moved : ℕ → Stop → Stop
moved count stop = record stop { place = count + stop.place }

-- pieces that come at one moment, and their bytes
abbrev pub pieces_on : ℕ → ℕ → List (List ℕ) → List EventText
pieces_on connection moment pieces = map (brings connection moment) pieces

abbrev pub bytes_of_pieces : List (List ℕ) → List ℕ
bytes_of_pieces pieces = concat pieces

-- as each of these requests comes, no session of a connection may write
abbrev pub AreReadersRequests : {S : Type 0} → ℕ → List (PerformedRequest S) → Type 0
AreReadersRequests connection = AllByRecursion (λ came. AllMayOnlyRead came.before.sessions.table connection)
