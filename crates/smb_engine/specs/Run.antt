-- What a share does, to be read once from top to bottom: a request of a chain, the chain, a payload, a piece of a
-- connection's stream, an event and a run of events, each over the definition before it ([MS-SMB2] 3.3.5).
use Rattle.std.specs.Prelude.{ℕ, suc, ◌+◌, Bool, true, false, ◌&&◌, ◌||◌, ◌==◌, not, nat_lt, nat_le, List, [], ◌∷◌, ◌++◌, length, drop, filter, map, replicate, Option, Some, None, is_none, is_some, nat_eq, if◌then◌else◌}
use Rattle.std.specs.Option.{option_map, option_map_or}
use Rattle.std.specs.List.{list_any, list_all, find, fold, starts_with}
use Rattle.std.specs.Map.{set_value}
use Rattle.std.specs.BTreeMap.{is_at}
use Rattle.std.specs.Ordering.{nat_cmp}
use Rattle.smb_wire.specs.Limits.{longest_payload}
use Rattle.smb_wire.specs.Commands.{code_of}
use Rattle.smb_wire.specs.Counters.{is_spent}
use Rattle.smb_wire.specs.declared.command.Command.TheVariants.{Negotiate, Cancel}
use Rattle.smb_wire.specs.declared.dialect.Dialect.{Dialect}
use Rattle.smb_wire.specs.declared.dialect.Dialect.TheVariants.{Smb202}
use Rattle.smb_wire.specs.Dialects.{revision_of}
use Rattle.smb_body.specs.Replies.{reply_spelling}
use Rattle.smb_session.specs.Numbers.{contains}
use Rattle.smb_frame.specs.Reading.{payloads, rest, fault_of}
use Rattle.smb_head.specs.Headers.{header_of}
use Rattle.smb_head.specs.declared.fault.HeadFault.{HeadFault}
use Rattle.smb_head.specs.Chains.{chain_of, chain_fault, is_related, is_signed}
use Rattle.smb_head.specs.Replies.{Reply, joined_replies}
use Rattle.smb_body.specs.Smb1.{smb1_of}
use Rattle.smb_body.specs.declared.smb1.Smb1Dialects.{Smb1Dialects}
use Rattle.smb_session.specs.Window.{WindowState, are_distinct, numbers_of, credits_granted, with_more}
use Rattle.smb_session.specs.Authenticator.{Meaning}
use Rattle.smb_request.specs.declared.context.Context.{Context}
use Rattle.smb_wire.specs.NtStatus.{status_code}
use Rattle.smb_wire.specs.declared.nt_status.NtStatus.TheVariants.{Success}
use Rattle.smb_request.specs.Charge.{charge_of}
use Rattle.smb_request.specs.Negotiate.{negotiate_answer}
use Rattle.smb_request.specs.declared.smb1.Smb1Answer.{Smb1Answer}
use Rattle.smb_request.specs.Context.{first_context}
use Rattle.smb_request.specs.State.{ServerState}
use Rattle.smb_request.specs.Response.{ResponseState}
use Rattle.smb_request.specs.Request.{performed, response_key, is_set_up}
use Rattle.smb_engine.specs.declared.arrival.Arrival.{Arrival}
use Rattle.smb_engine.specs.declared.connection.Connection.{Connection}
use Rattle.smb_engine.specs.declared.fault.ServeFault.{ServeFault}
use Rattle.smb_engine.specs.declared.fault.ServeFault.TheVariants.{TooManyConnections, BadEvent}
use Rattle.smb_engine.specs.Keys.{kept_key, with_key}
use Rattle.smb_engine.specs.State.{StreamState, ShareState, stream_of, opened, ended}
use Rattle.smb_peers.specs.declared.ending.Ending.{Ending}
use Rattle.smb_peers.specs.declared.ending.Ending.TheVariants.{Chain, NegotiateAlone, NegotiateAgain, MessageIdNotInWindow, MessageIdTwice, Smb1Misformed, Smb1Late}
use Rattle.smb_peers.specs.Event.{EventText, opens, brings, ends}
use Rattle.smb_engine.specs.Output.{Output, end_of, reply_frame}

-- A REQUEST

-- a request that was performed: the server before and after it, the dialect of its connection and the context of its
-- chain as it came, its bytes, its response, and the credits that this grants; an SMB_COM_NEGOTIATE has neither bytes nor
-- a response here
pub record PerformedRequest (S : Type 0) : Type 0 where
  pub before : ServerState S
  pub dialect : Option Dialect
  pub context : Context
  pub request : Option (List ℕ)
  pub after : ServerState S
  pub response : Option ResponseState
  pub credits : ℕ

-- a chain in progress: the server, the connection, what the next related request acts under (3.3.5.2.7.2), and the
-- replies
pub record ChainState (S : Type 0) : Type 0 where
  pub server : ServerState S
  pub connection : Connection
  pub context : Context
  pub replies : List Reply

module _ {S : Type 0} (authenticator : Meaning S) (arrival : Arrival) where
  -- one request of a chain on a connection (3.3.5.2): its response grants credits and joins the replies (3.3.1.2);
  -- without a response neither changes. It is signed by the key of the session that the request acts under, also where
  -- that has ended, or of the one that it lets in, whose key the connection keeps (3.3.4.1.1). The reply's header has the
  -- request's numbers, the flag SERVER_TO_REDIR (1), RELATED_OPERATIONS (4) where the request had it, SIGNED (8) where the
  -- reply is signed, and the credits that are granted (3.3.4.1)
  unfoldable pub one_performed : ChainState S → List ℕ → ChainState S
  one_performed chain request =
      let before = chain.connection in
      let asked = header_of request in
      let p = performed authenticator arrival.connection_id arrival.moment chain.server before.dialect chain.context request in
      option_map_or
      (λ (response : ResponseState).
      let credits = credits_granted before.window asked.credits in
      let own = response_key
      chain.server p.server arrival.connection_id chain.context request response.ids response.status in
      let key = if is_some own || not (is_signed request) then own else kept_key before.keys response.ids.session_id in
      let lets_in = is_set_up asked.command.0 response.status in
      let reply : Reply = record {
        header = record {
          credit_charge = asked.credit_charge;
          status = status_code response.status;
          command = asked.command;
          credits = credits;
          flags = record { 0 = (if is_related request then 5 else 1) + (if is_some key then 8 else 0) };
          next_command = 0;
          message_id = asked.message_id;
          reserved = asked.reserved;
          tree_id = response.ids.tree_id;
          session_id = response.ids.session_id;
          signature = replicate 16 0;
        };
        body = response.body;
        key = key;
      } in
      record {
        server = p.server;
        connection = record before {
          dialect = p.dialect;
          window = with_more before.window credits;
          keys = option_map_or (λ key. if lets_in then with_key before.keys response.ids.session_id key else before.keys) key before.keys;
        };
        context = p.context;
        replies = chain.replies ++ reply ∷ [];
      })
      p.response
      (record {
        server = p.server;
        connection = record before { dialect = p.dialect };
        context = p.context;
        replies = chain.replies;
      })

  -- A CHAIN

  -- the requests of a chain, each as it was performed, in order (3.3.5.2.7)
  abbrev pub requests_of_chain : ChainState S → List (List ℕ) → List (PerformedRequest S)
  requests_of_chain chain [] = []
  requests_of_chain chain (request ∷ requests) =
      let dialect = chain.connection.dialect in
      let done = performed authenticator arrival.connection_id arrival.moment chain.server dialect chain.context request in
      record {
        before = chain.server;
        dialect = dialect;
        context = chain.context;
        request = Some request;
        after = (one_performed chain request).server;
        response = done.response;
        credits = credits_granted chain.connection.window (header_of request).credits;
      }
      ∷ requests_of_chain (one_performed chain request) requests

-- the MessageIds that a chain uses in a dialect: of each request its own, and by its charge those from there upward; a
-- CANCEL uses none (3.3.5.2.3)
abbrev pub message_ids : Option Dialect → List (List ℕ) → List ℕ
message_ids dialect requests = numbers_of (map
    (λ request. ((header_of request).message_id, charge_of dialect (header_of request).credit_charge))
    (filter (λ request. not ((header_of request).command.0 == code_of Cancel)) requests))

-- until a dialect is negotiated a chain is one NEGOTIATE alone, and afterwards it holds none (3.3.5.2, 3.3.5.4)
abbrev pub keeps_negotiate_rule : Option Dialect → List (List ℕ) → Bool
keeps_negotiate_rule None (request ∷ []) = (header_of request).command.0 == code_of Negotiate
keeps_negotiate_rule None requests = false
keeps_negotiate_rule (Some dialect) requests =
    not (list_any (λ request. (header_of request).command.0 == code_of Negotiate) requests)

-- the requests of a payload that are performed; none where the payload is no chain, breaks the rule about NEGOTIATE, or
-- uses a MessageId twice or one that the window lacks (3.3.5.2.3)
unfoldable pub admitted : Connection → List ℕ → Option (List (List ℕ))
admitted connection payload =
    option_map_or
    (λ requests.
    let ids = message_ids connection.dialect requests in
    if keeps_negotiate_rule connection.dialect requests
    && (are_distinct ids && list_all (contains connection.window.usable) ids)
    then Some requests else None)
    (chain_of payload)
    None

-- why a payload ends its connection that has this first fault of a chain: where it begins as an SMB_COM_NEGOTIATE does, by
-- 0xFF, the letters SMB and the command 0x72, that is behind another payload or misformed (3.3.5.3.1); else by that fault
abbrev pub ending_by_fault : Connection → List ℕ → HeadFault → Ending
ending_by_fault connection payload fault =
    if not (starts_with nat_eq payload (0xFF ∷ 0x53 ∷ 0x4D ∷ 0x42 ∷ 0x72 ∷ [])) then Chain fault else
    if connection.payload_came then Smb1Late else
    Smb1Misformed

-- why a chain ends its connection that breaks the rule about NEGOTIATE: by whether there is a dialect (3.3.5.2, 3.3.5.4)
abbrev pub ending_by_negotiate : Option Dialect → Ending
ending_by_negotiate dialect = if is_none dialect then NegotiateAlone else NegotiateAgain

-- why the MessageIds that a chain uses end its connection: by the first, in the order of the requests and upward in each,
-- that the window lacks, or else by one that is used twice (3.3.5.2.3)
abbrev pub ending_by_ids : WindowState → List ℕ → Option Ending
ending_by_ids window ids = option_map_or
    (λ id. Some (MessageIdNotInWindow id))
    (find (λ id. not (contains window.usable id)) ids)
    (if are_distinct ids then None else Some MessageIdTwice)

-- why a payload that is no first SMB_COM_NEGOTIATE ends its connection: by a fault, by the rule about NEGOTIATE, or by its
-- MessageIds, the first of these that it does (3.3.5.2)
unfoldable pub ending_of : Connection → List ℕ → Option Ending
ending_of connection payload = option_map_or
    (λ fault. Some (ending_by_fault connection payload fault))
    (chain_fault payload)
    (option_map_or
    (λ requests.
    if keeps_negotiate_rule connection.dialect requests
    then ending_by_ids connection.window (message_ids connection.dialect requests)
    else Some (ending_by_negotiate connection.dialect))
    (chain_of payload)
    None)

-- A PAYLOAD

-- what a payload, or several, leave of the server and of the connection, and put out; whether the connection stays
-- open; and the requests that were performed
pub record Step (S : Type 0) : Type 0 where
  pub server : ServerState S
  pub connection : Connection
  pub outputs : List Output
  pub stays_open : Bool
  pub requests : List (PerformedRequest S)

module _ {S : Type 0} (authenticator : Meaning S) (arrival : Arrival) where
  -- an SMB_COM_NEGOTIATE that lists some dialects: it is answered by an SMB2 NEGOTIATE response to MessageId 0, which
  -- grants one credit, and the client goes on with MessageId 1; without a dialect of the share it ends the connection
  -- (3.3.5.3.1, 3.3.5.3.2)
  unfoldable pub smb1_step : ServerState S → Connection → Smb1Dialects → Step S
  smb1_step server connection dialects =
      let answer : Option Smb1Answer =
      -- "SMB 2.???" is answered by the revision 0x02FF, and the client is to choose by an SMB2 NEGOTIATE
      if dialects.smb_2_wildcard then Some (record { dialect_revision = 0x02FF; dialect = None }) else
      -- else "SMB 2.002" by 0x0202, which is the dialect of the connection from now on
      if dialects.smb_2_002 then Some (record { dialect_revision = revision_of Smb202; dialect = Some Smb202 }) else
      None in
      option_map_or
      (λ answer.
      let reply : Reply = record {
        header = record {
          credit_charge = 0;
          status = status_code Success;
          command = record { 0 = 0 };
          credits = 1;
          flags = record { 0 = 1 };
          next_command = 0;
          message_id = 0;
          reserved = 0;
          tree_id = 0;
          session_id = 0;
          signature = replicate 16 0;
        };
        body = reply_spelling (negotiate_answer
            (authenticator.requires_signing server.sessions.authenticator)
            server.settings.guid
            (authenticator.hello server.sessions.authenticator)
            arrival.moment
            answer.dialect
            answer.dialect_revision);
        key = None;
      } in
      record {
        server = server;
        connection = record connection {
          payload_came = true;
          dialect = answer.dialect;
          window = record { usable = 1 ∷ []; next = 2 };
        };
        outputs = reply_frame arrival.connection_id (joined_replies (reply ∷ []));
        stays_open = true;
        requests = record {
          before = server;
          dialect = None;
          context = first_context;
          request = None;
          after = server;
          response = None;
          credits = 1;
        } ∷ [];
      })
      answer
      -- nothing of it is performed
      (record { server = server; connection = connection; outputs = []; stays_open = false; requests = [] })

  -- a payload that is a chain: performed whole and answered, the replies in one frame, or refused whole, which ends the
  -- connection (3.3.5.2). Where a chain begins its MessageIds are no more in the window (3.3.1.1)
  unfoldable pub chain_step : ServerState S → Connection → List ℕ → Step S
  chain_step server connection payload = option_map_or
      (λ (requests : List (List ℕ)).
      let ids = message_ids connection.dialect requests in
      let begun : ChainState S = record {
        server = server;
        connection = record connection {
          payload_came = true;
          window = record connection.window { usable = filter (λ id. not (contains ids id)) connection.window.usable };
        };
        context = first_context;
        replies = [];
      } in
      let done = fold (one_performed authenticator arrival) begun requests in
      record {
        server = done.server;
        connection = done.connection;
        outputs = reply_frame arrival.connection_id (joined_replies done.replies);
        stays_open = true;
        requests = requests_of_chain authenticator arrival begun requests;
      })
      (admitted connection payload)
      -- nothing of it is performed
      (record { server = server; connection = connection; outputs = []; stays_open = false; requests = [] })

  -- one payload. The first of a connection may be an SMB_COM_NEGOTIATE, which lists dialects (3.3.5.3.1)
  unfoldable pub payload_step : ServerState S → Connection → List ℕ → Step S
  payload_step server connection payload = option_map_or
      (smb1_step server connection)
      (if connection.payload_came then None else smb1_of payload)
      (chain_step server connection payload)

-- A PIECE OF A STREAM

module _ {S : Type 0} (authenticator : Meaning S) (arrival : Arrival) where
  -- payloads in order, up to one that ends the connection
  abbrev pub payload_steps : ServerState S → Connection → List (List ℕ) → Step S
  payload_steps server connection [] = record { server = server; connection = connection; outputs = []; stays_open = true; requests = [] }
  payload_steps server connection (payload ∷ payloads) =
      let step = payload_step authenticator arrival server connection payload in
      if step.stays_open
      then (let others = payload_steps step.server step.connection payloads in
      record others { outputs = step.outputs ++ others.outputs; requests = step.requests ++ others.requests })
      else step

  -- a piece: the payloads that it adds to the stream, in order. One of them ends the connection, or a fault in the
  -- unread bytes of its stream does
  unfoldable pub piece_step : ServerState S → StreamState → List ℕ → Step S
  piece_step server stream piece =
      let received = stream.received ++ piece in
      let added = drop (length (payloads longest_payload stream.received)) (payloads longest_payload received) in
      let step = payload_steps server stream.connection added in
      let stays_open = step.stays_open && is_none (fault_of longest_payload (rest longest_payload received)) in
      record step {
        outputs = if stays_open then step.outputs else step.outputs ++ end_of arrival.connection_id ∷ [];
        stays_open = stays_open;
      }

-- AN EVENT

-- what an event leaves and puts out, and the requests that were performed
pub record EventStep (S : Type 0) : Type 0 where
  pub state : ShareState S
  pub outputs : List Output
  pub requests : List (PerformedRequest S)

-- a piece on a connection: if that stays open it has received these bytes, else it has ended; on one that is not open a
-- piece is passed over
unfoldable pub bytes_step : {S : Type 0} → Meaning S → ShareState S → ℕ → ℕ → List ℕ → EventStep S
bytes_step authenticator s connection moment piece = option_map_or
    (λ (stream : StreamState).
    let arrival : Arrival = record { connection_id = connection; moment = moment } in
    let step = piece_step authenticator arrival s.server stream piece in
    record {
      state = if step.stays_open
          then record s {
            server = step.server;
            streams = set_value (is_at (nat_cmp connection)) s.streams
                (record { received = stream.received ++ piece; connection = step.connection });
          }
          else ended (record s { server = step.server }) connection;
      outputs = step.outputs;
      requests = step.requests;
    })
    (stream_of connection s.streams)
    (record { state = s; outputs = []; requests = [] })

-- one event that is not refused
abbrev pub event_step : {S : Type 0} → Meaning S → ShareState S → EventText → EventStep S
event_step authenticator s (opens connection) = record { state = opened s; outputs = []; requests = [] }
event_step authenticator s (brings connection moment piece) = bytes_step authenticator s connection moment piece
event_step authenticator s (ends connection) = record { state = ended s connection; outputs = []; requests = [] }

-- A RUN OF EVENTS

-- why an event is refused: an opening has to bear the next number, and even then it is refused where as many connections
-- are open as may be, or the numbers are spent (3.3.5.1); another event is on a number that was opened
abbrev pub event_refusal : {S : Type 0} → ShareState S → EventText → Option ServeFault
event_refusal s (opens connection) =
    if connection == s.next then
    (if nat_le s.most_connections (length s.streams) || is_spent 64 s.next then Some TooManyConnections else None)
    else Some BadEvent
event_refusal s (brings connection moment piece) =
    if nat_lt 0 connection && nat_lt connection s.next then None else Some BadEvent
event_refusal s (ends connection) = if nat_lt 0 connection && nat_lt connection s.next then None else Some BadEvent

-- where a run stops at a refused event: the event's place, from 0, and why
pub record Stop : Type 0 where
  pub place : ℕ
  pub fault : ServeFault

-- what a run leaves and puts out, and the refused event that it stopped at
pub record Ran (S : Type 0) : Type 0 where
  pub state : ShareState S
  pub outputs : List Output
  pub stop : Option Stop

-- a run of events in order, up to one that is refused, which changes nothing; where a later run stops, the place is one
-- more. Each connection's stream is kept whole.
abbrev pub run : {S : Type 0} → Meaning S → ShareState S → List EventText → Ran S
run authenticator s [] = record { state = s; outputs = []; stop = None }
run authenticator s (event ∷ events) =
    let step = event_step authenticator s event in
    let others = run authenticator step.state events in
    option_map_or
    (λ fault. record { state = s; outputs = []; stop = Some (record { place = 0; fault = fault }) })
    (event_refusal s event)
    (record {
      state = others.state;
      outputs = step.outputs ++ others.outputs;
      stop = option_map (λ (stop : Stop). record stop { place = suc stop.place }) others.stop;
    })
