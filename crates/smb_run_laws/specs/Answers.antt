-- Each request is answered once, in order, and a chain is performed whole.
use Rattle.std.specs.Prelude.{◌≡◌, ℕ, ◌+◌, ◌==◌, not, Bool, true, false, List, [], ◌∷◌, map, filter, Some, is_some}
use Rattle.std.specs.Prelude.{MatchOption, if◌then◌else◌}
use Rattle.std.specs.Option.{option_map_or}
use Rattle.std.specs.List.{AllByRecursion, flat_map}
use Rattle.smb_wire.specs.Commands.{code_of, known_command}
use Rattle.smb_wire.specs.declared.command.Command.TheVariants.{Cancel}
use Rattle.smb_wire.specs.NtStatus.{status_code}
use Rattle.smb_head.specs.Chains.{chain_of, is_related}
use Rattle.smb_head.specs.Headers.{header_of}
use Rattle.smb_head.specs.Replies.{Reply, joined_replies}
use Rattle.smb_session.specs.Authenticator.{Meaning}
use Rattle.smb_session.specs.Laws.{IsUsed}
use Rattle.smb_session.specs.Numbers.{contains}
use Rattle.smb_session.specs.Window.{GoodWindow, WindowState, are_distinct, credits_granted, with_more, without_ids}
use Rattle.smb_request.specs.Response.{ResponseState}
use Rattle.smb_request.specs.State.{ServerState}
use Rattle.smb_peers.specs.Event.{EventText}
use Rattle.smb_engine.specs.declared.arrival.Arrival.{Arrival}
use Rattle.smb_engine.specs.declared.connection.Connection.{Connection}
use Rattle.smb_engine.specs.Output.{Output, frame_to, end_of, reply_frame}
use Rattle.smb_engine.specs.Run.{PerformedRequest, admitted, chain_step, message_ids, run}
use Rattle.smb_engine.specs.State.{ShareState}
use Rattle.smb_run_laws.specs.Actions.{Action, serves, disconnects, actions_of_run}

-- a reply tells a response, to a request of this MessageId, command and charge; it has the flag SERVER_TO_REDIR, 1,
-- RELATED_OPERATIONS, 4, where the request had it, and SIGNED, 8, where the reply is signed (2.2.1, 3.3.4.1)
pub record IsReplyTo (request : List ℕ) (response : ResponseState) (reply : Reply) : Type 0 where
  pub message_id : reply.header.message_id ≡ (header_of request).message_id
  pub command : reply.header.command ≡ (header_of request).command
  pub status : reply.header.status ≡ status_code response.status
  pub session : reply.header.session_id ≡ response.ids.session_id
  pub tree : reply.header.tree_id ≡ response.ids.tree_id
  pub body : reply.body ≡ response.body
  pub charge : reply.header.credit_charge ≡ (header_of request).credit_charge
  pub flags : reply.header.flags.0 ≡ (if is_related request then 5 else 1) + (if is_some reply.key then 8 else 0)

-- replies are those to some requests: a CANCEL has none, each other request has one, in order, and nothing else is
-- replied. That to an SMB_COM_NEGOTIATE is to MessageId 0 (3.3.5.3.1)
abbrev pub AreReplies : {S : Type 0} → List (PerformedRequest S) → List Reply → Type 0
AreReplies [] replies = replies ≡ []
AreReplies (served ∷ requests) replies = MatchOption served.request
    ((reply : Reply) × (others : List Reply) × (replies ≡ reply ∷ others) × (reply.header.message_id ≡ 0)
    × AreReplies requests others)
    (λ request.
    let is_cancel = option_map_or (λ command. elim command [ Cancel ↦ true | _ ↦ false ])
    (known_command (header_of request).command.0) false in
    MatchOption served.response
    ((is_cancel ≡ true) × AreReplies requests replies)
    (λ response. (is_cancel ≡ false)
    × ((reply : Reply) × (others : List Reply) × (replies ≡ reply ∷ others) × IsReplyTo request response reply
    × AreReplies requests others)))

-- replies tell the credits that requests are granted, one after the other, from a window on: each as many as it has
-- then for what is asked for; and this window they leave, with as many MessageIds more, and no reply over (3.3.1.2)
abbrev pub AreGranted : {S : Type 0} → WindowState → List (PerformedRequest S) → List Reply → WindowState → Type 0
AreGranted window [] replies left = (replies ≡ []) × (left ≡ window)
AreGranted window (served ∷ requests) replies left = MatchOption served.request ⊥ (λ request.
    MatchOption served.response (AreGranted window requests replies left) (λ response.
    (reply : Reply) × (others : List Reply) × (replies ≡ reply ∷ others)
    × (reply.header.credits ≡ credits_granted window (header_of request).credits)
    × AreGranted (with_more window reply.header.credits) requests others left))

-- requests that were performed on a connection, and the replies to them in one frame
pub record AnsweredPayload (S : Type 0) : Type 0 where
  pub connection : ℕ
  pub requests : List (PerformedRequest S)
  pub replies : List Reply

-- of what is put out the frames, without the ends of connections
abbrev pub frames_in : List Output → List Output
frames_in =
    filter (λ output. elim output as (λ o. Bool) [ frame_to connection bytes ↦ true | end_of connection ↦ false ])

-- the requests among actions, each with its connection
abbrev pub requests_in : {S : Type 0} → List (Action S) → List (ℕ × PerformedRequest S)
requests_in [] = []
requests_in (serves connection moment served ∷ actions) = (connection, served) ∷ requests_in actions
requests_in (disconnects server connection ∷ actions) = requests_in actions

-- all requests that were performed are in a list, in order, and the frames of their replies are all that are put
-- out, in order; which requests share a frame the law of a chain says
abbrev pub AreAnsweredInOrder : {S : Type 0} → List (ℕ × PerformedRequest S) → List Output → Type 0
AreAnsweredInOrder {S} requests outputs =
    (answered : List (AnsweredPayload S))
    × (requests ≡ flat_map (λ one. map (λ served. (one.connection, served)) one.requests) answered)
    × (frames_in outputs ≡ flat_map (λ one. reply_frame one.connection (joined_replies one.replies)) answered)
    × AllByRecursion (λ one. AreReplies one.requests one.replies) answered

module _ {S : Type 0} (authenticator : Meaning S) where
  -- a chain behind which the connection goes on is performed whole: each of its requests, in order, and no other
  -- (3.3.5.2.7). Their MessageIds, but of a CANCEL, which uses none, are distinct; each was in the window before, and
  -- is used afterwards; and what was used stays used (3.3.1.1, 3.3.5.2.3)
  abbrev pub AChainIsPerformedWhole : Type 0
  AChainIsPerformedWhole =
      (arrival : Arrival) (server : ServerState S) (connection : Connection) (payload : List ℕ)
      (requests : List (List ℕ)) →
      let step = chain_step authenticator arrival server connection payload in
      let ids = map
      (λ request. (header_of request).message_id)
      (filter (λ request. not ((header_of request).command.0 == code_of Cancel)) requests) in
      chain_of payload ≡ Some requests → step.stays_open ≡ true →
      (map (λ served. served.request) step.requests ≡ map (λ request. Some request) requests)
      × (are_distinct ids ≡ true)
      × ((id : ℕ) → contains ids id ≡ true → contains connection.window.usable id ≡ true)
      × ((id : ℕ) → GoodWindow connection.window → contains ids id ≡ true → IsUsed step.connection.window id)
      × ((id : ℕ) → IsUsed connection.window id → IsUsed step.connection.window id)

  -- a chain that is performed is answered by one frame of the replies to its requests (3.3.4.1, 3.3.5.2.7)
  abbrev pub AChainIsAnsweredInOrder : Type 0
  AChainIsAnsweredInOrder =
      (arrival : Arrival) (server : ServerState S) (connection : Connection) (payload : List ℕ) →
      let step = chain_step authenticator arrival server connection payload in
      (replies : List Reply) × (step.outputs ≡ reply_frame arrival.connection_id (joined_replies replies))
      × AreReplies step.requests replies

  -- these replies tell the credits that are granted, from the window without the chain's MessageIds on; and the window
  -- that the connection then has is the one that they leave (3.3.1.2, 3.3.5.2.3)
  abbrev pub AChainTellsItsCredits : Type 0
  AChainTellsItsCredits =
      (arrival : Arrival) (server : ServerState S) (connection : Connection) (payload : List ℕ)
      (requests : List (List ℕ)) →
      let step = chain_step authenticator arrival server connection payload in
      admitted connection payload ≡ Some requests →
      (replies : List Reply) × (step.outputs ≡ reply_frame arrival.connection_id (joined_replies replies))
      × AreGranted (without_ids connection.window (message_ids connection.dialect requests)) step.requests replies
      step.connection.window

  -- the requests that a run performs are answered in order, and nothing else is put out
  abbrev pub ARunIsAnsweredInOrder : Type 0
  ARunIsAnsweredInOrder =
      (s : ShareState S) (events : List EventText) →
      AreAnsweredInOrder (requests_in (actions_of_run authenticator s events)) (run authenticator s events).outputs
