-- Wrong definitions of chains, which the laws refuse: with each the law is false.
-- A law whose name ends in By says of any step what that of specs/ says of the right one, as the line below it shows;
-- then come the wrong steps, and the proofs that the law is false of them.
use Rattle.std.proofs.Common.{◌≡◌, ◌<◌, ℕ, ◌+◌, ◌%◌, ◌==◌, nat_le, not, Bool, true, false, if◌then◌else◌, List, [], ◌∷◌, ◌++◌, length, map, filter, take, drop, replicate, Option, None, Some, is_some, refl, sym, ap, arith, ◌∙◌}
use Rattle.std.specs.Option.{option_map_or}
use Rattle.smb_wire.specs.Commands.{code_of, known_command}
use Rattle.smb_wire.specs.Fields.{joined}
use Rattle.smb_wire.specs.Number.{spelling}
use Rattle.smb_wire.specs.declared.command.Command.TheVariants.{Cancel}
use Rattle.smb_wire.specs.declared.nt_status.NtStatus.TheVariants.{Success}
use Rattle.smb_wire.specs.declared.dialect.Dialect.TheVariants.{Smb202}
use Rattle.smb_head.specs.Chains.{chain_of, requests_in}
use Rattle.smb_head.specs.Headers.{fields, header_of}
use Rattle.smb_signing.specs.declared.key.Key.{Key}
use Rattle.smb_signing.specs.Signature.{signature}
use Rattle.smb_head.specs.Replies.{Reply, reply_bytes, followed_reply, joined_replies}
use Rattle.smb_body.specs.Replies.{reply_spelling, answers_echo}
use Rattle.smb_body.specs.Requests.{request_of}
use Rattle.smb_body.specs.Reserved.{reserved_fields}
use Rattle.smb_session.specs.Authenticator.{Meaning}
use Rattle.smb_session.specs.Laws.{IsUsed}
use Rattle.smb_session.specs.Numbers.{contains}
use Rattle.smb_session.specs.Window.{GoodWindow, are_distinct, upward, without_ids}
use Rattle.smb_request.specs.Request.{verified, performed}
use Rattle.smb_request.specs.Response.{ResponseState}
use Rattle.smb_request.specs.State.{ServerState}
use Rattle.smb_request_laws.proofs.Example.{header, nothing_asked, server, byte_is}
use Rattle.smb_engine.specs.declared.arrival.Arrival.{Arrival}
use Rattle.smb_engine.specs.declared.connection.Connection.{Connection}
use Rattle.smb_engine.specs.Output.{Output, frame_to, end_of, output_bytes, reply_frame}
use Rattle.smb_engine.specs.Parts.{chain_begun, framed_chain, refused_step}
use Rattle.smb_engine.specs.Run.{Step, admitted, chain_step, message_ids, one_performed}
use Rattle.smb_run_laws.specs.Answers.{AreGranted, AreReplies, IsReplyTo, AChainIsPerformedWhole, AChainTellsItsCredits, AChainIsAnsweredInOrder}

-- an ECHO with this NextCommand and MessageId; and a chain of two, each of its own MessageId
abbrev echo : ℕ → ℕ → List ℕ
echo next id =
    joined (fields (record (header 13 0 0) { next_command = next; message_id = id })) ++ joined (reserved_fields nothing_asked)

abbrev first_echo : List ℕ
first_echo = echo 72 0 ++ replicate 4 0

abbrev arrival : Arrival
arrival = record { connection_id = 1; moment = 0 }

-- a connection on which a dialect was negotiated, and whose window has two MessageIds
abbrev connection : Connection
connection = record {
  payload_came = true;
  dialect = Some Smb202;
  window = record { usable = 0 ∷ 1 ∷ []; next = 2 };
  keys = [];
}

abbrev Plays : Type 0 → Type 0
Plays S = Arrival → ServerState S → Connection → List ℕ → Step S

-- frames with zeros in the place of so many bytes, from a place on
abbrev with_zeros : ℕ → ℕ → List Output → List Output
with_zeros place count outputs = map
    (λ (output : Output). elim output as (λ o. Output) [
      | frame_to connection bytes ↦ frame_to connection (take place bytes ++ replicate count 0 ++ drop (place + count) bytes)
      | end_of connection ↦ end_of connection
    ])
    outputs

-- the first byte at a place of the header that a frame begins with
abbrev byte_at : ℕ → List Output → List ℕ
byte_at place [] = []
byte_at place (output ∷ outputs) = take 1 (drop (place + 4) (output_bytes output))

-- a message, signed or too short for a signature
abbrev signed_or_short : Bool → Key → List ℕ → List ℕ
signed_or_short is_whole key message = if is_whole then take 48 message ++ signature key.bytes message ++ drop 64 message else message

-- of the first reply that a frame tells, its credits and its flags: they stand before its signature
module _ (n : ℕ) (reply : Reply) where
  abbrev Tells : List ℕ → Type 0
  Tells bytes =
      (byte_at 14 (reply_frame n bytes) ≡ (reply.header.credits % 256) ∷ [])
      × (byte_at 16 (reply_frame n bytes) ≡ (reply.header.flags.0 % 256) ∷ [])

  last_tells : (key : Key) (is_whole : Bool) → Tells (signed_or_short is_whole key (reply_bytes 0 reply))
  unfolding spelling
  last_tells key true = (refl, refl)
  last_tells key false = (refl, refl)

  followed_tells : (key : Key) (is_whole : Bool) (others : List ℕ) → Tells (signed_or_short is_whole key (followed_reply reply) ++ others)
  unfolding spelling
  followed_tells key true others = (refl, refl)
  followed_tells key false others = (refl, refl)

  tells_by_key : (key : Option Key) (others : List Reply) → Tells (joined_replies (record reply { key = key } ∷ others))
  unfolding joined_replies spelling
  tells_by_key None [] = (refl, refl)
  tells_by_key None (next ∷ others) = (refl, refl)
  tells_by_key (Some key) [] = last_tells key (nat_le 64 (length (reply_bytes 0 reply)))
  tells_by_key (Some key) (next ∷ others) = followed_tells key (nat_le 64 (length (followed_reply reply))) (joined_replies (next ∷ others))

  first_tells : (others : List Reply) → Tells (joined_replies (reply ∷ others))
  first_tells others = tells_by_key reply.key others

-- what is said of the replies in a frame, in its parts
by_parts : (Holds : List Reply → Type 0) (outputs : List Output) → ((replies : List Reply) × (outputs ≡ reply_frame 1 (joined_replies replies)) × Holds replies) →
    ((replies : List Reply) → outputs ≡ reply_frame 1 (joined_replies replies) → Holds replies → ⊥) → ⊥
by_parts Holds outputs told refutes = refutes told.0 told.1 told.2

second_of : {A B : Type 0} → A × B → B
second_of both = both.1

-- no frame whose first reply has zeros there tells one credit, or the flag 1, with the flag 8 or without
not_zero : (place number told : ℕ) (outputs sent : List Output) → byte_at place outputs ≡ 0 ∷ [] → outputs ≡ sent → byte_at place sent ≡ (number % 256) ∷ [] → 0 < told → told < 256 → number ≡ told → ⊥
not_zero place number told outputs sent zeros same at some small is =
    let zero : 0 ≡ number % 256 = byte_is 0 (number % 256) (sym zeros ∙ ap (byte_at place) same ∙ at) in
    omega (arith, zero, some, small, is)

not_flags : (number : ℕ) (is_signed : Bool) (outputs sent : List Output) → byte_at 16 outputs ≡ 0 ∷ [] → outputs ≡ sent → byte_at 16 sent ≡ (number % 256) ∷ [] → number ≡ 1 + (if is_signed then 8 else 0) → ⊥
not_flags number true outputs sent zeros same at is = not_zero 16 number 9 outputs sent zeros same at (omega arith) (omega arith) is
not_flags number false outputs sent zeros same at is = not_zero 16 number 1 outputs sent zeros same at (omega arith) (omega arith) is

module _ {S : Type 0} (m : Meaning S) (accounts : S) where
  abbrev now : ServerState S
  now = server accounts []

  -- how an ECHO is answered
  abbrev answer : ResponseState
  answer = record { status = Success; refusal = None; ids = record { session_id = 0; tree_id = 0 }; body = reply_spelling answers_echo }

  -- a chain is performed whole
  abbrev AChainIsPerformedWholeBy : Plays S → Type 0
  AChainIsPerformedWholeBy play =
      (arrival : Arrival) (server : ServerState S) (connection : Connection) (payload : List ℕ) (requests : List (List ℕ)) →
      let step = play arrival server connection payload in
      let ids = map
      (λ request. (header_of request).message_id)
      (filter (λ request. not ((header_of request).command.0 == code_of Cancel)) requests) in
      chain_of payload ≡ Some requests → step.stays_open ≡ true →
      (map (λ served. served.request) step.requests ≡ map (λ request. Some request) requests)
      × (are_distinct ids ≡ true)
      × ((id : ℕ) → contains ids id ≡ true → contains connection.window.usable id ≡ true)
      × ((id : ℕ) → GoodWindow connection.window → contains ids id ≡ true → IsUsed step.connection.window id)
      × ((id : ℕ) → IsUsed connection.window id → IsUsed step.connection.window id)

  a_chain_is_performed_whole : AChainIsPerformedWhole m ≡ AChainIsPerformedWholeBy (chain_step m)
  a_chain_is_performed_whole = refl

  -- wrong: the window stays as it is, so that a MessageId can be used again
  abbrev window_stays : Plays S
  window_stays arrival server connection payload =
      let step : Step S = chain_step m arrival server connection payload in
      record step { connection = record step.connection { window = connection.window } }

  pub window_stays_is_refused : AChainIsPerformedWholeBy window_stays → ⊥
  unfolding chain_of requests_in admitted chain_step header_of spelling
  window_stays_is_refused law =
      let told = law arrival now connection (echo 0 0) (echo 0 0 ∷ []) refl refl in
      let good : GoodWindow connection.window = record { few = omega arith; rising = ((omega arith, tt), (tt, tt)); below = (omega arith, (omega arith, tt)) } in
      let gone : true ≡ false = (told.3 0 good refl).gone in
      cc

  -- wrong: of a chain its first request is performed, and no other
  abbrev first_alone : Plays S
  first_alone arrival server connection payload = option_map_or
      (λ requests. framed_chain m arrival (chain_begun server connection requests) (take 1 requests))
      (admitted connection payload)
      (refused_step server connection)

  first_alone_is_refused : AChainIsPerformedWholeBy first_alone → ⊥
  unfolding chain_of requests_in admitted header_of spelling
  first_alone_is_refused law =
      let told = law arrival now connection (first_echo ++ echo 0 1) (first_echo ∷ echo 0 1 ∷ []) refl refl in
      let count : 1 ≡ 2 = ap length told.0 in
      omega (arith, count)

  -- the replies to a chain tell the credits that are granted
  abbrev AChainTellsItsCreditsBy : Plays S → Type 0
  AChainTellsItsCreditsBy play =
      (arrival : Arrival) (server : ServerState S) (connection : Connection) (payload : List ℕ) (requests : List (List ℕ)) →
      let step = play arrival server connection payload in
      admitted connection payload ≡ Some requests →
      (replies : List Reply) × (step.outputs ≡ reply_frame arrival.connection_id (joined_replies replies))
      × AreGranted (without_ids connection.window (message_ids connection.dialect requests)) step.requests replies
      step.connection.window

  a_chain_tells_its_credits : AChainTellsItsCredits m ≡ AChainTellsItsCreditsBy (chain_step m)
  a_chain_tells_its_credits = refl

  -- wrong: the first reply tells no credits, while the window grows
  abbrev no_credits_told : Plays S
  no_credits_told arrival server connection payload =
      let step : Step S = chain_step m arrival server connection payload in
      record step { outputs = with_zeros 18 2 step.outputs }

  abbrev echoed : Step S
  echoed = chain_step m arrival now connection (echo 0 0)

  no_credits_told_is_refused : AChainTellsItsCreditsBy no_credits_told → ⊥
  unfolding chain_of requests_in admitted chain_step one_performed performed verified header_of known_command request_of spelling joined_replies
  no_credits_told_is_refused law =
      by_parts
      (λ replies. AreGranted (record { usable = 1 ∷ []; next = 2 }) echoed.requests replies echoed.connection.window)
      (with_zeros 18 2 echoed.outputs)
      (law arrival now connection (echo 0 0) (echo 0 0 ∷ []) refl)
      not_granted
    where
      not_granted : (replies : List Reply) → with_zeros 18 2 echoed.outputs ≡ reply_frame 1 (joined_replies replies) →
          ((reply : Reply) × (others : List Reply) × (replies ≡ reply ∷ others) × (reply.header.credits ≡ 1)
          × ((others ≡ [])
          × (echoed.connection.window ≡ record { usable = 1 ∷ upward 2 reply.header.credits; next = 2 + reply.header.credits }))) → ⊥
      not_granted replies sent granted =
          not_zero 14 granted.0.header.credits 1 (with_zeros 18 2 echoed.outputs) (reply_frame 1 (joined_replies (granted.0 ∷ granted.1))) refl
          (sent ∙ ap (λ (rs : List Reply). reply_frame 1 (joined_replies rs)) granted.2) (first_tells 1 granted.0 granted.1).0 (omega arith) (omega arith) granted.3

  -- a chain is answered by one frame of the replies to its requests
  abbrev AChainIsAnsweredInOrderBy : Plays S → Type 0
  AChainIsAnsweredInOrderBy play =
      (arrival : Arrival) (server : ServerState S) (connection : Connection) (payload : List ℕ) →
      let step = play arrival server connection payload in
      (replies : List Reply) × (step.outputs ≡ reply_frame arrival.connection_id (joined_replies replies))
      × AreReplies step.requests replies

  a_chain_is_answered : AChainIsAnsweredInOrder m ≡ AChainIsAnsweredInOrderBy (chain_step m)
  a_chain_is_answered = refl

  -- wrong: the flags of the first reply are 0
  abbrev no_flags_told : Plays S
  no_flags_told arrival server connection payload =
      let step : Step S = chain_step m arrival server connection payload in
      record step { outputs = with_zeros 20 4 step.outputs }

  no_flags_told_is_refused : AChainIsAnsweredInOrderBy no_flags_told → ⊥
  unfolding chain_of requests_in admitted chain_step one_performed performed verified header_of known_command request_of spelling joined_replies
  no_flags_told_is_refused law =
      by_parts (AreReplies echoed.requests) (with_zeros 20 4 echoed.outputs) (law arrival now connection (echo 0 0))
      (λ replies sent told. not_replied replies sent (second_of told))
    where
      not_replied : (replies : List Reply) → with_zeros 20 4 echoed.outputs ≡ reply_frame 1 (joined_replies replies) →
          ((reply : Reply) × (others : List Reply) × (replies ≡ reply ∷ others) × IsReplyTo (echo 0 0) answer reply × (others ≡ [])) → ⊥
      not_replied replies sent replied =
          not_flags replied.0.header.flags.0 (is_some replied.0.key) (with_zeros 20 4 echoed.outputs) (reply_frame 1 (joined_replies (replied.0 ∷ replied.1))) refl
          (sent ∙ ap (λ (rs : List Reply). reply_frame 1 (joined_replies rs)) replied.2) (first_tells 1 replied.0 replied.1).1 replied.3.flags
