-- A client who keeps the rules of frames, chains and windows is served on.
use Rattle.std.specs.Prelude.{◌≡◌, ◌≢◌, ℕ, Bool, true, ◌||◌, List, [], ◌∷◌, ◌++◌, length, drop, None, Some, is_some}
use Rattle.std.specs.Prelude.{if◌then◌else◌}
use Rattle.std.specs.Option.{option_map_or}
use Rattle.smb_wire.specs.Limits.{longest_payload}
use Rattle.smb_frame.specs.Reading.{payloads, rest, fault_of}
use Rattle.smb_body.specs.Smb1.{smb1_of}
use Rattle.smb_session.specs.Authenticator.{Meaning}
use Rattle.smb_request.specs.State.{ServerState}
use Rattle.smb_peers.specs.Event.{opens, brings, ends, connection_of}
use Rattle.smb_serving.specs.Happenings.{Happening, performed, cut_short, happening_step, run_of}
use Rattle.smb_engine.specs.declared.arrival.Arrival.{Arrival}
use Rattle.smb_engine.specs.declared.connection.Connection.{Connection}
use Rattle.smb_engine.specs.Run.{admitted, payload_step}
use Rattle.smb_engine.specs.State.{StreamState, ShareState, stream_of, is_open}

-- a payload is one that a client may send: a chain with each of its MessageIds once, and in the window; or as the first
-- of its connection an SMB_COM_NEGOTIATE with a dialect of the share (3.3.5.2, 3.3.5.3.1)
abbrev pub is_allowed : Connection → List ℕ → Bool
is_allowed connection payload = option_map_or
    (λ dialects. dialects.smb_2_wildcard || dialects.smb_2_002)
    (if connection.payload_came then None else smb1_of payload)
    (is_some (admitted connection payload))

module _ {S : Type 0} (authenticator : Meaning S) where
  -- payloads are, each where the ones before it were performed
  abbrev pub AreAllowed : Arrival → ServerState S → Connection → List (List ℕ) → Type 0
  AreAllowed arrival server connection [] = Unit {0}
  AreAllowed arrival server connection (payload ∷ payloads) =
      let step = payload_step authenticator arrival server connection payload in
      (is_allowed connection payload ≡ true) × AreAllowed arrival step.server step.connection payloads

  -- a piece adds such payloads to its stream, and no frame that is too long or of another kind ([MS-SMB2] 2.1)
  abbrev pub IsAllowedPiece : ShareState S → ℕ → ℕ → List ℕ → Type 0
  IsAllowedPiece s connection moment piece =
      (stream : StreamState) → stream_of connection s.streams ≡ Some stream →
      let received = stream.received ++ piece in
      let added = drop (length (payloads longest_payload stream.received)) (payloads longest_payload received) in
      (fault_of longest_payload (rest longest_payload received) ≡ None)
      × AreAllowed (record { connection_id = connection; moment = moment }) s.server stream.connection added

  -- a happening lets a connection go on: its client does not end it, memory does not run out in a piece of it, and each
  -- piece of it is allowed; what happens on other connections is left open
  abbrev pub LetsGoOn : ℕ → ShareState S → Happening → Type 0
  LetsGoOn connection s (performed (opens other)) = Unit {0}
  LetsGoOn connection s (performed (brings other moment piece)) =
      other ≡ connection → IsAllowedPiece s connection moment piece
  LetsGoOn connection s (performed (ends other)) = other ≢ connection
  LetsGoOn connection s (cut_short event done) = connection_of event ≢ connection

  -- each happening of a run does
  abbrev pub LetGoOn : ℕ → ShareState S → List Happening → Type 0
  LetGoOn connection s [] = Unit {0}
  LetGoOn connection s (happening ∷ happenings) =
      LetsGoOn connection s happening × LetGoOn connection (happening_step authenticator s happening).state happenings

  -- the connection of such a client stays open, whatever its requests ask for and whatever others do
  abbrev pub WhoKeepsTheRulesIsServedOn : Type 0
  WhoKeepsTheRulesIsServedOn =
      (s : ShareState S) (connection : ℕ) (happenings : List Happening) →
      is_open s connection ≡ true → LetGoOn connection s happenings →
      is_open (run_of authenticator s happenings).state connection ≡ true
