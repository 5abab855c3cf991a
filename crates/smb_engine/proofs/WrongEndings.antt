-- Wrong definitions of what ends a connection, and of what is heard of it, which the laws refuse: with each its law is false.
use Rattle.std.proofs.Common.{◌≡◌, ℕ, true, false, not, List, [], ◌∷◌, ◌++◌, replicate, Option, None, Some, is_some, refl}
use Rattle.std.specs.Option.{option_and_then}
use Rattle.smb_wire.specs.Number.{spelling}
use Rattle.smb_wire.specs.declared.dialect.Dialect.TheVariants.{Smb202}
use Rattle.smb_head.specs.Headers.{header_of}
use Rattle.smb_head.specs.Chains.{chain_of, chain_fault, requests_in}
use Rattle.smb_frame.specs.Reading.{payloads, rest}
use Rattle.smb_session.specs.Authenticator.{Meaning}
use Rattle.smb_request.specs.State.{ServerState}
use Rattle.smb_peers.specs.Event.{EventText, brings}
use Rattle.smb_peers.specs.Observed.{Observed}
use Rattle.smb_peers.specs.declared.ending.Ending.{Ending}
use Rattle.smb_peers.specs.declared.ending.Ending.TheVariants.{NegotiateAgain, MessageIdTwice}
use Rattle.smb_engine.specs.declared.connection.Connection.{Connection}
use Rattle.smb_engine.specs.Laws.{EachPayloadIsAdmittedOrEnds, EachEndIsHeard, ends_put_out, ends_heard}
use Rattle.smb_engine.specs.Observed.{run_observed}
use Rattle.smb_engine.specs.Run.{admitted, ending_of, bytes_step, piece_step, run}
use Rattle.smb_engine.specs.State.{ShareState, new_stream}

-- a request that is a header alone, with this command, NextCommand and MessageId
abbrev request : ℕ → ℕ → ℕ → List ℕ
request command next id =
    0xFE ∷ 0x53 ∷ 0x4D ∷ 0x42 ∷ 64 ∷ 0 ∷ (replicate 6 0 ++ command ∷ 0 ∷ (replicate 6 0 ++ next ∷ 0 ∷ 0 ∷ 0 ∷ id ∷ replicate 39 0))

-- an ECHO; two with one MessageId; and a NEGOTIATE
abbrev echo : List ℕ
echo = request 13 0 0

abbrev echoes : List ℕ
echoes = request 13 64 0 ++ request 13 0 0

abbrev negotiate : List ℕ
negotiate = request 0 0 0

-- a connection on which a dialect was negotiated, and whose window has two MessageIds
abbrev agreed : Connection
agreed = record {
  payload_came = true;
  dialect = Some Smb202;
  window = record { usable = 0 ∷ 1 ∷ []; next = 2 };
  keys = [];
}

-- a payload is performed or ends its connection, and just one of both
abbrev EachPayloadIsAdmittedOrEndsBy : (Connection → List ℕ → Option Ending) → Type 0
EachPayloadIsAdmittedOrEndsBy ending =
    (connection : Connection) (payload : List ℕ) → is_some (admitted connection payload) ≡ not (is_some (ending connection payload))

each_payload_is_admitted_or_ends : EachPayloadIsAdmittedOrEnds ≡ EachPayloadIsAdmittedOrEndsBy ending_of
each_payload_is_admitted_or_ends = refl

-- wrong: a MessageId that is used twice ends no connection
abbrev unless_twice : Ending → Option Ending
unless_twice MessageIdTwice = None
unless_twice ending = Some ending

abbrev lets_twice : Connection → List ℕ → Option Ending
lets_twice connection payload = option_and_then unless_twice (ending_of connection payload)

pub lets_twice_is_refused : EachPayloadIsAdmittedOrEndsBy lets_twice → ⊥
unfolding chain_of chain_fault requests_in admitted ending_of header_of spelling
lets_twice_is_refused law = let same : false ≡ true = law agreed echoes in cc

-- wrong: a second NEGOTIATE ends no connection
abbrev unless_again : Ending → Option Ending
unless_again NegotiateAgain = None
unless_again ending = Some ending

abbrev lets_again : Connection → List ℕ → Option Ending
lets_again connection payload = option_and_then unless_again (ending_of connection payload)

pub lets_again_is_refused : EachPayloadIsAdmittedOrEndsBy lets_again → ⊥
unfolding chain_of chain_fault requests_in admitted ending_of header_of spelling
lets_again_is_refused law = let same : false ≡ true = law agreed negotiate in cc

-- wrong: every payload ends its connection
abbrev ends_all : Connection → List ℕ → Option Ending
ends_all _ _ = Some MessageIdTwice

pub ends_all_is_refused : EachPayloadIsAdmittedOrEndsBy ends_all → ⊥
unfolding chain_of requests_in admitted header_of spelling
ends_all_is_refused law = let same : true ≡ false = law agreed echo in cc

-- wrong: who observes a run hears of no end. A byte that begins no frame ends its connection
abbrev EachEndIsHeardBy : {S : Type 0} → Meaning S → (ShareState S → List EventText → List Observed) → Type 0
EachEndIsHeardBy {S} m observed = (s : ShareState S) (events : List EventText) → ends_put_out (run m s events).outputs ≡ ends_heard (observed s events)

each_end_is_heard : {S : Type 0} (m : Meaning S) → EachEndIsHeard m ≡ EachEndIsHeardBy m (run_observed m)
each_end_is_heard m = refl

an_end_is_some : (n : ℕ) (others : List ℕ) → n ∷ others ≡ [] → ⊥
an_end_is_some n others h = cc

pub hears_nothing_is_refused : {S : Type 0} (m : Meaning S) (server : ServerState S) → EachEndIsHeardBy m (λ s events. []) → ⊥
unfolding bytes_step piece_step payloads rest
hears_nothing_is_refused m server law =
    let open_one : ShareState _ = record { server = server; streams = (1, new_stream) ∷ []; next = 2; most_connections = 64 } in
    an_end_is_some 1 [] (law open_one (brings 1 0 (0xFF ∷ []) ∷ []))
