-- The sessions of other connections, and those that are over, over a chain, a piece and a run.
use Rattle.std.proofs.Common.{◌≡◌, ◌==◌, ◌<◌, ℕ, zero, suc, Bool, true, false, not, List, [], ◌∷◌, ◌++◌, Option, None, Some, MatchOption, refl, sym, ap, subst, ◌⊎◌, arith}
use Rattle.std.proofs.lemmas.Bool.{eq-eqb}
use Rattle.std.specs.List.{AllByRecursion, Any}
use Rattle.std.specs.Option.{option_map_or}
use Rattle.smb_frame.specs.Reading.{rest}
use Rattle.smb_head.specs.Headers.{header_of}
use Rattle.smb_session.specs.Authenticator.{Meaning}
use Rattle.smb_session.specs.Window.{credits_granted}
use Rattle.smb_session.specs.Session.{SessionState}
use Rattle.smb_session.specs.Table.{session_at}
use Rattle.smb_body.specs.declared.smb1.Smb1Dialects.{Smb1Dialects}
use Rattle.smb_request.specs.Laws.{IsInOrder, IsAsItWas, IsOver, ReplacesSession}
use Rattle.smb_request.specs.State.{ServerState, connection_ended}
use Rattle.smb_request.proofs.Alone.{leaves_start, leaves_end}
use Rattle.smb_request.proofs.Apart.{request_left}
use Rattle.smb_request.proofs.Leaving.{LeavesSharedBut, leaves_same, leaves_then, leaves_wider}
use Rattle.smb_request.proofs.Numbers.{order_good}
use Rattle.smb_engine.specs.declared.connection.Connection.{Connection}
use Rattle.smb_engine.specs.declared.fault.ServeFault.{ServeFault}
use Rattle.smb_engine.specs.State.{StreamState, ShareState, stream_of}
use Rattle.smb_engine.specs.Parts.{added_payloads, chain_begun, and_then, settled, framed_chain, all_performed, refused_step, first_negotiate, then_ran, refused_at_once}
use Rattle.smb_engine.specs.Run.{PerformedRequest, ChainState, one_performed, requests_of_chain, admitted, Step, smb1_step, chain_step, payload_step, payload_steps, piece_step, EventStep, bytes_step, event_step, event_refusal, Ran, run}
use Rattle.smb_engine.specs.Good.{GoodState}
use Rattle.smb_engine.specs.Laws.{requests_of_run}
use Rattle.smb_peers.specs.Event.{EventText, opens, brings, ends, connection_of}
use Rattle.smb_engine.proofs.Streams.{arrived, bytes_step-none, bytes_step-some}
use Rattle.smb_request.specs.Request.{performed}
use Rattle.smb_engine.proofs.Chains.{server-one_performed, first-server}

-- some element has a property
module _ {X : Type 0} (P : X → Type 0) where
  any_later : (x : X) (xs : List X) → Any P xs → Any P (x ∷ xs)
  any_later x xs (k, y, l, e, p) = (suc k, y, omega (arith, l), e, p)

  any_first : (xs ys : List X) → Any P xs → Any P (xs ++ ys)
  any_first [] ys (k, x, l, e, p) = absurd (omega (arith, l))
  any_first (x ∷ xs) ys (zero, y, l, e, p) = (0, y, omega arith, e, p)
  any_first (x ∷ xs) ys (suc k, y, l, e, p) = any_later x (xs ++ ys) (any_first xs ys (k, y, omega (arith, l), e, p))

  any_behind : (xs ys : List X) → Any P ys → Any P (xs ++ ys)
  any_behind [] ys some = some
  any_behind (x ∷ xs) ys some = any_later x (xs ++ ys) (any_behind xs ys some)

module _ {S : Type 0} (m : Meaning S) (acts : ℕ → Bool) where
  -- a step with these requests, by which a session may be over that one of them replaces
  abbrev Replaced : List (PerformedRequest S) → ℕ → SessionState → Type 0
  Replaced requests n session = Any (λ came. MatchOption came.request ⊥ (λ request. ReplacesSession m came.before came.context request n session)) requests

  abbrev LeavesAt : List (PerformedRequest S) → ServerState S → ServerState S → Type 0
  LeavesAt requests = LeavesSharedBut (Replaced requests) acts

  server_same : (requests : List (PerformedRequest S)) (server : ServerState S) → IsInOrder server → LeavesAt requests server server
  server_same requests server o = leaves_same acts server.sessions.table server.store o

  -- one step behind another
  server_then : (requests others : List (PerformedRequest S)) (one two three : ServerState S) → IsInOrder one → LeavesAt requests one two → (IsInOrder two → LeavesAt others two three) → LeavesAt (requests ++ others) one three
  server_then requests others one two three o first second =
      leaves_then acts one.sessions.table two.sessions.table three.sessions.table one.store two.store three.store o
      (leaves_wider acts one.sessions.table two.sessions.table one.store two.store (λ n session. any_first (λ came. MatchOption came.request ⊥ (λ request. ReplacesSession m came.before came.context request n session)) requests others) first)
      (leaves_wider acts two.sessions.table three.sessions.table two.store three.store (λ n session. any_behind (λ came. MatchOption came.request ⊥ (λ request. ReplacesSession m came.before came.context request n session)) requests others) (second first.order))

  module _ (n : ℕ) (a : acts n ≡ true) (moment : ℕ) where
    -- the requests of a chain
    abbrev came_of : ChainState S → List ℕ → PerformedRequest S
    came_of chain request =
        let done = performed m n moment chain.server chain.connection.dialect chain.context request in
        record { before = chain.server; dialect = chain.connection.dialect; context = chain.context; request = Some request; after = (one_performed m (arrived n moment) chain request).server; response = done.response; credits = credits_granted chain.connection.window (header_of request).credits }

    one_left : (chain : ChainState S) (request : List ℕ) → IsInOrder chain.server → LeavesAt (came_of chain request ∷ []) chain.server (one_performed m (arrived n moment) chain request).server
    one_left chain request o =
        let after = one_performed m (arrived n moment) chain request in
        leaves_wider acts chain.server.sessions.table after.server.sessions.table chain.server.store after.server.store
        (λ k session replaces. (0, came_of chain request, omega arith, refl, replaces))
        (subst (λ (after : ServerState S). LeavesSharedBut (ReplacesSession m chain.server chain.context request) acts chain.server after) (sym (server-one_performed m (arrived n moment) chain request)) (request_left acts n a chain.server o m moment chain.connection.dialect chain.context request))

    all_left : (chain : ChainState S) (requests : List (List ℕ)) → IsInOrder chain.server → LeavesAt (requests_of_chain m (arrived n moment) chain requests) chain.server (all_performed m (arrived n moment) chain requests).server
    all_left chain [] o = server_same [] chain.server o
    all_left chain (request ∷ requests) o =
        let next = one_performed m (arrived n moment) chain request in
        server_then (came_of chain request ∷ []) (requests_of_chain m (arrived n moment) next requests) chain.server next.server (all_performed m (arrived n moment) next requests).server o (one_left chain request o) (all_left next requests)

    -- a step with its own requests
    abbrev LeavesBy : ServerState S → Step S → Type 0
    LeavesBy server step = LeavesAt step.requests server step.server

    module _ (server : ServerState S) (connection : Connection) (o : IsInOrder server) where
      chain_at : (requests : Option (List (List ℕ))) →
          LeavesBy server (option_map_or (λ requests. framed_chain m (arrived n moment) (chain_begun server connection requests) requests) requests (refused_step server connection))
      chain_at None = server_same [] server o
      chain_at (Some requests) = all_left (chain_begun server connection requests) requests o

      chain_left : (payload : List ℕ) → LeavesBy server (chain_step m (arrived n moment) server connection payload)
      unfolding chain_step
      chain_left payload = chain_at (admitted connection payload)

      -- a payload
      payload_at : (payload : List ℕ) (first : Option Smb1Dialects) → LeavesBy server (option_map_or (smb1_step m (arrived n moment) server connection) first (chain_step m (arrived n moment) server connection payload))
      payload_at payload None = chain_left payload
      payload_at payload (Some dialects) =
          let step = smb1_step m (arrived n moment) server connection dialects in
          subst (λ (after : ServerState S). LeavesAt step.requests server after) (sym (first-server m (arrived n moment) server connection dialects)) (server_same step.requests server o)

      payload_left : (payload : List ℕ) → LeavesBy server (payload_step m (arrived n moment) server connection payload)
      unfolding payload_step
      payload_left payload = payload_at payload (first_negotiate connection payload)

    -- the payloads of a piece
    steps_at : (server : ServerState S) (step : Step S) (others : ServerState S → Connection → Step S) (b : Bool) → step.stays_open ≡ b → IsInOrder server → LeavesBy server step →
        (IsInOrder step.server → LeavesBy step.server (others step.server step.connection)) → LeavesBy server (and_then others step)
    steps_at server step others true e o one rest = rw e (server_then step.requests (others step.server step.connection).requests server step.server (others step.server step.connection).server o one rest)
    steps_at server step others false e o one rest = rw e one

    steps_left : (server : ServerState S) (connection : Connection) (payloads : List (List ℕ)) → IsInOrder server → LeavesBy server (payload_steps m (arrived n moment) server connection payloads)
    steps_left server connection [] o = server_same [] server o
    steps_left server connection (payload ∷ payloads) o =
        let step = payload_step m (arrived n moment) server connection payload in
        steps_at server step (λ s c. payload_steps m (arrived n moment) s c payloads) step.stays_open refl o (payload_left server connection o payload) (steps_left step.server step.connection payloads)

    piece_left : (server : ServerState S) (stream : StreamState) (piece : List ℕ) → IsInOrder server → LeavesBy server (piece_step m (arrived n moment) server stream piece)
    unfolding piece_step
    piece_left server stream piece o = steps_left server stream.connection (added_payloads stream.received piece) o

    -- and the connection's end, where the piece ends it
    end_wider : (requests : List (PerformedRequest S)) (one two three : ServerState S) → IsInOrder one → LeavesAt requests one two → (IsInOrder two → LeavesAt requests two three) → LeavesAt requests one three
    end_wider requests one two three o first second =
        leaves_then acts one.sessions.table two.sessions.table three.sessions.table one.store two.store three.store o first (second first.order)

    settled_left : (s : ShareState S) (received : List ℕ) (step : Step S) (b : Bool) → step.stays_open ≡ b → IsInOrder s.server → LeavesBy s.server step →
        LeavesAt step.requests s.server (settled s n received step).state.server
    settled_left s received step true e o h = rw e h
    settled_left s received step false e o h = rw e (end_wider step.requests s.server step.server (connection_ended step.server n) o h (leaves_end _ acts n a step.server))

    bytes_left : (s : ShareState S) (piece : List ℕ) (stream : Option StreamState) → stream_of n s.streams ≡ stream → IsInOrder s.server →
        LeavesAt (bytes_step m s n moment piece).requests s.server (bytes_step m s n moment piece).state.server
    bytes_left s piece None e o = rw (bytes_step-none m s n moment piece e) (server_same [] s.server o)
    bytes_left s piece (Some stream) e o =
        rw (bytes_step-some m s n moment piece stream e) (settled_left s (stream.received ++ piece) (piece_step m (arrived n moment) s.server stream piece) _ refl o (piece_left s.server stream piece o))

  -- an event
  event_left : (s : ShareState S) (event : EventText) → acts (connection_of event) ≡ true → IsInOrder s.server → LeavesAt (event_step m s event).requests s.server (event_step m s event).state.server
  event_left s (opens n) a o = leaves_start _ acts s.server s.next o
  event_left s (brings n moment piece) a o = bytes_left n a moment s piece (stream_of n s.streams) refl o
  event_left s (ends n) a o = leaves_end _ acts n a s.server o

  -- a run
  run_at : (s : ShareState S) (requests : List (PerformedRequest S)) (step : EventStep S) (ran : Ran S) (refusal : Option ServeFault) → IsInOrder s.server → LeavesAt requests s.server ran.state.server →
      LeavesAt (option_map_or (λ fault. []) refusal requests) s.server (option_map_or (refused_at_once s) refusal (then_ran step ran)).state.server
  run_at s requests step ran None o h = h
  run_at s requests step ran (Some why) o h = server_same [] s.server o

  run_left : (s : ShareState S) (events : List EventText) → AllByRecursion (λ event. acts (connection_of event) ≡ true) events → IsInOrder s.server → LeavesAt (requests_of_run m s events) s.server (run m s events).state.server
  run_left s [] a o = server_same [] s.server o
  run_left s (event ∷ events) a o =
      let step = event_step m s event in
      let ran = run m step.state events in
      run_at s _ step ran (event_refusal s event) o
      (server_then (event_step m s event).requests (requests_of_run m step.state events) s.server step.state.server ran.state.server o (event_left s event a.0 o) (run_left step.state events a.1))

-- all events are on some connection
any_event : (events : List EventText) → AllByRecursion (λ (event : EventText). true ≡ true) events
any_event [] = tt
any_event (event ∷ events) = (refl, any_event events)

other_events : (k : ℕ) (events : List EventText) → AllByRecursion (λ event. (connection_of event == k) ≡ false) events → AllByRecursion (λ event. not (connection_of event == k) ≡ true) events
other_events k [] h = tt
other_events k (event ∷ events) h = (ap not h.0, other_events k events h.1)

module _ {S : Type 0} (m : Meaning S) where
  pub good_numbers : (s : ShareState S) → GoodState s → IsInOrder s.server
  good_numbers s good = order_good s.server.sessions.table s.server.store good.sessions good.store

  pub run_numbers : (s : ShareState S) (events : List EventText) → IsInOrder s.server → IsInOrder (run m s events).state.server
  run_numbers s events o = (run_left m (λ n. true) s events (any_event events) o).order

  pub sessions_left : (s : ShareState S) → IsInOrder s.server → (events : List EventText) (connection : ℕ) → AllByRecursion (λ event. (connection_of event == connection) ≡ false) events →
      (number : ℕ) (session : SessionState) → session_at s.server.sessions.table number ≡ Some session → session.connection ≡ connection →
      IsAsItWas s.server (run m s events).state.server number
      ⊎ (IsOver (run m s events).state.server number × Any (λ came. MatchOption came.request ⊥ (λ request. ReplacesSession m came.before came.context request number session)) (requests_of_run m s events))
  sessions_left s o events connection others number session at on =
      (run_left m (λ n. not (n == connection)) s events (other_events connection events others) o).alone number session at (ap not (eq-eqb session.connection connection on))

  pub over_stays : (s : ShareState S) → IsInOrder s.server → (events : List EventText) (number : ℕ) → number < s.server.sessions.table.next →
      (number < (run m s events).state.server.sessions.table.next) × (IsOver s.server number → IsOver (run m s events).state.server number)
  over_stays s o events number given =
      let left = run_left m (λ n. true) s events (any_event events) o in
      let grown = left.grown in
      (omega (arith, given, grown), left.over number given)
