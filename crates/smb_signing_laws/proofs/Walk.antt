-- What requests, and the beginnings and ends of connections, do of a server, over a run.
use Rattle.std.proofs.Common.{◌≡◌, ℕ, Bool, true, false, List, [], ◌∷◌, ◌++◌, Option, None, Some, refl, subst, sym}
use Rattle.std.specs.List.{AllByRecursion}
use Rattle.std.specs.Option.{option_map_or}
use Rattle.smb_head.specs.Headers.{header_of}
use Rattle.smb_wire.specs.declared.dialect.Dialect.{Dialect}
use Rattle.smb_body.specs.declared.smb1.Smb1Dialects.{Smb1Dialects}
use Rattle.smb_session.specs.Authenticator.{Meaning}
use Rattle.smb_session.specs.Window.{credits_granted}
use Rattle.smb_request.specs.declared.context.Context.{Context}
use Rattle.smb_request.specs.declared.smb1.Smb1Answer.{Smb1Answer}
use Rattle.smb_request.specs.Context.{first_context}
use Rattle.smb_request.specs.Request.{performed}
use Rattle.smb_request.specs.Smb1.{answer_to_smb1}
use Rattle.smb_request.specs.State.{ServerState, connection_added, connection_ended}
use Rattle.smb_engine.specs.declared.connection.Connection.{Connection}
use Rattle.smb_engine.specs.declared.fault.ServeFault.{ServeFault}
use Rattle.smb_engine.specs.State.{StreamState, ShareState, stream_of}
use Rattle.smb_engine.specs.Parts.{added_payloads, chain_begun, and_then, settled, framed_chain, all_performed, refused_step, first_negotiate, refused_at_once, then_ran}
use Rattle.smb_engine.specs.Run.{PerformedRequest, ChainState, one_performed, requests_of_chain, admitted, Step, smb1_step, chain_step, payload_step, payload_steps, piece_step, EventStep, bytes_step, event_step, event_refusal, Ran, run}
use Rattle.smb_peers.specs.Event.{EventText, opens, brings, ends, connection_of}
use Rattle.smb_engine.proofs.Streams.{arrived, bytes_step-none, bytes_step-some}
use Rattle.smb_engine.proofs.Chains.{server-one_performed}
use Rattle.smb_signing_laws.specs.Runs.{EachRequest}

-- a property of all of two lists is one of all of each
all_parts : {X : Type 0} (P : X → Type 0) (xs ys : List X) → AllByRecursion P (xs ++ ys) → AllByRecursion P xs × AllByRecursion P ys
all_parts P [] ys all = (tt, all)
all_parts P (x ∷ xs) ys all = let rest = all_parts P xs ys all.1 in ((all.0, rest.0), rest.1)

all_both : {X : Type 0} (P : X → Type 0) (xs ys : List X) → AllByRecursion P xs → AllByRecursion P ys → AllByRecursion P (xs ++ ys)
all_both P [] ys a b = b
all_both P (x ∷ xs) ys a b = (a.0, all_both P xs ys a.1 b)

-- what is true of everything is true of each request of a run
all_true : {X : Type 0} (P : X → Type 0) → ((x : X) → P x) → (xs : List X) → AllByRecursion P xs
all_true P holds [] = tt
all_true P holds (x ∷ xs) = (holds x, all_true P holds xs)

pub each_true : {S : Type 0} (m : Meaning S) (P : ℕ → PerformedRequest S → Type 0) → ((n : ℕ) (came : PerformedRequest S) → P n came) → (s : ShareState S) (events : List EventText) → EachRequest m P s events
each_true m P holds s [] = tt
each_true m P holds s (event ∷ events) = λ unrefused. (all_true (P (connection_of event)) (holds (connection_of event)) (event_step m s event).requests, each_true m P holds (event_step m s event).state events)

-- a request that came to a server, and what it left
abbrev pub came_to : {S : Type 0} → Meaning S → ℕ → ℕ → ServerState S → Option Dialect → Context → List ℕ → ℕ → PerformedRequest S
came_to m n moment server dialect context request credits =
    let ran = performed m n moment server dialect context request in
    record { before = server; dialect = dialect; context = context; request = Some request; after = ran.server; response = ran.response; credits = credits }

-- and an SMB_COM_NEGOTIATE
abbrev pub first_at : {S : Type 0} → ServerState S → PerformedRequest S
first_at server = record { before = server; dialect = None; context = first_context; request = None; after = server; response = None; credits = 1 }

-- Held: what holds of a server. Leads: what is of two, of which one leads to the other. Came: what each request is known to
-- be, and Is: what is to be shown of it
module _ {S : Type 0} (m : Meaning S) (Held : ServerState S → Type 0) (Leads : ServerState S → ServerState S → Type 0) (Came Is : ℕ → PerformedRequest S → Type 0) where
  pub record Goes (before after : ServerState S) : Type 0 where
    pub leads : Leads before after
    pub held : Held after

  -- what is to be known
  pub record Known : Type 0 where
    pub stays : (server : ServerState S) → Held server → Leads server server
    pub follows : (one two three : ServerState S) → Leads one two → Leads two three → Leads one three
    pub starts : (server : ServerState S) (n : ℕ) → Held server → Goes server (connection_added server n)
    pub finishes : (server : ServerState S) (n : ℕ) → Held server → Goes server (connection_ended server n)
    pub first : (server : ServerState S) (n : ℕ) → Held server → Is n (first_at server)
    pub performs : (n moment : ℕ) (server : ServerState S) (dialect : Option Dialect) (context : Context) (request : List ℕ) (credits : ℕ) → Held server →
        (let came = came_to m n moment server dialect context request credits in Came n came → Is n came × Goes server came.after)

  -- what requests on a connection do
  record Walked (n : ℕ) (before : ServerState S) (requests : List (PerformedRequest S)) (after : ServerState S) : Type 0 where
    goes : Goes before after
    all : AllByRecursion (Is n) requests

  module _ (known : Known) where
    goes_same : (server : ServerState S) → Held server → Goes server server
    goes_same server held = record { leads = known.stays server held; held = held }

    goes_then : (one two three : ServerState S) → Goes one two → (Held two → Goes two three) → Goes one three
    goes_then one two three first second =
        let later = second first.held in
        record { leads = known.follows one two three first.leads later.leads; held = later.held }

    module _ (n moment : ℕ) where
      abbrev Walks : ServerState S → List (PerformedRequest S) → ServerState S → Type 0
      Walks before requests after = AllByRecursion (Came n) requests → Walked n before requests after

      nothing_walked : (server : ServerState S) → Held server → Walked n server [] server
      nothing_walked server held = record { goes = goes_same server held; all = tt }

      -- a request of a chain
      abbrev one_came : ChainState S → List ℕ → ServerState S → PerformedRequest S
      one_came chain request after = record {
        before = chain.server;
        dialect = chain.connection.dialect;
        context = chain.context;
        request = Some request;
        after = after;
        response = (performed m n moment chain.server chain.connection.dialect chain.context request).response;
        credits = credits_granted chain.connection.window (header_of request).credits;
      }

      one_walked : (chain : ChainState S) (request : List ℕ) → Held chain.server → (let came = one_came chain request (one_performed m (arrived n moment) chain request).server in Came n came → Is n came × Goes chain.server came.after)
      one_walked chain request held =
          subst (λ (after : ServerState S). Came n (one_came chain request after) → Is n (one_came chain request after) × Goes chain.server after)
          (sym (server-one_performed m (arrived n moment) chain request))
          (known.performs n moment chain.server chain.connection.dialect chain.context request (credits_granted chain.connection.window (header_of request).credits) held)

      -- a chain
      all_walked : (chain : ChainState S) (requests : List (List ℕ)) → Held chain.server → Walks chain.server (requests_of_chain m (arrived n moment) chain requests) (all_performed m (arrived n moment) chain requests).server
      all_walked chain [] held all = nothing_walked chain.server held
      all_walked chain (request ∷ requests) held all =
          let next = one_performed m (arrived n moment) chain request in
          let one = one_walked chain request held all.0 in
          let rest = all_walked next requests one.1.held all.1 in
          record { goes = goes_then chain.server next.server (all_performed m (arrived n moment) next requests).server one.1 (λ held. rest.goes); all = (one.0, rest.all) }

      module _ (server : ServerState S) (connection : Connection) (held : Held server) where
        chain_at : (requests : Option (List (List ℕ))) →
            (let step : Step S = option_map_or (λ requests. framed_chain m (arrived n moment) (chain_begun server connection requests) requests) requests (refused_step server connection) in Walks server step.requests step.server)
        chain_at None = λ all. nothing_walked server held
        chain_at (Some requests) = λ all. all_walked (chain_begun server connection requests) requests held all

        chain_walked : (payload : List ℕ) → Walks server (chain_step m (arrived n moment) server connection payload).requests (chain_step m (arrived n moment) server connection payload).server
        unfolding chain_step
        chain_walked payload all = chain_at (admitted connection payload) all

        -- a payload
        answer_at : (answer : Option Smb1Answer) (f : Smb1Answer → Step S) → ((answer : Smb1Answer) → Walks server (f answer).requests (f answer).server) →
            (let step : Step S = option_map_or f answer (refused_step server connection) in Walks server step.requests step.server)
        answer_at None f h = λ all. nothing_walked server held
        answer_at (Some answer) f h = h answer

        first_walked : (dialects : Smb1Dialects) → Walks server (smb1_step m (arrived n moment) server connection dialects).requests (smb1_step m (arrived n moment) server connection dialects).server
        unfolding smb1_step
        first_walked dialects = answer_at (answer_to_smb1 dialects) _ (λ answer. λ all. record { goes = goes_same server held; all = (known.first server n held, tt) })

        payload_at : (payload : List ℕ) (first : Option Smb1Dialects) →
            (let step : Step S = option_map_or (smb1_step m (arrived n moment) server connection) first (chain_step m (arrived n moment) server connection payload) in Walks server step.requests step.server)
        payload_at payload None = λ all. chain_walked payload all
        payload_at payload (Some dialects) = λ all. first_walked dialects all

        payload_walked : (payload : List ℕ) → Walks server (payload_step m (arrived n moment) server connection payload).requests (payload_step m (arrived n moment) server connection payload).server
        unfolding payload_step
        payload_walked payload all = payload_at payload (first_negotiate connection payload) all

      -- the payloads of a piece
      steps_at : (server : ServerState S) (step : Step S) (others : ServerState S → Connection → Step S) (b : Bool) → step.stays_open ≡ b → Walks server step.requests step.server →
          (Held step.server → Walks step.server (others step.server step.connection).requests (others step.server step.connection).server) → Walks server (and_then others step).requests (and_then others step).server
      steps_at server step others true e one rest all =
          let later = others step.server step.connection in
          let parts = all_parts (Came n) step.requests later.requests (rw e at all) in
          let first = one parts.0 in
          let second = rest first.goes.held parts.1 in
          rw e (record { goes = goes_then server step.server later.server first.goes (λ held. second.goes); all = all_both (Is n) step.requests later.requests first.all second.all })
      steps_at server step others false e one rest all = rw e (one (rw e at all))

      steps_walked : (server : ServerState S) (connection : Connection) (payloads : List (List ℕ)) → Held server → Walks server (payload_steps m (arrived n moment) server connection payloads).requests (payload_steps m (arrived n moment) server connection payloads).server
      steps_walked server connection [] held all = nothing_walked server held
      steps_walked server connection (payload ∷ payloads) held all =
          let step = payload_step m (arrived n moment) server connection payload in
          steps_at server step (λ s c. payload_steps m (arrived n moment) s c payloads) step.stays_open refl (payload_walked server connection held payload) (λ held all. steps_walked step.server step.connection payloads held all) all

      piece_walked : (server : ServerState S) (stream : StreamState) (piece : List ℕ) → Held server → Walks server (piece_step m (arrived n moment) server stream piece).requests (piece_step m (arrived n moment) server stream piece).server
      unfolding piece_step
      piece_walked server stream piece held all =
          let steps = steps_walked server stream.connection (added_payloads stream.received piece) held all in
          record { goes = steps.goes; all = steps.all }

      -- and the connection's end, where the piece ends it
      settled_walked : (s : ShareState S) (received : List ℕ) (step : Step S) (b : Bool) → step.stays_open ≡ b → Walked n s.server step.requests step.server → Walked n s.server (settled s n received step).requests (settled s n received step).state.server
      settled_walked s received step true e h = rw e (record { goes = h.goes; all = h.all })
      settled_walked s received step false e h = rw e (record { goes = goes_then s.server step.server (connection_ended step.server n) h.goes (known.finishes step.server n); all = h.all })

      bytes_walked : (s : ShareState S) (piece : List ℕ) (stream : Option StreamState) → stream_of n s.streams ≡ stream → Held s.server → Walks s.server (bytes_step m s n moment piece).requests (bytes_step m s n moment piece).state.server
      bytes_walked s piece None e held all = rw (bytes_step-none m s n moment piece e) (nothing_walked s.server held)
      bytes_walked s piece (Some stream) e held all =
          rw (bytes_step-some m s n moment piece stream e)
          (settled_walked s (stream.received ++ piece) (piece_step m (arrived n moment) s.server stream piece) _ refl (piece_walked s.server stream piece held (rw (bytes_step-some m s n moment piece stream e) at all)))

    -- an event
    event_walked : (s : ShareState S) (event : EventText) → Held s.server → AllByRecursion (Came (connection_of event)) (event_step m s event).requests → Walked (connection_of event) s.server (event_step m s event).requests (event_step m s event).state.server
    event_walked s (opens n) held all = record { goes = known.starts s.server s.next held; all = tt }
    event_walked s (brings n moment piece) held all = bytes_walked n moment s piece (stream_of n s.streams) refl held all
    event_walked s (ends n) held all = record { goes = known.finishes s.server n held; all = tt }

    -- a run
    run_at : (s : ShareState S) (step : EventStep S) (ran : Ran S) (refusal : Option ServeFault) → Held s.server → (refusal ≡ None → Goes s.server ran.state.server) →
        Goes s.server (option_map_or (refused_at_once s) refusal (then_ran step ran)).state.server
    run_at s step ran None held h = h refl
    run_at s step ran (Some why) held h = goes_same s.server held

    pub run_walked : (s : ShareState S) (events : List EventText) → Held s.server → EachRequest m Came s events → EachRequest m Is s events × Goes s.server (run m s events).state.server
    run_walked s [] held all = (tt, goes_same s.server held)
    run_walked s (event ∷ events) held all =
        let step = event_step m s event in
        let ran = run m step.state events in (
          (λ unrefused.
              let both = all unrefused in
              let one = event_walked s event held both.0 in
              (one.all, (run_walked step.state events one.goes.held both.1).0)),
          run_at s step ran (event_refusal s event) held (λ unrefused.
              let both = all unrefused in
              goes_then s.server step.state.server ran.state.server (event_walked s event held both.0).goes (λ held. (run_walked step.state events held both.1).1)),
        )
