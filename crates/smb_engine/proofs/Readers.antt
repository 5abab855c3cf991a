-- Whoever may only read, over a chain, a piece and a run.
use Rattle.std.proofs.Common.{◌≡◌, ℕ, Bool, true, false, List, [], ◌∷◌, ◌++◌, Option, None, Some, refl, subst, sym}
use Rattle.std.specs.List.{AllByRecursion}
use Rattle.std.specs.Option.{option_map_or}
use Rattle.smb_session.specs.Authenticator.{Meaning}
use Rattle.smb_body.specs.declared.smb1.Smb1Dialects.{Smb1Dialects}
use Rattle.smb_opens.specs.Readers.{LeavesFiles}
use Rattle.smb_opens.proofs.Readers.{leaves_files_refl, leaves_files_trans}
use Rattle.smb_request.specs.Laws.{IsInOrder, AllMayOnlyRead}
use Rattle.smb_request.specs.Owners.{AreOwned}
use Rattle.smb_request.specs.State.{ServerState, connection_added, connection_ended}
use Rattle.smb_request.proofs.Alone.{leaves_start, leaves_end}
use Rattle.smb_request.proofs.Apart.{request_order}
use Rattle.smb_request.proofs.Numbers.{order_good}
use Rattle.smb_request.proofs.Owners.{owned_connected}
use Rattle.smb_request.proofs.Readers.{request_reads, end_reads}
use Rattle.smb_engine.specs.declared.connection.Connection.{Connection}
use Rattle.smb_engine.specs.declared.fault.ServeFault.{ServeFault}
use Rattle.smb_engine.specs.State.{StreamState, ShareState, stream_of}
use Rattle.smb_engine.specs.Parts.{added_payloads, chain_begun, and_then, settled, framed_chain, all_performed, refused_step, first_negotiate, refused_at_once, then_ran, AreReadersRequests}
use Rattle.smb_engine.specs.Run.{PerformedRequest, ChainState, one_performed, requests_of_chain, admitted, Step, smb1_step, chain_step, payload_step, payload_steps, piece_step, EventStep, bytes_step, event_step, event_refusal, Ran, run}
use Rattle.smb_engine.specs.Good.{GoodState}
use Rattle.smb_engine.specs.Laws.{AreOfReaders}
use Rattle.smb_peers.specs.Event.{EventText, opens, brings, ends, connection_of}
use Rattle.smb_engine.proofs.Streams.{arrived, bytes_step-none, bytes_step-some}
use Rattle.smb_engine.proofs.Chains.{server-one_performed, first-server}

-- a property of all of two lists is one of all of each
all_parts : {X : Type 0} (P : X → Type 0) (xs ys : List X) → AllByRecursion P (xs ++ ys) → AllByRecursion P xs × AllByRecursion P ys
all_parts P [] ys all = (tt, all)
all_parts P (x ∷ xs) ys all = let rest = all_parts P xs ys all.1 in ((all.0, rest.0), rest.1)

module _ {S : Type 0} (m : Meaning S) where
  -- the numbers are in order, and each open is owned
  record IsHeld (server : ServerState S) : Type 0 where
    order : IsInOrder server
    owned : AreOwned server.sessions.table server.store.opens

  -- no file is changed, and what is held is kept
  record Reads (before after : ServerState S) : Type 0 where
    files : LeavesFiles before.store after.store
    held : IsHeld after

  reads_same : (server : ServerState S) → IsHeld server → Reads server server
  reads_same server held = record { files = leaves_files_refl server.store; held = held }

  reads_then : (one two three : ServerState S) → Reads one two → (IsHeld two → Reads two three) → Reads one three
  reads_then one two three first second =
      let later = second first.held in
      record { files = leaves_files_trans one.store two.store three.store first.files later.files; held = later.held }

  -- the end of a connection
  reads_end : (server : ServerState S) (n : ℕ) → IsHeld server → Reads server (connection_ended server n)
  reads_end server n held =
      let changes = end_reads server n held.order held.owned in
      record { files = changes.files; held = record { order = (leaves_end (λ n session. ⊥) (λ x. true) n refl server held.order).order; owned = changes.owned } }

  reads_start : (server : ServerState S) (n : ℕ) → IsHeld server → Reads server (connection_added server n)
  reads_start server n held = record {
    files = leaves_files_refl server.store;
    held = record { order = (leaves_start (λ n session. ⊥) (λ x. true) server n held.order).order; owned = owned_connected server.sessions.table n server.store.opens held.owned };
  }

  module _ (n : ℕ) (moment : ℕ) where
    abbrev AreReads : List (PerformedRequest S) → Type 0
    AreReads requests = AreReadersRequests n requests

    -- the requests of a chain
    one_reads : (chain : ChainState S) (request : List ℕ) → IsHeld chain.server → AllMayOnlyRead chain.server.sessions.table n → Reads chain.server (one_performed m (arrived n moment) chain request).server
    one_reads chain request held all =
        let changes = request_reads m n moment chain.server chain.connection.dialect chain.context request held.order held.owned all in
        subst (λ (after : ServerState S). Reads chain.server after) (sym (server-one_performed m (arrived n moment) chain request)) (record {
          files = changes.files;
          held = record { order = request_order m n moment chain.server chain.connection.dialect chain.context request held.order; owned = changes.owned };
        })

    all_reads : (chain : ChainState S) (requests : List (List ℕ)) → IsHeld chain.server → AreReads (requests_of_chain m (arrived n moment) chain requests) → Reads chain.server (all_performed m (arrived n moment) chain requests).server
    all_reads chain [] held all = reads_same chain.server held
    all_reads chain (request ∷ requests) held all =
        let next = one_performed m (arrived n moment) chain request in
        reads_then chain.server next.server (all_performed m (arrived n moment) next requests).server (one_reads chain request held all.0) (λ after. all_reads next requests after all.1)

    module _ (server : ServerState S) (connection : Connection) (held : IsHeld server) where
      chain_at : (requests : Option (List (List ℕ))) →
          (let step : Step S = option_map_or (λ requests. framed_chain m (arrived n moment) (chain_begun server connection requests) requests) requests (refused_step server connection) in AreReads step.requests → Reads server step.server)
      chain_at None = λ all. reads_same server held
      chain_at (Some requests) = λ all. all_reads (chain_begun server connection requests) requests held all

      chain_reads : (payload : List ℕ) → AreReads (chain_step m (arrived n moment) server connection payload).requests → Reads server (chain_step m (arrived n moment) server connection payload).server
      unfolding chain_step
      chain_reads payload all = chain_at (admitted connection payload) all

      -- a payload
      payload_at : (payload : List ℕ) (first : Option Smb1Dialects) →
          (let step : Step S = option_map_or (smb1_step m (arrived n moment) server connection) first (chain_step m (arrived n moment) server connection payload) in AreReads step.requests → Reads server step.server)
      payload_at payload None = λ all. chain_reads payload all
      payload_at payload (Some dialects) = λ all. subst (λ (after : ServerState S). Reads server after) (sym (first-server m (arrived n moment) server connection dialects)) (reads_same server held)

      payload_reads : (payload : List ℕ) → AreReads (payload_step m (arrived n moment) server connection payload).requests → Reads server (payload_step m (arrived n moment) server connection payload).server
      unfolding payload_step
      payload_reads payload all = payload_at payload (first_negotiate connection payload) all

    -- the payloads of a piece
    steps_at : (server : ServerState S) (step : Step S) (others : ServerState S → Connection → Step S) (b : Bool) → step.stays_open ≡ b → (AreReads step.requests → Reads server step.server) →
        (IsHeld step.server → AreReads (others step.server step.connection).requests → Reads step.server (others step.server step.connection).server) → AreReads (and_then others step).requests → Reads server (and_then others step).server
    steps_at server step others true e one rest all =
        let parts = all_parts (λ came. AllMayOnlyRead came.before.sessions.table n) step.requests (others step.server step.connection).requests (rw e at all) in
        rw e (reads_then server step.server (others step.server step.connection).server (one parts.0) (λ held. rest held parts.1))
    steps_at server step others false e one rest all = rw e (one (rw e at all))

    steps_read : (server : ServerState S) (connection : Connection) (payloads : List (List ℕ)) → IsHeld server → AreReads (payload_steps m (arrived n moment) server connection payloads).requests → Reads server (payload_steps m (arrived n moment) server connection payloads).server
    steps_read server connection [] held all = reads_same server held
    steps_read server connection (payload ∷ payloads) held all =
        let step = payload_step m (arrived n moment) server connection payload in
        steps_at server step (λ s c. payload_steps m (arrived n moment) s c payloads) step.stays_open refl (payload_reads server connection held payload) (λ held all. steps_read step.server step.connection payloads held all) all

    piece_reads : (server : ServerState S) (stream : StreamState) (piece : List ℕ) → IsHeld server → AreReads (piece_step m (arrived n moment) server stream piece).requests → Reads server (piece_step m (arrived n moment) server stream piece).server
    unfolding piece_step
    piece_reads server stream piece held all = steps_read server stream.connection (added_payloads stream.received piece) held all

    -- and the connection's end, where the piece ends it
    settled_reads : (s : ShareState S) (received : List ℕ) (step : Step S) (b : Bool) → step.stays_open ≡ b → Reads s.server step.server → Reads s.server (settled s n received step).state.server
    settled_reads s received step true e h = rw e h
    settled_reads s received step false e h = rw e (reads_then s.server step.server (connection_ended step.server n) h (reads_end step.server n))

    bytes_read : (s : ShareState S) (piece : List ℕ) (stream : Option StreamState) → stream_of n s.streams ≡ stream → IsHeld s.server → AreReads (bytes_step m s n moment piece).requests → Reads s.server (bytes_step m s n moment piece).state.server
    bytes_read s piece None e held all = rw (bytes_step-none m s n moment piece e) (reads_same s.server held)
    bytes_read s piece (Some stream) e held all =
        rw (bytes_step-some m s n moment piece stream e)
        (settled_reads s (stream.received ++ piece) (piece_step m (arrived n moment) s.server stream piece) _ refl (piece_reads s.server stream piece held (rw (bytes_step-some m s n moment piece stream e) at all)))

  -- an event
  event_reads : (s : ShareState S) (event : EventText) → IsHeld s.server → AreReadersRequests (connection_of event) (event_step m s event).requests → Reads s.server (event_step m s event).state.server
  event_reads s (opens n) held all = reads_start s.server s.next held
  event_reads s (brings n moment piece) held all = bytes_read n moment s piece (stream_of n s.streams) refl held all
  event_reads s (ends n) held all = reads_end s.server n held

  -- a run
  run_at : (s : ShareState S) (step : EventStep S) (ran : Ran S) (refusal : Option ServeFault) → IsHeld s.server → (refusal ≡ None → Reads s.server ran.state.server) →
      Reads s.server (option_map_or (refused_at_once s) refusal (then_ran step ran)).state.server
  run_at s step ran None held h = h refl
  run_at s step ran (Some why) held h = reads_same s.server held

  run_reads : (s : ShareState S) (events : List EventText) → IsHeld s.server → AreOfReaders m s events → Reads s.server (run m s events).state.server
  run_reads s [] held all = reads_same s.server held
  run_reads s (event ∷ events) held all =
      let step = event_step m s event in
      let ran = run m step.state events in
      run_at s step ran (event_refusal s event) held
      (λ unrefused. let both = all unrefused in reads_then s.server step.state.server ran.state.server (event_reads s event held both.0) (λ after. run_reads step.state events after both.1))

  pub reader_changes_no_file : (s : ShareState S) (events : List EventText) → GoodState s → AreOfReaders m s events → LeavesFiles s.server.store (run m s events).state.server.store
  reader_changes_no_file s events good all =
      (run_reads s events (record { order = order_good s.server.sessions.table s.server.store good.sessions good.store; owned = good.owned }) all).files
