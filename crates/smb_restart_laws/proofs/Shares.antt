-- What is held of a share, each event keeps.
use Rattle.std.proofs.Common.{◌≡◌, ◌==◌, ℕ, ◌<◌, Bool, true, false, not, List, [], ◌∷◌, ◌++◌, filter, map, Option, None, Some, refl, sym, ap, subst, ◌∙◌}
use Rattle.std.specs.List.{AllByRecursion}
use Rattle.std.specs.BTreeMap.{is_at, insert_entry}
use Rattle.std.specs.Map.{remove_entry}
use Rattle.std.specs.Ordering.{nat_cmp}
use Rattle.std.specs.Option.{option_map_or}
use Rattle.smb_session.specs.Authenticator.{Meaning}
use Rattle.smb_session.specs.Numbers.{contains, with_number, without_number}
use Rattle.smb_session.specs.Session.{SessionState}
use Rattle.smb_session.specs.Table.{TableState, connected, numbers_on}
use Rattle.smb_session.proofs.Numbers.{contains-with, contains-without}
use Rattle.smb_body.specs.declared.smb1.Smb1Dialects.{Smb1Dialects}
use Rattle.smb_opens.specs.Good.{GoodStore}
use Rattle.smb_opens.specs.State.{StoreState}
use Rattle.smb_opens.specs.Close.{closed}
use Rattle.smb_request.specs.Laws.{IsInOrder}
use Rattle.smb_request.specs.Settings.{is_lawful}
use Rattle.smb_request.specs.State.{ServerState, connection_added, connection_ended}
use Rattle.smb_request.proofs.Alone.{leaves_start, leaves_end}
use Rattle.smb_request.proofs.Apart.{request_order}
use Rattle.smb_request.proofs.Configured.{closed_kept}
use Rattle.smb_request.proofs.Numbers.{order_good}
use Rattle.smb_request.proofs.Owners.{owned_connected}
use Rattle.smb_request.proofs.Readers.{end_reads}
use Rattle.smb_engine.specs.declared.connection.Connection.{Connection}
use Rattle.smb_engine.specs.declared.fault.ServeFault.{ServeFault}
use Rattle.smb_engine.specs.State.{StreamState, ShareState, stream_of, new_stream, opened, ended}
use Rattle.smb_engine.specs.Parts.{added_payloads, chain_begun, and_then, settled, framed_chain, all_performed, refused_step, first_negotiate, refused_at_once, then_ran}
use Rattle.smb_engine.specs.Run.{ChainState, one_performed, admitted, Step, smb1_step, chain_step, payload_step, payload_steps, piece_step, EventStep, bytes_step, event_step, event_refusal, Ran, run}
use Rattle.smb_engine.specs.Good.{GoodState}
use Rattle.smb_peers.specs.Event.{EventText, opens, brings, ends}
use Rattle.smb_engine.specs.Laws.{StreamsInOrder}
use Rattle.smb_engine.proofs.Chains.{server-one_performed, first-server}
use Rattle.smb_engine.proofs.Kept.{numbers-set, numbers-remove, numbers-insert, not_among}
use Rattle.smb_engine.proofs.Order.{good_in_order, order_step}
use Rattle.smb_engine.proofs.Streams.{arrived, bytes_step-none, bytes_step-some}
use Rattle.smb_wire.specs.Limits.{most_in_any_dialect}
use Rattle.smb_opens.specs.Steps.{StoreStep}
use Rattle.smb_content_laws.proofs.GoodSteps.{steps_good}
use Rattle.smb_run_laws.specs.Actions.{IsLeftBy}
use Rattle.smb_run_laws.proofs.Requests.{request_left}
use Rattle.smb_run_laws.proofs.Leading.{Steps, left_steps}
use Rattle.smb_restart_laws.proofs.Closes.{with_keeps, good_close}
use Rattle.smb_restart_laws.proofs.Requests.{IsTableHeld, IsServerHeld, Keeps, request_keeps}

abbrev pub numbers : List (ℕ × StreamState) → List ℕ
numbers streams = map (λ entry. entry.0) streams

-- a server that is held, and in order
pub record IsSound {S : Type 0} (server : ServerState S) : Type 0 where
  pub order : IsInOrder server
  pub held : IsServerHeld server
  pub store : GoodStore server.store

-- one step after another
record Goes {S : Type 0} (before after : ServerState S) : Type 0 where
  kept : Keeps before after
  order : IsInOrder after
  store : GoodStore after.store

sound_then : {S : Type 0} (one two : ServerState S) → Goes one two → IsSound two
sound_then one two g = record { order = g.order; held = g.kept.held; store = g.store }

goes_same : {S : Type 0} (server : ServerState S) → IsSound server → Goes server server
goes_same server sound = record { kept = record { settings = refl; share = refl; room = refl; connections = refl; held = sound.held }; order = sound.order; store = sound.store }

goes_then : {S : Type 0} (one two three : ServerState S) → Goes one two → (IsSound two → Goes two three) → Goes one three
goes_then one two three first second =
    let later = second (sound_then one two first) in
    record {
      kept = record {
        settings = later.kept.settings ∙ first.kept.settings;
        share = later.kept.share ∙ first.kept.share;
        room = later.kept.room ∙ first.kept.room;
        connections = later.kept.connections ∙ first.kept.connections;
        held = later.kept.held;
      };
      order = later.order;
      store = later.store;
    }

-- a store stays good by the step of a request
left_good : (asks : StoreStep → Type 0) (is_answered : Type 0) (one two : StoreState) → IsLeftBy asks is_answered one two → GoodStore one → GoodStore two
left_good asks is_answered one two left good =
    let it = left_steps asks is_answered one two left in
    subst GoodStore it.leads (steps_good most_in_any_dialect one it.steps good it.succeed)

module _ {S : Type 0} (m : Meaning S) (n : ℕ) (moment : ℕ) where
  -- the requests of a chain
  one_goes : (chain : ChainState S) (request : List ℕ) → IsSound chain.server → Goes chain.server (one_performed m (arrived n moment) chain request).server
  one_goes chain request sound =
      subst (λ (after : ServerState S). Goes chain.server after) (sym (server-one_performed m (arrived n moment) chain request)) (record {
        kept = request_keeps m n moment chain.server chain.connection.dialect chain.context request sound.order sound.held;
        order = request_order m n moment chain.server chain.connection.dialect chain.context request sound.order;
        store = left_good _ _ _ _ (request_left m n moment chain.server chain.connection.dialect chain.context request) sound.store;
      })

  all_go : (chain : ChainState S) (requests : List (List ℕ)) → IsSound chain.server → Goes chain.server (all_performed m (arrived n moment) chain requests).server
  all_go chain [] sound = goes_same chain.server sound
  all_go chain (request ∷ requests) sound =
      let next = one_performed m (arrived n moment) chain request in
      goes_then chain.server next.server (all_performed m (arrived n moment) next requests).server (one_goes chain request sound) (λ after. all_go next requests after)

  module _ (server : ServerState S) (connection : Connection) (sound : IsSound server) where
    chain_at : (requests : Option (List (List ℕ))) →
        (let step : Step S = option_map_or (λ requests. framed_chain m (arrived n moment) (chain_begun server connection requests) requests) requests (refused_step server connection) in Goes server step.server)
    chain_at None = goes_same server sound
    chain_at (Some requests) = all_go (chain_begun server connection requests) requests sound

    chain_goes : (payload : List ℕ) → Goes server (chain_step m (arrived n moment) server connection payload).server
    unfolding chain_step
    chain_goes payload = chain_at (admitted connection payload)

    -- a payload
    payload_at : (payload : List ℕ) (first : Option Smb1Dialects) →
        (let step : Step S = option_map_or (smb1_step m (arrived n moment) server connection) first (chain_step m (arrived n moment) server connection payload) in Goes server step.server)
    payload_at payload None = chain_goes payload
    payload_at payload (Some dialects) = subst (λ (after : ServerState S). Goes server after) (sym (first-server m (arrived n moment) server connection dialects)) (goes_same server sound)

    payload_goes : (payload : List ℕ) → Goes server (payload_step m (arrived n moment) server connection payload).server
    unfolding payload_step
    payload_goes payload = payload_at payload (first_negotiate connection payload)

  -- the payloads of a piece
  steps_at : (server : ServerState S) (step : Step S) (others : ServerState S → Connection → Step S) (b : Bool) → step.stays_open ≡ b → Goes server step.server →
      (IsSound step.server → Goes step.server (others step.server step.connection).server) → Goes server (and_then others step).server
  steps_at server step others true e one rest = rw e (goes_then server step.server (others step.server step.connection).server one rest)
  steps_at server step others false e one rest = rw e one

  steps_go : (server : ServerState S) (connection : Connection) (payloads : List (List ℕ)) → IsSound server → Goes server (payload_steps m (arrived n moment) server connection payloads).server
  steps_go server connection [] sound = goes_same server sound
  steps_go server connection (payload ∷ payloads) sound =
      let step = payload_step m (arrived n moment) server connection payload in
      steps_at server step (λ s c. payload_steps m (arrived n moment) s c payloads) step.stays_open refl (payload_goes server connection sound payload) (λ after. steps_go step.server step.connection payloads after)

  piece_goes : (server : ServerState S) (stream : StreamState) (piece : List ℕ) → IsSound server → Goes server (piece_step m (arrived n moment) server stream piece).server
  unfolding piece_step
  piece_goes server stream piece sound = steps_go server stream.connection (added_payloads stream.received piece) sound

-- what is held of a share: its server, the configuration, and that the connections that are open are known
pub record IsShareHeld {S : Type 0} (s : ShareState S) : Type 0 where
  pub streams : StreamsInOrder s
  pub sound : IsSound s.server
  pub lawful : is_lawful s.server.settings ≡ true
  pub named : s.server.sessions.share ≡ s.server.settings.share
  pub room : s.server.store.tree.capacity ≡ s.server.settings.capacity
  pub limits : s.server.store.tree.limits ≡ s.server.settings.limits
  pub known : s.server.sessions.table.connections ≡ numbers s.streams

pub good_held : {S : Type 0} (s : ShareState S) → GoodState s → IsShareHeld s
good_held s good = record {
  streams = good_in_order s good;
  sound = record {
    order = order_good s.server.sessions.table s.server.store good.sessions good.store;
    held = record { table = record { next = good.sessions.next; known = good.sessions.known }; owned = good.owned };
    store = good.store;
  };
  lawful = good.lawful;
  named = good.named;
  room = good.room;
  limits = good.limits;
  known = good.known;
}

-- the end of a connection
known_at : (known : List ℕ) (c : ℕ) (e : ℕ × SessionState) (es : List (ℕ × SessionState)) (b : Bool) → (e.1.connection == c) ≡ b → contains known e.1.connection ≡ true →
    AllByRecursion (λ e. contains (without_number known c) e.1.connection ≡ true) (filter (λ e. not (e.1.connection == c)) es) →
    AllByRecursion (λ e. contains (without_number known c) e.1.connection ≡ true) (filter (λ e. not (e.1.connection == c)) (e ∷ es))
known_at known c e es true t h rest = rw t rest
known_at known c e es false t h rest = rw t (contains-without known c e.1.connection t h, rest)

known_without : (known : List ℕ) (c : ℕ) (es : List (ℕ × SessionState)) → AllByRecursion (λ e. contains known e.1.connection ≡ true) es →
    AllByRecursion (λ e. contains (without_number known c) e.1.connection ≡ true) (filter (λ e. not (e.1.connection == c)) es)
known_without known c [] h = tt
known_without known c (e ∷ es) h = known_at known c e es (e.1.connection == c) refl h.0 (known_without known c es h.1)

pub store_keeps : {S : Type 0} (P : StoreState → Type 0) → ((state : StoreState) (number : ℕ) → P state → P (closed state number)) → (server : ServerState S) (n : ℕ) → P server.store → P (connection_ended server n).store
unfolding connection_ended
store_keeps P keeps server n h = with_keeps P keeps (numbers_on server.sessions.table.sessions n) server.store h

sound_ended : {S : Type 0} (server : ServerState S) (n : ℕ) → IsSound server → IsSound (connection_ended server n)
unfolding connection_ended
sound_ended server n sound = record {
  order = (leaves_end (λ n session. ⊥) (λ x. true) n refl server sound.order).order;
  held = record {
    table = record { next = sound.held.table.next; known = known_without server.sessions.table.connections n server.sessions.table.sessions sound.held.table.known };
    owned = (end_reads server n sound.order sound.held.owned).owned;
  };
  store = store_keeps GoodStore good_close server n sound.store;
}

held_ended_by : {S : Type 0} (s t : ShareState S) (n : ℕ) → t.server ≡ connection_ended s.server n → t.streams ≡ remove_entry (is_at (nat_cmp n)) s.streams → StreamsInOrder t → IsShareHeld s → IsShareHeld t
unfolding connection_ended
held_ended_by s t n e f order held =
    let room = store_keeps (λ state. state.tree.capacity ≡ s.server.settings.capacity) (λ state number h. ap (λ r. r.0) (closed_kept state number) ∙ h) s.server n held.room in
    let limits = store_keeps (λ state. state.tree.limits ≡ s.server.settings.limits) (λ state number h. ap (λ r. r.1) (closed_kept state number) ∙ h) s.server n held.limits in
    record {
      streams = order;
      sound = subst IsSound (sym e) (sound_ended s.server n held.sound);
      lawful = rw e held.lawful;
      named = rw e held.named;
      room = rw e room;
      limits = rw e limits;
      known = rw (e, f) (ap (λ ns. without_number ns n) held.known ∙ sym (numbers-remove n s.streams held.streams.rising));
    }

-- the opening of one
known_with : (known : List ℕ) (n : ℕ) (es : List (ℕ × SessionState)) → AllByRecursion (λ e. contains known e.1.connection ≡ true) es → AllByRecursion (λ e. contains (with_number known n) e.1.connection ≡ true) es
known_with known n [] h = tt
known_with known n (e ∷ es) h = (contains-with known n e.1.connection h.0, known_with known n es h.1)

table_connected : (table : TableState) (n : ℕ) (b : Bool) → contains table.connections n ≡ b → IsTableHeld table → IsTableHeld (connected table n)
table_connected table n true t h = rw t h
table_connected table n false t h = rw t (record { next = h.next; known = known_with table.connections n table.sessions h.known })

sound_added : {S : Type 0} (server : ServerState S) (n : ℕ) → IsSound server → IsSound (connection_added server n)
sound_added server n sound = record {
  order = (leaves_start (λ n session. ⊥) (λ x. true) server n sound.order).order;
  held = record {
    table = table_connected server.sessions.table n (contains server.sessions.table.connections n) refl sound.held.table;
    owned = owned_connected server.sessions.table n server.store.opens sound.held.owned;
  };
  store = sound.store;
}

connected-insert : (table : TableState) (streams : List (ℕ × StreamState)) (next : ℕ) → table.connections ≡ numbers streams → AllByRecursion (λ e. e.0 < next) streams →
    (connected table next).connections ≡ numbers (insert_entry nat_cmp streams next new_stream)
connected-insert table streams next k a =
    let t : contains table.connections next ≡ false = rw k (not_among next streams a) in
    rw t (rw k (numbers-insert next new_stream streams a))

held_opened : {S : Type 0} (s : ShareState S) → StreamsInOrder (opened s) → IsShareHeld s → IsShareHeld (opened s)
held_opened s order held = record {
  streams = order;
  sound = sound_added s.server s.next held.sound;
  lawful = held.lawful;
  named = held.named;
  room = held.room;
  limits = held.limits;
  known = connected-insert s.server.sessions.table s.streams s.next held.known held.streams.given;
}

module _ {S : Type 0} (m : Meaning S) where
  -- a piece
  held_with : (s : ShareState S) (server : ServerState S) → Goes s.server server → IsShareHeld s → IsShareHeld (record s { server = server })
  held_with s server g held = record {
    streams = record { rising = held.streams.rising; given = held.streams.given };
    sound = sound_then s.server server g;
    lawful = rw g.kept.settings held.lawful;
    named = g.kept.share ∙ held.named ∙ ap (λ t. t.share) (sym g.kept.settings);
    room = ap (λ r. r.0) g.kept.room ∙ held.room ∙ ap (λ t. t.capacity) (sym g.kept.settings);
    limits = ap (λ r. r.1) g.kept.room ∙ held.limits ∙ ap (λ t. t.limits) (sym g.kept.settings);
    known = g.kept.connections ∙ held.known;
  }

  settled_at : (s : ShareState S) (n : ℕ) (received : List ℕ) (step : Step S) (b : Bool) → step.stays_open ≡ b → Goes s.server step.server → StreamsInOrder (settled s n received step).state → IsShareHeld s → IsShareHeld (settled s n received step).state
  settled_at s n received step true t g order held =
      let with_server = held_with s step.server g held in
      let order' = rw t at order in
      rw t (record {
        streams = order';
        sound = with_server.sound;
        lawful = with_server.lawful;
        named = with_server.named;
        room = with_server.room;
        limits = with_server.limits;
        known = with_server.known ∙ sym (numbers-set (is_at (nat_cmp n)) s.streams (record { received = received; connection = step.connection }));
      })
  settled_at s n received step false t g order held =
      let order' = rw t at order in
      let server : ShareState S = record s { server = step.server } in
      rw t (held_ended_by server (ended server n) n refl refl order' (held_with s step.server g held))

  bytes_at : (s : ShareState S) (n moment : ℕ) (piece : List ℕ) (o : Option StreamState) → stream_of n s.streams ≡ o → StreamsInOrder (bytes_step m s n moment piece).state → IsShareHeld s → IsShareHeld (bytes_step m s n moment piece).state
  bytes_at s n moment piece None e order held = rw (bytes_step-none m s n moment piece e) held
  bytes_at s n moment piece (Some stream) e order held =
      let order' = rw (bytes_step-some m s n moment piece stream e) at order in
      rw (bytes_step-some m s n moment piece stream e)
      (settled_at s n (stream.received ++ piece) (piece_step m (arrived n moment) s.server stream piece) _ refl (piece_goes m n moment s.server stream piece held.sound) order' held)

  held_step : (s : ShareState S) (event : EventText) → StreamsInOrder (event_step m s event).state → IsShareHeld s → IsShareHeld (event_step m s event).state
  held_step s (opens n) order held = held_opened s order held
  held_step s (brings n moment piece) order held = bytes_at s n moment piece (stream_of n s.streams) refl order held
  held_step s (ends n) order held = held_ended_by s (ended s n) n refl refl order held

  -- a run
  run_at : (s : ShareState S) (step : EventStep S) (ran : Ran S) (o : Option ServeFault) → IsShareHeld s → IsShareHeld ran.state → IsShareHeld (option_map_or (refused_at_once s) o (then_ran step ran)).state
  run_at s step ran None held rest = rest
  run_at s step ran (Some why) held rest = held

  pub run_held : (s : ShareState S) (events : List EventText) → IsShareHeld s → IsShareHeld (run m s events).state
  run_held s [] held = held
  run_held s (event ∷ events) held =
      let step = event_step m s event in
      run_at s step (run m step.state events) (event_refusal s event) held (run_held step.state events (held_step s event (order_step m s event held.streams) held))
