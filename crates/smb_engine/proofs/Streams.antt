-- Connections by their number.
use Rattle.std.proofs.Common.{◌≡◌, ℕ, suc, ◌+◌, ◌≤◌, Bool, true, false, List, [], ◌∷◌, ◌++◌, length, map, None, Some, refl, sym, ap, ◌∙◌, arith}
use Rattle.std.specs.List.{flat_map, AllByRecursion}
use Rattle.std.specs.Option.{option_map}
use Rattle.std.specs.Map.{lookup, set_value, remove_entry}
use Rattle.std.specs.BTreeMap.{is_at, insert_entry}
use Rattle.std.specs.Ordering.{nat_cmp}
use Rattle.std.specs.declared.cmp.Ordering.{Ordering}
use Rattle.std.specs.declared.cmp.Ordering.TheVariants.{Less, Equal, Greater}
use Rattle.std.proofs.lemmas.List.{append-nil}
use Rattle.smb_wire.specs.Limits.{longest_payload}
use Rattle.smb_frame.proofs.Streams.{rest-none}
use Rattle.smb_session.specs.Authenticator.{Meaning}
use Rattle.smb_request.specs.State.{ServerState, connection_ended}
use Rattle.smb_engine.specs.declared.arrival.Arrival.{Arrival}
use Rattle.smb_engine.specs.State.{StreamState, ShareState, stream_of}
use Rattle.smb_engine.specs.Parts.{with_stream, without_stream, settled, unread_stream, unread_entry, quiet_step, server_after}
use Rattle.smb_engine.specs.Stream.{unread}
use Rattle.smb_peers.specs.Event.{brings}
use Rattle.smb_engine.specs.Run.{piece_step, bytes_step}
use Rattle.smb_engine.specs.Refusals.{EventOutOfMemory}
use Rattle.smb_engine.specs.Held.{Waits, AllWait, IsPieceHeld}
use Rattle.smb_engine.specs.Output.{Output}
use Rattle.smb_engine.specs.Sink.{Heard}

-- the arrival of a piece on a connection at a moment
abbrev pub arrived : ℕ → ℕ → Arrival
arrived connection moment = record { connection_id = connection; moment = moment }

module _ (P : ℕ × StreamState → Type 0) where
  set_at : (test : ℕ → Bool) (e : ℕ × StreamState) (es : List (ℕ × StreamState)) (new : StreamState) (b : Bool) → test e.0 ≡ b → P (e.0, new) → P e → AllByRecursion P es →
      AllByRecursion P (set_value test es new) → AllByRecursion P (set_value test (e ∷ es) new)
  set_at test e es new true t n w ws ih = rw t (n, ws)
  set_at test e es new false t n w ws ih = rw t (w, ih)

  pub all_set : (test : ℕ → Bool) (es : List (ℕ × StreamState)) (new : StreamState) → ((e : ℕ × StreamState) → P e → P (e.0, new)) → AllByRecursion P es → AllByRecursion P (set_value test es new)
  all_set test [] new step w = w
  all_set test (e ∷ es) new step w = set_at test e es new (test e.0) refl (step e w.0) w.0 w.1 (all_set test es new step w.1)

  remove_at : (test : ℕ → Bool) (e : ℕ × StreamState) (es : List (ℕ × StreamState)) (b : Bool) → test e.0 ≡ b → P e → AllByRecursion P es → AllByRecursion P (remove_entry test es) → AllByRecursion P (remove_entry test (e ∷ es))
  remove_at test e es true t w ws ih = rw t ws
  remove_at test e es false t w ws ih = rw t (w, ih)

  pub all_remove : (test : ℕ → Bool) (es : List (ℕ × StreamState)) → AllByRecursion P es → AllByRecursion P (remove_entry test es)
  all_remove test [] w = w
  all_remove test (e ∷ es) w = remove_at test e es (test e.0) refl w.0 w.1 (all_remove test es w.1)

  insert_at : (n : ℕ) (new : StreamState) (e : ℕ × StreamState) (es : List (ℕ × StreamState)) (o : Ordering) → nat_cmp n e.0 ≡ o → P (n, new) → P (e.0, new) → P e → AllByRecursion P es →
      AllByRecursion P (insert_entry nat_cmp es n new) → AllByRecursion P (insert_entry nat_cmp (e ∷ es) n new)
  insert_at n new e es Less t v v' w ws ih = rw t (v, (w, ws))
  insert_at n new e es Equal t v v' w ws ih = rw t (v', ws)
  insert_at n new e es Greater t v v' w ws ih = rw t (w, ih)

  pub all_insert : (n : ℕ) (new : StreamState) (es : List (ℕ × StreamState)) → P (n, new) → ((e : ℕ × StreamState) → P e → P (e.0, new)) → AllByRecursion P es → AllByRecursion P (insert_entry nat_cmp es n new)
  all_insert n new [] v step w = (v, tt)
  all_insert n new (e ∷ es) v step w = insert_at n new e es (nat_cmp n e.0) refl v (step e w.0) w.0 w.1 (all_insert n new es v step w.1)

waits_at : (test : ℕ → Bool) (e : ℕ × StreamState) (es : List (ℕ × StreamState)) (stream : StreamState) (b : Bool) → test e.0 ≡ b → Waits e.1 → (lookup test es ≡ Some stream → Waits stream) → lookup test (e ∷ es) ≡ Some stream → Waits stream
waits_at test e es stream true t w ih h = let same : e.1 ≡ stream = cc in rw (← same) w
waits_at test e es stream false t w ih h = ih (rw t at h)

-- a connection that is found waits
pub waits_found : (test : ℕ → Bool) (es : List (ℕ × StreamState)) (stream : StreamState) → AllWait es → lookup test es ≡ Some stream → Waits stream
waits_found test [] stream w h = cc
waits_found test (e ∷ es) stream w h = waits_at test e es stream (test e.0) refl w.0 (waits_found test es stream w.1) h

-- lengths
length-set_at : (test : ℕ → Bool) (e : ℕ × StreamState) (es : List (ℕ × StreamState)) (new : StreamState) (b : Bool) → test e.0 ≡ b → length (set_value test es new) ≡ length es → length (set_value test (e ∷ es) new) ≡ suc (length es)
length-set_at test e es new true t ih = rw t refl
length-set_at test e es new false t ih = rw t (ap suc ih)

pub length-set_value : (test : ℕ → Bool) (es : List (ℕ × StreamState)) (new : StreamState) → length (set_value test es new) ≡ length es
length-set_value test [] new = refl
length-set_value test (e ∷ es) new = length-set_at test e es new (test e.0) refl (length-set_value test es new)

length-remove_at : (test : ℕ → Bool) (e : ℕ × StreamState) (es : List (ℕ × StreamState)) (b : Bool) → test e.0 ≡ b → length (remove_entry test es) ≤ length es → length (remove_entry test (e ∷ es)) ≤ suc (length es)
length-remove_at test e es true t ih = rw t (omega arith)
length-remove_at test e es false t ih = rw t (omega arith)

pub length-remove_entry : (test : ℕ → Bool) (es : List (ℕ × StreamState)) → length (remove_entry test es) ≤ length es
length-remove_entry test [] = omega arith
length-remove_entry test (e ∷ es) = length-remove_at test e es (test e.0) refl (length-remove_entry test es)

length-insert_at : (n : ℕ) (new : StreamState) (e : ℕ × StreamState) (es : List (ℕ × StreamState)) (o : Ordering) → nat_cmp n e.0 ≡ o → length (insert_entry nat_cmp es n new) ≤ length es + 1 → length (insert_entry nat_cmp (e ∷ es) n new) ≤ suc (length es) + 1
length-insert_at n new e es Less t ih = rw t (omega arith)
length-insert_at n new e es Equal t ih = rw t (omega arith)
length-insert_at n new e es Greater t ih = rw t (omega arith)

pub length-insert_entry : (n : ℕ) (new : StreamState) (es : List (ℕ × StreamState)) → length (insert_entry nat_cmp es n new) ≤ length es + 1
length-insert_entry n new [] = omega arith
length-insert_entry n new (e ∷ es) = length-insert_at n new e es (nat_cmp n e.0) refl (length-insert_entry n new es)

-- what waits is its own rest
pub unread-waits : (streams : List (ℕ × StreamState)) → AllWait streams → map unread_entry streams ≡ streams
unread-waits [] w = refl
unread-waits (e ∷ streams) w = rw (rest-none longest_payload e.1.received w.0.partial, unread-waits streams w.1) refl

pub same_unread : {S : Type 0} (s : ShareState S) → AllWait s.streams → s ≡ unread s
same_unread s w = ap (λ t. record s { streams = t }) (sym (unread-waits s.streams w))

-- reading rests, and connections by their number
with_at : (test : ℕ → Bool) (new : StreamState) (e : ℕ × StreamState) (es : List (ℕ × StreamState)) (b : Bool) → test e.0 ≡ b → map unread_entry (set_value test es new) ≡ set_value test (map unread_entry es) (unread_stream new) →
    map unread_entry (set_value test (e ∷ es) new) ≡ set_value test (map unread_entry (e ∷ es)) (unread_stream new)
with_at test new e es true t ih = rw t refl
with_at test new e es false t ih = rw t (ap (λ x. unread_entry e ∷ x) ih)

pub unread-with : (test : ℕ → Bool) (new : StreamState) (es : List (ℕ × StreamState)) → map unread_entry (set_value test es new) ≡ set_value test (map unread_entry es) (unread_stream new)
unread-with test new [] = refl
unread-with test new (e ∷ es) = with_at test new e es (test e.0) refl (unread-with test new es)

without_at : (test : ℕ → Bool) (e : ℕ × StreamState) (es : List (ℕ × StreamState)) (b : Bool) → test e.0 ≡ b → map unread_entry (remove_entry test es) ≡ remove_entry test (map unread_entry es) →
    map unread_entry (remove_entry test (e ∷ es)) ≡ remove_entry test (map unread_entry (e ∷ es))
without_at test e es true t ih = rw t refl
without_at test e es false t ih = rw t (ap (λ x. unread_entry e ∷ x) ih)

pub unread-without : (test : ℕ → Bool) (es : List (ℕ × StreamState)) → map unread_entry (remove_entry test es) ≡ remove_entry test (map unread_entry es)
unread-without test [] = refl
unread-without test (e ∷ es) = without_at test e es (test e.0) refl (unread-without test es)

of_at : (test : ℕ → Bool) (e : ℕ × StreamState) (es : List (ℕ × StreamState)) (b : Bool) → test e.0 ≡ b → lookup test (map unread_entry es) ≡ option_map unread_stream (lookup test es) →
    lookup test (map unread_entry (e ∷ es)) ≡ option_map unread_stream (lookup test (e ∷ es))
of_at test e es true t ih = rw t refl
of_at test e es false t ih = rw t ih

pub stream_of-unread : (test : ℕ → Bool) (es : List (ℕ × StreamState)) → lookup test (map unread_entry es) ≡ option_map unread_stream (lookup test es)
stream_of-unread test [] = refl
stream_of-unread test (e ∷ es) = of_at test e es (test e.0) refl (stream_of-unread test es)

put_at : (n : ℕ) (new : StreamState) (e : ℕ × StreamState) (es : List (ℕ × StreamState)) (o : Ordering) → nat_cmp n e.0 ≡ o → map unread_entry (insert_entry nat_cmp es n new) ≡ insert_entry nat_cmp (map unread_entry es) n (unread_stream new) →
    map unread_entry (insert_entry nat_cmp (e ∷ es) n new) ≡ insert_entry nat_cmp (map unread_entry (e ∷ es)) n (unread_stream new)
put_at n new e es Less t ih = rw t refl
put_at n new e es Equal t ih = rw t refl
put_at n new e es Greater t ih = rw t (ap (λ x. unread_entry e ∷ x) ih)

pub unread-insert : (n : ℕ) (new : StreamState) (es : List (ℕ × StreamState)) → map unread_entry (insert_entry nat_cmp es n new) ≡ insert_entry nat_cmp (map unread_entry es) n (unread_stream new)
unread-insert n new [] = refl
unread-insert n new (e ∷ es) = put_at n new e es (nat_cmp n e.0) refl (unread-insert n new es)

set_out_at : (test : ℕ → Bool) (e : ℕ × StreamState) (es : List (ℕ × StreamState)) (w : StreamState) (b : Bool) → test e.0 ≡ b → remove_entry test (set_value test es w) ≡ remove_entry test es →
    remove_entry test (set_value test (e ∷ es) w) ≡ remove_entry test (e ∷ es)
set_out_at test e es w true t ih = rw (t, t) refl
set_out_at test e es w false t ih = rw (t, t) (ap (λ x. e ∷ x) ih)

pub remove-set : (test : ℕ → Bool) (es : List (ℕ × StreamState)) (w : StreamState) → remove_entry test (set_value test es w) ≡ remove_entry test es
remove-set test [] w = refl
remove-set test (e ∷ es) w = set_out_at test e es w (test e.0) refl (remove-set test es w)

-- what a piece leaves of the connections
pub bytes_step-none : {S : Type 0} (m : Meaning S) (s : ShareState S) (n moment : ℕ) (piece : List ℕ) → stream_of n s.streams ≡ None → bytes_step m s n moment piece ≡ quiet_step s
unfolding bytes_step
bytes_step-none m s n moment piece h = rw h refl

pub bytes_step-some : {S : Type 0} (m : Meaning S) (s : ShareState S) (n moment : ℕ) (piece : List ℕ) (stream : StreamState) → stream_of n s.streams ≡ Some stream →
    bytes_step m s n moment piece ≡ settled s n (stream.received ++ piece) (piece_step m (arrived n moment) s.server stream piece)
unfolding bytes_step
bytes_step-some m s n moment piece stream h = rw h refl

pub take_none : {S : Type 0} (m : Meaning S) (s : ShareState S) (n moment : ℕ) (piece : List ℕ) → AllWait s.streams → stream_of n s.streams ≡ None → s ≡ unread (bytes_step m s n moment piece).state
take_none m s n moment piece w h = rw (bytes_step-none m s n moment piece h, unread-waits s.streams w) refl

pub take_none-outputs : {S : Type 0} (m : Meaning S) (hears : Output → List Heard) (s : ShareState S) (n moment : ℕ) (piece : List ℕ) (front : List Heard) → stream_of n s.streams ≡ None → front ≡ front ++ flat_map hears (bytes_step m s n moment piece).outputs
take_none-outputs m hears s n moment piece front h = sym (append-nil front) ∙ ap (λ d. front ++ flat_map hears d.outputs) (sym (bytes_step-none m s n moment piece h))

-- the connection stays open
pub take_open : {S : Type 0} (m : Meaning S) (s : ShareState S) (n moment : ℕ) (piece : List ℕ) (stream stream' : StreamState) (server' : ServerState S) → AllWait s.streams → stream_of n s.streams ≡ Some stream →
    IsPieceHeld stream.received piece (piece_step m (arrived n moment) s.server stream piece) server' stream' true → record s { server = server'; streams = with_stream n stream' s.streams } ≡ unread (bytes_step m s n moment piece).state
take_open m s n moment piece stream stream' server' w h t =
    let t' = piece_step m (arrived n moment) s.server stream piece in
    let left : StreamState = record { received = stream.received ++ piece; connection = t'.connection } in
    let is : (bytes_step m s n moment piece).state ≡ record s { server = t'.server; streams = with_stream n left s.streams } =
    ap (λ d. d.state) (bytes_step-some m s n moment piece stream h) ∙ rw (← t.fate) refl in
    rw (is, unread-with (is_at (nat_cmp n)) left s.streams, unread-waits s.streams w, t.same, t.rests refl) refl

pub take_over : {S : Type 0} (m : Meaning S) (s : ShareState S) (n moment : ℕ) (piece : List ℕ) (stream stream' : StreamState) (server' : ServerState S) → AllWait s.streams → stream_of n s.streams ≡ Some stream →
    IsPieceHeld stream.received piece (piece_step m (arrived n moment) s.server stream piece) server' stream' false → record s { server = connection_ended server' n; streams = without_stream n s.streams } ≡ unread (bytes_step m s n moment piece).state
take_over m s n moment piece stream stream' server' w h t =
    let t' = piece_step m (arrived n moment) s.server stream piece in
    let is : (bytes_step m s n moment piece).state ≡ record s { server = connection_ended t'.server n; streams = without_stream n s.streams } =
    ap (λ d. d.state) (bytes_step-some m s n moment piece stream h) ∙ rw (← t.fate) refl in
    rw (is, unread-without (is_at (nat_cmp n)) s.streams, unread-waits s.streams w, t.same) refl

pub take_outputs : {S : Type 0} (m : Meaning S) (hears : Output → List Heard) (s : ShareState S) (n moment : ℕ) (piece : List ℕ) (stream : StreamState) (front all : List Heard) → stream_of n s.streams ≡ Some stream →
    all ≡ front ++ flat_map hears (piece_step m (arrived n moment) s.server stream piece).outputs → all ≡ front ++ flat_map hears (bytes_step m s n moment piece).outputs
take_outputs m hears s n moment piece stream front all h f = f ∙ ap (λ t. front ++ flat_map hears t.outputs) (sym (bytes_step-some m s n moment piece stream h))

-- memory ran out after k requests
pub take_stopped : {S : Type 0} (m : Meaning S) (s : ShareState S) (n moment k : ℕ) (piece : List ℕ) (stream : StreamState) (server' : ServerState S) → AllWait s.streams → stream_of n s.streams ≡ Some stream →
    server' ≡ server_after s.server (piece_step m (arrived n moment) s.server stream piece).requests k → k ≤ length (piece_step m (arrived n moment) s.server stream piece).requests →
    EventOutOfMemory m s (brings n moment piece) k (record s { server = connection_ended server' n; streams = without_stream n s.streams })
take_stopped m s n moment k piece stream server' w h e b =
    let same = ap (λ d. d.requests) (bytes_step-some m s n moment piece stream h) in
    record {
      wanting = rw h refl;
      within = rw same b;
      state = rw (unread-without (is_at (nat_cmp n)) s.streams, unread-waits s.streams w, same, e) refl;
    }
