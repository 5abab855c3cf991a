-- The books after each kind of call.
use Rattle.std.proofs.Common.{◌≡◌, ◌⊎◌, inl, inr, ℕ, suc, ◌+◌, ◌<◌, eqb, ltb, Bool, true, false, ◌||◌, List, [], ◌∷◌, ◌++◌, length, take, drop, Option, None, Some, is_some, refl, sym, ap, subst, ◌∙◌, arith}
use Rattle.std.specs.List.{flat_map}
use Rattle.std.specs.Option.{option_map}
use Rattle.std.specs.Map.{remove_entry}
use Rattle.std.specs.BTreeMap.{is_at}
use Rattle.std.specs.Ordering.{nat_cmp}
use Rattle.std.proofs.lemmas.List.{append-nil}
use Rattle.std.proofs.lemmas.Bool.{ltb-false, eq-eqb}
use Rattle.smb_session.specs.Authenticator.{Meaning}
use Rattle.smb_engine.specs.State.{is_open, StreamState, ShareState, stream_of, ended}
use Rattle.smb_engine.specs.Run.{bytes_step}
use Rattle.smb_engine.specs.Stream.{unread}
use Rattle.smb_engine.specs.Parts.{unread_stream}
use Rattle.smb_engine.specs.Refusals.{EventOutOfMemory}
use Rattle.smb_peers.specs.Event.{brings, ends}
use Rattle.smb_serving.specs.Happenings.{Happening, performed, cut_short, runs_out_of_memory, run_of}
use Rattle.smb_engine.specs.Output.{output_bytes}
use Rattle.smb_peers.specs.Record.{PeerCall, next_bytes, send, close, sent_by, taken_by, closes_of}
use Rattle.smb_serving.specs.ServedPeers.{PeerState}
use Rattle.smb_serving.specs.ServingParts.{dropped, with_replies, stays}
use Rattle.smb_serving.specs.Serving.{most_owed}
use Rattle.smb_serving.specs.ServingLaws.{is_broken_off, brought_to, put_out_to, moments_of}
use Rattle.smb_engine.proofs.Streams.{unread-without, stream_of-unread, bytes_step-none}
use Rattle.smb_engine.proofs.Order.{stream_of-without, bytes_step-next, not_for}
use Rattle.smb_serving.proofs.Numbers.{found}
use Rattle.smb_serving.proofs.Accounts.{IsQuiet, quiet_bytes, quiet_take, quiet_close, put_own, fate_same, fate_fed, fate_gone, fate_taken}
use Rattle.smb_serving.proofs.Books.{more_none, plus_none, owed_of, closes_due, both_more, IsOut, Books, still_refused}
use Rattle.smb_serving.proofs.Moves.{or_none, or_left, or_right, some_same, some_none, own_connection, is_there, is_out, listed_without, others_without, listed_with, others_with, new_there, knows, run_one, held, calls_alone, one_event}

taken_own : (k offered : ℕ) (bytes : List ℕ) → taken_by k (send k offered (Some bytes) ∷ []) ≡ bytes
taken_own k offered bytes = rw (eq-eqb k k refl) (append-nil bytes)

brought_own : (k c moment : ℕ) (piece : List ℕ) → brought_to c (performed (brings c moment piece) ∷ []) ≡ sent_by k (next_bytes k piece ∷ [])
brought_own k c moment piece = rw (eq-eqb c c refl, eq-eqb k k refl) refl

cut_own : (k c moment done : ℕ) (piece : List ℕ) → brought_to c (cut_short (brings c moment piece) done ∷ []) ≡ sent_by k (next_bytes k piece ∷ [])
cut_own k c moment done piece = rw (eq-eqb c c refl, eq-eqb k k refl) refl

out_own : (c moment done : ℕ) (piece : List ℕ) → runs_out_of_memory c (cut_short (brings c moment piece) done ∷ []) ≡ true
out_own c moment done piece = rw (eq-eqb c c refl) refl

closes_own : (k : ℕ) → 0 + closes_of k (close k ∷ []) ≡ 1
closes_own k = rw (eq-eqb k k refl) refl

-- what was so before stays so
still_gone : (k : ℕ) (calls cs : List PeerCall) (c : ℕ) (events evs : List Happening) → (is_broken_off k calls || runs_out_of_memory c events) ≡ true →
    ((is_broken_off k calls || is_broken_off k cs) || (runs_out_of_memory c events || runs_out_of_memory c evs)) ≡ true
still_gone k calls cs c events evs =
    both_more (is_broken_off k calls) (is_broken_off k calls || is_broken_off k cs) (runs_out_of_memory c events) (runs_out_of_memory c events || runs_out_of_memory c evs)
    (or_left (is_broken_off k calls) (is_broken_off k cs)) (or_left (runs_out_of_memory c events) (runs_out_of_memory c evs))

closes_kept : (o o' : Option PeerState) (peer peer' : PeerState) → o ≡ Some peer → o' ≡ Some peer' → closes_due o + 0 ≡ closes_due o'
closes_kept o o' peer peer' e f = ap (λ x. closes_due x + 0) e ∙ sym (ap closes_due f)

closes_first : {n : ℕ} → n ≡ 0 → 0 + n ≡ 0
closes_first h = ap (λ k. 0 + k) h

because : (a b c : Bool) (xs ys : List ℕ) → ys ≡ xs → (b ≡ true) ⊎ (most_owed < length xs) → (((a || b) || c) ≡ true) ⊎ (most_owed < length ys)
because a b c xs ys e (inl h) = inl (or_left (a || b) c (or_right a b h))
because a b c xs ys e (inr p) = inr (subst (λ (zs : List ℕ). most_owed < length zs) (sym e) p)

not_either : (a b : Bool) → (a || b) ≡ false → (a ≡ false) × (b ≡ false)
not_either true b h = cc
not_either false b h = (refl, h)

is_nothing : (xs : List ℕ) → ltb 0 (length xs) ≡ false → xs ≡ []
is_nothing [] h = refl
is_nothing (x ∷ xs) h = absurd (omega (arith, ltb-false 0 (suc (length xs)) h))

pub is_closed : (o : Option StreamState) → is_some o ≡ false → o ≡ None
is_closed None h = refl
is_closed (Some stream) h = cc

ended_unread : {S : Type 0} (s : ShareState S) (c : ℕ) → s ≡ unread s → ended s c ≡ unread (ended s c)
ended_unread s c h =
    sym (ap (λ t. record (ended s c) { streams = t }) (unread-without (is_at (nat_cmp c)) s.streams ∙ ap (λ t. remove_entry (is_at (nat_cmp c)) t.streams) (sym h)))

module _ {S : Type 0} (m : Meaning S) (s0 : ShareState S) (moments0 : List ℕ) where
  asked_open : (s : ShareState S) (c moment : ℕ) (piece : List ℕ) → is_some (stream_of c s.streams) ≡ true → moments_of m s (performed (brings c moment piece) ∷ []) ≡ moment ∷ []
  asked_open s c moment piece h = rw h refl

  asked_cut : (s : ShareState S) (c moment done : ℕ) (piece : List ℕ) → is_some (stream_of c s.streams) ≡ true → moments_of m s (cut_short (brings c moment piece) done ∷ []) ≡ moment ∷ []
  asked_cut s c moment done piece h = rw h refl

  asked_none : (s : ShareState S) (c moment : ℕ) (piece : List ℕ) → stream_of c s.streams ≡ None → moments_of m s (performed (brings c moment piece) ∷ []) ≡ []
  asked_none s c moment piece h = rw h refl

  module _ (share : ShareState S) (served_peers : List PeerState) (calls : List PeerCall) (moments : List ℕ) (events : List Happening) (connections : ℕ → Option ℕ)
      (b : Books m s0 moments0 share served_peers calls moments events connections) where
    -- calls that say nothing of any number
    pub silent : (cs : List PeerCall) → ((j : ℕ) → IsQuiet j cs) → Books m s0 moments0 share served_peers (calls ++ cs) moments (events ++ []) connections
    silent cs q =
        calls_alone m s0 moments0 share served_peers calls moments events connections b served_peers cs 0 b.listed (λ j d. refl) (λ j d. q j)
        (λ c e. record {
          brought = sym (q 0).sent;
          fate = fate_same most_owed _ _ _ _ _ _ _ _ _ _ _ _ (λ h. h) (or_none _ _ refl) (still_gone 0 calls cs c events []) refl (more_none _ _ (q 0).taken) (append-nil _);
          closed = (b.accounts 0 c e).closed;
          closes = ap (λ n. closes_due (found 0 served_peers) + n) (q 0).closes ∙ plus_none _;
        })
        (λ e r. still_refused m s0 0 calls cs events [] (q 0) r)

    -- calls of a number that has no connection
    pub unconnected : (number : ℕ) (cs : List PeerCall) → connections number ≡ None → ((j : ℕ) → eqb number j ≡ false → IsQuiet j cs) → IsOut m s0 number (calls ++ cs) (events ++ []) →
        Books m s0 moments0 share served_peers (calls ++ cs) moments (events ++ []) connections
    unconnected number cs none q r =
        calls_alone m s0 moments0 share served_peers calls moments events connections b served_peers cs number b.listed (λ j d. refl) q
        (λ c e. absurd (some_none c (sym e ∙ none))) (λ e r'. r)

    -- a piece of a number whose connection has ended
    pub passed_over : (number c : ℕ) (piece : List ℕ) → connections number ≡ Some c → stream_of c share.streams ≡ None →
        Books m s0 moments0 share served_peers (calls ++ next_bytes number piece ∷ []) moments (events ++ performed (brings c 0 piece) ∷ []) connections
    passed_over number c piece at none =
        let event = performed (brings c 0 piece) in
        let unrefused = knows m s0 moments0 share c (b.accounts number c at).given in
        let step = bytes_step-none m share c 0 piece none in
        one_event m s0 moments0 share served_peers calls moments events connections b share served_peers (next_bytes number piece ∷ []) moments event number c at (λ d. refl) b.listed (λ j d. refl)
        (λ j d. quiet_bytes number j piece d) unrefused (held m s0 moments0 share served_peers calls moments events connections b ∙ ap (λ d. unread d.state) (sym step)) refl
        (sym (more_none moments _ (asked_none share c 0 piece none)))
        (record {
          brought = brought_own number c 0 piece;
          fate = fate_same most_owed _ _ _ _ _ _ _ _ _ _ _ _ (λ h. h) (or_none _ _ refl) (still_gone number calls (next_bytes number piece ∷ []) c events (performed (brings c 0 piece) ∷ [])) refl (append-nil _)
              (more_none _ _ (ap (λ t. put_out_to c t.outputs) (run_one m s0 moments0 share event unrefused) ∙ ap (λ d. put_out_to c (d.outputs ++ [])) step));
          closed = λ h. none;
          closes = plus_none _;
        })

  module _ (share : ShareState S) (front back : List PeerState) (peer : PeerState) (calls : List PeerCall) (moments : List ℕ) (events : List Happening) (connections : ℕ → Option ℕ)
      (b : Books m s0 moments0 share (front ++ peer ∷ back) calls moments events connections) where
    at : connections peer.number ≡ Some peer.connection
    at = own_connection connections front back peer b.listed

    there' : found peer.number (front ++ peer ∷ back) ≡ Some peer
    there' = is_there connections front back peer b.listed

    there_is : owed_of (found peer.number (front ++ peer ∷ back)) ≡ peer.owed
    there_is = ap owed_of (is_there connections front back peer b.listed)

    -- a send of which a part was taken
    pub part_taken : (count offered : ℕ) →
        Books m s0 moments0 share (front ++ record peer { owed = drop count peer.owed } ∷ back) (calls ++ send peer.number offered (Some (take count peer.owed)) ∷ []) moments (events ++ []) connections
    part_taken count offered =
        let peer' : PeerState = record peer { owed = drop count peer.owed } in
        let new = new_there connections front back peer b.listed peer' refl refl in
        calls_alone m s0 moments0 share (front ++ peer ∷ back) calls moments events connections b (front ++ peer' ∷ back) (send peer.number offered (Some (take count peer.owed)) ∷ []) peer.number
        (listed_with connections front back peer b.listed peer' refl refl) (others_with connections front back peer b.listed peer' refl refl) (λ j d. quiet_take peer.number j offered _ d)
        (λ c' e. record {
          brought = refl;
          fate = fate_taken most_owed count _ _ _ _ _ _ _ _ _ _ _ _ (λ h. h) (or_none _ _ refl) (still_gone peer.number calls (send peer.number offered (Some (take count peer.owed)) ∷ []) c' events []) (ap owed_of new ∙ ap (drop count) (sym there_is))
              (ap (λ t. taken_by peer.number calls ++ t) (taken_own peer.number offered (take count peer.owed) ∙ ap (take count) (sym there_is))) (append-nil _);
          closed = λ h. absurd (some_none peer' (sym new ∙ h));
          closes = closes_kept _ _ peer peer' there' new;
        })
        (λ e r. absurd (some_none peer.connection (sym at ∙ e)))

    -- the connection ends, and what is owed is dropped
    pub all_dropped : (cs : List PeerCall) → ((j : ℕ) → eqb peer.number j ≡ false → IsQuiet j cs) → sent_by peer.number cs ≡ [] → taken_by peer.number cs ≡ [] → closes_of peer.number cs ≡ 0 →
        (is_broken_off peer.number cs ≡ true) ⊎ (most_owed < length peer.owed) →
        Books m s0 moments0 (ended share peer.connection) (front ++ dropped peer ∷ back) (calls ++ cs) moments (events ++ performed (ends peer.connection) ∷ []) connections
    all_dropped cs quiet sent taken closes why =
        let peer' = dropped peer in
        let new = new_there connections front back peer b.listed peer' refl refl in
        let unrefused = knows m s0 moments0 share peer.connection (b.accounts peer.number peer.connection at).given in
        one_event m s0 moments0 share (front ++ peer ∷ back) calls moments events connections b (ended share peer.connection) (front ++ peer' ∷ back) cs moments (performed (ends peer.connection))
        peer.number peer.connection at (λ d. refl)
        (listed_with connections front back peer b.listed peer' refl refl) (others_with connections front back peer b.listed peer' refl refl) quiet unrefused
        (ended_unread share peer.connection (held m s0 moments0 share (front ++ peer ∷ back) calls moments events connections b)) refl (sym (append-nil moments))
        (record {
          brought = sym sent;
          fate = fate_gone most_owed _ _ _ _ _ _ _ _ _ _ _ _ (stream_of-without peer.connection share.streams b.order.rising) (still_gone peer.number calls cs peer.connection events (performed (ends peer.connection) ∷ [])) (ap owed_of new) (more_none _ _ taken)
              (more_none _ _ (ap (λ t. put_out_to peer.connection t.outputs) (run_one m s0 moments0 share (performed (ends peer.connection)) unrefused)))
              (because _ _ _ peer.owed _ there_is why);
          closed = λ h. absurd (some_none peer' (sym new ∙ h));
          closes = ap (λ o. closes_due o + closes_of peer.number cs) there' ∙ closes_first closes ∙ sym (ap closes_due new);
        })

    -- a piece that is answered
    pub piece_fed : (moment : ℕ) (piece : List ℕ) → is_open share peer.connection ≡ true →
        Books m s0 moments0 (unread (bytes_step m share peer.connection moment piece).state) (front ++ with_replies m share peer moment piece ∷ back) (calls ++ next_bytes peer.number piece ∷ [])
        (moments ++ moment ∷ []) (events ++ performed (brings peer.connection moment piece) ∷ []) connections
    piece_fed moment piece open_still =
        let peer' = with_replies m share peer moment piece in
        let new = new_there connections front back peer b.listed peer' refl refl in
        let event = performed (brings peer.connection moment piece) in
        let unrefused = knows m s0 moments0 share peer.connection (b.accounts peer.number peer.connection at).given in
        let step = bytes_step m share peer.connection moment piece in
        one_event m s0 moments0 share (front ++ peer ∷ back) calls moments events connections b (unread step.state) (front ++ peer' ∷ back) (next_bytes peer.number piece ∷ []) (moments ++ moment ∷ []) event
        peer.number peer.connection at (λ d. refl)
        (listed_with connections front back peer b.listed peer' refl refl) (others_with connections front back peer b.listed peer' refl refl) (λ j d. quiet_bytes peer.number j piece d) unrefused
        refl (bytes_step-next m share peer.connection moment piece) (ap (λ t. moments ++ t) (sym (asked_open share peer.connection moment piece open_still)))
        (record {
          brought = brought_own peer.number peer.connection moment piece;
          fate = fate_fed most_owed _ _ _ _ _ _ _ _ _ _ _ _ (flat_map output_bytes step.outputs) open_still (or_none _ _ refl) (ap owed_of new ∙ ap (λ t. t ++ flat_map output_bytes step.outputs) (sym there_is))
              (append-nil _)
              (ap (λ t. put_out_to peer.connection (run_of m s0 events).outputs ++ t)
              (ap (λ t. put_out_to peer.connection t.outputs) (run_one m s0 moments0 share event unrefused) ∙ ap (put_out_to peer.connection) (append-nil step.outputs)
              ∙ put_own peer.connection step.outputs (λ j d. not_for m share (brings peer.connection moment piece) j d)));
          closed = λ h. absurd (some_none peer' (sym new ∙ h));
          closes = closes_kept _ _ peer peer' there' new;
        })

    -- a piece in which memory runs out
    pub piece_cut : (moment done : ℕ) (piece : List ℕ) (share' : ShareState S) → is_open share peer.connection ≡ true → EventOutOfMemory m share (brings peer.connection moment piece) done share' →
        Books m s0 moments0 share' (front ++ dropped peer ∷ back) (calls ++ next_bytes peer.number piece ∷ []) (moments ++ moment ∷ []) (events ++ cut_short (brings peer.connection moment piece) done ∷ []) connections
    piece_cut moment done piece share' open_still stops =
        let peer' = dropped peer in
        let new = new_there connections front back peer b.listed peer' refl refl in
        let event = cut_short (brings peer.connection moment piece) done in
        let unrefused = knows m s0 moments0 share peer.connection (b.accounts peer.number peer.connection at).given in
        let gone : stream_of peer.connection share'.streams ≡ None =
        ap (λ t. stream_of peer.connection t.streams) stops.state ∙ stream_of-unread (is_at (nat_cmp peer.connection)) _
        ∙ ap (option_map unread_stream) (stream_of-without peer.connection share.streams b.order.rising) in
        one_event m s0 moments0 share (front ++ peer ∷ back) calls moments events connections b share' (front ++ peer' ∷ back) (next_bytes peer.number piece ∷ []) (moments ++ moment ∷ []) event
        peer.number peer.connection at (λ d. refl)
        (listed_with connections front back peer b.listed peer' refl refl) (others_with connections front back peer b.listed peer' refl refl) (λ j d. quiet_bytes peer.number j piece d) unrefused
        stops.state (ap (λ t. t.next) stops.state) (ap (λ t. moments ++ t) (sym (asked_cut share peer.connection moment done piece open_still)))
        (record {
          brought = cut_own peer.number peer.connection moment done piece;
          fate = fate_gone most_owed _ _ _ _ _ _ _ _ _ _ _ _ gone (still_gone peer.number calls (next_bytes peer.number piece ∷ []) peer.connection events (cut_short (brings peer.connection moment piece) done ∷ [])) (ap owed_of new) (append-nil _)
              (more_none _ _ (ap (λ t. put_out_to peer.connection t.outputs) (run_one m s0 moments0 share event unrefused)))
              (inl (or_right (is_broken_off peer.number calls || is_broken_off peer.number (next_bytes peer.number piece ∷ [])) _ (or_right (runs_out_of_memory peer.connection events) _ (out_own peer.connection moment done piece))));
          closed = λ h. absurd (some_none peer' (sym new ∙ h));
          closes = closes_kept _ _ peer peer' there' new;
        })

    -- a peer that is closed
    pub peer_closed : stays share peer ≡ false → Books m s0 moments0 share (front ++ back) (calls ++ close peer.number ∷ []) moments (events ++ []) connections
    peer_closed h =
        let parts = not_either _ _ h in
        let none = is_closed (stream_of peer.connection share.streams) parts.1 in
        let nothing = is_nothing peer.owed parts.0 in
        calls_alone m s0 moments0 share (front ++ peer ∷ back) calls moments events connections b (front ++ back) (close peer.number ∷ []) peer.number
        (listed_without connections front back peer b.listed) (others_without connections front back peer b.listed) (λ j d. quiet_close peer.number j d)
        (λ c' e. record {
          brought = refl;
          fate = fate_same most_owed _ _ _ _ _ _ _ _ _ _ _ _ (λ h. h) (or_none _ _ refl) (still_gone peer.number calls (close peer.number ∷ []) c' events []) (ap owed_of (is_out connections front back peer b.listed) ∙ sym (there_is ∙ nothing)) (append-nil _) (append-nil _);
          closed = λ h'. subst (λ (x : ℕ). stream_of x share.streams ≡ None) (some_same _ _ (sym at ∙ e)) none;
          closes = ap (λ o. closes_due o + closes_of peer.number (close peer.number ∷ [])) there' ∙ closes_own peer.number ∙ sym (ap closes_due (is_out connections front back peer b.listed));
        })
        (λ e r. absurd (some_none peer.connection (sym at ∙ e)))
