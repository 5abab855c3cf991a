-- The books after one call, or one event.
use Rattle.std.proofs.Common.{◌≡◌, ℕ, ◌<◌, ◌≤◌, eqb, Bool, true, false, ◌||◌, List, [], ◌∷◌, ◌++◌, Option, None, Some, refl, sym, ap, subst, ◌∙◌, arith}
use Rattle.std.proofs.lemmas.List.{append-nil}
use Rattle.std.proofs.lemmas.Bool.{lt-ltb, ne_eqb, eq-eqb, true≢false}
use Rattle.smb_session.specs.Authenticator.{Meaning}
use Rattle.smb_engine.specs.State.{ShareState}
use Rattle.smb_engine.specs.Stream.{unread}
use Rattle.smb_engine.specs.Run.{Ran, event_refusal}
use Rattle.smb_engine.specs.Parts.{unknown_refusal}
use Rattle.smb_serving.specs.Happenings.{Happening, event_of, happening_step, run_of}
use Rattle.smb_peers.specs.Record.{PeerCall}
use Rattle.smb_serving.specs.ServedPeers.{PeerState}
use Rattle.smb_serving.specs.ServingLaws.{moments_of}
use Rattle.smb_engine.proofs.Runs.{unread-unread}
use Rattle.smb_serving.proofs.Happenings.{concerns}
use Rattle.smb_serving.proofs.Numbers.{found, found_same, found_other, apart_more, apart_less, all_more, all_less}
use Rattle.smb_serving.proofs.Accounts.{IsQuiet}
use Rattle.smb_serving.proofs.Books.{IsOut, AreListed, Books, Own, move}

pub or_none : (a b : Bool) → b ≡ false → (a || b) ≡ a
or_none true b h = refl
or_none false b h = h

pub or_left : (a b : Bool) → a ≡ true → (a || b) ≡ true
or_left true b h = refl
or_left false b h = cc

pub or_right : (a b : Bool) → b ≡ true → (a || b) ≡ true
or_right true b h = refl
or_right false b h = h

pub some_same : (x y : ℕ) → Some x ≡ Some y → x ≡ y
some_same x y h = cc

pub some_none : {X : Type 0} (x : X) → Some x ≡ None → ⊥
some_none x h = cc

-- another peer in the place of one
module _ (connections : ℕ → Option ℕ) (front back : List PeerState) (peer : PeerState) (l : AreListed connections (front ++ peer ∷ back)) where
  pub own_connection : connections peer.number ≡ Some peer.connection
  own_connection = (all_less (λ x. connections x.number ≡ Some x.connection) peer front back l.known).0

  pub is_there : found peer.number (front ++ peer ∷ back) ≡ Some peer
  is_there = found_same peer front back (apart_less peer front back l.apart).1

  pub is_out : found peer.number (front ++ back) ≡ None
  is_out = (apart_less peer front back l.apart).1

  pub listed_without : AreListed connections (front ++ back)
  listed_without = record {
    known = (all_less (λ x. connections x.number ≡ Some x.connection) peer front back l.known).1;
    apart = (apart_less peer front back l.apart).0;
  }

  pub others_without : (j : ℕ) → eqb peer.number j ≡ false → found j (front ++ back) ≡ found j (front ++ peer ∷ back)
  others_without j d = sym (found_other peer j front back d)

  module _ (peer' : PeerState) (n : peer'.number ≡ peer.number) (c : peer'.connection ≡ peer.connection) where
    pub listed_with : AreListed connections (front ++ peer' ∷ back)
    listed_with =
        let known : connections peer'.number ≡ Some peer'.connection = ap connections n ∙ own_connection ∙ ap Some (sym c) in
        record {
          known = all_more (λ x. connections x.number ≡ Some x.connection) peer' front back known listed_without.known;
          apart = apart_more peer' front back listed_without.apart (ap (λ k. found k (front ++ back)) n ∙ is_out);
        }

    pub others_with : (j : ℕ) → eqb peer.number j ≡ false → found j (front ++ peer' ∷ back) ≡ found j (front ++ peer ∷ back)
    others_with j d = found_other peer' j front back (ap (λ k. eqb k j) n ∙ d) ∙ others_without j d

    pub new_there : found peer.number (front ++ peer' ∷ back) ≡ Some peer'
    new_there = ap (λ k. found k (front ++ peer' ∷ back)) (sym n) ∙ found_same peer' front back (ap (λ k. found k (front ++ back)) n ∙ is_out)

module _ {S : Type 0} (m : Meaning S) (s0 : ShareState S) (moments0 : List ℕ) where
  -- a run of one event that is not refused
  pub knows : (s : ShareState S) (c : ℕ) → (0 < c) × (c < s.next) → unknown_refusal s c ≡ None
  knows s c p = rw (lt-ltb 0 c p.0, lt-ltb c s.next p.1) refl

  abbrev pub one : ShareState S → Happening → Ran S
  one s event = record { state = (happening_step m s event).state; outputs = (happening_step m s event).outputs ++ []; stop = None }

  pub run_one : (s : ShareState S) (event : Happening) → event_refusal s (event_of event) ≡ None → run_of m s (event ∷ []) ≡ one s event
  run_one s event h = rw h refl

  module _ (share : ShareState S) (served_peers : List PeerState) (calls : List PeerCall) (moments : List ℕ) (events : List Happening) (connections : ℕ → Option ℕ)
      (b : Books m s0 moments0 share served_peers calls moments events connections) where
    -- the share is held as what is unread
    pub held : share ≡ unread share
    held = b.state ∙ sym (unread-unread (run_of m s0 events).state) ∙ ap unread (sym b.state)

    pub not_its : (k j c c' : ℕ) → connections k ≡ Some c → connections j ≡ Some c' → eqb k j ≡ false → eqb c c' ≡ false
    not_its k j c c' e e' d = ne_eqb c c' (λ x. true≢false (sym (eq-eqb k j (b.distinct k j c' (e ∙ ap Some x) e')) ∙ d))

    not_beyond : (c d : ℕ) → c < share.next → share.next ≤ d → eqb c d ≡ false
    not_beyond c d p q = ne_eqb c d (λ x. omega (arith, p, q, x))

    -- calls and no event
    module _ (served_peers' : List PeerState) (cs : List PeerCall) (number : ℕ) (listed : AreListed connections served_peers') (same : (j : ℕ) → eqb number j ≡ false → found j served_peers' ≡ found j served_peers)
        (quiet : (j : ℕ) → eqb number j ≡ false → IsQuiet j cs) where
      pub calls_alone : ((c : ℕ) → connections number ≡ Some c → Own m s0 moments0 share share served_peers served_peers' calls cs events [] number c) →
          (connections number ≡ None → IsOut m s0 number calls events → IsOut m s0 number (calls ++ cs) (events ++ [])) →
          Books m s0 moments0 share served_peers' (calls ++ cs) moments (events ++ []) connections
      calls_alone own refused =
          move m s0 moments0 share share served_peers served_peers' calls cs moments moments events [] connections number b own refused (λ j c e d. tt) quiet same refl held refl (sym (append-nil moments)) (λ c p. tt) listed

    -- calls and an event on the connection
    module _ (share' : ShareState S) (served_peers' : List PeerState) (cs : List PeerCall) (moments' : List ℕ) (event : Happening) (number c : ℕ) (at : connections number ≡ Some c) (on : (d : ℕ) → concerns d event ≡ eqb c d)
        (listed : AreListed connections served_peers') (same : (j : ℕ) → eqb number j ≡ false → found j served_peers' ≡ found j served_peers) (quiet : (j : ℕ) → eqb number j ≡ false → IsQuiet j cs) where
      pub one_event : event_refusal share (event_of event) ≡ None → share' ≡ unread (happening_step m share event).state → share'.next ≡ share.next → moments' ≡ moments ++ moments_of m share (event ∷ []) →
          Own m s0 moments0 share share' served_peers served_peers' calls cs events (event ∷ []) number c → Books m s0 moments0 share' served_peers' (calls ++ cs) moments' (events ++ event ∷ []) connections
      one_event unrefused is next told own =
          let r = run_one share event unrefused in
          let known = (b.accounts number c at).given in
          move m s0 moments0 share share' served_peers served_peers' calls cs moments moments' events (event ∷ []) connections number b
          (λ c' e. let c'' : c ≡ c' = some_same c c' (sym at ∙ e) in subst (λ (x : ℕ). Own m s0 moments0 share share' served_peers served_peers' calls cs events (event ∷ []) number x) c'' own)
          (λ e. absurd (some_none c (sym at ∙ e)))
          (λ j c' e d. (on c' ∙ not_its number j c c' at e d, tt))
          quiet same
          (ap (λ t. t.stop) r) (is ∙ ap (λ t. unread t.state) (sym r)) next told
          (λ c' p. (on c' ∙ not_beyond c c' known.1 p, tt))
          listed
