-- The books after an opening.
use Rattle.std.proofs.Common.{◌≡◌, ℕ, ◌+◌, eqb, Bool, true, false, if◌then◌else◌, List, [], ◌∷◌, ◌++◌, take, drop, Option, None, Some, is_some, refl, sym, ap, subst, ◌∙◌, arith}
use Rattle.std.specs.List.{AllByRecursion}
use Rattle.std.proofs.lemmas.List.{append-nil, take-append-drop}
use Rattle.std.proofs.lemmas.List.Concat.{flat_map-append}
use Rattle.std.proofs.lemmas.Bool.{eqb-true, ne_eqb, eq-eqb, true≢false}
use Rattle.smb_session.specs.Authenticator.{Meaning}
use Rattle.smb_engine.specs.State.{ShareState, opened}
use Rattle.smb_engine.specs.Run.{event_refusal}
use Rattle.smb_engine.specs.Refusals.{opening_refusal}
use Rattle.smb_engine.specs.Stream.{unread}
use Rattle.smb_peers.specs.Event.{opens}
use Rattle.smb_serving.specs.Happenings.{Happening, performed, run_of}
use Rattle.smb_peers.specs.Record.{PeerCall, next_opened}
use Rattle.smb_serving.specs.ServingParts.{taken_in, opens_in, brought_in, ends_in, place_for, new_peer}
use Rattle.smb_serving.specs.ServedPeers.{PeerState, with_one_more}
use Rattle.smb_serving.specs.ServingLaws.{is_opened, put_out_to, moments_of}
use Rattle.smb_engine.proofs.Runs.{opened-unread}
use Rattle.smb_engine.proofs.Order.{order_opened}
use Rattle.smb_serving.proofs.Numbers.{found, Apart, found_same, found_other, apart_more, all_more, other_way}
use Rattle.smb_serving.proofs.Accounts.{heard_opened, any_last, quiet_opening, closes_more, there}
use Rattle.smb_serving.proofs.Books.{more_none, owed_of, closes_due, IsOut, AreListed, Account, Books, Extended, extend, other_account, still_unused, still_refused, any_none}
use Rattle.smb_serving.proofs.Moves.{some_same, some_none, run_one, one, held}

-- a number gets a connection
abbrev pub connected : (ℕ → Option ℕ) → ℕ → ℕ → ℕ → Option ℕ
connected connections number c k = if eqb k number then Some c else connections k

connected_other : (connections : ℕ → Option ℕ) (number c k : ℕ) (o : Option ℕ) → connections number ≡ None → connections k ≡ o → is_some o ≡ true → connected connections number c k ≡ connections k
connected_other connections number c k None none e h = cc
connected_other connections number c k (Some d) none e h =
    let t : eqb k number ≡ false = ne_eqb k number (λ x. some_none d (sym e ∙ ap connections x ∙ none)) in
    rw t refl

all_kept : (P Q : PeerState → Type 0) (served_peers : List PeerState) → ((peer : PeerState) → P peer → Q peer) → AllByRecursion P served_peers → AllByRecursion Q served_peers
all_kept P Q [] f a = tt
all_kept P Q (peer ∷ served_peers) f a = (f peer a.0, all_kept P Q served_peers f a.1)

module _ {S : Type 0} (m : Meaning S) (s0 : ShareState S) (moments0 : List ℕ) (share : ShareState S) (served_peers : List PeerState) (calls : List PeerCall) (moments : List ℕ) (events : List Happening)
    (connections : ℕ → Option ℕ) (b : Books m s0 moments0 share served_peers calls moments events connections) (number : ℕ) (fresh : is_opened number calls ≡ false) where
  none_at : (o : Option ℕ) → connections number ≡ o → o ≡ None
  none_at None e = refl
  none_at (Some c) e = absurd (true≢false (sym (b.accounts number c e).opened ∙ fresh))

  -- a number that was not opened has no connection
  pub not_connected : connections number ≡ None
  not_connected = none_at (connections number) refl

  -- nor a peer
  peer_none : (o : Option PeerState) → found number served_peers ≡ o → ((peer : PeerState) → o ≡ Some peer → ⊥) → o ≡ None
  peer_none None e h = refl
  peer_none (Some peer) e h = absurd (h peer refl)

  module _ (none : found number served_peers ≡ None) (fits : opening_refusal share ≡ None) where
    abbrev next : ℕ
    next = share.next

    abbrev connections' : ℕ → Option ℕ
    connections' = connected connections number share.next

    abbrev peer' : PeerState
    peer' = new_peer share number

    abbrev front : List PeerState
    front = take (place_for number served_peers) served_peers

    abbrev back : List PeerState
    back = drop (place_for number served_peers) served_peers

    parts : front ++ back ≡ served_peers
    parts = take-append-drop (place_for number served_peers) served_peers

    abbrev served_peers' : List PeerState
    served_peers' = with_one_more (new_peer share number) served_peers

    unrefused : event_refusal share (opens share.next) ≡ None
    unrefused = rw (eq-eqb share.next share.next refl) fits

    ran : run_of m share (performed (opens share.next) ∷ []) ≡ one m s0 moments0 share (performed (opens share.next))
    ran = run_one m s0 moments0 share (performed (opens share.next)) unrefused

    is_held : share ≡ unread share
    is_held = held m s0 moments0 share served_peers calls moments events connections b

    x : Extended m s0 moments0 share events (performed (opens share.next) ∷ [])
    x = extend m s0 moments0 share events (performed (opens share.next) ∷ []) b.goes b.state (ap (λ t. t.stop) ran)

    is : opened share ≡ unread (run_of m share (performed (opens share.next) ∷ [])).state
    is = opened-unread m share is_held ∙ ap (λ t. unread t.state) (sym ran)

    says : (run_of m s0 (events ++ performed (opens share.next) ∷ [])).outputs ≡ (run_of m s0 events).outputs
    says = x.outputs ∙ ap (λ t. (run_of m s0 events).outputs ++ t.outputs) ran ∙ append-nil (run_of m s0 events).outputs

    known : AllByRecursion (λ peer. connections' peer.number ≡ Some peer.connection) served_peers
    known = all_kept (λ peer. connections peer.number ≡ Some peer.connection) (λ peer. connections' peer.number ≡ Some peer.connection) served_peers
        (λ peer e. connected_other connections number share.next peer.number (Some peer.connection) not_connected e refl ∙ e) b.listed.known

    own : connections' number ≡ Some share.next
    own = rw (eq-eqb number number refl) refl

    none' : found number (front ++ back) ≡ None
    none' = ap (found number) parts ∙ none

    listed : AreListed connections' served_peers'
    listed = record {
      known = all_more (λ peer. connections' peer.number ≡ Some peer.connection) peer' front back own
          (subst (λ (cs : List PeerState). AllByRecursion (λ peer. connections' peer.number ≡ Some peer.connection) cs) (sym parts) known);
      apart = apart_more peer' front back (subst Apart (sym parts) b.listed.apart) none';
    }

    -- of two numbers that have the same connection
    which : (j c : ℕ) (t : Bool) → eqb j number ≡ t → connections' j ≡ Some c → (if t then Some share.next else connections j) ≡ Some c
    which j c t e h = rw e at h

    new_is : (c j : ℕ) → connections j ≡ Some c → Some share.next ≡ Some c → ⊥
    new_is c j e h = let p = (b.accounts j c e).given.1 in omega (arith, p, some_same share.next c h)

    distinct_at : (j k c : ℕ) (t u : Bool) → eqb j number ≡ t → eqb k number ≡ u → connections' j ≡ Some c → connections' k ≡ Some c → j ≡ k
    distinct_at j k c true true e f h i = eqb-true j number e ∙ sym (eqb-true k number f)
    distinct_at j k c true false e f h i = absurd (new_is c k (which k c false f i) (which j c true e h))
    distinct_at j k c false true e f h i = absurd (new_is c j (which j c false e h) (which k c true f i))
    distinct_at j k c false false e f h i = b.distinct j k c (which j c false e h) (which k c false f i)

    fresh_account : Account m s0 moments0 (opened share) served_peers' (calls ++ next_opened number ∷ []) (events ++ performed (opens share.next) ∷ []) number share.next
    fresh_account =
        let u = b.unused share.next (omega arith) in
        let new : found number served_peers' ≡ Some peer' = found_same peer' front back none' in
        record {
          given = (b.from_one, omega arith);
          opened = any_last (opens_in number) calls (next_opened number) (eq-eqb number number refl);
          brought = flat_map-append (brought_in share.next) events (performed (opens share.next) ∷ []) ∙ more_none _ _ refl ∙ u.brought ∙ sym (heard_opened number calls [] fresh);
          fate = there (any_none (ends_in share.next) events (performed (opens share.next) ∷ []) refl ∙ u.unended)
              (ap (λ t. t ++ owed_of (found number served_peers')) (flat_map-append (taken_in number) calls (next_opened number ∷ []) ∙ more_none _ _ refl ∙ (b.others number not_connected).0)
              ∙ ap owed_of new ∙ sym (ap (put_out_to share.next) says ∙ u.says));
          closed = λ h. absurd (some_none peer' (sym new ∙ h));
          closes = closes_more number calls (next_opened number ∷ []) ∙ ap (λ n. n + 0) ((b.others number not_connected).1 ∙ ap (λ b. if b then 1 else 0) fresh) ∙ sym (ap closes_due new);
        }

    account_at : (j c : ℕ) (t : Bool) → eqb j number ≡ t → connections' j ≡ Some c → Account m s0 moments0 (opened share) served_peers' (calls ++ next_opened number ∷ []) (events ++ performed (opens share.next) ∷ []) j c
    account_at j c true t h =
        let same : number ≡ j = sym (eqb-true j number t) in
        let same' : share.next ≡ c = some_same share.next c (which j c true t h) in
        subst (λ (i : ℕ). Account m s0 moments0 (opened share) served_peers' (calls ++ next_opened number ∷ []) (events ++ performed (opens share.next) ∷ []) i c) same
        (subst (λ (i : ℕ). Account m s0 moments0 (opened share) served_peers' (calls ++ next_opened number ∷ []) (events ++ performed (opens share.next) ∷ []) number i) same' fresh_account)
    account_at j c false t h =
        let e = which j c false t h in
        let a = b.accounts j c e in
        let d = other_way j number t in
        other_account m s0 moments0 share (opened share) served_peers served_peers' calls (next_opened number ∷ []) events (performed (opens share.next) ∷ []) x (omega arith) is j c
        (ne_eqb share.next c (λ y. omega (arith, a.given.1, y)), tt) (quiet_opening number j d) (found_other peer' j front back d ∙ ap (found j) parts) a

    refused_at : (j : ℕ) (t : Bool) → eqb j number ≡ t → connections' j ≡ None → IsOut m s0 j (calls ++ next_opened number ∷ []) (events ++ performed (opens share.next) ∷ [])
    refused_at j true t h = let h' = rw t at h in absurd (some_none share.next h')
    refused_at j false t h = still_refused m s0 j calls (next_opened number ∷ []) events (performed (opens share.next) ∷ []) (quiet_opening number j (other_way j number t)) (b.others j (rw t at h))

    pub number_opened : Books m s0 moments0 (opened share) (with_one_more (new_peer share number) served_peers) (calls ++ next_opened number ∷ []) moments (events ++ performed (opens share.next) ∷ [])
        (connected connections number share.next)
    number_opened = record {
      goes = x.goes;
      state = is ∙ x.state;
      told = b.told ∙ ap (λ t. moments0 ++ t) (sym (x.moments ∙ append-nil (moments_of m s0 events)));
      order = order_opened share b.order;
      from_one = omega arith;
      listed = listed;
      distinct = λ j k c. distinct_at j k c (eqb j number) (eqb k number) refl refl;
      accounts = λ j c. account_at j c (eqb j number) refl;
      others = λ j. refused_at j (eqb j number) refl;
      unused = λ c h. still_unused m s0 moments0 share (opened share) served_peers served_peers' calls (next_opened number ∷ []) events (performed (opens share.next) ∷ []) x (omega arith) is c
          (ne_eqb share.next c (λ y. omega (arith, h, y)), tt) (b.unused c (omega (arith, h)));
    }
