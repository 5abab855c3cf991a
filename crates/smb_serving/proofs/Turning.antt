-- Turns of a share that is served: one step after the other.
use Rattle.std.proofs.Common.{◌≡◌, ℕ, zero, suc, ◌+◌, ◌<◌, ◌≤◌, Bool, true, false, ◌||◌, List, [], ◌∷◌, ◌++◌, length, take, drop, set, get_or, nat_lt, Option, None, Some, Ok, if◌then◌else◌, refl, sym, ap, subst, ◌∙◌, append_assoc, add-one, arith}
use Rattle.std.specs.List.{slice_get}
use Rattle.std.specs.Option.{option_map_or}
use Rattle.std.specs.List.{remove}
use Rattle.std.proofs.lemmas.List.{append-nil, take_all, drop_all, take_more, drop_more, take_more_set, drop-set-lt}
use Rattle.std.proofs.lemmas.Option.{slice_get_read}
use Rattle.smb_session.specs.Authenticator.{Meaning}
use Rattle.smb_engine.specs.State.{ShareState, is_open, ended}
use Rattle.smb_peers.specs.Record.{PeerCall, next_ended, send, close, Keeping}
use Rattle.smb_peers.specs.Peers.{send_call}
use Rattle.smb_serving.specs.ServedPeers.{PeerState, peer_of, with_peer}
use Rattle.smb_serving.specs.ServingParts.{place_of, dropped, serving, told, Fed, PieceTaken, takes_piece, stops_in_piece, leaves_piece, piece_taken, peers_behind_end, share_behind_end, Line, IsSent, takes, fails, owes_nothing, stays, kept_peers, closing_calls}
use Rattle.smb_serving.specs.Restless.{AtRest, HasPartAt}
use Rattle.smb_serving.proofs.Numbers.{placed-peer, put_placed-with, split}
use Rattle.smb_serving.specs.Serving.{ServingState, PieceFollows, is_answered, runs_out, is_left, Follows, settled, IsServed, is_sent, fails as fails_part, owes_nothing as owes_no_part, AreServed, Turn, Turns}

-- what follows on a call of `next`, from what it told
pub follows_told : {S : Type 0} (m : Meaning S) (share share' : ShareState S) (served_peers served_peers' : List PeerState) (calls told' calls' : List PeerCall) (moments moments' : List ℕ) (n n' : ℕ)
    (call : PeerCall) → told' ≡ calls ++ call ∷ [] → Follows m call (serving share served_peers told' moments n) (serving share' served_peers' calls' moments' n') →
    Follows m call (told (serving share served_peers calls moments n) call) (serving share' served_peers' calls' moments' n')
follows_told m share share' served_peers served_peers' calls told' calls' moments moments' n n' call e h =
    let P : List PeerCall → Type 0 = λ cs. Follows m call (serving share served_peers cs moments n) (serving share' served_peers' calls' moments' n') in
    subst P e h

-- behind a peer's send
module _ {S : Type 0} (s : ServingState S) (line : Line S) where
  settled_at : (b : Bool) → stays line.share line.peer ≡ b →
      record s { share = line.share; served_peers = s.served_peers ++ kept_peers line; calls = closing_calls line } ≡ settled line.peer (record s { share = line.share; calls = line.calls })
  settled_at true e = rw e refl
  settled_at false e = rw e (ap (λ (peers : List PeerState). record s { share = line.share; served_peers = peers; calls = line.calls ++ close line.peer.number ∷ [] }) (append-nil s.served_peers))

  pub settled_is : record s { share = line.share; served_peers = s.served_peers ++ kept_peers line; calls = closing_calls line } ≡ settled line.peer (record s { share = line.share; calls = line.calls })
  settled_is = settled_at (stays line.share line.peer) refl

part_is : {S : Type 0} (peer : PeerState) (s t : ServingState S) (line : Line S) → IsSent peer s.share s.calls line →
    t ≡ record s { share = line.share; served_peers = s.served_peers ++ kept_peers line; calls = closing_calls line } → IsServed peer s t
part_is {S} peer s t line (takes count owes within is) done =
    is_sent count owes within (done ∙ settled_is s line ∙ ap (λ (l : Line S). settled l.peer (record s { share = l.share; calls = l.calls })) is)
part_is {S} peer s t line (fails owes is) done =
    fails_part owes (done ∙ settled_is s line ∙ ap (λ (l : Line S). settled l.peer (record s { share = l.share; calls = l.calls })) is)
part_is {S} peer s t line (owes_nothing owes is) done =
    owes_no_part owes (done ∙ settled_is s line ∙ ap (λ (l : Line S). settled l.peer (record s { share = l.share; calls = l.calls })) is)

-- one peer more
AreServed-snoc : {S : Type 0} (served_peers : List PeerState) (peer : PeerState) (s middle t : ServingState S) →
    AreServed served_peers s middle → IsServed peer middle t → AreServed (served_peers ++ peer ∷ []) s t
AreServed-snoc {S} [] peer s middle t e h =
    let P : ServingState S → Type 0 = λ x. IsServed peer x t in
    (t, subst P e h, refl)
AreServed-snoc (x ∷ served_peers) peer s middle t p h = (p.0, p.1, AreServed-snoc served_peers peer p.0 middle t p.2 h)

same_serving : {S : Type 0} (share : ShareState S) (served_peers served_peers' : List PeerState) (calls calls' : List PeerCall) (moments : List ℕ) (n : ℕ) → served_peers ≡ served_peers' → calls ≡ calls' →
    serving share served_peers calls moments n ≡ serving share served_peers' calls' moments n
same_serving share served_peers served_peers' calls calls' moments n e f =
    ap (λ cs. serving share cs calls moments n) e ∙ ap (λ cs. serving share served_peers' cs moments n) f

-- the parts of some peers, and then those of others
AreServed-append : {S : Type 0} (front back : List PeerState) (s middle t : ServingState S) → AreServed front s middle → AreServed back middle t → AreServed (front ++ back) s t
AreServed-append {S} [] back s middle t e h =
    let P : ServingState S → Type 0 = λ x. AreServed back x t in
    subst P e h
AreServed-append (x ∷ front) back s middle t p h = (p.0, p.1, AreServed-append front back p.0 middle t p.2 h)

-- which peers had their part, where the loop over them has come to a place: those before it are what is left of them
pub record SentSoFar {S : Type 0} (share0 share : ShareState S) (sent0 peers0 peers : List PeerState) (calls0 calls : List PeerCall) (place : ℕ) : Type 0 where
  pub before : List PeerState
  pub parts : peers0 ≡ before ++ drop place peers
  pub served : (moments : List ℕ) (n : ℕ) → AreServed before (serving share0 sent0 calls0 moments n) (serving share (take place peers) calls moments n)

pub sent_none : {S : Type 0} (share : ShareState S) (peers : List PeerState) (calls : List PeerCall) (place : ℕ) → SentSoFar share share (take place peers) (drop place peers) peers calls calls place
sent_none share peers calls place = record { before = []; parts = refl; served = λ moments n. refl }

pub sent_more : {S : Type 0} {share0 share share' : ShareState S} {sent0 peers0 peers peers' : List PeerState} {calls0 calls calls' : List PeerCall} {place next : ℕ} →
    SentSoFar share0 share sent0 peers0 peers calls0 calls place → HasPartAt place share peers calls share' peers' calls' next →
    SentSoFar share0 share' sent0 peers0 peers' calls0 calls' next
sent_more {S} {share0} {share} {share'} {sent0} {peers0} {peers} {peers'} {calls0} {calls} {calls'} {place} {next} h part = record {
  before = h.before ++ part.peer ∷ [];
  parts = h.parts ∙ ap (λ xs. h.before ++ xs) part.split ∙ sym (append_assoc h.before (part.peer ∷ []) (drop next peers'));
  served = λ moments n. AreServed-snoc h.before part.peer _ _ _ (h.served moments n) (part.served moments n);
}

pub kept_more : {S : Type 0} {kept keeps keeps' : Bool} {share0 share share' : ShareState S} {sent0 peers0 peers peers' : List PeerState} {calls0 calls calls' : List PeerCall} {place next : ℕ} →
    Keeping kept keeps (SentSoFar share0 share sent0 peers0 peers calls0 calls place) → Keeping keeps keeps' (HasPartAt place share peers calls share' peers' calls' next) →
    Keeping kept keeps' (SentSoFar share0 share' sent0 peers0 peers' calls0 calls' next)
kept_more h part = λ k. let p = part k in let b = h p.0 in (b.0, sent_more b.1 p.1)

pub sent_all : {S : Type 0} {share0 share : ShareState S} {sent0 peers0 peers : List PeerState} {calls0 calls : List PeerCall} {place : ℕ} →
    SentSoFar share0 share sent0 peers0 peers calls0 calls place → length peers ≤ place →
    (moments : List ℕ) (n : ℕ) → AreServed peers0 (serving share0 sent0 calls0 moments n) (serving share peers calls moments n)
sent_all {S} {share0} {share} {sent0} {peers0} {peers} {calls0} {calls} {place} h past moments n =
    let whole : peers0 ≡ h.before = h.parts ∙ ap (λ xs. h.before ++ xs) (drop_all place peers past) ∙ append-nil h.before in
    let P : List PeerState → Type 0 = λ xs. AreServed xs (serving share0 sent0 calls0 moments n) (serving share peers calls moments n) in
    let Q : List PeerState → Type 0 = λ xs. AreServed h.before (serving share0 sent0 calls0 moments n) (serving share xs calls moments n) in
    subst P (sym whole) (subst Q (take_all place peers past) (h.served moments n))

-- and those behind the place
pub sent_behind : {S : Type 0} {share0 share : ShareState S} {sent0 peers0 peers : List PeerState} {calls0 calls : List PeerCall} {place : ℕ} (share' : ShareState S) (peers' : List PeerState) (calls' : List PeerCall) →
    SentSoFar share0 share sent0 peers0 peers calls0 calls place →
    ((moments : List ℕ) (n : ℕ) → AreServed (drop place peers) (serving share (take place peers) calls moments n) (serving share' peers' calls' moments n)) →
    (moments : List ℕ) (n : ℕ) → AreServed peers0 (serving share0 sent0 calls0 moments n) (serving share' peers' calls' moments n)
sent_behind {S} {share0} {share} {sent0} {peers0} {peers} {calls0} {calls} {place} share' peers' calls' h others moments n =
    let P : List PeerState → Type 0 = λ xs. AreServed xs (serving share0 sent0 calls0 moments n) (serving share' peers' calls' moments n) in
    subst P (sym h.parts) (AreServed-append h.before (drop place peers) _ _ _ (h.served moments n) (others moments n))

-- the part of a peer at rest changes nothing
rest_settled : {S : Type 0} (peer : PeerState) (s : ServingState S) → AtRest s.share peer → record s { served_peers = s.served_peers ++ peer ∷ [] } ≡ settled peer s
rest_settled {S} peer s rest =
    let after : Bool → Bool → ServingState S = λ owed open_still. if owed || open_still then record s { served_peers = s.served_peers ++ peer ∷ [] } else record s { calls = s.calls ++ close peer.number ∷ [] } in
    ap (λ b. after false b) (sym rest.1) ∙ ap (λ b. after b (is_open s.share peer.connection)) (sym rest.0)

rest_part : {S : Type 0} (share : ShareState S) (peers : List PeerState) (calls : List PeerCall) (place : ℕ) (other : PeerState) → place < length peers → AtRest share (get_or peers place other) →
    HasPartAt place share peers calls share peers calls (place + 1)
rest_part share peers calls place other within rest = record {
  peer = get_or peers place other;
  split = drop_more peers place other within;
  served = λ moments n. owes_no_part rest.0
      (ap (λ xs. serving share xs calls moments n) (take_more peers place other within) ∙ rest_settled (get_or peers place other) (serving share (take place peers) calls moments n) rest);
}

-- so many peers at rest
pub sent_past : {S : Type 0} {share0 share : ShareState S} {sent0 peers0 peers : List PeerState} {calls0 calls : List PeerCall} {place : ℕ} (other : PeerState) (count : ℕ) →
    SentSoFar share0 share sent0 peers0 peers calls0 calls place → place + count ≤ length peers →
    ((k : ℕ) → place ≤ k → k < place + count → AtRest share (get_or peers k other)) →
    SentSoFar share0 share sent0 peers0 peers calls0 calls (place + count)
sent_past {S} {share0} {share} {sent0} {peers0} {peers} {calls0} {calls} {place} other zero h fits rest =
    let P : ℕ → Type 0 = SentSoFar share0 share sent0 peers0 peers calls0 calls in
    let e : place ≡ place + 0 = omega arith in
    subst P e h
sent_past {S} {share0} {share} {sent0} {peers0} {peers} {calls0} {calls} {place} other (suc count) h fits rest =
    let P : ℕ → Type 0 = SentSoFar share0 share sent0 peers0 peers calls0 calls in
    let e : place + count + 1 ≡ place + suc count = omega arith in
    subst P e (sent_more (sent_past other count h (omega arith) (λ k a b. rest k a (omega arith)))
    (rest_part share peers calls (place + count) other (omega arith) (rest (place + count) (omega arith) (omega arith))))

-- a peer that was changed, and one that was taken out
pub take-gone : {X : Type 0} (xs : List X) (i : ℕ) (x : X) → i < length xs → take i (remove (set xs i x) i) ≡ take i xs
take-gone [] i x h = absurd (omega arith)
take-gone (y ∷ xs) zero x h = refl
take-gone (y ∷ xs) (suc i) x h = ap (λ ys. y ∷ ys) (take-gone xs i x (omega arith))

pub drop-gone : {X : Type 0} (xs : List X) (i : ℕ) (x : X) → i < length xs → drop i (remove (set xs i x) i) ≡ drop (suc i) xs
drop-gone [] i x h = absurd (omega arith)
drop-gone (y ∷ xs) zero x h = refl
drop-gone (y ∷ xs) (suc i) x h = drop-gone xs i x (omega arith)

-- the peer at a place has its send, and stays or is taken out
module _ {S : Type 0} (keeps keeps' keeps'' : Bool) (share share' : ShareState S) (peers : List PeerState) (calls calls' calls'' : List PeerCall) (place : ℕ) (peer peer' : PeerState) where
  abbrev line : Line S
  line = record { share = share'; peer = peer'; calls = calls' }

  part_at : (peers'' : List PeerState) (next : ℕ) → place < length peers → peer ≡ get_or peers place peer → Keeping keeps keeps' (IsSent peer share calls line) →
      Keeping keeps' keeps'' (calls'' ≡ closing_calls line) →
      take next peers'' ≡ take place peers ++ kept_peers line → drop next peers'' ≡ drop (place + 1) peers →
      Keeping keeps keeps'' (HasPartAt place share peers calls share' peers'' calls'' next)
  part_at peers'' next within is sent told front back = λ k.
      let t = told k in
      let s = sent t.0 in (
        s.0,
        record {
          peer = peer;
          split = drop_more peers place peer within ∙ ap (λ x. x ∷ drop (place + 1) peers) (sym is) ∙ ap (λ xs. peer ∷ xs) (sym back);
          served = λ moments n. part_is peer (serving share (take place peers) calls moments n) _ line s.1
              (same_serving share' (take next peers'') (take place peers ++ kept_peers line) calls'' (closing_calls line) moments n front t.1);
        },
      )

  pub stays_at : place < length peers → peer ≡ get_or peers place peer → Keeping keeps keeps' (IsSent peer share calls line) → Keeping keeps' keeps'' (calls'' ≡ closing_calls line) → stays share' peer' ≡ true →
      Keeping keeps keeps'' (HasPartAt place share peers calls share' (set peers place peer') calls'' (place + 1))
  stays_at within is sent told stay =
      part_at (set peers place peer') (place + 1) within is sent told
      (take_more_set peers place peer' within ∙ ap (λ b. take place peers ++ (if b then peer' ∷ [] else [])) (sym stay))
      (drop-set-lt (place + 1) peers place peer' (omega arith))

  pub goes_at : (peers'' : List PeerState) → peers'' ≡ remove (set peers place peer') place →
      place < length peers → peer ≡ get_or peers place peer → Keeping keeps keeps' (IsSent peer share calls line) → Keeping keeps' keeps'' (calls'' ≡ closing_calls line) → stays share' peer' ≡ false →
      Keeping keeps keeps'' (HasPartAt place share peers calls share' peers'' calls'' place)
  goes_at peers'' e within is sent told stay =
      part_at peers'' place within is sent told
      (ap (take place) e ∙ take-gone peers place peer' within ∙ sym (append-nil (take place peers)) ∙ ap (λ b. take place peers ++ (if b then peer' ∷ [] else [])) (sym stay))
      (ap (drop place) e ∙ drop-gone peers place peer' within ∙ ap (λ i. drop i peers) (let o : suc place ≡ place + 1 = omega arith in o))

-- one turn more
pub turns_more : {S : Type 0} (m : Meaning S) (i : ℕ) (s middle t : ServingState S) → Turns m i s middle → Turn m middle t → Turns m (i + 1) s t
turns_more m i s middle t h turn = rw add-one (middle, h, turn)

fed_is : {S : Type 0} (fed : Fed S) (share : ShareState S) (peer : PeerState) (moments : List ℕ) (ran_out : Bool) → fed.share ≡ share → fed.peer ≡ peer → fed.moments ≡ moments → fed.ran_out ≡ ran_out →
    fed ≡ record { share = share; peer = peer; moments = moments; ran_out = ran_out }
fed_is fed share peer moments ran_out e f g h = rw (← e, ← f, ← g, ← h) refl

-- the peer at a place
module _ (number place : ℕ) (served_peers : List PeerState) (peer : PeerState) (at : Some place ≡ place_of number served_peers) (within : place < length served_peers) (is : peer ≡ get_or served_peers place peer) where
  pub peer_at : peer_of number served_peers ≡ Some peer
  peer_at = sym (placed-peer number served_peers) ∙ ap (λ o. option_map_or (slice_get served_peers) o None) (sym at) ∙ slice_get_read served_peers (length served_peers) place peer refl within is

  put_at : (peer' : PeerState) → set served_peers place peer' ≡ with_peer number peer' served_peers
  put_at peer' = ap (λ o. option_map_or (λ p. set served_peers p peer') o served_peers) at ∙ put_placed-with number peer' served_peers

  pub share_at : {S : Type 0} (share share' : ShareState S) → share' ≡ ended share peer.connection → share' ≡ share_behind_end share served_peers number
  share_at share share' e = e ∙ ap (λ o. option_map_or (λ (c : PeerState). ended share c.connection) o share) (sym peer_at)

  pub ended_at : (peer' : PeerState) → peer' ≡ dropped peer → set served_peers place peer' ≡ peers_behind_end served_peers number
  ended_at peer' e = put_at peer' ∙ ap (λ c. with_peer number c served_peers) e ∙ ap (λ o. option_map_or (λ c. with_peer number (dropped c) served_peers) o served_peers) (sym peer_at)

  -- the peer itself in its place
  put_itself : with_peer number peer served_peers ≡ served_peers
  put_itself = let p = split number peer served_peers peer_at in p.puts peer ∙ sym p.whole

  module _ {S : Type 0} (m : Meaning S) (piece : List ℕ) (share : ShareState S) (calls : List PeerCall) (moments : List ℕ) (n : ℕ) where
    abbrev fed_state : Fed S → ServingState S
    fed_state fed = serving fed.share (with_peer number fed.peer served_peers) calls fed.moments (if fed.ran_out then n + 1 else n)

    fed_follows : (fed : Fed S) → PieceTaken m piece share peer moments fed → PieceFollows m number piece (serving share served_peers calls moments n) (fed_state fed)
    fed_follows fed (takes_piece moment open_still short is told' kept) =
        let e : fed ≡ record { share = (piece_taken m share peer moment piece).share; peer = (piece_taken m share peer moment piece).peer; moments = moments ++ moment ∷ []; ran_out = false } =
        fed_is fed _ _ _ _ (ap (λ t. t.share) is) (ap (λ t. t.peer) is) told' kept in
        is_answered peer moment peer_at open_still (short, ap fed_state e)
    fed_follows fed (stops_in_piece moment done open_still stop told' out) =
        let e : fed ≡ record { share = fed.share; peer = dropped peer; moments = moments ++ moment ∷ []; ran_out = true } = fed_is fed _ _ _ _ refl stop.drops told' out in
        runs_out peer moment done fed.share peer_at open_still stop.stops (ap fed_state e)
    fed_follows fed (leaves_piece shut is) =
        is_left (ap (λ o. option_map_or (λ (c : PeerState). is_open share c.connection) o false) peer_at ∙ shut)
        (ap fed_state is ∙ ap (λ cs. serving share cs calls moments n) put_itself)

  pub fed_at : {S : Type 0} (m : Meaning S) (piece : List ℕ) (share share' : ShareState S) (peer' : PeerState) (moments moments' : List ℕ) (ran_out : Bool) →
      PieceTaken m piece share peer moments (record { share = share'; peer = peer'; moments = moments'; ran_out = ran_out }) →
      (calls : List PeerCall) (n : ℕ) → PieceFollows m number piece (serving share served_peers calls moments n) (serving share' (set served_peers place peer') calls moments' (if ran_out then n + 1 else n))
  fed_at {S} m piece share share' peer' moments moments' ran_out h calls n =
      let P : List PeerState → Type 0 = λ cs. PieceFollows m number piece (serving share served_peers calls moments n) (serving share' cs calls moments' (if ran_out then n + 1 else n)) in
      subst P (sym (put_at peer')) (fed_follows m piece share calls moments n (record { share = share'; peer = peer'; moments = moments'; ran_out = ran_out }) h)

-- a piece of a number that has no peer
pub unknown_piece : {S : Type 0} (m : Meaning S) (number : ℕ) (piece : List ℕ) (s : ServingState S) → peer_of number s.served_peers ≡ None → PieceFollows m number piece s s
unknown_piece m number piece s none = is_left (ap (λ o. option_map_or (λ (c : PeerState). is_open s.share c.connection) o false) none) refl

-- an end of a number that has no peer
pub no_end : {S : Type 0} (number : ℕ) (share : ShareState S) (served_peers : List PeerState) → peer_of number served_peers ≡ None →
    (share ≡ share_behind_end share served_peers number) × (served_peers ≡ peers_behind_end served_peers number)
no_end number share served_peers none = (
  ap (λ o. option_map_or (λ (c : PeerState). ended share c.connection) o share) (sym none),
  ap (λ o. option_map_or (λ c. with_peer number (dropped c) served_peers) o served_peers) (sym none),
)

ended_whole : {S : Type 0} (number : ℕ) (s : ServingState S) (o : Option PeerState) →
    record s { share = option_map_or (λ (c : PeerState). ended s.share c.connection) o s.share; served_peers = option_map_or (λ c. with_peer number (dropped c) s.served_peers) o s.served_peers }
    ≡ option_map_or (λ (c : PeerState). record s { share = ended s.share c.connection; served_peers = with_peer number (dropped c) s.served_peers }) o s
ended_whole number s None = refl
ended_whole number s (Some c) = refl

pub end_follows : {S : Type 0} (m : Meaning S) (number : ℕ) (share share' : ShareState S) (served_peers served_peers' : List PeerState) (calls : List PeerCall) (moments : List ℕ) (n : ℕ) →
    share' ≡ share_behind_end share served_peers number → served_peers' ≡ peers_behind_end served_peers number →
    Follows m (next_ended number) (serving share served_peers calls moments n) (serving share' served_peers' calls moments n)
end_follows m number share share' served_peers served_peers' calls moments n e f =
    ap (λ s. serving s served_peers' calls moments n) e ∙ ap (λ cs. serving (share_behind_end share served_peers number) cs calls moments n) f
    ∙ ended_whole number (serving share served_peers calls moments n) (peer_of number served_peers)

-- a send of which a part was taken
pub sent_part : {S : Type 0} (peer peer' : PeerState) (share : ShareState S) (calls calls' : List PeerCall) (number : ℕ) (bytes : List ℕ) (count : ℕ) → number ≡ peer.number → bytes ≡ peer.owed →
    nat_lt 0 (length peer.owed) ≡ true → count ≤ length bytes → calls' ≡ calls ++ send_call number bytes (Ok count) ∷ [] → peer' ≡ record peer { owed = drop count peer.owed } →
    IsSent peer share calls (record { share = share; peer = peer'; calls = calls' })
sent_part {S} peer peer' share calls calls' number bytes count same whole owed within told left =
    let P : ℕ → List ℕ → List PeerCall = λ n bs. calls ++ send n (length bs) (Some (take count bs)) ∷ [] in
    let W : List ℕ → Type 0 = λ bs. count ≤ length bs in
    let L : PeerState → List PeerCall → Line S = λ c cs. record { share = share; peer = c; calls = cs } in
    takes count owed (subst W whole within)
    (ap (λ c. L c calls') left ∙ ap (λ cs. L (record peer { owed = drop count peer.owed }) cs) (told ∙ ap (λ n. P n bytes) same ∙ ap (λ bs. P peer.number bs) whole))
