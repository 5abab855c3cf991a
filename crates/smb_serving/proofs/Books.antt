-- The books of a share that is served: the run of events that serving comes to so far, and what it owes to each number.
use Rattle.std.proofs.Common.{◌≡◌, inl, inr, ℕ, ◌+◌, ◌<◌, ◌≤◌, eqb, Bool, true, false, ◌||◌, List, [], ◌∷◌, ◌++◌, length, Option, None, Some, is_some, if◌then◌else◌, refl, sym, ap, subst, ◌∙◌, append_assoc, arith}
use Rattle.std.specs.List.{AllByRecursion, list_any}
use Rattle.std.specs.Option.{option_map, option_map_or}
use Rattle.std.specs.BTreeMap.{is_at}
use Rattle.std.specs.Ordering.{nat_cmp}
use Rattle.std.proofs.lemmas.List.{append-nil}
use Rattle.std.proofs.lemmas.List.Concat.{flat_map-append}
use Rattle.std.proofs.lemmas.List.Folds.{list_any-append}
use Rattle.std.proofs.lemmas.Bool.{eqb-true}
use Rattle.smb_session.specs.Authenticator.{Meaning}
use Rattle.smb_engine.specs.State.{StreamState, ShareState, stream_of}
use Rattle.smb_engine.specs.Stream.{unread}
use Rattle.smb_engine.specs.Parts.{unread_stream, moved}
use Rattle.smb_engine.specs.Refusals.{run_behind}
use Rattle.smb_engine.specs.Laws.{StreamsInOrder, run_after}
use Rattle.smb_serving.specs.Happenings.{Happening, runs_out_of_memory, run_of}
use Rattle.smb_serving.specs.ServingParts.{OpeningFails, runs_out_in, taken_in, opens_in, breaks_in, brought_in, ends_in, bytes_for}
use Rattle.smb_peers.specs.Record.{PeerCall, next_opened, close, sent_by, taken_by, closes_of}
use Rattle.smb_serving.specs.ServedPeers.{PeerState}
use Rattle.smb_serving.specs.Serving.{most_owed}
use Rattle.smb_serving.specs.ServingLaws.{sent_when_open, is_opened, is_broken_off, brought_to, is_ended, put_out_to, moments_of, IsRefused}
use Rattle.smb_engine.proofs.Streams.{stream_of-unread}
use Rattle.smb_engine.proofs.Runs.{unread-unread}
use Rattle.smb_serving.proofs.Happenings.{plays_on, plays_unread, plays_in_order, others_kept, moments_more, moments_same, order_unread}
use Rattle.smb_serving.proofs.Numbers.{found, Apart}
use Rattle.smb_serving.proofs.Accounts.{heard_more, any_more, IsQuiet, closes_more, AreElsewhere, brought_none, ended_none, put_none, Fate, fate_same}

abbrev pub owed_of : Option PeerState → List ℕ
owed_of o = option_map_or (λ peer. peer.owed) o []

-- how often a number is closed whose peer this is
abbrev pub closes_due : Option PeerState → ℕ
closes_due o = if is_some o then 0 else 1

-- the served peers have the connections of their numbers, and no two have the same number
pub record AreListed (connections : ℕ → Option ℕ) (served_peers : List PeerState) : Type 0 where
  pub known : AllByRecursion (λ peer. connections peer.number ≡ Some peer.connection) served_peers
  pub apart : Apart served_peers

pub both_more : (a a' b b' : Bool) → (a ≡ true → a' ≡ true) → (b ≡ true → b' ≡ true) → (a || b) ≡ true → (a' || b') ≡ true
both_more true a' b b' f g h = rw (f refl) refl
both_more false true b b' f g h = refl
both_more false false b b' f g h = g h

-- a connection that is closed, seen from what is unread
closed_unread : (o : Option StreamState) → o ≡ None → option_map unread_stream o ≡ None
closed_unread o e = ap (option_map unread_stream) e

pub any_none : {X : Type 0} (test : X → Bool) (xs ys : List X) → list_any test ys ≡ false → list_any test (xs ++ ys) ≡ list_any test xs
any_none test [] ys h = h
any_none test (x ∷ xs) ys h = ap (λ b. test x || b) (any_none test xs ys h)

pub more_none : (xs ys : List ℕ) → ys ≡ [] → xs ++ ys ≡ xs
more_none xs ys h = ap (λ zs. xs ++ zs) h ∙ append-nil xs

pub plus_none : (n : ℕ) → n + 0 ≡ n
plus_none n = omega arith

-- nothing is taken for a number without a connection, it is closed as often as it was opened, and if it was, it was refused
abbrev pub IsOut : {S : Type 0} → Meaning S → ShareState S → ℕ → List PeerCall → List Happening → Type 0
IsOut m s0 number calls events = (taken_by number calls ≡ []) × (closes_of number calls ≡ (if is_opened number calls then 1 else 0)) × (is_opened number calls ≡ true → IsRefused m s0 number calls events)

fails_still : {S : Type 0} (share : ShareState S) (back evs : List Happening) → OpeningFails share back → OpeningFails share (back ++ evs)
fails_still share back evs (inl h) = inl h
fails_still share back evs (inr h) = inr (h.0, h.1 ++ evs, ap (λ t. t ++ evs) h.2)

-- it stays so where nothing is taken for it, and it is neither opened nor closed
pub refused_more : {S : Type 0} (m : Meaning S) (s0 : ShareState S) (number : ℕ) (calls cs : List PeerCall) (events evs : List Happening) → taken_by number cs ≡ [] → is_opened number cs ≡ false → closes_of number cs ≡ 0 →
    IsOut m s0 number calls events → IsOut m s0 number (calls ++ cs) (events ++ evs)
refused_more m s0 number calls cs events evs taken opened closes r =
    let same : is_opened number (calls ++ cs) ≡ is_opened number calls = any_none (opens_in number) calls cs opened in (
      flat_map-append (taken_in number) calls cs ∙ more_none _ _ taken ∙ r.0,
      closes_more number calls cs ∙ ap (λ n. closes_of number calls + n) closes ∙ plus_none (closes_of number calls) ∙ r.1 ∙ ap (λ b. if b then 1 else 0) (sym same),
      λ h.
          let c = r.2 (sym same ∙ h) in
          record {
            before = c.before;
            after = c.after ++ cs;
            closed = ap (λ t. t ++ cs) c.closed ∙ append_assoc c.before (next_opened number ∷ close number ∷ c.after) cs;
            front = c.front;
            back = c.back ++ evs;
            point = ap (λ t. t ++ evs) c.point ∙ append_assoc c.front c.back evs;
            reason = fails_still (run_of m s0 c.front).state c.back evs c.reason;
          },
    )

pub still_refused : {S : Type 0} (m : Meaning S) (s0 : ShareState S) (number : ℕ) (calls cs : List PeerCall) (events evs : List Happening) → IsQuiet number cs →
    IsOut m s0 number calls events → IsOut m s0 number (calls ++ cs) (events ++ evs)
still_refused m s0 number calls cs events evs q r = refused_more m s0 number calls cs events evs q.taken q.opened q.closes r

module _ {S : Type 0} (m : Meaning S) (s0 : ShareState S) (moments0 : List ℕ) where
  -- events behind others, from the share as it is held
  pub record Extended (share : ShareState S) (events evs : List Happening) : Type 0 where
    pub goes : (run_of m s0 (events ++ evs)).stop ≡ None
    pub state : unread (run_of m share evs).state ≡ unread (run_of m s0 (events ++ evs)).state
    pub outputs : (run_of m s0 (events ++ evs)).outputs ≡ (run_of m s0 events).outputs ++ (run_of m share evs).outputs
    pub moments : moments_of m s0 (events ++ evs) ≡ moments_of m s0 events ++ moments_of m share evs

  pub extend : (share : ShareState S) (events evs : List Happening) → (run_of m s0 events).stop ≡ None → share ≡ unread (run_of m s0 events).state → (run_of m share evs).stop ≡ None → Extended share events evs
  extend share events evs g h r =
      let before = run_of m s0 events in
      let whole : run_of m s0 (events ++ evs) ≡ run_after (length events) before.outputs (run_of m before.state evs) = plays_on m s0 events evs g in
      let same : run_behind [] (run_of m share evs) ≡ run_behind [] (run_of m before.state evs) =
      ap (λ t. run_behind [] (run_of m t evs)) h ∙ plays_unread m before.state evs in
      record {
        goes = ap (λ d. d.stop) whole ∙ ap (option_map (moved (length events))) (sym (ap (λ d. d.stop) same) ∙ r);
        state = ap (λ d. d.state) same ∙ ap (λ d. unread d.state) (sym whole);
        outputs = ap (λ d. d.outputs) whole ∙ ap (λ t. before.outputs ++ t) (sym (ap (λ d. d.outputs) same));
        moments = moments_more m s0 events evs g
            ∙ ap (λ t. moments_of m s0 events ++ t) (moments_same m before.state share evs (sym (unread-unread before.state) ∙ ap unread (sym h)));
      }

  -- the account of a number that has a connection
  pub record Account (share : ShareState S) (served_peers : List PeerState) (calls : List PeerCall) (events : List Happening) (number connection : ℕ) : Type 0 where
    pub given : (0 < connection) × (connection < share.next)
    pub opened : is_opened number calls ≡ true
    pub brought : brought_to connection events ≡ sent_when_open number calls
    pub fate : Fate most_owed (stream_of connection share.streams) (is_ended connection events) (is_broken_off number calls || runs_out_of_memory connection events) (owed_of (found number served_peers)) (taken_by number calls)
        (put_out_to connection (run_of m s0 events).outputs)
    pub closed : found number served_peers ≡ None → stream_of connection share.streams ≡ None
    pub closes : closes_of number calls ≡ closes_due (found number served_peers)

  -- a connection that was not given yet
  pub record IsUnused (events : List Happening) (connection : ℕ) : Type 0 where
    pub brought : brought_to connection events ≡ []
    pub unended : is_ended connection events ≡ false
    pub says : put_out_to connection (run_of m s0 events).outputs ≡ []

  pub record Books (share : ShareState S) (served_peers : List PeerState) (calls : List PeerCall) (moments : List ℕ) (events : List Happening) (connections : ℕ → Option ℕ) : Type 0 where
    pub goes : (run_of m s0 events).stop ≡ None
    pub state : share ≡ unread (run_of m s0 events).state
    pub told : moments ≡ moments0 ++ moments_of m s0 events
    pub order : StreamsInOrder share
    pub from_one : 0 < share.next
    pub listed : AreListed connections served_peers
    pub distinct : (number other connection : ℕ) → connections number ≡ Some connection → connections other ≡ Some connection → number ≡ other
    pub accounts : (number connection : ℕ) → connections number ≡ Some connection → Account share served_peers calls events number connection
    pub others : (number : ℕ) → connections number ≡ None → IsOut m s0 number calls events
    pub unused : (connection : ℕ) → share.next ≤ connection → IsUnused events connection

  -- what calls and events change of the account of their own number
  pub record Own (share share' : ShareState S) (served_peers served_peers' : List PeerState) (calls cs : List PeerCall) (events evs : List Happening) (number connection : ℕ) : Type 0 where
    pub brought : brought_to connection evs ≡ sent_by number cs
    pub fate : Fate most_owed (stream_of connection share.streams) (is_ended connection events) (is_broken_off number calls || runs_out_of_memory connection events) (owed_of (found number served_peers)) (taken_by number calls)
        (put_out_to connection (run_of m s0 events).outputs) →
        Fate most_owed (stream_of connection share'.streams) (is_ended connection events || is_ended connection evs) ((is_broken_off number calls || is_broken_off number cs) || (runs_out_of_memory connection events || runs_out_of_memory connection evs)) (owed_of (found number served_peers'))
        (taken_by number calls ++ taken_by number cs) (put_out_to connection (run_of m s0 events).outputs ++ put_out_to connection (run_of m share evs).outputs)
    pub closed : found number served_peers' ≡ None → stream_of connection share'.streams ≡ None
    pub closes : closes_due (found number served_peers) + closes_of number cs ≡ closes_due (found number served_peers')

  module _ (share share' : ShareState S) (served_peers served_peers' : List PeerState) (calls cs : List PeerCall) (events evs : List Happening) (x : Extended share events evs) (next : share.next ≤ share'.next)
      (is : share' ≡ unread (run_of m share evs).state) where
    -- the account of the number itself
    own_account : (number connection : ℕ) → Own share share' served_peers served_peers' calls cs events evs number connection → Account share served_peers calls events number connection →
        Account share' served_peers' (calls ++ cs) (events ++ evs) number connection
    own_account number connection o a = record {
      given = (a.given.0, omega (arith, a.given.1, next));
      opened = any_more (opens_in number) calls cs a.opened;
      brought = flat_map-append (brought_in connection) events evs ∙ ap (λ t. t ++ brought_to connection evs) a.brought ∙ ap (λ t. sent_when_open number calls ++ t) o.brought
          ∙ sym (heard_more number calls cs a.opened);
      fate = rw (
        list_any-append (ends_in connection) events evs,
        list_any-append (breaks_in number) calls cs,
        list_any-append (runs_out_in connection) events evs,
        flat_map-append (taken_in number) calls cs,
        x.outputs,
        flat_map-append (bytes_for connection) (run_of m s0 events).outputs (run_of m share evs).outputs,
      ) (o.fate a.fate);
      closed = o.closed;
      closes = closes_more number calls cs ∙ ap (λ n. n + closes_of number cs) a.closes ∙ o.closes;
    }

    -- that of another number
    pub other_account : (number connection : ℕ) → AreElsewhere connection evs → IsQuiet number cs → found number served_peers' ≡ found number served_peers → Account share served_peers calls events number connection →
        Account share' served_peers' (calls ++ cs) (events ++ evs) number connection
    other_account number connection e q f a =
        let left = others_kept m share evs connection e in
        let stream : stream_of connection share'.streams ≡ option_map unread_stream (stream_of connection share.streams) =
        ap (λ t. stream_of connection t.streams) is ∙ stream_of-unread (is_at (nat_cmp connection)) (run_of m share evs).state.streams ∙ ap (option_map unread_stream) left.0 in
        let stays : stream_of connection share.streams ≡ None → stream_of connection share'.streams ≡ None = λ h. stream ∙ closed_unread (stream_of connection share.streams) h in
        record {
          given = (a.given.0, omega (arith, a.given.1, next));
          opened = any_more (opens_in number) calls cs a.opened;
          brought = flat_map-append (brought_in connection) events evs ∙ more_none _ _ (brought_none connection evs e) ∙ a.brought
              ∙ sym (heard_more number calls cs a.opened ∙ more_none _ _ q.sent);
          fate = fate_same most_owed _ _ _ _ _ _ _ _ _ _ _ _ stays (any_none (ends_in connection) events evs (ended_none connection evs e)) (both_more _ _ _ _ (any_more (breaks_in number) calls cs) (any_more (runs_out_in connection) events evs)) (ap owed_of f)
              (flat_map-append (taken_in number) calls cs ∙ more_none _ _ q.taken)
              (ap (put_out_to connection) x.outputs ∙ flat_map-append (bytes_for connection) (run_of m s0 events).outputs (run_of m share evs).outputs ∙ more_none _ _ (put_none connection (run_of m share evs).outputs left.1)) a.fate;
          closed = λ h. stays (a.closed (sym f ∙ h));
          closes = closes_more number calls cs ∙ ap (λ n. closes_of number calls + n) q.closes ∙ plus_none _ ∙ a.closes ∙ sym (ap closes_due f);
        }

    pub still_unused : (connection : ℕ) → AreElsewhere connection evs → IsUnused events connection → IsUnused (events ++ evs) connection
    still_unused connection e u =
        let left = others_kept m share evs connection e in
        record {
          brought = flat_map-append (brought_in connection) events evs ∙ more_none _ _ (brought_none connection evs e) ∙ u.brought;
          unended = any_none (ends_in connection) events evs (ended_none connection evs e) ∙ u.unended;
          says = ap (put_out_to connection) x.outputs ∙ flat_map-append (bytes_for connection) (run_of m s0 events).outputs (run_of m share evs).outputs
              ∙ more_none _ _ (put_none connection (run_of m share evs).outputs left.1) ∙ u.says;
        }

  -- calls of one number, and events on its connection if it has one
  module _ (share share' : ShareState S) (served_peers served_peers' : List PeerState) (calls cs : List PeerCall) (moments moments' : List ℕ) (events evs : List Happening) (connections : ℕ → Option ℕ)
      (number : ℕ) (b : Books share served_peers calls moments events connections) (own : (c : ℕ) → connections number ≡ Some c → Own share share' served_peers served_peers' calls cs events evs number c)
      (refused : connections number ≡ None → IsOut m s0 number calls events → IsOut m s0 number (calls ++ cs) (events ++ evs))
      (elsewhere : (j c : ℕ) → connections j ≡ Some c → eqb number j ≡ false → AreElsewhere c evs) (quiet : (j : ℕ) → eqb number j ≡ false → IsQuiet j cs)
      (same : (j : ℕ) → eqb number j ≡ false → found j served_peers' ≡ found j served_peers) where
    account_at : Extended share events evs → share.next ≤ share'.next → share' ≡ unread (run_of m share evs).state → (j c : ℕ) (x : Bool) → eqb number j ≡ x → connections j ≡ Some c →
        Account share' served_peers' (calls ++ cs) (events ++ evs) j c
    account_at x next is j c true t e =
        let j' : number ≡ j = eqb-true number j t in
        let P : ℕ → Type 0 = λ k. Account share' served_peers' (calls ++ cs) (events ++ evs) k c in
        let e' : connections number ≡ Some c = ap connections j' ∙ e in
        subst P j' (own_account share share' served_peers served_peers' calls cs events evs x next is number c (own c e') (b.accounts number c e'))
    account_at x next is j c false t e =
        other_account share share' served_peers served_peers' calls cs events evs x next is j c (elsewhere j c e t) (quiet j t) (same j t) (b.accounts j c e)

    refused_at : (j : ℕ) (x : Bool) → eqb number j ≡ x → connections j ≡ None → IsOut m s0 j (calls ++ cs) (events ++ evs)
    refused_at j true t e =
        let j' : number ≡ j = eqb-true number j t in
        let P : ℕ → Type 0 = λ k. IsOut m s0 k (calls ++ cs) (events ++ evs) in
        let e' : connections number ≡ None = ap connections j' ∙ e in
        subst P j' (refused e' (b.others number e'))
    refused_at j false t e = still_refused m s0 j calls cs events evs (quiet j t) (b.others j e)

    pub move : (run_of m share evs).stop ≡ None → share' ≡ unread (run_of m share evs).state → share'.next ≡ share.next → moments' ≡ moments ++ moments_of m share evs →
        ((c : ℕ) → share.next ≤ c → AreElsewhere c evs) → AreListed connections served_peers' → Books share' served_peers' (calls ++ cs) moments' (events ++ evs) connections
    move goes is next told beyond listed =
        let x = extend share events evs b.goes b.state goes in
        let above : share.next ≤ share'.next = omega (arith, next) in
        record {
          goes = x.goes;
          state = is ∙ x.state;
          told = told ∙ ap (λ t. t ++ moments_of m share evs) b.told ∙ append_assoc moments0 (moments_of m s0 events) (moments_of m share evs)
              ∙ ap (λ t. moments0 ++ t) (sym x.moments);
          order = rw is (order_unread (run_of m share evs).state (plays_in_order m share evs b.order));
          from_one = rw next b.from_one;
          listed = listed;
          distinct = b.distinct;
          accounts = λ j c e. account_at x above is j c (eqb number j) refl e;
          others = λ j e. refused_at j (eqb number j) refl e;
          unused = λ c h. let h' : share.next ≤ c = rw next at h in still_unused share share' served_peers served_peers' calls cs events evs x above is c (beyond c h') (b.unused c h');
        }
