-- Over a chain and a run: without keys there are none.
use Rattle.std.proofs.Common.{◌≡◌, ◌&&◌, ◌||◌, ◌==◌, ℕ, Bool, true, false, not, if◌then◌else◌, filter, List, [], ◌∷◌, ◌++◌, Option, None, Some, is_some, refl, subst, sym}
use Rattle.std.specs.List.{AllByRecursion}
use Rattle.std.specs.Option.{option_map}
use Rattle.smb_head.specs.Headers.{header_of}
use Rattle.smb_head.specs.Chains.{is_signed}
use Rattle.smb_head.specs.Replies.{HasNoKey}
use Rattle.smb_session.specs.Authenticator.{Meaning}
use Rattle.smb_session.specs.Numbers.{contains, with_number}
use Rattle.smb_session.specs.Session.{SessionState}
use Rattle.smb_session.specs.Table.{TableState, signing_of}
use Rattle.smb_session.specs.declared.signing.Signing.{Signing}
use Rattle.smb_request.specs.Laws.{request_ids}
use Rattle.smb_request.specs.Request.{performed, response_key, is_set_up}
use Rattle.smb_request.specs.Response.{Performed, ResponseState}
use Rattle.smb_request.specs.State.{ServerState, connection_added, connection_ended}
use Rattle.smb_peers.specs.Event.{EventText}
use Rattle.smb_engine.specs.declared.arrival.Arrival.{Arrival}
use Rattle.smb_signing.specs.declared.key.Key.{Key}
use Rattle.smb_request.specs.declared.context.HeaderIds.{HeaderIds}
use Rattle.smb_engine.specs.declared.session_keys.SessionKey.{SessionKey}
use Rattle.smb_engine.specs.Keys.{kept_key}
use Rattle.smb_engine.specs.Parts.{replied, all_performed, key_or_kept}
use Rattle.smb_engine.specs.Run.{PerformedRequest, ChainState, one_performed, run}
use Rattle.smb_engine.specs.State.{ShareState}
use Rattle.smb_engine.proofs.Chains.{server-one_performed}
use Rattle.smb_signing_laws.specs.Requests.{signing_under}
use Rattle.smb_signing_laws.specs.Runs.{EachRequest}
use Rattle.smb_signing_laws.specs.Unsigned.{HasNoKeys, GivesNoKeys}
use Rattle.smb_signing_laws.proofs.Chains.{one_is}
use Rattle.smb_signing_laws.proofs.Keyless.{AreKeyless, no_signing, keyless_kept}
use Rattle.smb_signing_laws.proofs.Walk.{each_true, Known, run_walked}

keyless_filter_at : (test : ℕ × SessionState → Bool) (e : ℕ × SessionState) (es : List (ℕ × SessionState)) (b : Bool) → test e ≡ b → e.1.signing ≡ None → AreKeyless (filter test es) → AreKeyless (filter test (e ∷ es))
keyless_filter_at test e es true t k h = rw t (k, h)
keyless_filter_at test e es false t k h = rw t h

keyless_filter : (test : ℕ × SessionState → Bool) (es : List (ℕ × SessionState)) → AreKeyless es → AreKeyless (filter test es)
keyless_filter test [] all = tt
keyless_filter test (e ∷ es) all = keyless_filter_at test e es (test e) refl all.0 (keyless_filter test es all.1)

keyless_ended : {S : Type 0} (server : ServerState S) (n : ℕ) → HasNoKeys server → HasNoKeys (connection_ended server n)
unfolding connection_ended
keyless_ended server n none = keyless_filter (λ e. not (e.1.connection == n)) server.sessions.table.sessions none

keyless_added_at : (table : TableState) (n : ℕ) (b : Bool) → AreKeyless table.sessions → AreKeyless (let t : TableState = if b then table else record table { connections = with_number table.connections n } in t).sessions
keyless_added_at table n true none = none
keyless_added_at table n false none = none

keyless_added : {S : Type 0} (server : ServerState S) (n : ℕ) → HasNoKeys server → HasNoKeys (connection_added server n)
keyless_added server n none = keyless_added_at server.sessions.table n (contains server.sessions.table.connections n) none

-- no reply has a key
no_key_at : (own new : Option Signing) (flag set_up : Bool) → own ≡ None → new ≡ None →
    option_map (λ (signing : Signing). signing.key) (if is_some own && flag then own else if set_up then new else None) ≡ None
no_key_at own new flag true e f = rw (e, f) refl
no_key_at own new flag false e f = rw e refl

unkept_by : (flag : Bool) (keys : List SessionKey) (own : Option Key) (session : ℕ) → keys ≡ [] → own ≡ None →
    (if is_some own || not flag then own else kept_key keys session) ≡ None
unkept_by true keys own session k o = rw (o, k) refl
unkept_by false keys own session k o = rw o refl

-- nor is there one that is kept
unkept_at : (keys : List SessionKey) (request : List ℕ) (ids : HeaderIds) (own : Option Key) → keys ≡ [] → own ≡ None → key_or_kept keys request ids own ≡ None
unkept_at keys request ids own k o = unkept_by (is_signed request) keys own ids.session_id k o

all_and : {X : Type 0} (P : X → Type 0) (xs : List X) (x : X) → AllByRecursion P xs → P x → AllByRecursion P (xs ++ x ∷ [])
all_and P [] x all is = (is, tt)
all_and P (y ∷ xs) x all is = (all.0, all_and P xs x all.1 is)

module _ {S : Type 0} (m : Meaning S) (gives : GivesNoKeys m) where
  -- A CHAIN
  module _ (arrival : Arrival) where
    one_keyless : (chain : ChainState S) (request : List ℕ) → HasNoKeys chain.server → HasNoKeys (one_performed m arrival chain request).server
    one_keyless chain request none =
        subst (λ (after : ServerState S). HasNoKeys after) (sym (server-one_performed m arrival chain request))
        (keyless_kept m arrival.connection_id arrival.moment chain.server chain.connection.dialect chain.context request none gives)

    abbrev Unsigned : ChainState S → Type 0
    Unsigned chain = AllByRecursion HasNoKey chain.replies × (chain.connection.keys ≡ [])

    replied_keyless : (chain : ChainState S) (request : List ℕ) (p : Performed S) (response : Option ResponseState) → p.response ≡ response → HasNoKeys chain.server → HasNoKeys p.server →
        Unsigned chain → Unsigned (replied arrival.connection_id chain request p)
    replied_keyless chain request p None e none gone all = rw e all
    replied_keyless chain request p (Some response) e none gone all =
        let n = arrival.connection_id in
        let key : response_key chain.server p.server n chain.context request response.ids response.status ≡ None =
        no_key_at (signing_under chain.server n chain.context request) (signing_of p.server.sessions.table n response.ids.session_id) (is_signed request) (is_set_up (header_of request).command.0 response.status)
        (no_signing chain.server.sessions.table n (request_ids chain.context request).session_id none)
        (no_signing p.server.sessions.table n response.ids.session_id gone) in
        let kept : key_or_kept chain.connection.keys request response.ids (response_key chain.server p.server n chain.context request response.ids response.status) ≡ None =
        unkept_at chain.connection.keys request response.ids _ all.1 key in
        rw e (all_and HasNoKey chain.replies _ all.0 kept, rw kept all.1)

    chain_keyless : (chain : ChainState S) (requests : List (List ℕ)) → HasNoKeys chain.server → Unsigned chain →
        Unsigned (all_performed m arrival chain requests)
    chain_keyless chain [] none all = all
    chain_keyless chain (request ∷ requests) none all =
        let next = one_performed m arrival chain request in
        let ran = performed m arrival.connection_id arrival.moment chain.server chain.connection.dialect chain.context request in
        let gone : HasNoKeys ran.server = keyless_kept m arrival.connection_id arrival.moment chain.server chain.connection.dialect chain.context request none gives in
        let more : Unsigned next =
        subst (λ (chain : ChainState S). Unsigned chain) (sym (one_is m arrival chain request)) (replied_keyless chain request ran ran.response refl none gone all) in
        chain_keyless next requests (one_keyless chain request none) more

    pub all_keyless : (chain : ChainState S) (requests : List (List ℕ)) → HasNoKeys chain.server → chain.connection.keys ≡ [] → AllByRecursion HasNoKey chain.replies →
        Unsigned (all_performed m arrival chain requests)
    all_keyless chain requests none unkept all = chain_keyless chain requests none (all, unkept)

  -- A RUN
  abbrev Anyhow : ServerState S → ServerState S → Type 0
  Anyhow before after = Unit {0}

  abbrev AnyRequest : ℕ → PerformedRequest S → Type 0
  AnyRequest n came = Unit {0}

  abbrev ComesWithout : ℕ → PerformedRequest S → Type 0
  ComesWithout n came = HasNoKeys came.before

  keyless : Known m (λ (server : ServerState S). HasNoKeys server) Anyhow AnyRequest ComesWithout
  keyless = record {
    stays = λ server held. tt;
    follows = λ one two three first second. tt;
    starts = λ server n none. record { leads = tt; held = keyless_added server n none };
    finishes = λ server n none. record { leads = tt; held = keyless_ended server n none };
    first = λ server n none. none;
    performs = λ n moment server dialect context request credits none came. (none, record { leads = tt; held = keyless_kept m n moment server dialect context request none gives });
  }

  pub run_keyless : (s : ShareState S) (events : List EventText) → HasNoKeys s.server → EachRequest m ComesWithout s events × HasNoKeys (run m s events).state.server
  run_keyless s events none =
      let walked = run_walked m (λ (server : ServerState S). HasNoKeys server) Anyhow AnyRequest ComesWithout keyless s events none (each_true m AnyRequest (λ n came. tt) s events) in
      (walked.0, walked.1.held)
