-- Without keys nothing is refused for its signature, and no keys come where the authenticator gives none.
use Rattle.std.proofs.Common.{◌≡◌, ◌==◌, ℕ, Bool, true, false, if◌then◌else◌, List, [], ◌∷◌, ◌++◌, Option, None, Some, refl, ap, sym, subst, ◌∙◌}
use Rattle.std.specs.Option.{is_none, option_map, option_map_or, option_and_then}
use Rattle.std.specs.List.{AllByRecursion}
use Rattle.std.specs.Map.{lookup, remove_entry}
use Rattle.std.specs.BTreeMap.{is_at}
use Rattle.std.specs.Ordering.{nat_cmp}
use Rattle.smb_wire.specs.declared.dialect.Dialect.{Dialect}
use Rattle.smb_body.specs.Requests.{RequestValue, asks_negotiate, asks_session_setup, asks_logoff, asks_tree_connect, asks_tree_disconnect, asks_create, asks_close, asks_flush, asks_read, asks_write, asks_lock, asks_cancel, asks_echo, asks_query_directory, asks_query_info, asks_set_info}
use Rattle.smb_body.specs.SessionSetup.{SessionSetupAsked}
use Rattle.smb_refusals.specs.declared.refusal.Refusal.{Refusal}
use Rattle.smb_refusals.specs.declared.request.RequestRefusal.TheVariants.{UnknownCommand, CommandNotPerformed, BodyUnreadable}
use Rattle.smb_session.specs.Authenticator.{Answered, continues, accepts, denies, Meaning}
use Rattle.smb_session.specs.Negotiate.{best_of}
use Rattle.smb_session.specs.Laws.{setup_number}
use Rattle.smb_session.specs.Parts.{fresh_session, finished_by, begun, logoff_refusal}
use Rattle.smb_session.specs.Session.{SessionState}
use Rattle.smb_session.specs.Sessions.{setup_step, tree_connect_refusal}
use Rattle.smb_session.specs.Setup.{setup_refusal, signing_asked, table_answered, previous_ended}
use Rattle.smb_session.specs.Table.{TableState, signing_of, session_ended, changed_at, knows_session}
use Rattle.smb_session.specs.declared.signing.Signing.{Signing}
use Rattle.smb_opens.specs.Views.{open_view}
use Rattle.smb_request.specs.declared.context.Context.{Context}
use Rattle.smb_request.specs.Bytes.{file_read, file_written}
use Rattle.smb_request.specs.Call.{body_of, call_of, request_ids}
use Rattle.smb_request.specs.Files.{file_created, file_closed}
use Rattle.smb_request.specs.Locks.{locks_changed}
use Rattle.smb_request.specs.Parts.{is_unsupported, performed_by, asks_unlock, lock_asks, file_locked, file_unlocked, setup_answered}
use Rattle.smb_request.specs.Request.{acted, check_request, signature_refusal, refused_by_signature, verified, performed}
use Rattle.smb_request.specs.Response.{CommandStep, Performed, refused, unless_refused}
use Rattle.smb_request.specs.Session.{asks_to_sign, session_set_up, session_logged_off, tree_joined, tree_left}
use Rattle.smb_request.specs.State.{ServerState}
use Rattle.smb_request.proofs.InfoApart.{queried_left, info_set_left}
use Rattle.smb_request.proofs.Listings.{listed_left}
use Rattle.smb_signing_laws.proofs.Parts.{performed_is, verified_by}
use Rattle.smb_signing_laws.specs.Requests.{is_cancel}
use Rattle.smb_signing_laws.specs.Unsigned.{HasNoKeys, GivesNoKeys, signing_given}

-- THE TABLE OF SESSIONS

-- no entry has a key
abbrev pub AreKeyless : List (ℕ × SessionState) → Type 0
AreKeyless = AllByRecursion (λ e. e.1.signing ≡ None)

abbrev signing_in : Option SessionState → Option Signing
signing_in o = option_and_then (λ (state : SessionState). state.signing) o

look_at : (test : ℕ → Bool) (e : ℕ × SessionState) (es : List (ℕ × SessionState)) (b : Bool) → test e.0 ≡ b → e.1.signing ≡ None → signing_in (lookup test es) ≡ None →
    signing_in (lookup test (e ∷ es)) ≡ None
look_at test e es true t k h = rw t k
look_at test e es false t k h = rw t h

look_none : (test : ℕ → Bool) (es : List (ℕ × SessionState)) → AreKeyless es → signing_in (lookup test es) ≡ None
look_none test [] all = refl
look_none test (e ∷ es) all = look_at test e es (test e.0) refl all.0 (look_none test es all.1)

if_none : (b : Bool) (o : Option Signing) → o ≡ None → (if b then o else None) ≡ None
if_none true o e = e
if_none false o e = refl

pub no_signing : (table : TableState) (connection number : ℕ) → AreKeyless table.sessions → signing_of table connection number ≡ None
no_signing table connection number all = if_none (knows_session table connection number) _ (look_none (is_at (nat_cmp number)) table.sessions all)

keyless_removed_at : (test : ℕ → Bool) (e : ℕ × SessionState) (es : List (ℕ × SessionState)) (b : Bool) → test e.0 ≡ b → e.1.signing ≡ None → AreKeyless es → AreKeyless (remove_entry test es) → AreKeyless (remove_entry test (e ∷ es))
keyless_removed_at test e es true t k all h = rw t all
keyless_removed_at test e es false t k all h = rw t (k, h)

keyless_removed : (test : ℕ → Bool) (es : List (ℕ × SessionState)) → AreKeyless es → AreKeyless (remove_entry test es)
keyless_removed test [] all = tt
keyless_removed test (e ∷ es) all = keyless_removed_at test e es (test e.0) refl all.0 all.1 (keyless_removed test es all.1)

keyless_changed_at : (f : SessionState → SessionState) (n : ℕ) (e : ℕ × SessionState) (es : List (ℕ × SessionState)) (b : Bool) → (n == e.0) ≡ b → ((x : SessionState) → x.signing ≡ None → (f x).signing ≡ None) → e.1.signing ≡ None → AreKeyless es → AreKeyless (changed_at f n es) → AreKeyless (changed_at f n (e ∷ es))
keyless_changed_at f n e es true t same k all h = rw t (same e.1 k, all)
keyless_changed_at f n e es false t same k all h = rw t (k, h)

keyless_changed : (f : SessionState → SessionState) (n : ℕ) (es : List (ℕ × SessionState)) → ((x : SessionState) → x.signing ≡ None → (f x).signing ≡ None) → AreKeyless es → AreKeyless (changed_at f n es)
keyless_changed f n [] same all = tt
keyless_changed f n (e ∷ es) same all = keyless_changed_at f n e es (n == e.0) refl same all.0 all.1 (keyless_changed f n es same all.1)

keyless_begun : (es : List (ℕ × SessionState)) (n c : ℕ) → AreKeyless es → AreKeyless (es ++ (n, fresh_session c) ∷ [])
keyless_begun [] n c all = (refl, tt)
keyless_begun (e ∷ es) n c all = (all.0, keyless_begun es n c all.1)

keyless_table : (table : TableState) (c : ℕ) (b : Bool) → AreKeyless table.sessions → AreKeyless (let t : TableState = if b then begun table c else table in t).sessions
keyless_table table c true all = keyless_begun table.sessions table.next c all
keyless_table table c false all = all

keyless_previous : (table : TableState) (o : Option ℕ) → AreKeyless table.sessions → AreKeyless (option_map_or (session_ended table) o table).sessions
keyless_previous table None all = all
keyless_previous table (Some n) all = keyless_removed (is_at (nat_cmp n)) table.sessions all

-- a client that asks to sign is given no key for that
none_asked : (required : Bool) (answer : Answered) → signing_given answer ≡ None → signing_given (signing_asked required answer) ≡ None
none_asked required (continues token) none = none
none_asked required (accepts user flags read_only signing token) none = rw none refl
none_asked required denies none = none

keyless_answered : (table : TableState) (number previous : ℕ) (answer : Answered) → signing_given answer ≡ None → AreKeyless table.sessions → AreKeyless (table_answered table number previous answer).sessions
keyless_answered table number previous (continues token) none all = all
keyless_answered table number previous (accepts user flags read_only signing token) none all =
    keyless_changed (finished_by user read_only signing) number (option_map_or (session_ended table) (previous_ended table user previous) table).sessions (λ x k. none) (keyless_previous table (previous_ended table user previous) all)
keyless_answered table number previous denies none all = keyless_removed (is_at (nat_cmp number)) table.sessions all

-- A REQUEST

module _ {S : Type 0} (m : Meaning S) (gives : GivesNoKeys m) (connection moment : ℕ) (dialect : Option Dialect) (context : Context) (request : List ℕ) (server : ServerState S) (none : HasNoKeys server) where
  abbrev Left : ServerState S → Type 0
  Left after = HasNoKeys after

  or_refused : (before : ServerState S) (refusal : Option Refusal) (step : CommandStep S) → Left before → Left step.server → Left (unless_refused before (call_of connection moment dialect context request).ids refusal step).server
  or_refused before None step h k = k
  or_refused before (Some refusal) step h k = h

  if_kept : (b : Bool) (one other : CommandStep S) → Left one.server → Left other.server → Left (let x : CommandStep S = if b then one else other in x).server
  if_kept true one other h k = h
  if_kept false one other h k = k

  found_kept : {X : Type 0} (o : Option X) (f : X → CommandStep S) (other : CommandStep S) → ((x : X) → Left (f x).server) → Left other.server → Left (option_map_or f o other).server
  found_kept None f other h k = k
  found_kept (Some x) f other h k = h x

  set_up_kept : (asked : SessionSetupAsked) → Left (session_set_up m server (call_of connection moment dialect context request) asked).server
  unfolding session_set_up
  set_up_kept asked =
      let s = (call_of connection moment dialect context request).ids.session_id in
      let table = server.sessions.table in
      let begun_table : TableState = if s == 0 then begun table (call_of connection moment dialect context request).connection else table in
      let answer = m.answer server.sessions.authenticator (setup_number table s) asked.security_buffer in
      or_refused server
      (option_map (λ refusal. Refusal.SessionSetup refusal) (setup_refusal table (call_of connection moment dialect context request).connection s asked.flags.0))
      (setup_answered server (call_of connection moment dialect context request).ids (setup_step m server.sessions (call_of connection moment dialect context request).connection s asked.previous_session_id (asks_to_sign asked) asked.security_buffer))
      none
      (keyless_answered begun_table (setup_number table s) asked.previous_session_id (signing_asked (asks_to_sign asked) answer)
      (none_asked (asks_to_sign asked) answer (gives server.sessions.authenticator (setup_number table s) asked.security_buffer))
      (keyless_table table (call_of connection moment dialect context request).connection (s == 0) none))

  off_kept : Left (session_logged_off server (call_of connection moment dialect context request)).server
  unfolding session_logged_off
  off_kept = or_refused server (option_map (λ refusal. Refusal.Logoff refusal) (logoff_refusal server.sessions.table (call_of connection moment dialect context request).connection (call_of connection moment dialect context request).ids.session_id)) _ none (keyless_removed (is_at (nat_cmp (call_of connection moment dialect context request).ids.session_id)) server.sessions.table.sessions none)

  joined_kept : (path : List ℕ) → Left (tree_joined server (call_of connection moment dialect context request) path).server
  unfolding tree_joined
  joined_kept path = or_refused server (option_map (λ refusal. Refusal.TreeConnect refusal) (tree_connect_refusal server.sessions (call_of connection moment dialect context request).connection (call_of connection moment dialect context request).ids.session_id path)) _ none (keyless_changed _ (call_of connection moment dialect context request).ids.session_id server.sessions.table.sessions (λ x k. k) none)

  left_kept : Left (tree_left server (call_of connection moment dialect context request)).server
  unfolding tree_left
  left_kept = or_refused server _ _ none (keyless_changed _ (call_of connection moment dialect context request).ids.session_id server.sessions.table.sessions (λ x k. k) none)

  created_kept : (asked : _) → Left (file_created server (call_of connection moment dialect context request) asked).server
  unfolding file_created
  created_kept asked = or_refused server _ _ none none

  closed_kept : (flags : _) → Left (file_closed server (call_of connection moment dialect context request) flags).server
  unfolding file_closed
  closed_kept flags = found_kept (open_view server.store (call_of connection moment dialect context request).open_number) _ _ (λ view. none) none

  read_kept : (asked : _) → Left (file_read server (call_of connection moment dialect context request) asked).server
  unfolding file_read
  read_kept asked = or_refused server _ _ none none

  written_kept : (asked : _) → Left (file_written server (call_of connection moment dialect context request) asked).server
  unfolding file_written
  written_kept asked = or_refused server _ _ none none

  locked_kept : (elements : _) → Left (locks_changed server (call_of connection moment dialect context request) elements).server
  locked_kept elements =
      if_kept (asks_unlock (lock_asks elements)) (file_unlocked server (call_of connection moment dialect context request) (lock_asks elements)) (file_locked server (call_of connection moment dialect context request) (lock_asks elements))
      (or_refused _ _ _ none none) (or_refused server _ _ none none)

  acted_kept : (asked : RequestValue) → Left (acted m server (call_of connection moment dialect context request) asked).server
  acted_kept (asks_negotiate x) = found_kept (best_of x.dialects) _ _ (λ best. none) none
  acted_kept (asks_session_setup x) = set_up_kept x
  acted_kept (asks_logoff x) = off_kept
  acted_kept (asks_tree_connect x) = joined_kept x.path
  acted_kept (asks_tree_disconnect x) = left_kept
  acted_kept (asks_create x) = created_kept x
  acted_kept (asks_close x) = closed_kept x.flags
  acted_kept (asks_flush x) = none
  acted_kept (asks_read x) = read_kept x
  acted_kept (asks_write x) = written_kept x
  acted_kept (asks_lock x) = locked_kept x.locks
  acted_kept (asks_cancel x) = none
  acted_kept (asks_echo x) = none
  acted_kept (asks_query_directory x) = listed_left Left server none (call_of connection moment dialect context request) (λ scan. none) x
  acted_kept (asks_query_info x) = queried_left Left server none (call_of connection moment dialect context request) x
  acted_kept (asks_set_info x) = info_set_left Left server none (call_of connection moment dialect context request) (λ ask done. none) x

  body_kept : (unsupported : Bool) (body : Option RequestValue) →
      Left (let x : CommandStep S = if unsupported then refused server (call_of connection moment dialect context request).ids (Refusal.Request CommandNotPerformed) else
      option_map_or (λ asked. unless_refused server (call_of connection moment dialect context request).ids (option_map (λ refusal. Refusal.Request refusal) (check_request server (call_of connection moment dialect context request) asked)) (acted m server (call_of connection moment dialect context request) asked)) body
      (refused server (call_of connection moment dialect context request).ids (Refusal.Request (if is_none (call_of connection moment dialect context request).command then UnknownCommand else BodyUnreadable))) in x).server
  body_kept true body = none
  body_kept false None = none
  body_kept false (Some asked) = or_refused server (option_map (λ refusal. Refusal.Request refusal) (check_request server (call_of connection moment dialect context request) asked)) _ none (acted_kept asked)

  by_kept : (body : Option RequestValue) → Left (performed_by m server (call_of connection moment dialect context request) body).server
  by_kept body = body_kept (option_map_or is_unsupported (call_of connection moment dialect context request).command false) body

module _ {S : Type 0} (m : Meaning S) (connection moment : ℕ) (server : ServerState S) (dialect : Option Dialect) (context : Context) (request : List ℕ) (none : HasNoKeys server) where
  unsigned_at : (cancel : Bool) (signing : Option Signing) → signing ≡ None → (if cancel then None else signature_refusal signing request) ≡ None
  unsigned_at true signing e = refl
  unsigned_at false signing e = rw e refl

  is_verified : performed m connection moment server dialect context request ≡ verified m connection moment server dialect context request
  is_verified =
      let ids = request_ids context request in
      performed_is m connection moment server dialect context request
      ∙ ap (λ refusal. option_map_or (refused_by_signature server (call_of connection moment dialect context request) dialect) refusal (verified m connection moment server dialect context request))
      (unsigned_at (is_cancel request) (signing_of server.sessions.table connection ids.session_id) (no_signing server.sessions.table connection ids.session_id none))

  pub keyless_kept : GivesNoKeys m → HasNoKeys (performed m connection moment server dialect context request).server
  keyless_kept gives =
      subst (λ (ran : Performed S). HasNoKeys ran.server) (sym is_verified)
      (verified_by m connection moment server dialect context request (λ (ran : Performed S). HasNoKeys ran.server) (λ cancel. none)
      (λ other. by_kept m gives connection moment dialect context request server none (body_of (call_of connection moment dialect context request).command request)))

  pub verified_without_keys : (performed m connection moment server dialect context request ≡ verified m connection moment server dialect context request)
      × (GivesNoKeys m → HasNoKeys (performed m connection moment server dialect context request).server)
  verified_without_keys = (is_verified, keyless_kept)
