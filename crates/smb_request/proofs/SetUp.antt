-- SESSION_SETUP, seen from the sessions of other connections.
use Rattle.std.proofs.Common.{◌≡◌, ◌==◌, ◌<◌, ℕ, Bool, true, false, if◌then◌else◌, List, [], ◌∷◌, ◌++◌, Option, None, Some, refl, sym, ap, arith, ◌∙◌}
use Rattle.std.proofs.lemmas.Bool.Decides.{nat_tests}
use Rattle.std.proofs.lemmas.Slice.Eq.{bytes_eq-Decides}
use Rattle.std.specs.List.{AllByRecursion}
use Rattle.std.specs.Option.{option_map, option_map_or}
use Rattle.std.specs.Map.{lookup}
use Rattle.std.specs.BTreeMap.{is_at}
use Rattle.std.specs.Ordering.{nat_cmp}
use Rattle.smb_session.specs.Session.{SessionState}
use Rattle.smb_session.specs.Table.{TableState, session_at, session_changed, session_ended}
use Rattle.smb_access.specs.declared.open_row.Owner.TheVariants.{Session}
use Rattle.smb_request.proofs.Numbered.{at_is}
use Rattle.std.specs.Option.{option_eq}
use Rattle.std.specs.Str.{bytes_eq}
use Rattle.smb_refusals.specs.declared.session.SetupRefusal.TheVariants.{UnknownSession}
use Rattle.smb_session.specs.Authenticator.{Answered, continues, accepts, denies, Meaning}
use Rattle.smb_session.specs.Parts.{fresh_session, finished_by, begun, known_session_refusal, is_of_user}
use Rattle.smb_session.specs.Sessions.{setup_step}
use Rattle.smb_session.specs.Setup.{setup_refusal, signing_asked, table_answered, setup_result}
use Rattle.smb_session.specs.declared.signing.Signing.{Signing}
use Rattle.smb_session.specs.Laws.{setup_number}
use Rattle.smb_body.specs.SessionSetup.{SessionSetupAsked}
use Rattle.smb_opens.specs.Close.{closed_all}
use Rattle.smb_request.specs.Session.{asks_to_sign, session_set_up}
use Rattle.smb_request.specs.Parts.{closed_for, setup_answered}
use Rattle.smb_refusals.specs.declared.refusal.Refusal.{Refusal}
use Rattle.smb_refusals.specs.declared.refusal.Refusal.TheVariants.{SessionSetup}
use Rattle.smb_request.proofs.Refused.{none_named}
use Rattle.smb_opens.specs.State.{StoreState}
use Rattle.smb_request.specs.declared.call.Call.{Call}
use Rattle.smb_request.specs.declared.context.HeaderIds.{HeaderIds}
use Rattle.smb_request.specs.Response.{unless_refused}
use Rattle.smb_request.specs.State.{ServerState}
use Rattle.smb_request.specs.Laws.{NumbersInOrder}
use Rattle.smb_request.proofs.Leaving.{LeavesBut, LeavesSharedBut, IsApart, leaves_then, leaves_same, leaves_begun, leaves_changed, leaves_ended, leaves_whole, other_connection, look_removed, gone}

-- a session of a user
user_is : (user : List ℕ) (o : Option (List ℕ)) → option_eq bytes_eq o (Some user) ≡ true → o ≡ Some user
user_is user None q = cc
user_is user (Some u) q = ap (λ (text : List ℕ). Some text) ((bytes_eq-Decides u user).0 q)

-- why the session that an answer names as the previous one may be over
abbrev pub MayReplace : (ℕ → SessionState → Type 0) → ℕ → Answered → Type 0
MayReplace may previous answer =
    (user : List ℕ) (flags : ℕ) (read_only : Bool) (signing : Option Signing) (token : List ℕ) (session : SessionState) → answer ≡ accepts user flags read_only signing token → session.user ≡ Some user → may previous session

-- nor may more be over where the client asks that its requests are signed
may_sign : (may : ℕ → SessionState → Type 0) (previous : ℕ) (required : Bool) (answer : Answered) → MayReplace may previous answer → MayReplace may previous (signing_asked required answer)
may_sign may previous required (continues token) cause user flags read_only signing token' session e same = cc
may_sign may previous required (accepts u f r s t) cause user flags read_only signing token session e same = cause user flags read_only s token session (cc) same
may_sign may previous required denies cause user flags read_only signing token session e same = cc

-- what is given the next number is found there
at_last : (n : ℕ) (x : SessionState) (es : List (ℕ × SessionState)) → AllByRecursion (λ e. e.0 < n) es → lookup (is_at (nat_cmp n)) (es ++ (n, x) ∷ []) ≡ Some x
at_last n x [] a = (let key = at_is n n in grind (arith, nat_tests, key))
at_last n x (e ∷ es) a = (let key = at_is n e.0 in let less = a.0 in let ih = at_last n x es a.1 in grind (arith, nat_tests, key, less, ih))

module _ (may : ℕ → SessionState → Type 0) (acts : ℕ → Bool) (c : ℕ) (a : acts c ≡ true) (table : TableState) (store : StoreState) (o : NumbersInOrder table store) where
  -- the session that is set up is new, or an unfinished one of this connection
  apart_begun : IsApart acts (begun table c) table.next
  apart_begun n session at other =
      elim (n == table.next) as (λ b. (n == table.next) ≡ b → b ≡ false) [
        | true ↦ λ t. (
            let is : n ≡ table.next = grind (arith, nat_tests, t) in
            let here : Some (fresh_session c) ≡ Some session = sym (at_last table.next (fresh_session c) table.sessions o.sessions_given) ∙ ap (session_at (begun table c)) (sym is) ∙ at in
            let fresh : fresh_session c ≡ session = cc in
            let yes : acts session.connection ≡ true = ap (λ (x : SessionState). acts x.connection) (sym fresh) ∙ a in
            cc)
        | false ↦ λ t. refl
      ] refl

  apart_stood : (s : ℕ) → option_map_or (known_session_refusal c) (session_at table s) (Some UnknownSession) ≡ None → IsApart acts table s
  apart_stood s e n session at other =
      elim (n == s) as (λ b. (n == s) ≡ b → b ≡ false) [
        | true ↦ λ t. (
            let is : n ≡ s = grind (arith, nat_tests, t) in
            let here : session_at table s ≡ Some session = ap (session_at table) (sym is) ∙ at in
            let apart = other_connection acts c session.connection a other in
            grind (arith, e, here, apart))
        | false ↦ λ t. refl
      ] refl

  -- where an accepted one is finished, behind the end of its previous session
  apart_ended : (number previous : ℕ) → IsApart acts table number → IsApart acts (session_ended table previous) number
  apart_ended number previous apart n session at other =
      elim (n == previous) as (λ b. (n == previous) ≡ b → (n == number) ≡ false) [
        | true ↦ λ t. (let is : n ≡ previous = grind (arith, nat_tests, t) in let none : session_at (session_ended table previous) n ≡ None = ap (λ p. session_at (session_ended table p) n) (sym is) ∙ gone n table.sessions o.sessions in let no : None ≡ Some session = sym none ∙ at in cc)
        | false ↦ λ t. apart n session (sym (look_removed n previous table.sessions t) ∙ at) other
      ] refl

  accepted_found : (number previous : ℕ) (user : List ℕ) (read_only : Bool) (signing : Option Signing) (found : Option SessionState) → session_at table previous ≡ found → IsApart acts table number →
      ((session : SessionState) → session.user ≡ Some user → may previous session) →
      LeavesBut may acts table store
      (session_changed (finished_by user read_only signing) (option_map_or (session_ended table) (if option_map_or (is_of_user user) found false then Some previous else None) table) number)
      (closed_for store (if option_map_or (is_of_user user) found false then Some previous else None))
  accepted_found number previous user read_only signing None e apart cause = leaves_changed acts table store o number apart (finished_by user read_only signing)
  accepted_found number previous user read_only signing (Some session) e apart cause =
      elim (is_of_user user session) as (λ b. is_of_user user session ≡ b →
      LeavesBut may acts table store
      (session_changed (finished_by user read_only signing) (option_map_or (session_ended table) (if b then Some previous else None) table) number)
      (closed_for store (if b then Some previous else None))) [
        | true ↦ λ t. (
            let whole = leaves_whole acts table store o previous session e (cause session (user_is user session.user t)) in
            leaves_then acts table (session_ended table previous) (session_changed (finished_by user read_only signing) (session_ended table previous) number) store (closed_all store (Session previous)) (closed_all store (Session previous)) o whole
            (leaves_changed acts (session_ended table previous) (closed_all store (Session previous)) whole.order number (apart_ended number previous apart) (finished_by user read_only signing)))
        | false ↦ λ t. leaves_changed acts table store o number apart (finished_by user read_only signing)
      ] refl

  -- what an answer leaves
  answered_left : (number previous : ℕ) (answer : Answered) → MayReplace may previous answer → IsApart acts table number → LeavesBut may acts table store (table_answered table number previous answer) (closed_for store (setup_result table number previous answer).ended)
  answered_left number previous (continues token) cause apart = leaves_same acts table store o
  answered_left number previous denies cause apart = leaves_ended acts table store o number apart
  answered_left number previous (accepts user flags read_only signing token) cause apart =
      accepted_found number previous user read_only signing (session_at table previous) refl apart (λ session same. cause user flags read_only signing token session refl same)

module _ (may : ℕ → SessionState → Type 0) (acts : ℕ → Bool) (c : ℕ) (a : acts c ≡ true) (table : TableState) (store : StoreState) (o : NumbersInOrder table store) where
  step_left : (s flags previous : ℕ) (answer : Answered) (b : Bool) → MayReplace may previous answer → (s == 0) ≡ b → setup_refusal table c s flags ≡ None →
      (let table' : TableState = if b then begun table c else table in let number : ℕ = if b then table.next else s in LeavesBut may acts table store (table_answered table' number previous answer) (closed_for store (setup_result table' number previous answer).ended))
  step_left s flags previous answer true cause t e =
      let first = leaves_begun acts table store o c in
      leaves_then acts table (begun table c) (table_answered (begun table c) table.next previous answer) store store (closed_for store (setup_result (begun table c) table.next previous answer).ended) o first
      (answered_left may acts c a (begun table c) store first.order table.next previous answer cause (apart_begun may acts c a table store o))
  step_left s flags previous answer false cause t e = answered_left may acts c a table store o s previous answer cause (apart_stood may acts c a table store o s (grind (arith, e, t)))

module _ {S : Type 0} (may : ℕ → SessionState → Type 0) (m : Meaning S) (acts : ℕ → Bool) (c : ℕ) (a : acts c ≡ true) (server : ServerState S) (o : NumbersInOrder server.sessions.table server.store) where
  set_up_at : (ids : HeaderIds) (asked : SessionSetupAsked) (reason : Option Refusal) →
      MayReplace may asked.previous_session_id (m.answer server.sessions.authenticator (setup_number server.sessions.table ids.session_id) asked.security_buffer) → option_map (λ refusal. SessionSetup refusal) (setup_refusal server.sessions.table c ids.session_id asked.flags.0) ≡ reason →
      LeavesSharedBut may acts server (unless_refused server ids reason (setup_answered server ids (setup_step m server.sessions c ids.session_id asked.previous_session_id (asks_to_sign asked) asked.security_buffer))).server
  set_up_at ids asked (Some reason) cause e = leaves_same acts server.sessions.table server.store o
  set_up_at ids asked None cause e =
      let s = ids.session_id in
      let answer = m.answer server.sessions.authenticator (setup_number server.sessions.table s) asked.security_buffer in
      step_left may acts c a server.sessions.table server.store o s asked.flags.0 asked.previous_session_id (signing_asked (asks_to_sign asked) answer) (s == 0)
      (may_sign may asked.previous_session_id (asks_to_sign asked) answer cause) refl
      (none_named (λ refusal. SessionSetup refusal) (setup_refusal server.sessions.table c s asked.flags.0) e)

module _ {S : Type 0} (may : ℕ → SessionState → Type 0) (m : Meaning S) (acts : ℕ → Bool) (call : Call) (a : acts call.connection ≡ true) (server : ServerState S) (o : NumbersInOrder server.sessions.table server.store) where
  pub set_up_left : (asked : SessionSetupAsked) → MayReplace may asked.previous_session_id (m.answer server.sessions.authenticator (setup_number server.sessions.table call.ids.session_id) asked.security_buffer) → LeavesSharedBut may acts server (session_set_up m server call asked).server
  unfolding session_set_up
  set_up_left asked cause = set_up_at may m acts call.connection a server o call.ids asked (option_map (λ refusal. SessionSetup refusal) (setup_refusal server.sessions.table call.connection call.ids.session_id asked.flags.0)) cause refl
