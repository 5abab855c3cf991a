-- What an answer of the authenticator leaves of the sessions.
use Rattle.std.proofs.Common.{◌≡◌, ◌==◌, ◌∙◌, ℕ, ◌⊎◌, inl, inr, Bool, true, false, if◌then◌else◌, List, [], ◌∷◌, ◌++◌, map, Option, None, Some, is_some, refl, sym, ap, subst, arith}
use Rattle.std.proofs.lemmas.Bool.{eqb-true}
use Rattle.std.proofs.lemmas.Bool.Decides.{nat_tests}
use Rattle.std.specs.Option.{option_map, option_map_or, option_eq}
use Rattle.std.specs.Str.{bytes_eq}
use Rattle.std.specs.Map.{lookup}
use Rattle.std.specs.BTreeMap.{is_at}
use Rattle.std.specs.Ordering.{nat_cmp}
use Rattle.smb_session.specs.Authenticator.{Answered, continues, accepts, denies}
use Rattle.smb_session.specs.Numbers.{IsRising}
use Rattle.smb_session.specs.Parts.{fresh_session, finished_by, begun, is_of_user}
use Rattle.smb_session.specs.Session.{SessionState}
use Rattle.smb_session.specs.Setup.{table_answered, previous_ended}
use Rattle.smb_session.specs.Table.{TableState, session_at, session_ended, session_changed, changed_at}
use Rattle.smb_session.specs.declared.signing.Signing.{Signing}
use Rattle.smb_request.proofs.Leaving.{look_removed, look_changed, gone}
use Rattle.smb_request.proofs.Numbered.{at_is}
use Rattle.smb_request_laws.specs.Admission.{WasIn}

-- what is changed is found changed
look_here : (f : SessionState → SessionState) (n : ℕ) (es : List (ℕ × SessionState)) → lookup (is_at (nat_cmp n)) (changed_at f n es) ≡ option_map f (lookup (is_at (nat_cmp n)) es)
look_here f n [] = refl
look_here f n (e ∷ es) = grind (arith, nat_tests, at_is n e.0, look_here f n es)

pub changed_here : (f : SessionState → SessionState) (table : TableState) (n : ℕ) → session_at (session_changed f table n) n ≡ option_map f (session_at table n)
changed_here f table n = look_here f n table.sessions

-- what is behind one more is there, or is that one
look_more : (test : ℕ → Bool) (k : ℕ) (x after : SessionState) (es : List (ℕ × SessionState)) → lookup test (es ++ (k, x) ∷ []) ≡ Some after → (lookup test es ≡ Some after) ⊎ (x ≡ after)
look_more test k x after [] =
    elim (test k) as (λ b. test k ≡ b → lookup test ((k, x) ∷ []) ≡ Some after → (None ≡ Some after) ⊎ (x ≡ after)) [
      | true ↦ λ t h. inr (let found : Some x ≡ Some after = rw t at h in cc)
      | false ↦ λ t h. inl (rw t at h)
    ] refl
look_more test k x after (e ∷ es) =
    elim (test e.0) as (λ b. test e.0 ≡ b → lookup test (e ∷ (es ++ (k, x) ∷ [])) ≡ Some after → (lookup test (e ∷ es) ≡ Some after) ⊎ (x ≡ after)) [
      | true ↦ λ t h. inl (let found : Some e.1 ≡ Some after = rw t at h in rw t found)
      | false ↦ λ t h. (let found : lookup test (es ++ (k, x) ∷ []) ≡ Some after = rw t at h in rw t (look_more test k x after es found))
    ] refl

-- the sessions that are finished were so before
abbrev pub Keeps : TableState → TableState → Type 0
Keeps table table' = (n : ℕ) (after : SessionState) → session_at table' n ≡ Some after → is_some after.user ≡ true → WasIn table n after

pub was : (table : TableState) (n : ℕ) (after : SessionState) → session_at table n ≡ Some after → WasIn table n after
was table n after e = record { before = after; at = e; connection = refl; user = refl; read_only = refl; signing = refl }

pub keeps_same : (table : TableState) → Keeps table table
keeps_same table n after e f = was table n after e

pub keeps_then : (table table' table'' : TableState) → Keeps table table' → Keeps table' table'' → Keeps table table''
keeps_then table table' table'' one two n after e f =
    let later = two n after e f in
    let first = one n later.before later.at (ap (λ (u : Option (List ℕ)). is_some u) later.user ∙ f) in
    record {
      before = first.before;
      at = first.at;
      connection = first.connection ∙ later.connection;
      user = first.user ∙ later.user;
      read_only = first.read_only ∙ later.read_only;
      signing = first.signing ∙ later.signing;
    }

none_some : (o : Option SessionState) (after : SessionState) → o ≡ None → o ≡ Some after → ⊥
none_some o after e f = let both : None ≡ Some after = sym e ∙ f in cc

-- a session that is another, and is there behind the end of one, was there
pub ended_before : (table : TableState) (p n : ℕ) (after : SessionState) → IsRising (map (λ e. e.0) table.sessions) → session_at (session_ended table p) n ≡ Some after → session_at table n ≡ Some after
ended_before table p n after rising e =
    elim (n == p) as (λ b. n == p ≡ b → session_at table n ≡ Some after) [
      | true ↦ λ t. absurd (none_some (session_at (session_ended table p) n) after (
          let P : ℕ → Type 0 = λ k. session_at (session_ended table k) n ≡ None in subst P (eqb-true n p t) (gone n table.sessions rising)) e)
      | false ↦ λ t. sym (look_removed n p table.sessions t) ∙ e
    ] refl

pub keeps_ended : (table : TableState) (p : ℕ) → IsRising (map (λ e. e.0) table.sessions) → Keeps table (session_ended table p)
keeps_ended table p rising n after e f = was table n after (ended_before table p n after rising e)

pub keeps_changed : (f : SessionState → SessionState) (table : TableState) (s : ℕ) →
    ((x : SessionState) → ((f x).connection ≡ x.connection) × ((f x).user ≡ x.user) × ((f x).read_only ≡ x.read_only) × ((f x).signing ≡ x.signing)) → Keeps table (session_changed f table s)
keeps_changed f table s same n after e finished =
    elim (n == s) as (λ b. n == s ≡ b → WasIn table n after) [
      | true ↦ λ t. (
          let is : session_at (session_changed f table s) n ≡ option_map f (session_at table n) = (let P : ℕ → Type 0 = λ k. session_at (session_changed f table k) n ≡ option_map f (session_at table n) in subst P (eqb-true n s t) (changed_here f table n)) in
          by_found (session_at table n) refl (sym is ∙ e))
      | false ↦ λ t. was table n after (sym (look_changed f n s table.sessions t) ∙ e)
    ] refl
  where
    by_found : (o : Option SessionState) → session_at table n ≡ o → option_map f o ≡ Some after → WasIn table n after
    by_found None found h = cc
    by_found (Some x) found h =
        let is : f x ≡ after = cc in
        record {
          before = x;
          at = found;
          connection = sym (same x).0 ∙ ap (λ (y : SessionState). y.connection) is;
          user = sym (same x).1 ∙ ap (λ (y : SessionState). y.user) is;
          read_only = sym (same x).2 ∙ ap (λ (y : SessionState). y.read_only) is;
          signing = sym (same x).3 ∙ ap (λ (y : SessionState). y.signing) is;
        }

-- a session that begins is not finished
keeps_begun_at : (table : TableState) (c n : ℕ) (after : SessionState) → is_some after.user ≡ true → (session_at table n ≡ Some after) ⊎ (fresh_session c ≡ after) → WasIn table n after
keeps_begun_at table c n after f (inl there) = was table n after there
keeps_begun_at table c n after f (inr is) = absurd (let no : false ≡ true = ap (λ (x : SessionState). is_some x.user) is ∙ f in cc)

pub keeps_begun : (table : TableState) (c : ℕ) → Keeps table (begun table c)
keeps_begun table c n after e f = keeps_begun_at table c n after f (look_more (is_at (nat_cmp n)) table.next (fresh_session c) after table.sessions e)

-- the previous session ends
pub previous_before : (table : TableState) (o : Option ℕ) (n : ℕ) (after : SessionState) → IsRising (map (λ e. e.0) table.sessions) → session_at (option_map_or (session_ended table) o table) n ≡ Some after → session_at table n ≡ Some after
previous_before table None n after rising e = e
previous_before table (Some p) n after rising e = ended_before table p n after rising e

-- THE LAWS OF ANSWERS

pub goes_on : (table : TableState) (session previous number : ℕ) (token : List ℕ) → session_at (table_answered table session previous (continues token)) number ≡ session_at table number
goes_on table session previous number token = refl

previous_is_other : (table : TableState) (session previous : ℕ) (user : List ℕ) (state : SessionState) (b : Bool) → session == previous ≡ b → session_at table session ≡ Some state → state.user ≡ None →
    session_at (option_map_or (session_ended table) (previous_ended table user previous) table) session ≡ Some state
previous_is_other table session previous user state true t e none =
    let found : session_at table previous ≡ Some state = (let P : ℕ → Type 0 = λ k. session_at table k ≡ Some state in subst P (eqb-true session previous t) e) in
    let not : is_of_user user state ≡ false = ap (λ (u : Option (List ℕ)). option_eq bytes_eq u (Some user)) none in
    rw (found, not) e
previous_is_other table session previous user state false t e none = by_test (option_map_or (is_of_user user) (session_at table previous) false)
  where
    by_test : (b : Bool) → session_at (option_map_or (session_ended table) (let x : Option ℕ = if b then Some previous else None in x) table) session ≡ Some state
    by_test true = look_removed session previous table.sessions t ∙ e
    by_test false = e

pub accepted_in : (table : TableState) (session previous : ℕ) (user : List ℕ) (flags : ℕ) (read_only : Bool) (signing : Option Signing) (token : List ℕ) (state : SessionState) → session_at table session ≡ Some state → state.user ≡ None →
    session_at (table_answered table session previous (accepts user flags read_only signing token)) session ≡ Some (record state { user = Some user; read_only = read_only; signing = signing })
accepted_in table session previous user flags read_only signing token state e none =
    changed_here (finished_by user read_only signing) (option_map_or (session_ended table) (previous_ended table user previous) table) session
    ∙ ap (option_map (finished_by user read_only signing)) (previous_is_other table session previous user state (session == previous) refl e none)

pub denied_out : (table : TableState) (session previous : ℕ) → IsRising (map (λ e. e.0) table.sessions) → session_at (table_answered table session previous denies) session ≡ None
denied_out table session previous rising = gone session table.sessions rising

pub nobody_else : (table : TableState) (session previous number : ℕ) (answer : Answered) (state : SessionState) → IsRising (map (λ e. e.0) table.sessions) → number == session ≡ false →
    session_at (table_answered table session previous answer) number ≡ Some state → session_at table number ≡ Some state
nobody_else table session previous number (continues token) state rising other e = e
nobody_else table session previous number denies state rising other e = ended_before table session number state rising e
nobody_else table session previous number (accepts user flags read_only signing token) state rising other e =
    let before = option_map_or (session_ended table) (previous_ended table user previous) table in
    previous_before table (previous_ended table user previous) number state rising (sym (look_changed (finished_by user read_only signing) number session before.sessions other) ∙ e)
