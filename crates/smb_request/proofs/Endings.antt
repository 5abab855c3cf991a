-- The end of a connection, one session after the other.
use Rattle.std.proofs.Common.{◌≡◌, ℕ, ◌<◌, ◌==◌, eqb, not, Bool, true, false, List, [], ◌∷◌, map, filter, Option, None, Some, refl, sym, ap, ◌∙◌}
use Rattle.std.specs.Prelude.{slice_get}
use Rattle.std.specs.List.{AllByRecursion}
use Rattle.std.specs.Option.{option_map_or}
use Rattle.std.specs.Map.{remove_entry}
use Rattle.std.specs.BTreeMap.{is_at}
use Rattle.std.specs.Ordering.{nat_cmp}
use Rattle.smb_session.specs.Numbers.{IsRising}
use Rattle.smb_session.specs.Session.{SessionState}
use Rattle.smb_session.specs.Table.{TableState, numbers_on, session_ended, EndStep, end_connection_step}
use Rattle.smb_session.specs.Good.{GoodTable}
use Rattle.smb_session.specs.Sessions.{SessionsState}
use Rattle.smb_session.specs.Numbers.{without_number}
use Rattle.smb_request.specs.Settings.{Settings}
use Rattle.smb_access.specs.declared.open_row.Owner.TheVariants.{Session}
use Rattle.smb_opens.specs.Close.{closed_all}
use Rattle.smb_opens.specs.State.{StoreState}
use Rattle.smb_request.specs.State.{ServerState, connection_ended}
use Rattle.smb_request.specs.Parts.{without_connection, closed_with}
use Rattle.smb_request.proofs.Numbered.{at_same, at_above}

abbrev others : ℕ → List (ℕ × SessionState) → List (ℕ × SessionState)
others c es = filter (λ e. not (e.1.connection == c)) es

-- one session of a connection is gone, its first: those of the others are as they were, and its others are left
pub record IsOneEnded (es : List (ℕ × SessionState)) (n c : ℕ) : Type 0 where
  pub others : others c (remove_entry (is_at (nat_cmp n)) es) ≡ others c es
  pub left : numbers_on es c ≡ n ∷ numbers_on (remove_entry (is_at (nat_cmp n)) es) c

first_above_at : (k c n : ℕ) (e : ℕ × SessionState) (es : List (ℕ × SessionState)) (b : Bool) → eqb e.1.connection c ≡ b → k < e.0 →
    (slice_get (numbers_on es c) 0 ≡ Some n → k < n) → slice_get (numbers_on (e ∷ es) c) 0 ≡ Some n → k < n
first_above_at k c n e es true t a ih h = let first : slice_get (e.0 ∷ numbers_on es c) 0 ≡ Some n = rw t at h in let same : e.0 ≡ n = cc in rw (← same) a
first_above_at k c n e es false t a ih h = ih (rw t at h)

-- a connection's first session is above what all are above
first_above : (k c n : ℕ) (es : List (ℕ × SessionState)) → AllByRecursion (λ m. k < m) (map (λ e. e.0) es) → slice_get (numbers_on es c) 0 ≡ Some n → k < n
first_above k c n [] a h = cc
first_above k c n (e ∷ es) a h = first_above_at k c n e es (eqb e.1.connection c) refl a.0 (first_above k c n es a.1) h

end_at : (n c : ℕ) (e : ℕ × SessionState) (es : List (ℕ × SessionState)) (b : Bool) → eqb e.1.connection c ≡ b → AllByRecursion (λ m. e.0 < m) (map (λ x. x.0) es) →
    (slice_get (numbers_on es c) 0 ≡ Some n → IsOneEnded es n c) → slice_get (numbers_on (e ∷ es) c) 0 ≡ Some n → IsOneEnded (e ∷ es) n c
end_at n c e es true t a ih h =
    let first : slice_get (e.0 ∷ numbers_on es c) 0 ≡ Some n = rw t at h in
    let same : e.0 ≡ n = cc in
    let test = at_same n e.0 (sym same) in
    record { others = rw (test, t) refl; left = rw (test, t) (ap (λ k. k ∷ numbers_on es c) same) }
end_at n c e es false t a ih h =
    let later : slice_get (numbers_on es c) 0 ≡ Some n = rw t at h in
    let test = at_above n e.0 (first_above e.0 c n es a later) in
    let rest = ih later in
    record { others = rw (test, t) (ap (λ x. e ∷ x) rest.others); left = rw (test, t) rest.left }

one_ended : (n c : ℕ) (es : List (ℕ × SessionState)) → IsRising (map (λ x. x.0) es) → slice_get (numbers_on es c) 0 ≡ Some n → IsOneEnded es n c
one_ended n c [] r h = cc
one_ended n c (e ∷ es) r h = end_at n c e es (eqb e.1.connection c) refl r.0 (one_ended n c es r.1) h

none_at : (c : ℕ) (e : ℕ × SessionState) (es : List (ℕ × SessionState)) (b : Bool) → eqb e.1.connection c ≡ b →
    (slice_get (numbers_on es c) 0 ≡ None → others c es ≡ es) → slice_get (numbers_on (e ∷ es) c) 0 ≡ None → others c (e ∷ es) ≡ e ∷ es
none_at c e es true t ih h = let first : slice_get (e.0 ∷ numbers_on es c) 0 ≡ None = rw t at h in cc
none_at c e es false t ih h = rw t (ap (λ x. e ∷ x) (ih (rw t at h)))

-- where a connection has no session, all are others'
pub none_left : (c : ℕ) (es : List (ℕ × SessionState)) → slice_get (numbers_on es c) 0 ≡ None → others c es ≡ es
none_left c [] h = refl
none_left c (e ∷ es) h = none_at c e es (eqb e.1.connection c) refl (none_left c es) h

-- the end of a connection's first session changes nothing of what the end of the connection leaves
pub one_session : (table : TableState) (c n : ℕ) → IsRising (map (λ x. x.0) table.sessions) → slice_get (numbers_on table.sessions c) 0 ≡ Some n →
    (without_connection (session_ended table n) c ≡ without_connection table c) × (numbers_on table.sessions c ≡ n ∷ numbers_on (session_ended table n).sessions c)
one_session table c n r h =
    let one = one_ended n c table.sessions r h in
    (ap (λ es. record (without_connection table c) { sessions = es }) one.others, one.left)

-- what one call of the end of a connection does, by its first session
abbrev step_by : TableState → ℕ → Option ℕ → EndStep
step_by table c first = option_map_or
    (λ number. record { table = session_ended table number; told = Some number })
    first
    (record { table = record table { connections = without_number table.connections c }; told = None })

some_at : (table table' : TableState) (c n : ℕ) (o : Option ℕ) → record { table = table'; told = Some n } ≡ step_by table c o → (o ≡ Some n) × (table' ≡ session_ended table n)
some_at table table' c n None h = let e = ap (λ s. s.told) h in cc
some_at table table' c n (Some k) h =
    let e : n ≡ k = let t = ap (λ s. s.told) h in cc in
    (ap (λ x. Some x) (sym e), ap (λ s. s.table) h ∙ ap (session_ended table) (sym e))

none_of : (table table' : TableState) (c : ℕ) (o : Option ℕ) → record { table = table'; told = None } ≡ step_by table c o →
    (o ≡ None) × (table' ≡ record table { connections = without_number table.connections c })
none_of table table' c None h = (refl, ap (λ s. s.table) h)
none_of table table' c (Some k) h = let e = ap (λ s. s.told) h in cc

-- a session ended
pub ended_one : (table table' : TableState) (c n : ℕ) → GoodTable table → record { table = table'; told = Some n } ≡ end_connection_step table c →
    (without_connection table' c ≡ without_connection table c) × (numbers_on table.sessions c ≡ n ∷ numbers_on table'.sessions c)
ended_one table table' c n good h =
    let at = some_at table table' c n (slice_get (numbers_on table.sessions c) 0) h in
    rw at.1 (one_session table c n good.sessions at.0)

-- where it has no first session it has none
no_numbers : (ns : List ℕ) → slice_get ns 0 ≡ None → ns ≡ []
no_numbers [] h = refl
no_numbers (n ∷ ns) h = cc

-- no session was left
pub ended_none : (table table' : TableState) (c : ℕ) → record { table = table'; told = None } ≡ end_connection_step table c →
    (table' ≡ without_connection table c) × (numbers_on table.sessions c ≡ [])
ended_none table table' c h =
    let at = none_of table table' c (slice_get (numbers_on table.sessions c) 0) h in (
      at.1 ∙ ap (λ es. record table { connections = without_number table.connections c; sessions = es }) (sym (none_left c table.sessions at.0)),
      no_numbers (numbers_on table.sessions c) at.0,
    )

-- and the sessions are as they were
pub ended_same : (table table' : TableState) (c : ℕ) → record { table = table'; told = None } ≡ end_connection_step table c → table'.sessions ≡ table.sessions
ended_same table table' c h = ap (λ t. t.sessions) (none_of table table' c (slice_get (numbers_on table.sessions c) 0) h).1

-- a session ended: it is the first
pub ended_first : (table table' : TableState) (c n : ℕ) → record { table = table'; told = Some n } ≡ end_connection_step table c → table' ≡ session_ended table n
ended_first table table' c n h = (some_at table table' c n (slice_get (numbers_on table.sessions c) 0) h).1

module _ {S : Type 0} (settings : Settings) (sessions sessions' : SessionsState S) (store : StoreState) (c : ℕ) where
  abbrev server_by : SessionsState S → StoreState → ServerState S
  server_by s f = record { settings = settings; sessions = s; store = f }

  pub server_one : (store' : StoreState) (n : ℕ) → sessions' ≡ record sessions { table = sessions'.table } → store' ≡ closed_all store (Session n) →
      without_connection sessions'.table c ≡ without_connection sessions.table c → numbers_on sessions.table.sessions c ≡ n ∷ numbers_on sessions'.table.sessions c →
      connection_ended (server_by sessions' store') c ≡ connection_ended (server_by sessions store) c
  unfolding connection_ended
  server_one store' n k f e l =
      ap (λ s. server_by (record s { table = without_connection sessions'.table c }) (closed_with store' (numbers_on sessions'.table.sessions c))) k
      ∙ ap (λ t. server_by (record sessions { table = t }) (closed_with store' (numbers_on sessions'.table.sessions c))) e
      ∙ ap (λ f. server_by (record sessions { table = without_connection sessions.table c }) (closed_with f (numbers_on sessions'.table.sessions c))) f
      ∙ ap (λ ns. server_by (record sessions { table = without_connection sessions.table c }) (closed_with store ns)) (sym l)

  pub server_none : sessions' ≡ record sessions { table = sessions'.table } → sessions'.table ≡ without_connection sessions.table c → numbers_on sessions.table.sessions c ≡ [] →
      server_by sessions' store ≡ connection_ended (server_by sessions store) c
  unfolding connection_ended
  server_none k e l =
      ap (λ s. server_by s store) k ∙ ap (λ t. server_by (record sessions { table = t }) store) e
      ∙ ap (λ ns. server_by (record sessions { table = without_connection sessions.table c }) (closed_with store ns)) (sym l)
