-- The table of sessions, with their trees ([MS-SMB2] 3.3.1.5, 3.3.1.8, 3.3.1.9).
use Rattle.std.specs.Prelude.{ℕ, Bool, false, ◌&&◌, ◌==◌, not, List, [], ◌∷◌, Option, None, Some, is_some, if◌then◌else◌, slice_get}
use Rattle.std.specs.Option.{option_map, option_map_or, option_and_then}
use Rattle.std.specs.Map.{lookup, remove_entry}
use Rattle.std.specs.BTreeMap.{is_at}
use Rattle.std.specs.Ordering.{nat_cmp}
use Rattle.smb_refusals.specs.declared.session.LogoffRefusal.{LogoffRefusal}
use Rattle.smb_refusals.specs.declared.session.TreeDisconnectRefusal.{TreeDisconnectRefusal}
use Rattle.smb_refusals.specs.declared.session.TreeDisconnectRefusal.TheVariants.{UnknownTreeConnect}
use Rattle.smb_session.specs.Numbers.{contains, with_number, without_number}
use Rattle.smb_session.specs.declared.signing.Signing.{Signing}
use Rattle.smb_session.specs.Session.{SessionState}

-- the connections that are known and the sessions by their numbers, both in rising order, and the next session's number
pub record TableState : Type 0 where
  pub connections : List ℕ
  pub sessions : List (ℕ × SessionState)
  pub next : ℕ

-- no connection, and the first session will be 1
abbrev pub no_sessions : TableState
no_sessions = record { connections = []; sessions = []; next = 1 }

-- the session of a number
abbrev pub session_at : TableState → ℕ → Option SessionState
session_at table session = lookup (is_at (nat_cmp session)) table.sessions

-- the numbers of a connection's sessions
abbrev pub numbers_on : List (ℕ × SessionState) → ℕ → List ℕ
numbers_on [] connection = []
numbers_on (e ∷ sessions) connection =
    if e.1.connection == connection then e.0 ∷ numbers_on sessions connection else numbers_on sessions connection

-- a connection more; one that is known already changes nothing
abbrev pub connected : TableState → ℕ → TableState
connected table connection =
    if contains table.connections connection then table else record table { connections = with_number table.connections connection }

-- a session and its trees are gone
abbrev pub session_ended : TableState → ℕ → TableState
session_ended table session = record table { sessions = remove_entry (is_at (nat_cmp session)) table.sessions }

-- what stands at a number is changed, where something does
abbrev pub changed_at : {X : Type 0} → (X → X) → ℕ → List (ℕ × X) → List (ℕ × X)
changed_at change number [] = []
changed_at change number (e ∷ entries) =
    if number == e.0 then (e.0, change e.1) ∷ entries else e ∷ changed_at change number entries

-- the session of a number is changed, where there is one
abbrev pub session_changed : (SessionState → SessionState) → TableState → ℕ → TableState
session_changed change table session = record table { sessions = changed_at change session table.sessions }

-- whether a number is that of a finished session of this connection (3.3.5.2.9)
abbrev pub knows_session : TableState → ℕ → ℕ → Bool
knows_session table connection session =
    option_map_or (λ state. (state.connection == connection) && is_some state.user) (session_at table session) false

-- whether a session is connected to a tree (3.3.5.2.11)
abbrev pub knows_tree : TableState → ℕ → ℕ → Bool
knows_tree table session tree = option_map_or (λ state. contains state.trees tree) (session_at table session) false

-- how the messages of a finished session of this connection are signed, if they are
abbrev pub signing_of : TableState → ℕ → ℕ → Option Signing
signing_of table connection session =
    if knows_session table connection session then option_and_then (λ state. state.signing) (session_at table session) else None

-- whether a finished session of this connection may only read, as its answer said; None where a number is that of none
abbrev pub read_only_of : TableState → ℕ → ℕ → Option Bool
read_only_of table connection session =
    if knows_session table connection session then option_map (λ state. state.read_only) (session_at table session) else None

-- both, or where no tree is named the first alone
abbrev pub knows : TableState → ℕ → ℕ → Option ℕ → Bool
knows table connection session None = knows_session table connection session
knows table connection session (Some tree) = knows_session table connection session && knows_tree table session tree

-- why a LOGOFF is refused (3.3.5.6)
abbrev pub logoff_refusal : TableState → ℕ → ℕ → Option LogoffRefusal
logoff_refusal table connection session =
    -- LO1. the session is no finished one of the connection
    if knows_session table connection session then None else Some LogoffRefusal.UnknownSession

-- why a TREE_DISCONNECT is refused: the first row that holds (3.3.5.8)
abbrev pub tree_disconnect_refusal : TableState → ℕ → ℕ → ℕ → Option TreeDisconnectRefusal
tree_disconnect_refusal table connection session tree =
    -- TD1. the session is no finished one of the connection
    if not (knows_session table connection session) then Some TreeDisconnectRefusal.UnknownSession else
    -- TD2. the session has no such tree
    if knows_tree table session tree then None else Some UnknownTreeConnect

-- what an end of a connection leaves, and the session that it reports
pub record EndStep : Type 0 where
  pub table : TableState
  pub told : Option ℕ

-- the end of a connection: its least session ends and is reported; where it has none, the connection is known no longer
-- (3.3.7.1)
abbrev pub end_connection_step : TableState → ℕ → EndStep
end_connection_step table connection = option_map_or
    (λ session. record { table = session_ended table session; told = Some session })
    (slice_get (numbers_on table.sessions connection) 0)
    (record { table = record table { connections = without_number table.connections connection }; told = None })
