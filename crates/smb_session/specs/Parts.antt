-- For the proofs; nothing here need be believed.
-- Parts of the definitions that the proofs and private functions speak of.
use Rattle.std.specs.Prelude.{ℕ, ◌+◌, Bool, false, ◌||◌, nat_le, length, List, [], ◌∷◌, ◌++◌, None, Some, Option, if◌then◌else◌, ◌==◌, not, is_some}
use Rattle.smb_wire.specs.Limits.{most_tree_connects, most_sessions}
use Rattle.smb_wire.specs.Counters.{is_spent}
use Rattle.smb_session.specs.Numbers.{without_number, contains}
use Rattle.smb_session.specs.Session.{SessionState}
use Rattle.smb_session.specs.declared.signing.Signing.{Signing}
use Rattle.std.specs.Option.{option_map_or, option_eq, option_and_then}
use Rattle.smb_refusals.specs.declared.session.SetupRefusal.{SetupRefusal}
use Rattle.smb_refusals.specs.declared.session.SetupRefusal.TheVariants.{SessionFinished}
use Rattle.smb_session.specs.Table.{TableState, session_at, numbers_on, session_ended, session_changed}
pub use Rattle.smb_session.specs.Table.{logoff_refusal}
use Rattle.smb_wire.specs.Names.{is_same_name}
use Rattle.smb_session.specs.Path.{path_parts, share_in}
use Rattle.std.specs.Str.{bytes_eq}
use Rattle.smb_session.specs.Authenticator.{Meaning}
use Rattle.smb_session.specs.Setup.{previous_ended, signing_asked, table_answered, setup_result}
use Rattle.smb_session.specs.Sessions.{SessionsState, SetupStep}

-- a session that has begun: no user yet and no tree, and its first tree will be 1
abbrev pub fresh_session : ℕ → SessionState
fresh_session connection =
    record { connection = connection; user = None; read_only = false; signing = None; trees = []; next_tree = 1 }

-- a session that is finished, by a user who may only read or who may write too, and signed so
abbrev pub finished_by : List ℕ → Bool → Option Signing → SessionState → SessionState
finished_by user read_only signing session = record session { user = Some user; read_only = read_only; signing = signing }

-- a session with one tree more, which has the next number
abbrev pub with_tree : SessionState → SessionState
with_tree session = record session { trees = session.trees ++ session.next_tree ∷ []; next_tree = session.next_tree + 1 }

-- a session without a tree
abbrev pub without_tree : ℕ → SessionState → SessionState
without_tree tree session = record session { trees = without_number session.trees tree }

-- a session that can be given no tree more: it has 16, or the numbers are spent
abbrev pub has_all_trees : SessionState → Bool
has_all_trees session = nat_le most_tree_connects (length session.trees) || is_spent 32 session.next_tree

-- the user of a finished session of a connection
abbrev pub user_on : TableState → ℕ → ℕ → Option (List ℕ)
user_on table connection session =
    option_and_then (λ state. if state.connection == connection then state.user else None) (session_at table session)

-- a session more, which has begun on a connection and has the next number
abbrev pub begun : TableState → ℕ → TableState
begun table connection =
    record table { sessions = table.sessions ++ (table.next, fresh_session connection) ∷ []; next = table.next + 1 }

-- TREE_CONNECT: the tree that a session is given, which is its next one (3.3.5.7)
abbrev pub next_tree_of : TableState → ℕ → ℕ
next_tree_of table session = option_map_or (λ state. state.next_tree) (session_at table session) 0

-- whether a path is `\\server\share`, for the share of this name
abbrev pub leads_to : List ℕ → List ℕ → Bool
leads_to share path = option_map_or (λ named. is_same_name named share) (share_in (path_parts path)) false

-- a connection that can begin no session: it is not known, it has 16 of them (unfinished ones count), or the numbers
-- are spent
abbrev pub has_all_sessions : TableState → ℕ → Bool
has_all_sessions table connection =
    not (contains table.connections connection)
    || nat_le most_sessions (length (numbers_on table.sessions connection))
    || is_spent 64 table.next

-- why a session that stands is not set up further: it is another connection's, or finished
abbrev pub known_session_refusal : ℕ → SessionState → Option SetupRefusal
known_session_refusal connection state =
    if not (state.connection == connection) then Some SetupRefusal.UnknownSession else
    if is_some state.user then Some SessionFinished else None

-- a session that is finished, by this user
abbrev pub is_of_user : List ℕ → SessionState → Bool
is_of_user user state = option_eq bytes_eq state.user (Some user)

-- an accepted session is finished, and the previous one ends
abbrev pub accepted : TableState → ℕ → List ℕ → Bool → Option Signing → ℕ → TableState
accepted table session user read_only signing previous = session_changed
    (finished_by user read_only signing)
    (option_map_or (session_ended table) (previous_ended table user previous) table)
    session

module _ {S : Type 0} (authenticator : Meaning S) where
  -- the authenticator is asked once about a session that stands, and its answer performed and reported (3.3.5.5.3)
  abbrev pub asked_step : SessionsState S → ℕ → ℕ → Bool → List ℕ → SetupStep S
  asked_step s session previous required token =
      let answer = signing_asked required (authenticator.answer s.authenticator session token) in
      record {
        state = record s {
          authenticator = authenticator.next s.authenticator session token;
          table = table_answered s.table session previous answer;
        };
        told = setup_result s.table session previous answer;
      }

-- and then the session is without the tree
abbrev pub tree_disconnected : TableState → ℕ → ℕ → TableState
tree_disconnected table session tree =
    session_changed (λ state. record state { trees = without_number state.trees tree }) table session

-- TREE_CONNECT: a session has one tree more, which has its next number (3.3.5.7)
abbrev pub tree_connected : TableState → ℕ → TableState
tree_connected =
    session_changed (λ state. record state { trees = state.trees ++ state.next_tree ∷ []; next_tree = state.next_tree + 1 })
