-- The sessions over an authenticator, and each call on them ([MS-SMB2] 3.3.5.4 to 3.3.5.8).
use Rattle.std.specs.Prelude.{ℕ, Bool, ◌≡◌, ◌+◌, ◌==◌, ◌||◌, not, nat_le, List, [], ◌∷◌, ◌++◌, length, Option, None, Some, if◌then◌else◌, true, false}
use Rattle.std.specs.Option.{option_map_or}
use Rattle.smb_wire.specs.Limits.{most_tree_connects}
use Rattle.smb_wire.specs.Counters.{is_spent}
use Rattle.smb_wire.specs.Names.{is_same_name}
use Rattle.smb_session.specs.declared.fault.SessionFault.{SessionFault}
use Rattle.smb_session.specs.declared.fault.SessionFault.TheVariants.{UnknownSession, UnknownTree, NoShare, NotAccepted, NoDialect, NoMemory}
use Rattle.smb_refusals.specs.declared.session.TreeConnectRefusal.{TreeConnectRefusal}
use Rattle.smb_refusals.specs.declared.session.TreeConnectRefusal.TheVariants.{UnknownShare, NoTreeConnectLeft}
use Rattle.smb_session.specs.Authenticator.{Meaning}
use Rattle.smb_session.specs.Table.{TableState, session_at, knows_session, no_sessions}
use Rattle.smb_session.specs.Session.{SessionState}
use Rattle.smb_session.specs.Path.{path_parts, share_in}
use Rattle.smb_session.specs.Setup.{SetupResult, signing_asked, table_answered, setup_result}

-- the authenticator's state, the share's name in units, and the table of sessions
pub record SessionsState (S : Type 0) : Type 0 where
  pub authenticator : S
  pub share : List ℕ
  pub table : TableState

-- no session and no connection
abbrev pub new_sessions : {S : Type 0} → S → List ℕ → SessionsState S
new_sessions authenticator share = record { authenticator = authenticator; share = share; table = no_sessions }

-- what a SESSION_SETUP leaves, and what it reports
pub record SetupStep (S : Type 0) : Type 0 where
  pub state : SessionsState S
  pub told : SetupResult

module _ {S : Type 0} (authenticator : Meaning S) where
  -- a SESSION_SETUP that is not refused: the authenticator is asked once about the session, and its answer performed
  -- and reported; where the client asks for it each request of the session is to be signed (3.3.5.5.3)
  abbrev pub setup_step : SessionsState S → ℕ → ℕ → ℕ → Bool → List ℕ → SetupStep S
  setup_step s connection session previous required token =
      -- SessionId 0 asks for a new session, which begins with no user yet and no tree; its first tree will be 1
      -- (3.3.5.5.1)
      let fresh : SessionState = record {
        connection = connection;
        user = None;
        read_only = false;
        signing = None;
        trees = [];
        next_tree = 1;
      } in
      let number = if session == 0 then s.table.next else session in
      let table = if session == 0
      then record s.table { sessions = s.table.sessions ++ (s.table.next, fresh) ∷ []; next = s.table.next + 1 }
      else s.table in
      let answer = signing_asked required (authenticator.answer s.authenticator number token) in
      record {
        state = record s {
          authenticator = authenticator.next s.authenticator number token;
          table = table_answered table number previous answer;
        };
        told = setup_result table number previous answer;
      }

-- why a TREE_CONNECT is refused: the first row that holds (3.3.5.7)
abbrev pub tree_connect_refusal : {S : Type 0} → SessionsState S → ℕ → ℕ → List ℕ → Option TreeConnectRefusal
tree_connect_refusal s connection session path =
    -- TC1. the session is no finished one of the connection
    if not (knows_session s.table connection session) then Some TreeConnectRefusal.UnknownSession else
    -- TC2. the path is not `\\server\share`, or names another share
    if not (option_map_or (λ named. is_same_name named s.share) (share_in (path_parts path)) false) then Some UnknownShare else
    -- TC3. the session has 16 trees, or their numbers are spent
    if option_map_or
    (λ (state : SessionState). nat_le most_tree_connects (length state.trees) || is_spent 32 state.next_tree)
    (session_at s.table session)
    true
    then Some NoTreeConnectLeft else None

-- a refusal is the one that the definition gives; want of memory comes only where it gives none
abbrev pub IsRefused : Option SessionFault → SessionFault → Type 0
IsRefused refusal UnknownSession = refusal ≡ Some UnknownSession
IsRefused refusal UnknownTree = refusal ≡ Some UnknownTree
IsRefused refusal NoShare = refusal ≡ Some NoShare
IsRefused refusal NotAccepted = refusal ≡ Some NotAccepted
IsRefused refusal NoDialect = refusal ≡ Some NoDialect
IsRefused refusal NoMemory = refusal ≡ None
