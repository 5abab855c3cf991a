-- What SESSION_SETUP and NEGOTIATE change.
use Rattle.std.proofs.Common.{◌≡◌, ℕ, Bool, true, false, List, [], ◌∷◌, Option, None, Some, Ok, Err, refl, ap, ◌∙◌, if◌then◌else◌}
use Rattle.std.specs.Option.{option_map_or}
use Rattle.smb_wire.specs.declared.dialect.Dialect.{Dialect}
use Rattle.smb_session.specs.declared.fault.SessionFault.{SessionFault}
use Rattle.smb_session.specs.declared.fault.SessionFault.TheVariants.{NoDialect}
use Rattle.smb_session.specs.Authenticator.{Answered, continues, accepts, denies, Meaning}
use Rattle.smb_session.specs.Table.{TableState, session_ended}
use Rattle.smb_session.specs.Parts.{begun}
use Rattle.smb_session.specs.Setup.{table_answered, previous_ended}
use Rattle.smb_session.specs.Laws.{setup_table}
use Rattle.smb_session.specs.Sessions.{SessionsState, setup_step}
use Rattle.smb_head.specs.declared.header.Header.{Header}
use Rattle.smb_head.specs.Replies.{joined_replies}
use Rattle.smb_body.specs.Replies.{ReplyValue, reply_spelling}
use Rattle.smb_request.specs.Smb1.{reply_to_smb1}

ended-connections : (table : TableState) (o : Option ℕ) → (option_map_or (session_ended table) o table).connections ≡ table.connections
ended-connections table None = refl
ended-connections table (Some n) = refl

answered-connections : (table : TableState) (number previous : ℕ) (answer : Answered) → (table_answered table number previous answer).connections ≡ table.connections
answered-connections table number previous (continues token) = refl
answered-connections table number previous (accepts user flags read_only signing token) = ended-connections table (previous_ended table user previous)
answered-connections table number previous denies = refl

begun-connections : (table : TableState) (connection : ℕ) (b : Bool) → (if b then begun table connection else table).connections ≡ table.connections
begun-connections table connection true = refl
begun-connections table connection false = refl

-- no connection comes or goes by a SESSION_SETUP
pub setup-connections : {S : Type 0} (m : Meaning S) (s : SessionsState S) (connection number previous : ℕ) (required : Bool) (token : List ℕ) →
    (setup_step m s connection number previous required token).state.table.connections ≡ s.table.connections
setup-connections m s connection number previous required token =
    answered-connections (setup_table s.table connection number) _ previous _ ∙ begun-connections s.table connection _

-- the dialect that is told
pub best_ok : (o : Option Dialect) (best : Dialect) → Ok best ≡ option_map_or Ok o (Err NoDialect) → Some best ≡ o
best_ok None best h = cc
best_ok (Some other) best h = let e : best ≡ other = cc in ap (λ x. Some x) e

pub best_err : (o : Option Dialect) (fault : SessionFault) → Err fault ≡ option_map_or Ok o (Err NoDialect) → None ≡ o
best_err None fault h = refl
best_err (Some other) fault h = cc

-- the reply to an SMB_COM_NEGOTIATE
pub smb1_joined : (header : Header) (body : List ℕ) (v : ReplyValue) → header ≡ (reply_to_smb1 v).header → body ≡ reply_spelling v →
    joined_replies (record { header = header; body = body; key = None } ∷ []) ≡ joined_replies (reply_to_smb1 v ∷ [])
smb1_joined header body v e f = rw (e, f) refl
