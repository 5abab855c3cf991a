-- A login: what each token is answered.
use Rattle.std.specs.Prelude.{ℕ, nat_lt, ◌==◌, not, ◌&&◌, ◌||◌, if◌then◌else◌, Bool, true, false, List, [], ◌∷◌, ◌++◌, length, drop, codes, Option, None, is_some, is_none, unwrap_or}
use Rattle.std.specs.Option.{option_map_or}
use Rattle.std.specs.Fmt.{decimal}
use Rattle.smb_wire.specs.Limits.{longest_token}
use Rattle.smb_session.specs.Authenticator.{Answered, continues, accepts, denies, Meaning}
use Rattle.smb_session.specs.declared.signing.Signing.{Signing}
use Rattle.smb_ntlm.specs.SigningModes.{is_required, signing_by}
use Rattle.smb_ntlm.specs.Messages.{LoginAsked, is_message, message_type, asked_flags, has_unicode, answered_flags, login_in, challenge_message}
use Rattle.smb_ntlm.specs.Accounts.{KnownAccount}
use Rattle.smb_ntlm.specs.Proof.{challenge, session_key, account_of, has_proof}
use Rattle.smb_ntlm.specs.Tokens.{Wrapped, wrapped_in, prefers_another, hello_token, ask_token, answer_token, last_token}
use Rattle.smb_ntlm.specs.declared.signing.SigningMode.{SigningMode}
use Rattle.smb_ntlm.specs.declared.token.Wrapping.{Wrapping}
use Rattle.smb_ntlm.specs.declared.token.Wrapping.TheVariants.{Raw}

-- what a login is decided by: a seed of 16 bytes, the accounts, whether guests may come, whether these may only read,
-- and whether the messages of accounts' sessions are signed
pub record NtlmState : Type 0 where
  pub seed : List ℕ
  pub accounts : List KnownAccount
  pub guest : Bool
  pub guest_read_only : Bool
  pub signing : SigningMode

-- the guest of a session, as a user: no other session has this one
unfoldable pub guest_user : ℕ → List ℕ
guest_user session = codes "guest" ++ 0 ∷ decimal session

-- a condition, and the answer where it holds
abbrev pub AnswerRow : Type 0
AnswerRow = Bool × Answered

-- the answer of the first row that holds
abbrev pub first_answer : List AnswerRow → Answered
first_answer [] = denies
first_answer (row ∷ rows) = if row.0 then row.1 else first_answer rows

-- a user is let in, to read only or to write too; as a guest ([MS-SMB2] 2.2.6, IS_GUEST) unless its session is signed
abbrev pub lets_in : Wrapping → List ℕ → Bool → Option Signing → Answered
lets_in wrapping user read_only signing =
    accepts user (if is_some signing then 0 else 1) read_only signing (last_token wrapping)

-- whether there is an account and it has its proof
abbrev pub is_proved : Option KnownAccount → List ℕ → LoginAsked → Bool
is_proved account challenge login = option_map_or (λ a. has_proof a challenge login) account false

-- an account's user is let in, to read only where the account may only read; its session's key is that of its proof
abbrev pub lets_account_in : SigningMode → Wrapping → Option KnownAccount → List ℕ → LoginAsked → Answered
lets_account_in mode wrapping account challenge login =
    let key : KnownAccount → List ℕ = λ a. session_key a login.domain challenge (drop 16 login.response) in
    option_map_or (λ a. lets_in wrapping a.name a.read_only (signing_by mode (key a))) account denies

-- rows 7 to 10: an AUTHENTICATE
unfoldable pub login_rows : NtlmState → ℕ → Wrapping → LoginAsked → List AnswerRow
login_rows state session wrapping login =
    let account = account_of state.accounts login.user in
    let challenge = challenge state.seed session in
    (is_proved account challenge login, lets_account_in state.signing wrapping account challenge login)
    ∷ (is_some account, denies)
    ∷ (state.guest, lets_in wrapping (guest_user session) state.guest_read_only None)
    ∷ (true, denies)
    ∷ []

-- no login
abbrev pub no_login : LoginAsked
no_login = record { response = []; domain = []; user = [] }

-- rows 3 to 6: a message
unfoldable pub message_rows : NtlmState → ℕ → Wrapping → List ℕ → List AnswerRow
message_rows state session wrapping message =
    let flags = answered_flags state.signing (asked_flags message) in
    (not (is_message message), denies)
    ∷ (message_type message == 1 && not (has_unicode (asked_flags message)), denies)
    ∷ (
      message_type message == 1,
      continues (answer_token wrapping (challenge_message flags (challenge state.seed session))),
    )
    ∷ (is_none (login_in message), denies)
    ∷ login_rows state session wrapping (unwrap_or (login_in message) no_login)

-- no token
abbrev pub no_token : Wrapped
no_token = record { wrapping = Raw; message = [] }

-- rows 1 and 2: a token
abbrev pub token_rows : NtlmState → ℕ → List ℕ → List AnswerRow
token_rows state session token =
    let read = unwrap_or (wrapped_in token) no_token in
    (nat_lt longest_token (length token) || is_none (wrapped_in token), denies)
    ∷ (prefers_another read, continues ask_token)
    ∷ message_rows state session read.wrapping read.message

-- the answer to a token
unfoldable pub login_answer : NtlmState → ℕ → List ℕ → Answered
login_answer state session token = first_answer (token_rows state session token)

-- answers by the table, which changes nothing
abbrev pub by_ntlm : Meaning NtlmState
by_ntlm = record {
  hello = λ state. hello_token;
  requires_signing = λ state. is_required state.signing;
  answer = λ state session token. login_answer state session token;
  next = λ state session token. state;
}
