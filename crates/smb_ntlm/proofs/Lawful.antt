-- Every answer is lawful.
use Rattle.std.proofs.Common.{◌≡◌, inl, inr, cond, lit≤, ℕ, ◌<◌, ◌≤◌, ◌^◌, Bool, true, false, List, [], ◌∷◌, ◌++◌, length, drop, find, Option, Some, None, IfSome, unwrap_or, refl, subst, arith, length-take-le}
use Rattle.std.proofs.lemmas.Bool.{cases_Bool, and_parts, leb-true, not-false}
use Rattle.std.proofs.lemmas.Fmt.{length-decimal-le}
use Rattle.std.specs.List.{list_all, AllByRecursion}
use Rattle.md5.specs.Md5.{md5}
use Rattle.md5.proofs.StandardFacts.{length-md5}
use Rattle.smb_wire.specs.Number.{spelling}
use Rattle.smb_session.specs.declared.signing.Signing.{Signing}
use Rattle.smb_ntlm.specs.declared.signing.SigningMode.{SigningMode}
use Rattle.smb_ntlm.specs.declared.signing.SigningMode.TheVariants.{Off, Offered, Required}
use Rattle.smb_ntlm.specs.SigningModes.{signing_by}
use Rattle.smb_ntlm.specs.Hmac.{hmac}
use Rattle.smb_session.specs.Authenticator.{Answered, IsLawful}
use Rattle.smb_ntlm.specs.declared.token.Wrapping.{Wrapping}
use Rattle.smb_ntlm.specs.declared.token.Wrapping.TheVariants.{Raw, Init, Response}
use Rattle.smb_ntlm.specs.declared.account.AccountFault.{AccountFault}
use Rattle.smb_ntlm.specs.Accounts.{KnownAccount, is_printable, fault_rows, first_fault, or_later, fault_behind, AreLawful}
use Rattle.smb_ntlm.specs.Messages.{LoginAsked, asked_flags, answered_flags, challenge_message, login_in}
use Rattle.smb_ntlm.specs.Proof.{challenge, session_key, account_of, is_named}
use Rattle.smb_ntlm.specs.Tokens.{Wrapped, element_of, ask_token, answer_token, last_token, wrapped_in}
use Rattle.smb_ntlm.specs.Login.{NtlmState, AnswerRow, first_answer, login_rows, message_rows, token_rows, login_answer, lets_in, lets_account_in, no_login, no_token, guest_user}
use Rattle.smb_ntlm.proofs.TokenBytes.{front_raw, front_first, front_later, length-challenge_message}

-- ---- names

-- an account's name has at most 256 bytes, all printable
pub record IsName (account : KnownAccount) : Type 0 where
  pub short : length account.name ≤ 256
  pub printable : list_all is_printable account.name ≡ true

later_none : (fault later : Option AccountFault) → or_later fault later ≡ None → (fault ≡ None) × (later ≡ None)
later_none None later h = (refl, h)
later_none (Some fault) later h = absurd (cc h)

no_row : (b : Bool) (fault : AccountFault) (rest : Option AccountFault) → cond b (Some fault) rest ≡ None → (b ≡ false) × (rest ≡ None)
no_row true fault rest h = absurd (cc h)
no_row false fault rest h = (refl, h)

one_name : (others : List KnownAccount) (account : KnownAccount) → first_fault (fault_rows others account) ≡ None → IsName account
one_name others account h =
    let first = no_row _ _ _ h in
    let second = no_row _ _ _ first.1 in
    let size = and_parts _ _ (not-false _ first.0) in
    record { short = leb-true _ _ size.1; printable = not-false _ second.0 }

names_behind : (others accounts : List KnownAccount) → fault_behind others accounts ≡ None → AllByRecursion IsName accounts
unfolding fault_behind
names_behind others [] h = tt
names_behind others (account ∷ accounts) h =
    let parts = later_none _ _ h in
    (one_name others account parts.0, names_behind (others ++ account ∷ []) accounts parts.1)

pub lawful_names : (accounts : List KnownAccount) → AreLawful accounts → AllByRecursion IsName accounts
lawful_names accounts h = names_behind [] accounts h

-- what holds of all holds of the one that is found
found_name : (test : KnownAccount → Bool) (accounts : List KnownAccount) (account : KnownAccount) → AllByRecursion IsName accounts → find test accounts ≡ Some account → IsName account
found_name test [] account all h = absurd (cc h)
found_name test (a ∷ accounts) account all h = elim (cases_Bool (test a)) [
  | inl t ↦ let is = rw t at h in let same : a ≡ account = cc is in subst IsName same all.0
  | inr f ↦ let is = rw f at h in found_name test accounts account all.1 is
]

-- ---- tokens

ask_short : length ask_token ≤ 4096
unfolding ask_token element_of
ask_short = lit≤ tt

last_short : (wrapping : Wrapping) → length (last_token wrapping) ≤ 4096
unfolding last_token element_of
last_short Raw = lit≤ tt
last_short Init = lit≤ tt
last_short Response = lit≤ tt

answer_short : (wrapping : Wrapping) (message : List ℕ) → length message ≡ 116 → length (answer_token wrapping message) ≤ 4096
answer_short Raw message e = rw (← front_raw message) (omega arith)
answer_short Init message e = rw (← front_first message e) (omega arith)
answer_short Response message e = rw (← front_later message e) (omega arith)

pub length-challenge : (seed : List ℕ) (session : ℕ) → length (challenge seed session) ≡ 8
unfolding challenge
length-challenge seed session = length-take-le 8 (md5 (seed ++ spelling 8 session)) (omega (arith, length-md5 (seed ++ spelling 8 session)))

pub guest_short : (session : ℕ) → session < 2 ^ 64 → length (guest_user session) ≤ 256
unfolding guest_user
guest_short session h = let short = length-decimal-le 20 session (omega arith) (omega arith) h in omega arith

-- ---- answers

rows_lawful : (rows : List AnswerRow) → AllByRecursion (λ row. IsLawful row.1) rows → IsLawful (first_answer rows)
rows_lawful [] h = tt
rows_lawful (row ∷ rows) h = row_lawful row.0 row.1 (first_answer rows) h.0 (rows_lawful rows h.1)
  where
    row_lawful : (b : Bool) (answer rest : Answered) → IsLawful answer → IsLawful rest → IsLawful (cond b answer rest)
    row_lawful true answer rest h k = h
    row_lawful false answer rest h k = k

lets_lawful : (wrapping : Wrapping) (user : List ℕ) (read_only : Bool) (signing : Option Signing) → length user ≤ 256 → IfSome signing (λ signing. length signing.key.bytes ≡ 16) →
    IsLawful (lets_in wrapping user read_only signing)
lets_lawful wrapping user read_only None h k = (h, omega arith, last_short wrapping, k)
lets_lawful wrapping user read_only (Some signing) h k = (h, omega arith, last_short wrapping, k)

length-session_key : (account : KnownAccount) (domain challenge blob : List ℕ) → length (session_key account domain challenge blob) ≡ 16
unfolding session_key hmac
length-session_key account domain challenge blob = length-md5 _

key_long : (mode : SigningMode) (key : List ℕ) → length key ≡ 16 → IfSome (signing_by mode key) (λ signing. length signing.key.bytes ≡ 16)
key_long Off key e = tt
key_long Offered key e = e
key_long Required key e = e

account_lawful : (mode : SigningMode) (wrapping : Wrapping) (account : Option KnownAccount) (challenge : List ℕ) (login : LoginAsked) → ((a : KnownAccount) → account ≡ Some a → IsName a) →
    IsLawful (lets_account_in mode wrapping account challenge login)
account_lawful mode wrapping None challenge login f = tt
account_lawful mode wrapping (Some a) challenge login f =
    lets_lawful wrapping a.name a.read_only _ (f a refl).short (key_long mode _ (length-session_key a login.domain challenge (drop 16 login.response)))

login_lawful : (state : NtlmState) (session : ℕ) (wrapping : Wrapping) (login : LoginAsked) → AreLawful state.accounts → session < 2 ^ 64 →
    AllByRecursion (λ row. IsLawful row.1) (login_rows state session wrapping login)
unfolding login_rows
login_lawful state session wrapping login h k =
    let named : (a : KnownAccount) → account_of state.accounts login.user ≡ Some a → IsName a = λ a e. found_name (is_named login.user) state.accounts a (lawful_names state.accounts h) e in
    (account_lawful state.signing wrapping (account_of state.accounts login.user) (challenge state.seed session) login named, (tt, (lets_lawful wrapping (guest_user session) state.guest_read_only None (guest_short session k) tt, (tt, tt))))

message_lawful : (state : NtlmState) (session : ℕ) (wrapping : Wrapping) (message : List ℕ) → AreLawful state.accounts → session < 2 ^ 64 →
    AllByRecursion (λ row. IsLawful row.1) (message_rows state session wrapping message)
unfolding message_rows
message_lawful state session wrapping message h k =
    let flags = answered_flags state.signing (asked_flags message) in
    let size = length-challenge_message flags (challenge state.seed session) (length-challenge state.seed session) in
    (tt, (tt, (answer_short wrapping (challenge_message flags (challenge state.seed session)) size, (tt, login_lawful state session wrapping (unwrap_or (login_in message) no_login) h k))))

pub answer_lawful : (state : NtlmState) (session : ℕ) (token : List ℕ) → AreLawful state.accounts → session < 2 ^ 64 → IsLawful (login_answer state session token)
unfolding login_answer
answer_lawful state session token h k =
    let read : Wrapped = unwrap_or (wrapped_in token) no_token in
    rows_lawful (token_rows state session token) (tt, (ask_short, message_lawful state session read.wrapping read.message h k))
