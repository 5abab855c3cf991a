-- What holds of every login.
use Rattle.std.specs.Prelude.{◌≡◌, ◌≢◌, ◌⊎◌, ℕ, ◌^◌, ◌<◌, ◌≤◌, ◌==◌, ◌&&◌, if◌then◌else◌, Bool, true, false, List, [], ◌∷◌, length, take, drop, codes, replicate, bit_and, Option, Some, None, IsSome, IfSome}
use Rattle.std.specs.List.{Contains}
use Rattle.smb_wire.specs.Fields.{number_in}
use Rattle.smb_session.specs.Authenticator.{accepts, denies, IsLawful}
use Rattle.smb_session.specs.declared.signing.Signing.{Signing}
use Rattle.smb_ntlm.specs.declared.signing.SigningMode.{SigningMode}
use Rattle.smb_ntlm.specs.declared.signing.SigningMode.TheVariants.{Off, Required}
use Rattle.smb_ntlm.specs.SigningModes.{is_on}
use Rattle.smb_ntlm.specs.Der.{and_then}
use Rattle.smb_ntlm.specs.Spnego.{init_token, response_token}
use Rattle.smb_ntlm.specs.Hmac.{hmac}
use Rattle.smb_ntlm.specs.Messages.{LoginAsked, is_message, message_type, login_in, answered_flags, challenge_message}
use Rattle.smb_ntlm.specs.Accounts.{KnownAccount, AreLawful}
use Rattle.smb_ntlm.specs.Proof.{challenge, response_key, proof, session_key, is_named}
use Rattle.smb_ntlm.specs.Md4.{md4}
use Rattle.smb_ntlm.specs.Passwords.{nt_hash}
use Rattle.smb_ntlm.specs.Tokens.{Wrapped, wrapped_in}
use Rattle.smb_ntlm.specs.Login.{NtlmState, guest_user, login_answer, by_ntlm}

-- the AUTHENTICATE that a message is
abbrev pub login_message : Wrapped → Option LoginAsked
login_message read = if is_message read.message && message_type read.message == 3 then login_in read.message else None

-- the AUTHENTICATE in a token
unfoldable pub login_of : List ℕ → Option LoginAsked
login_of token = and_then (wrapped_in token) login_message

-- a user is an account's, which is named in this token and has its proof there, over the token's domain and blob, and
-- the challenge of this session; the user is let in to read only where the account may only read, and else to write
-- too; where its session has a key, that is the session key of this proof
pub record IsProved (state : NtlmState) (session : ℕ) (token user : List ℕ) (read_only : Bool)
    (signing : Option Signing) : Type 0 where
  pub account : KnownAccount
  pub login : LoginAsked
  pub among : Contains state.accounts account
  pub name : account.name ≡ user
  pub right : account.read_only ≡ read_only
  pub read : login_of token ≡ Some login
  pub asked : is_named login.user account ≡ true
  pub long : 44 ≤ length login.response
  pub proved : take 16 login.response
      ≡ proof account login.domain (challenge state.seed session) (drop 16 login.response)
  pub keyed : IfSome signing (λ signing. signing.key.bytes
      ≡ session_key account login.domain (challenge state.seed session) (drop 16 login.response))

-- who is let in as another than the session's guest has proved to be that user, and may only read where its account may
abbrev pub UsersAreProved : Type 0
UsersAreProved =
    (state : NtlmState) (session : ℕ) (token user last : List ℕ) (flags : ℕ) (read_only : Bool)
    (signing : Option Signing) →
    login_answer state session token ≡ accepts user flags read_only signing last →
    user ≢ guest_user session → IsProved state session token user read_only signing

-- where guests may not come, whoever is let in has proved to be that user, and is no guest
abbrev pub NoGuestComesUnasked : Type 0
NoGuestComesUnasked =
    (state : NtlmState) (session : ℕ) (token user last : List ℕ) (flags : ℕ) (read_only : Bool)
    (signing : Option Signing) →
    AreLawful state.accounts → state.guest ≡ false →
    login_answer state session token ≡ accepts user flags read_only signing last →
    IsProved state session token user read_only signing × ((other : ℕ) → user ≢ guest_user other)

-- where there are no accounts, whoever is let in is the session's guest
abbrev pub WithoutAccountsAllAreGuests : Type 0
WithoutAccountsAllAreGuests =
    (state : NtlmState) (session : ℕ) (token user last : List ℕ) (flags : ℕ) (read_only : Bool)
    (signing : Option Signing) →
    state.accounts ≡ [] → login_answer state session token ≡ accepts user flags read_only signing last →
    user ≡ guest_user session

-- the session's guest is let in to read only where guests may only read, and else to write too
abbrev pub GuestsHaveTheRightOfGuests : Type 0
GuestsHaveTheRightOfGuests =
    (state : NtlmState) (session : ℕ) (token last : List ℕ) (flags : ℕ) (read_only : Bool) (signing : Option Signing) →
    AreLawful state.accounts →
    login_answer state session token ≡ accepts (guest_user session) flags read_only signing last →
    read_only ≡ state.guest_read_only

-- who has a key has proved to be an account's user, and the key is the session key of that proof
abbrev pub KeysAreOfProofs : Type 0
KeysAreOfProofs =
    (state : NtlmState) (session : ℕ) (token user last : List ℕ) (flags : ℕ) (read_only : Bool) (signing : Signing) →
    login_answer state session token ≡ accepts user flags read_only (Some signing) last →
    IsProved state session token user read_only (Some signing)

-- with signing off nobody has a key
abbrev pub WithSigningOffNobodyHasAKey : Type 0
WithSigningOffNobodyHasAKey =
    (state : NtlmState) (session : ℕ) (token user last : List ℕ) (flags : ℕ) (read_only : Bool)
    (signing : Option Signing) →
    state.signing ≡ Off → login_answer state session token ≡ accepts user flags read_only signing last →
    signing ≡ None

-- with signing on who is let in as another than the session's guest has a key, and is no guest to its client either
-- ([MS-SMB2] 2.2.6)
abbrev pub WithSigningOnUsersHaveKeys : Type 0
WithSigningOnUsersHaveKeys =
    (state : NtlmState) (session : ℕ) (token user last : List ℕ) (flags : ℕ) (read_only : Bool)
    (signing : Option Signing) →
    is_on state.signing ≡ true → login_answer state session token ≡ accepts user flags read_only signing last →
    user ≢ guest_user session → IsSome signing × (flags ≡ 0)

-- where signing is required, each session that has a key has to sign
abbrev pub WhereRequiredKeysMustSign : Type 0
WhereRequiredKeysMustSign =
    (state : NtlmState) (session : ℕ) (token user last : List ℕ) (flags : ℕ) (read_only : Bool) (signing : Signing) →
    state.signing ≡ Required → login_answer state session token ≡ accepts user flags read_only (Some signing) last →
    signing.required ≡ true

-- the session's guest has no key, and is a guest to its client ([MS-SMB2] 2.2.6, IS_GUEST)
abbrev pub GuestsHaveNoKey : Type 0
GuestsHaveNoKey =
    (state : NtlmState) (session : ℕ) (token last : List ℕ) (flags : ℕ) (read_only : Bool) (signing : Option Signing) →
    AreLawful state.accounts →
    login_answer state session token ≡ accepts (guest_user session) flags read_only signing last →
    (signing ≡ None) × (flags ≡ 1)

-- where signing is on no CHALLENGE grants KEY_EXCH, 0x40000000 of its flags, which stand at 20
-- ([MS-NLMP] 2.2.1.2, 2.2.2.5)
abbrev pub WithSigningOnNoKeyIsExchanged : Type 0
WithSigningOnNoKeyIsExchanged =
    (state : NtlmState) (session asked : ℕ) → is_on state.signing ≡ true →
    let flags = answered_flags state.signing asked in
    bit_and (number_in 4 20 (challenge_message flags (challenge state.seed session))) 0x40000000 ≡ 0

-- a token without an AUTHENTICATE is answered alike whatever the accounts are, whether or not guests may come, and
-- whether or not these may only read
abbrev pub AccountsDoNotShow : Type 0
AccountsDoNotShow =
    (seed : List ℕ) (accounts others : List KnownAccount) (guest other guest_read_only other_read_only : Bool)
    (signing : SigningMode) (session : ℕ) (token : List ℕ) → login_of token ≡ None →
    login_answer
    (record { seed = seed; accounts = accounts; guest = guest; guest_read_only = guest_read_only; signing = signing })
    session token
    ≡ login_answer
    (record { seed = seed; accounts = others; guest = other; guest_read_only = other_read_only; signing = signing })
    session token

-- the front of a token that is a NegTokenInit or a NegTokenResp is denied
abbrev pub WhatIsCutIsDenied : Type 0
WhatIsCutIsDenied =
    (state : NtlmState) (session : ℕ) (token : List ℕ) (n : ℕ) →
    IsSome (init_token token) ⊎ IsSome (response_token token) → 0 < n → n < length token → login_answer state session (take n token) ≡ denies

-- each answer has the sizes and flags that an answer may have, and a step changes nothing
abbrev pub AnswersAreLawful : Type 0
AnswersAreLawful =
    (state : NtlmState) (session : ℕ) (token : List ℕ) → AreLawful state.accounts → session < 2 ^ 64 →
    IsLawful (login_answer state session token)

abbrev pub NothingChanges : Type 0
NothingChanges = (state : NtlmState) (session : ℕ) (token : List ℕ) → by_ntlm.next state session token ≡ state

-- the challenge stands in a CHALLENGE at 24, 8 bytes long ([MS-NLMP] 2.2.1.2)
abbrev pub ChallengeIsRead : Type 0
ChallengeIsRead =
    (seed : List ℕ) (session flags : ℕ) → (length (challenge seed session) ≡ 8)
    × (take 8 (drop 24 (challenge_message flags (challenge seed session))) ≡ challenge seed session)

-- guests of two sessions are two users, and none is an account's
abbrev pub GuestsAreStrangers : Type 0
GuestsAreStrangers =
    (session other : ℕ) → session < 2 ^ 64 → other < 2 ^ 64 → guest_user session ≡ guest_user other → session ≡ other

abbrev pub GuestsAreNoAccounts : Type 0
GuestsAreNoAccounts =
    (accounts : List KnownAccount) (account : KnownAccount) (session : ℕ) → AreLawful accounts →
    Contains accounts account →
    account.name ≢ guest_user session

-- RFC 2202, 2: cases 1 to 3 and 5
pub record HmacIsTheStandards : Type 0 where
  pub one : hmac (replicate 16 0x0b) (codes "Hi There") ≡
      0x92 ∷ 0x94 ∷ 0x72 ∷ 0x7a ∷ 0x36 ∷ 0x38 ∷ 0xbb ∷ 0x1c ∷ 0x13 ∷ 0xf4 ∷ 0x8e ∷ 0xf8 ∷ 0x15 ∷ 0x8b
      ∷ 0xfc ∷ 0x9d ∷ []
  pub two : hmac (codes "Jefe") (codes "what do ya want for nothing?") ≡
      0x75 ∷ 0x0c ∷ 0x78 ∷ 0x3e ∷ 0x6a ∷ 0xb0 ∷ 0xb5 ∷ 0x03 ∷ 0xea ∷ 0xa8 ∷ 0x6e ∷ 0x31 ∷ 0x0a ∷ 0x5d
      ∷ 0xb7 ∷ 0x38 ∷ []
  pub three : hmac (replicate 16 0xaa) (replicate 50 0xdd) ≡
      0x56 ∷ 0xbe ∷ 0x34 ∷ 0x52 ∷ 0x1d ∷ 0x14 ∷ 0x4c ∷ 0x88 ∷ 0xdb ∷ 0xb8 ∷ 0xc7 ∷ 0x33 ∷ 0xf0 ∷ 0xe8
      ∷ 0xb3 ∷ 0xf6 ∷ []
  pub five : hmac (replicate 16 0x0c) (codes "Test With Truncation") ≡
      0x56 ∷ 0x46 ∷ 0x1e ∷ 0xf2 ∷ 0x34 ∷ 0x2e ∷ 0xdc ∷ 0x00 ∷ 0xf9 ∷ 0xba ∷ 0xb9 ∷ 0x95 ∷ 0x69 ∷ 0x0e
      ∷ 0xfd ∷ 0x4c ∷ []

-- [MS-NLMP] 4.2.4: user "User" with password "Password" in domain "Domain"
abbrev pub example_account : KnownAccount
example_account = record {
  name = codes "User";
  nt_hash =
      0xa4 ∷ 0xf4 ∷ 0x9c ∷ 0x40 ∷ 0x65 ∷ 0x10 ∷ 0xbd ∷ 0xca ∷ 0xb6 ∷ 0x82 ∷ 0x4e ∷ 0xe7 ∷ 0xc3 ∷ 0x0f
      ∷ 0xd8 ∷ 0x52 ∷ [];
  read_only = false;
}

-- "Domain" in UTF-16LE
abbrev pub example_domain : List ℕ
example_domain = 0x44 ∷ 0x00 ∷ 0x6f ∷ 0x00 ∷ 0x6d ∷ 0x00 ∷ 0x61 ∷ 0x00 ∷ 0x69 ∷ 0x00 ∷ 0x6e ∷ 0x00 ∷ []

-- the server's challenge
abbrev pub example_challenge : List ℕ
example_challenge = 0x01 ∷ 0x23 ∷ 0x45 ∷ 0x67 ∷ 0x89 ∷ 0xab ∷ 0xcd ∷ 0xef ∷ []

-- temp (4.2.4.1.3): time 0, client challenge aaaaaaaaaaaaaaaa, and the server's names
abbrev pub example_blob : List ℕ
example_blob =
    0x01 ∷ 0x01 ∷ 0x00 ∷ 0x00 ∷ 0x00 ∷ 0x00 ∷ 0x00 ∷ 0x00 ∷ 0x00 ∷ 0x00 ∷ 0x00 ∷ 0x00 ∷ 0x00 ∷ 0x00
    ∷ 0x00 ∷ 0x00 ∷ 0xaa ∷ 0xaa ∷ 0xaa ∷ 0xaa ∷ 0xaa ∷ 0xaa ∷ 0xaa ∷ 0xaa ∷ 0x00 ∷ 0x00 ∷ 0x00 ∷ 0x00
    ∷ 0x02 ∷ 0x00 ∷ 0x0c ∷ 0x00 ∷ 0x44 ∷ 0x00 ∷ 0x6f ∷ 0x00 ∷ 0x6d ∷ 0x00 ∷ 0x61 ∷ 0x00 ∷ 0x69 ∷ 0x00
    ∷ 0x6e ∷ 0x00 ∷ 0x01 ∷ 0x00 ∷ 0x0c ∷ 0x00 ∷ 0x53 ∷ 0x00 ∷ 0x65 ∷ 0x00 ∷ 0x72 ∷ 0x00 ∷ 0x76 ∷ 0x00
    ∷ 0x65 ∷ 0x00 ∷ 0x72 ∷ 0x00 ∷ 0x00 ∷ 0x00 ∷ 0x00 ∷ 0x00 ∷ 0x00 ∷ 0x00 ∷ 0x00 ∷ 0x00 ∷ []

-- ResponseKeyNT (4.2.4.1.1) and NTProofStr (4.2.4.2.2)
pub record ProofIsTheStandards : Type 0 where
  pub key : response_key example_account example_domain ≡
      0x0c ∷ 0x86 ∷ 0x8a ∷ 0x40 ∷ 0x3b ∷ 0xfd ∷ 0x7a ∷ 0x93 ∷ 0xa3 ∷ 0x00 ∷ 0x1e ∷ 0xf2 ∷ 0x2e ∷ 0xf0
      ∷ 0x2e ∷ 0x3f ∷ []
  pub proved : proof example_account example_domain example_challenge example_blob ≡
      0x68 ∷ 0xcd ∷ 0x0a ∷ 0xb8 ∷ 0x51 ∷ 0xe5 ∷ 0x1c ∷ 0x96 ∷ 0xaa ∷ 0xbc ∷ 0x92 ∷ 0x7b ∷ 0xeb ∷ 0xef
      ∷ 0x6a ∷ 0x1c ∷ []

-- RFC 1320, A.5
pub record Md4IsTheStandards : Type 0 where
  pub empty : md4 [] ≡
      0x31 ∷ 0xd6 ∷ 0xcf ∷ 0xe0 ∷ 0xd1 ∷ 0x6a ∷ 0xe9 ∷ 0x31 ∷ 0xb7 ∷ 0x3c ∷ 0x59 ∷ 0xd7 ∷ 0xe0 ∷ 0xc0
      ∷ 0x89 ∷ 0xc0 ∷ []
  pub a : md4 (codes "a") ≡
      0xbd ∷ 0xe5 ∷ 0x2c ∷ 0xb3 ∷ 0x1d ∷ 0xe3 ∷ 0x3e ∷ 0x46 ∷ 0x24 ∷ 0x5e ∷ 0x05 ∷ 0xfb ∷ 0xdb ∷ 0xd6
      ∷ 0xfb ∷ 0x24 ∷ []
  pub abc : md4 (codes "abc") ≡
      0xa4 ∷ 0x48 ∷ 0x01 ∷ 0x7a ∷ 0xaf ∷ 0x21 ∷ 0xd8 ∷ 0x52 ∷ 0x5f ∷ 0xc1 ∷ 0x0a ∷ 0xe8 ∷ 0x7a ∷ 0xa6
      ∷ 0x72 ∷ 0x9d ∷ []
  pub message_digest : md4 (codes "message digest") ≡
      0xd9 ∷ 0x13 ∷ 0x0a ∷ 0x81 ∷ 0x64 ∷ 0x54 ∷ 0x9f ∷ 0xe8 ∷ 0x18 ∷ 0x87 ∷ 0x48 ∷ 0x06 ∷ 0xe1 ∷ 0xc7
      ∷ 0x01 ∷ 0x4b ∷ []
  pub letters : md4 (codes "abcdefghijklmnopqrstuvwxyz") ≡
      0xd7 ∷ 0x9e ∷ 0x1c ∷ 0x30 ∷ 0x8a ∷ 0xa5 ∷ 0xbb ∷ 0xcd ∷ 0xee ∷ 0xa8 ∷ 0xed ∷ 0x63 ∷ 0xdf ∷ 0x41
      ∷ 0x2d ∷ 0xa9 ∷ []
  pub alphanumerics : md4 (codes "ABCDEFGHIJKLMNOPQRSTUVWXYZabcdefghijklmnopqrstuvwxyz0123456789") ≡
      0x04 ∷ 0x3f ∷ 0x85 ∷ 0x82 ∷ 0xf2 ∷ 0x41 ∷ 0xdb ∷ 0x35 ∷ 0x1c ∷ 0xe6 ∷ 0x27 ∷ 0xe1 ∷ 0x53 ∷ 0xe7
      ∷ 0xf0 ∷ 0xe4 ∷ []
  pub digits : md4 (codes "12345678901234567890123456789012345678901234567890123456789012345678901234567890") ≡
      0xe3 ∷ 0x3b ∷ 0x4d ∷ 0xdc ∷ 0x9c ∷ 0x38 ∷ 0xf2 ∷ 0x19 ∷ 0x9c ∷ 0x3e ∷ 0x7b ∷ 0x16 ∷ 0x4f ∷ 0xcc
      ∷ 0x05 ∷ 0x36 ∷ []

-- [MS-NLMP] 4.2.2.1.2 (NTOWFv1 of "Password")
abbrev pub NtHashIsTheStandards : Type 0
NtHashIsTheStandards = nt_hash (codes "Password") ≡
    0xa4 ∷ 0xf4 ∷ 0x9c ∷ 0x40 ∷ 0x65 ∷ 0x10 ∷ 0xbd ∷ 0xca ∷ 0xb6 ∷ 0x82 ∷ 0x4e ∷ 0xe7 ∷ 0xc3 ∷ 0x0f
    ∷ 0xd8 ∷ 0x52 ∷ []
