-- What an authenticator means: who a client is, and the tokens of the exchange that finds it out ([MS-SMB2] 3.3.5.5.3).
use Rattle.std.specs.Prelude.{ℕ, ◌≤◌, Bool, List, Option, length, ◌≡◌, IfSome}
use Rattle.smb_wire.specs.Limits.{longest_token, longest_user_name}
use Rattle.smb_session.specs.declared.signing.Signing.{Signing}

-- an answer to a client's token: more is to come, with a token; a user is accepted, with session flags, whether it may only
-- read, how its session's messages are signed, if they are, and a last token; or no
pub data Answered : Type 0 where
  continues : List ℕ → Answered
  accepts : List ℕ → ℕ → Bool → Option Signing → List ℕ → Answered
  denies : Answered

-- an authenticator as functions of its state: the token that it offers first, whether each session that it signs has to
-- sign its requests, and what a session and a token are answered and leave
pub record Meaning (S : Type 0) : Type 0 where
  pub hello : S → List ℕ
  pub requires_signing : S → Bool
  pub answer : S → ℕ → List ℕ → Answered
  pub next : S → ℕ → List ℕ → S

-- the sizes of an answer: a token has at most 4,096 bytes, a user at most 256, a key 16, and the flags are IS_GUEST 1 and
-- IS_NULL 2 (2.2.6)
abbrev pub IsLawful : Answered → Type 0
IsLawful (continues token) = length token ≤ longest_token
IsLawful (accepts user flags read_only signing token) =
    (length user ≤ longest_user_name) × (flags ≤ 3) × (length token ≤ longest_token) × IfSome signing (λ signing. length signing.key.bytes ≡ 16)
IsLawful denies = Unit {0}
