-- The authenticator with a script.
use Rattle.std.specs.Prelude.{ℕ, false, List, drop, slice_get, unwrap_or}
use Rattle.smb_session.specs.Authenticator.{Answered, denies, Meaning}

-- its first token, and the answers that are left
pub record Script : Type 0 where
  pub hello : List ℕ
  pub left : List Answered

-- whatever it is asked, it gives the answers in turn; behind the last it denies
abbrev pub scripted : Meaning Script
scripted = record {
  hello = λ script. script.hello;
  requires_signing = λ script. false;
  answer = λ script session token. unwrap_or (slice_get script.left 0) denies;
  next = λ script session token. record script { left = drop 1 script.left };
}
