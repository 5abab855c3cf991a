-- The authenticator with a list of tokens.
use Rattle.std.specs.Prelude.{◌≡◌, ℕ, Bool, false, List, [], ◌∷◌, None, codes, find, if◌then◌else◌}
use Rattle.std.specs.Option.{option_map_or}
use Rattle.std.specs.List.{AllByRecursion}
use Rattle.std.specs.Str.{bytes_eq}
use Rattle.smb_session.specs.Authenticator.{Answered, accepts, denies, Meaning}

-- a user, the token by which it is known, and whether it may only read
pub record KnownUser : Type 0 where
  pub name : List ℕ
  pub token : List ℕ
  pub read_only : Bool

-- its first token, whether guests may come, whether they may only read, and the users
pub record TokenList : Type 0 where
  pub hello : List ℕ
  pub guest : Bool
  pub guest_read_only : Bool
  pub users : List KnownUser

-- what a token is answered: a user's brings that user, any other a guest, with IS_GUEST, where guests may come, or a
-- denial. The token answered is empty (2.2.6)
abbrev pub token_answer : Bool → Bool → List KnownUser → List ℕ → Answered
token_answer guest guest_read_only users token =
    option_map_or (λ user. accepts user.name 0 user.read_only None []) (find (λ user. bytes_eq user.token token) users)
    (if guest then accepts (codes "guest") 1 guest_read_only None [] else denies)

-- answers by the list, which stays as it is
abbrev pub by_tokens : Meaning TokenList
by_tokens = record {
  hello = λ list. list.hello;
  requires_signing = λ list. false;
  answer = λ list session token. token_answer list.guest list.guest_read_only list.users token;
  next = λ list session token. list;
}

-- no two users share a token
abbrev pub HaveOwnTokens : List KnownUser → Type 0
HaveOwnTokens [] = Unit {0}
HaveOwnTokens (user ∷ users) = AllByRecursion (λ other. bytes_eq other.token user.token ≡ false) users × HaveOwnTokens users
