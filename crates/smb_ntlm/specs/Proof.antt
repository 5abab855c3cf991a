-- What shows that a client knows a password: NTLM's second version ([MS-NLMP] 3.3.2).
use Rattle.std.specs.Prelude.{ℕ, ◌%◌, nat_eq, nat_le, ◌&&◌, Bool, List, ◌++◌, length, take, drop, find, Option}
use Rattle.std.specs.Str.{bytes_eq}
use Rattle.smb_wire.specs.Number.{spelling}
use Rattle.smb_wire.specs.Pairs.{units_in, unit_bytes}
use Rattle.smb_wire.specs.Names.{folded, is_same_name}
use Rattle.md5.specs.Md5.{md5}
use Rattle.smb_ntlm.specs.Hmac.{hmac}
use Rattle.smb_ntlm.specs.Messages.{LoginAsked}
use Rattle.smb_ntlm.specs.Accounts.{KnownAccount}

-- the challenge of a session: the first 8 bytes of a digest of the seed and the session's number
unfoldable pub challenge : List ℕ → ℕ → List ℕ
challenge seed session = take 8 (md5 (seed ++ spelling 8 session))

-- a name in ASCII, in capitals, in UTF-16LE
unfoldable pub capitals : List ℕ → List ℕ
capitals name = unit_bytes (folded name)

-- ResponseKeyNT (3.3.2, NTOWFv2): of the NT hash, the account's name in capitals, and the domain as the client sent it
abbrev pub response_key : KnownAccount → List ℕ → List ℕ
response_key account domain = hmac account.nt_hash (capitals account.name ++ domain)

-- NTProofStr (3.3.2), over a challenge and a blob (temp)
unfoldable pub proof : KnownAccount → List ℕ → List ℕ → List ℕ → List ℕ
proof account domain challenge blob = hmac (response_key account domain) (challenge ++ blob)

-- SessionBaseKey (3.3.2), over the same: the session's key, where KEY_EXCH is not granted (3.2.5.1.2, 3.4.5.1)
unfoldable pub session_key : KnownAccount → List ℕ → List ℕ → List ℕ → List ℕ
session_key account domain challenge blob = hmac (response_key account domain) (proof account domain challenge blob)

-- the response has the 16 bytes of a proof and at least the 28 of a blob (2.2.2.7, 2.2.2.8), and it is the account's
-- proof
unfoldable pub has_proof : KnownAccount → List ℕ → LoginAsked → Bool
has_proof account challenge login =
    nat_le 44 (length login.response)
    && bytes_eq (take 16 login.response) (proof account login.domain challenge (drop 16 login.response))

-- a user, in bytes as a client sent them, is an account's name, whatever the case of its letters in ASCII
unfoldable pub is_named : List ℕ → KnownAccount → Bool
is_named user account = nat_eq (length user % 2) 0 && is_same_name (units_in user) account.name

-- the account of a user
abbrev pub account_of : List KnownAccount → List ℕ → Option KnownAccount
account_of accounts user = find (is_named user) accounts
