-- Whether the messages of accounts' sessions are signed ([MS-SMB2] 3.3.5.5.3).
use Rattle.std.specs.Prelude.{ℕ, if◌then◌else◌, Bool, true, false, List, Option, Some, None}
use Rattle.smb_session.specs.declared.signing.Signing.{Signing}
use Rattle.smb_ntlm.specs.declared.signing.SigningMode.{SigningMode}
use Rattle.smb_ntlm.specs.declared.signing.SigningMode.TheVariants.{Off, Offered, Required}

-- signing is on: accounts' sessions have a key
abbrev pub is_on : SigningMode → Bool
is_on Off = false
is_on Offered = true
is_on Required = true

-- each request of an account's session has to be signed
abbrev pub is_required : SigningMode → Bool
is_required Off = false
is_required Offered = false
is_required Required = true

-- how an account's session with this key is signed: by the key where signing is on, and else not
abbrev pub signing_by : SigningMode → List ℕ → Option Signing
signing_by mode key =
    if is_on mode then Some (record { key = record { bytes = key }; required = is_required mode }) else None
