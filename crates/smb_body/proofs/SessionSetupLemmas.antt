-- SESSION_SETUP's request: what tells it, and that what was written is read.
use Rattle.std.proofs.Common.{◌≡◌, ℕ, ◌≤◌, List, ◌++◌, true, length, refl, arith, rules}
use Rattle.smb_wire.specs.Fields.{number_in}
use Rattle.smb_body.specs.Buffers.{body, is_within, has_fixed_part}
use Rattle.smb_body.specs.Readings.{slice, is_session_setup, session_setup_of}
use Rattle.smb_body.specs.SessionSetup.{SessionSetupAsked, session_setup_fields, SaysSessionSetup, session_setup_laid, session_setup_spelling, FitsSessionSetup}
use Rattle.smb_body.proofs.Buffering.{length-slice, holds_slice, holds_behind}
use Rattle.smb_body.proofs.Telling.{IsTold, fixed_part, fixed_length, fixed_size, both, stand_in_body}

session_setup_readable : (request : List ℕ) (a : SessionSetupAsked) → SaysSessionSetup request a → is_session_setup request ≡ true
session_setup_readable request a s =
    let fixed = fixed_part 24 25 request (omega arith) s.fields.0.1 in
    rw (fixed, s.fields.1.1.1.1.1.0.1, s.fields.1.1.1.1.1.1.0.1, s.security_buffer.within) refl

session_setup_only : (request : List ℕ) (a : SessionSetupAsked) → SaysSessionSetup request a → a ≡ session_setup_of request
session_setup_only request a s = search rules

session_setup_said : (request : List ℕ) → is_session_setup request ≡ true → SaysSessionSetup request (session_setup_of request)
session_setup_said request h =
    let parts = both (has_fixed_part 24 25 request) (is_within 88 (number_in 2 12 (body request)) (number_in 2 14 (body request)) request) h in
    let long : 24 ≤ length (body request) = fixed_length 24 25 request parts.0 in
    let size : number_in 2 0 (body request) ≡ 25 = fixed_size 24 25 request parts.0 in
    let count : length (slice (number_in 2 12 (body request)) (number_in 2 14 (body request)) request) ≡ number_in 2 14 (body request) = length-slice 88 (number_in 2 12 (body request)) (number_in 2 14 (body request)) request parts.1 in
    record { fields = rw count (search rules); security_buffer = holds_slice 88 (number_in 2 12 (body request)) (number_in 2 14 (body request)) request parts.1 }

pub session_setup_told : IsTold SaysSessionSetup is_session_setup session_setup_of
session_setup_told = record { readable = session_setup_readable; only = session_setup_only; said = session_setup_said }

pub session_setup_written : (header : List ℕ) (a : SessionSetupAsked) → length header ≡ 64 → FitsSessionSetup a → SaysSessionSetup (header ++ session_setup_spelling a) (session_setup_laid a)
unfolding session_setup_spelling
session_setup_written header a e f = record {
  fields = stand_in_body header (session_setup_fields (session_setup_laid a)) a.security_buffer e (search rules) f.fields;
  security_buffer = holds_behind header (session_setup_fields (session_setup_laid a)) a.security_buffer 88 e f.fields refl;
}
