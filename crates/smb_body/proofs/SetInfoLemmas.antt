-- SET_INFO's request: what tells it, and that what was written is read.
use Rattle.std.proofs.Common.{◌≡◌, ℕ, ◌≤◌, List, ◌++◌, true, length, refl, arith, rules}
use Rattle.smb_wire.specs.Fields.{number_in}
use Rattle.smb_body.specs.Buffers.{body, is_within, has_fixed_part}
use Rattle.smb_body.specs.Readings.{slice, is_set_info, set_info_of}
use Rattle.smb_body.specs.SetInfo.{SetInfoAsked, set_info_fields, SaysSetInfo, set_info_laid, set_info_spelling, FitsSetInfo}
use Rattle.smb_body.proofs.Buffering.{length-slice, holds_slice, holds_behind}
use Rattle.smb_body.proofs.Telling.{IsTold, fixed_part, fixed_length, fixed_size, both, stand_in_body}

set_info_readable : (request : List ℕ) (a : SetInfoAsked) → SaysSetInfo request a → is_set_info request ≡ true
set_info_readable request a s =
    let fixed = fixed_part 32 33 request (omega arith) s.fields.0.1 in
    rw (fixed, s.fields.1.1.1.1.0.1, s.fields.1.1.1.0.1, s.buffer.within) refl

set_info_only : (request : List ℕ) (a : SetInfoAsked) → SaysSetInfo request a → a ≡ set_info_of request
set_info_only request a s = search rules

set_info_said : (request : List ℕ) → is_set_info request ≡ true → SaysSetInfo request (set_info_of request)
set_info_said request h =
    let parts = both (has_fixed_part 32 33 request) (is_within 96 (number_in 2 8 (body request)) (number_in 4 4 (body request)) request) h in
    let long : 32 ≤ length (body request) = fixed_length 32 33 request parts.0 in
    let size : number_in 2 0 (body request) ≡ 33 = fixed_size 32 33 request parts.0 in
    let count : length (slice (number_in 2 8 (body request)) (number_in 4 4 (body request)) request) ≡ number_in 4 4 (body request) = length-slice 96 (number_in 2 8 (body request)) (number_in 4 4 (body request)) request parts.1 in
    record { fields = rw count (search rules); buffer = holds_slice 96 (number_in 2 8 (body request)) (number_in 4 4 (body request)) request parts.1 }

pub set_info_told : IsTold SaysSetInfo is_set_info set_info_of
set_info_told = record { readable = set_info_readable; only = set_info_only; said = set_info_said }

pub set_info_written : (header : List ℕ) (a : SetInfoAsked) → length header ≡ 64 → FitsSetInfo a → SaysSetInfo (header ++ set_info_spelling a) (set_info_laid a)
unfolding set_info_spelling
set_info_written header a e f = record {
  fields = stand_in_body header (set_info_fields (set_info_laid a)) a.buffer e (search rules) f.fields;
  buffer = holds_behind header (set_info_fields (set_info_laid a)) a.buffer 96 e f.fields refl;
}
