-- WRITE's request: what tells it, and that what was written is read.
use Rattle.std.proofs.Common.{◌≡◌, ℕ, ◌≤◌, List, ◌++◌, true, length, refl, arith, rules}
use Rattle.smb_wire.specs.Fields.{number_in}
use Rattle.smb_body.specs.Buffers.{body, is_within, has_fixed_part}
use Rattle.smb_body.specs.Readings.{slice, is_write, write_of}
use Rattle.smb_body.specs.Write.{WriteAsked, write_fields, SaysWrite, write_laid, write_spelling, FitsWrite}
use Rattle.smb_body.proofs.Buffering.{length-slice, holds_slice, holds_behind}
use Rattle.smb_body.proofs.Telling.{IsTold, fixed_part, fixed_length, fixed_size, both, stand_in_body}

write_readable : (request : List ℕ) (a : WriteAsked) → SaysWrite request a → is_write request ≡ true
write_readable request a s =
    let fixed = fixed_part 48 49 request (omega arith) s.fields.0.1 in
    rw (fixed, s.fields.1.0.1, s.fields.1.1.0.1, s.buffer.within) refl

write_only : (request : List ℕ) (a : WriteAsked) → SaysWrite request a → a ≡ write_of request
write_only request a s = search rules

write_said : (request : List ℕ) → is_write request ≡ true → SaysWrite request (write_of request)
write_said request h =
    let parts = both (has_fixed_part 48 49 request) (is_within 112 (number_in 2 2 (body request)) (number_in 4 4 (body request)) request) h in
    let long : 48 ≤ length (body request) = fixed_length 48 49 request parts.0 in
    let size : number_in 2 0 (body request) ≡ 49 = fixed_size 48 49 request parts.0 in
    let count : length (slice (number_in 2 2 (body request)) (number_in 4 4 (body request)) request) ≡ number_in 4 4 (body request) = length-slice 112 (number_in 2 2 (body request)) (number_in 4 4 (body request)) request parts.1 in
    record { fields = rw count (search rules); buffer = holds_slice 112 (number_in 2 2 (body request)) (number_in 4 4 (body request)) request parts.1 }

pub write_told : IsTold SaysWrite is_write write_of
write_told = record { readable = write_readable; only = write_only; said = write_said }

pub write_written : (header : List ℕ) (a : WriteAsked) → length header ≡ 64 → FitsWrite a → SaysWrite (header ++ write_spelling a) (write_laid a)
unfolding write_spelling
write_written header a e f = record {
  fields = stand_in_body header (write_fields (write_laid a)) a.buffer e (search rules) f.fields;
  buffer = holds_behind header (write_fields (write_laid a)) a.buffer 112 e f.fields refl;
}
