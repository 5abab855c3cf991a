-- QUERY_DIRECTORY's request: what tells it, and that what was written is read.
use Rattle.std.proofs.Common.{◌≡◌, ℕ, ◌*◌, ◌%◌, ◌≤◌, List, ◌++◌, true, length, refl, arith, rules, eq-eqb, ◌∙◌, nat_eq, ◌&&◌}
use Rattle.std.proofs.lemmas.Bool.{eqb-true}
use Rattle.smb_wire.specs.Fields.{number_in}
use Rattle.smb_wire.specs.Pairs.{units_in, unit_bytes}
use Rattle.smb_body.specs.Buffers.{body, is_within, has_fixed_part}
use Rattle.smb_body.specs.Readings.{slice, is_query_directory, query_directory_of}
use Rattle.smb_body.specs.QueryDirectory.{QueryDirectoryAsked, query_directory_fields, SaysQueryDirectory, query_directory_laid, query_directory_spelling, FitsQueryDirectory}
use Rattle.smb_body.proofs.Buffering.{length-slice, holds_text, length-units, text_behind}
use Rattle.smb_body.proofs.Telling.{IsTold, fixed_part, fixed_length, fixed_size, both, stand_in_body}

query_directory_readable : (request : List ℕ) (a : QueryDirectoryAsked) → SaysQueryDirectory request a → is_query_directory request ≡ true
query_directory_readable request a s =
    let fixed = fixed_part 32 33 request (omega arith) s.fields.0.1 in
    let even : nat_eq (2 * length a.file_name % 2) 0 ≡ true = eq-eqb _ _ (omega arith) in
    rw (fixed, s.fields.1.1.1.1.1.1.1.0.1, s.fields.1.1.1.1.1.1.0.1, even, s.file_name.within) refl

query_directory_only : (request : List ℕ) (a : QueryDirectoryAsked) → SaysQueryDirectory request a → a ≡ query_directory_of request
query_directory_only request a s = search rules

query_directory_said : (request : List ℕ) → is_query_directory request ≡ true → SaysQueryDirectory request (query_directory_of request)
query_directory_said request h =
    let parts = both (has_fixed_part 32 33 request && nat_eq (number_in 2 26 (body request) % 2) 0) (is_within 96 (number_in 2 24 (body request)) (number_in 2 26 (body request)) request) h in
    let first = both (has_fixed_part 32 33 request) (nat_eq (number_in 2 26 (body request) % 2) 0) parts.0 in
    let long : 32 ≤ length (body request) = fixed_length 32 33 request first.0 in
    let size : number_in 2 0 (body request) ≡ 33 = fixed_size 32 33 request first.0 in
    let even : number_in 2 26 (body request) % 2 ≡ 0 = eqb-true _ _ first.1 in
    let cut = length-slice 96 (number_in 2 24 (body request)) (number_in 2 26 (body request)) request parts.1 in
    let count : 2 * length (units_in (slice (number_in 2 24 (body request)) (number_in 2 26 (body request)) request)) ≡ number_in 2 26 (body request) = length-units (slice (number_in 2 24 (body request)) (number_in 2 26 (body request)) request) (rw cut even) ∙ cut in
    record { fields = rw count (search rules); file_name = holds_text 96 (number_in 2 24 (body request)) (number_in 2 26 (body request)) request even parts.1 }

pub query_directory_told : IsTold SaysQueryDirectory is_query_directory query_directory_of
query_directory_told = record { readable = query_directory_readable; only = query_directory_only; said = query_directory_said }

pub query_directory_written : (header : List ℕ) (a : QueryDirectoryAsked) → length header ≡ 64 → FitsQueryDirectory a → SaysQueryDirectory (header ++ query_directory_spelling a) (query_directory_laid a)
unfolding query_directory_spelling
query_directory_written header a e f = record {
  fields = stand_in_body header (query_directory_fields (query_directory_laid a)) (unit_bytes a.file_name) e (search rules) f.fields;
  file_name = text_behind header (query_directory_fields (query_directory_laid a)) a.file_name 96 e f.fields f.units refl;
}
