-- NEGOTIATE's request: what tells it, and that what was written is read.
use Rattle.std.proofs.Common.{◌≡◌, ℕ, ◌+◌, ◌*◌, ◌<◌, ◌≤◌, List, ◌++◌, true, length, take, drop, refl, ap, arith, rules, nat_le, nat_lt}
use Rattle.std.proofs.lemmas.Bool.Decides.{nat_tests}
use Rattle.std.proofs.lemmas.Bool.{le-leb}
use Rattle.std.proofs.lemmas.List.{length-take, length-drop, drop_at, take_all}
use Rattle.smb_wire.specs.Fields.{number_in, joined}
use Rattle.smb_wire.specs.Pairs.{units_in, unit_bytes}
use Rattle.smb_wire.proofs.FieldTables.{length-joined}
use Rattle.smb_wire.proofs.Pairing.{length-units_in, length-unit_bytes, units_read}
use Rattle.smb_body.specs.Buffers.{body}
use Rattle.smb_body.specs.Negotiate.{NegotiateAsked, negotiate_fields, SaysNegotiate, negotiate_spelling, FitsNegotiate}
use Rattle.smb_body.specs.Readings.{is_negotiate, negotiate_of}
use Rattle.smb_body.proofs.Behind.{body_behind}
use Rattle.smb_body.proofs.Buffering.{length-cut}
use Rattle.smb_body.proofs.Telling.{IsTold, fixed_part, stand_in_body}

negotiate_readable : (request : List ℕ) (a : NegotiateAsked) → SaysNegotiate request a → is_negotiate request ≡ true
negotiate_readable request a s =
    let cut = take (2 * length a.dialects) (drop 36 (body request)) in
    let count : length (units_in cut) ≡ length a.dialects = ap length s.dialects in
    let fixed = fixed_part 36 36 request (omega arith) s.fields.0.1 in
    let some : nat_lt 0 (length a.dialects) ≡ true = le-leb _ _ s.some in
    let room : nat_le (36 + 2 * length a.dialects) (length (body request)) ≡ true =
    le-leb _ _ (omega (arith, count, length-units_in cut, length-take (2 * length a.dialects) (drop 36 (body request)), length-drop 36 (body request))) in
    rw (fixed, s.fields.1.0.1, some, room) refl

negotiate_only : (request : List ℕ) (a : NegotiateAsked) → SaysNegotiate request a → a ≡ negotiate_of request
negotiate_only request a s = search rules

negotiate_said : (request : List ℕ) → is_negotiate request ≡ true → SaysNegotiate request (negotiate_of request)
negotiate_said request h =
    let long : 36 ≤ length (body request) = grind (arith, nat_tests) in
    let size : number_in 2 0 (body request) ≡ 36 = grind (arith, nat_tests) in
    let some : 0 < number_in 2 2 (body request) = grind (arith, nat_tests) in
    let room : 36 + 2 * number_in 2 2 (body request) ≤ length (body request) = grind (arith, nat_tests) in
    let cut = length-cut (2 * number_in 2 2 (body request)) 36 (body request) room in
    let count : length (units_in (take (2 * number_in 2 2 (body request)) (drop 36 (body request)))) ≡ number_in 2 2 (body request) =
    omega (arith, length-units_in (take (2 * number_in 2 2 (body request)) (drop 36 (body request))), cut) in
    record { fields = rw count (search rules); some = rw count some; dialects = rw count refl }

pub negotiate_told : IsTold SaysNegotiate is_negotiate negotiate_of
negotiate_told = record { readable = negotiate_readable; only = negotiate_only; said = negotiate_said }

pub negotiate_written : (header : List ℕ) (a : NegotiateAsked) → length header ≡ 64 → FitsNegotiate a → 0 < length a.dialects → SaysNegotiate (header ++ negotiate_spelling a) a
unfolding negotiate_spelling
negotiate_written header a e f some =
    let front = length-joined (negotiate_fields a) f.fields in
    let list : take (2 * length a.dialects) (drop 36 (joined (negotiate_fields a) ++ unit_bytes a.dialects)) ≡ unit_bytes a.dialects =
    rw (drop_at (joined (negotiate_fields a)) (unit_bytes a.dialects) 36 front) (take_all (2 * length a.dialects) (unit_bytes a.dialects) (omega (arith, length-unit_bytes a.dialects))) in
    record {
      fields = stand_in_body header (negotiate_fields a) (unit_bytes a.dialects) e (search rules) f.fields;
      some = some;
      dialects = rw (body_behind header (joined (negotiate_fields a) ++ unit_bytes a.dialects) e, list) (units_read a.dialects f.dialects);
    }
