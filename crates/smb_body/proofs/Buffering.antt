-- What requests say of their buffers.
use Rattle.std.proofs.Common.{◌≡◌, ℕ, zero, suc, ◌+◌, ◌*◌, ◌%◌, ◌≤◌, List, [], ◌++◌, true, length, take, drop, refl, subst, arith, ◌∙◌, length-append, append-nil, append_assoc}
use Rattle.std.proofs.lemmas.Bool.Decides.{nat_tests}
use Rattle.std.proofs.lemmas.List.{length-take-le, length-drop}
use Rattle.smb_wire.specs.Fields.{Field, AllFit, joined, width_of}
use Rattle.smb_wire.specs.Pairs.{units_in, unit_bytes, AreUnits}
use Rattle.smb_wire.proofs.Pairing.{length-units_in, length-unit_bytes, units_read}
use Rattle.smb_wire.proofs.FieldTables.{cut_out, length-joined}
use Rattle.smb_body.specs.Buffers.{is_within, Holds, HoldsText}
use Rattle.smb_body.specs.Readings.{slice}

pub length-cut : (size place : ℕ) (bytes : List ℕ) → place + size ≤ length bytes → length (take size (drop place bytes)) ≡ size
length-cut size place bytes h = length-take-le size (drop place bytes) (omega (arith, length-drop place bytes))

pub length-slice : (start offset size : ℕ) (request : List ℕ) → is_within start offset size request ≡ true → length (slice offset size request) ≡ size
length-slice start offset zero request h = refl
length-slice start offset (suc size) request h =
    let within : offset + suc size ≤ length request = grind (arith, nat_tests) in
    length-cut (suc size) offset request within

-- the bytes that an offset and a length name, where they are a checked buffer
pub holds_slice : (start offset size : ℕ) (request : List ℕ) → is_within start offset size request ≡ true → Holds start offset request (slice offset size request)
holds_slice start offset size request h =
    let n = length-slice start offset size request h in
    record { within = rw n h; bytes_at = rw n refl }

-- twice as many bytes as units
pub length-units : (bytes : List ℕ) → length bytes % 2 ≡ 0 → 2 * length (units_in bytes) ≡ length bytes
length-units bytes h = omega (arith, length-units_in bytes)

pub holds_text : (start offset size : ℕ) (request : List ℕ) → size % 2 ≡ 0 → is_within start offset size request ≡ true → HoldsText start offset request (units_in (slice offset size request))
holds_text start offset size request even h =
    let n = length-slice start offset size request h in
    let two : 2 * length (units_in (slice offset size request)) ≡ size = length-units (slice offset size request) (rw n even) ∙ n in
    record { within = rw two h; units_at = rw two refl }

-- bytes between others are held at their place
pub holds_between : (a b c : List ℕ) (start place : ℕ) → length a ≡ place → start ≤ place → Holds start place (a ++ (b ++ c)) b
holds_between a b c start place e s = record {
  within = grind (arith, nat_tests, length-append a (b ++ c), length-append b c, e, s);
  bytes_at = cut_out a b c place (length b) e refl;
}

-- the bytes of units between others are held as their text
pub text_between : (a units c : List ℕ) (start place : ℕ) → AreUnits units → length a ≡ place → start ≤ place → HoldsText start place (a ++ (unit_bytes units ++ c)) units
text_between a units c start place h e s =
    let held : Holds start place (a ++ (unit_bytes units ++ c)) (unit_bytes units) = holds_between a (unit_bytes units) c start place e s in
    record { within = rw (← length-unit_bytes units) held.within; units_at = rw (← length-unit_bytes units, held.bytes_at) (units_read units h) }

-- a buffer that was put behind a header and a table
pub holds_behind : (header : List ℕ) (fields : List Field) (bytes : List ℕ) (start : ℕ) → length header ≡ 64 → AllFit fields → 64 + width_of fields ≡ start → Holds start start (header ++ (joined fields ++ bytes)) bytes
holds_behind header fields bytes start e f w =
    let front : length (header ++ joined fields) ≡ start = omega (arith, length-append header (joined fields), length-joined fields f) in
    let held = holds_between (header ++ joined fields) bytes [] start start front (omega arith) in
    let same : (header ++ joined fields) ++ (bytes ++ []) ≡ header ++ (joined fields ++ bytes) = rw (append-nil bytes) (append_assoc header (joined fields) bytes) in
    subst (λ (request : List ℕ). Holds start start request bytes) same held

pub text_behind : (header : List ℕ) (fields : List Field) (units : List ℕ) (start : ℕ) → length header ≡ 64 → AllFit fields → AreUnits units → 64 + width_of fields ≡ start → HoldsText start start (header ++ (joined fields ++ unit_bytes units)) units
text_behind header fields units start e f h w =
    let front : length (header ++ joined fields) ≡ start = omega (arith, length-append header (joined fields), length-joined fields f) in
    let held = text_between (header ++ joined fields) units [] start start h front (omega arith) in
    let same : (header ++ joined fields) ++ (unit_bytes units ++ []) ≡ header ++ (joined fields ++ unit_bytes units) = rw (append-nil (unit_bytes units)) (append_assoc header (joined fields) (unit_bytes units)) in
    subst (λ (request : List ℕ). HoldsText start start request units) same held
