-- LOCK's request: what tells it, and that what was written is read.
use Rattle.std.proofs.Common.{◌≡◌, ℕ, ◌+◌, ◌*◌, ◌<◌, ◌≤◌, List, ◌++◌, true, length, take, drop, map, refl, sym, subst, ◌∙◌, arith, rules, nat_le, nat_lt}
use Rattle.std.proofs.lemmas.Bool.Decides.{nat_tests}
use Rattle.std.proofs.lemmas.Bool.{le-leb}
use Rattle.std.proofs.lemmas.List.{length-take, length-drop, drop_at, take_all}
use Rattle.smb_wire.specs.Fields.{number_in, joined}
use Rattle.smb_wire.proofs.FieldTables.{length-joined}
use Rattle.std.specs.Simd.{first_chunks}
use Rattle.smb_body.specs.declared.lock_element.LockElement.{LockElement}
use Rattle.smb_body.specs.LockLists.{lock_at}
use Rattle.smb_body.specs.Buffers.{body, file_id_at}
use Rattle.smb_body.specs.Locks.{lock_bytes}
use Rattle.smb_body.specs.Readings.{locks_in, is_lock, lock_of}
use Rattle.smb_body.specs.Lock.{LockAsked, lock_request_fields, SaysLock, lock_spelling, FitsLock}
use Rattle.smb_body.proofs.Behind.{body_behind}
use Rattle.smb_body.proofs.Buffering.{length-cut}
use Rattle.smb_body.proofs.LockBytes.{length-locks_in, length-lock_bytes, chunks_said, said_length, elements_only, elements_written, locks_cut}
use Rattle.smb_body.proofs.Telling.{IsTold, fixed_part, stand_in_body}

lock_readable : (request : List ℕ) (a : LockAsked) → SaysLock request a → is_lock request ≡ true
lock_readable request a s =
    let cut = take (24 * length a.locks) (drop 24 (body request)) in
    let fixed = fixed_part 24 48 request (omega arith) s.fields.0.1 in
    let some : nat_lt 0 (length a.locks) ≡ true = le-leb _ _ s.some in
    let room : nat_le (24 + 24 * length a.locks) (length (body request)) ≡ true =
    le-leb _ _ (omega (arith, said_length cut a.locks s.locks, length-take (24 * length a.locks) (drop 24 (body request)), length-drop 24 (body request), s.fields.1.1.1.1.0.0)) in
    rw (fixed, s.fields.1.0.1, some, room) refl

lock_only : (request : List ℕ) (a : LockAsked) → SaysLock request a → a ≡ lock_of request
lock_only request a s =
    let bytes = drop 24 (body request) in
    let count : number_in 2 2 (body request) ≡ length a.locks = s.fields.1.0.1 in
    let room : 24 * length a.locks ≤ length bytes =
    omega (arith, said_length (take (24 * length a.locks) bytes) a.locks s.locks, length-take (24 * length a.locks) bytes) in
    let cut = locks_cut (length a.locks) bytes room in
    let same : a.locks ≡ map lock_at (first_chunks 24 (length a.locks) bytes) = sym (elements_only _ a.locks s.locks) ∙ cut in
    let here : a.locks ≡ map lock_at (first_chunks 24 (number_in 2 2 (body request)) bytes) = rw count same in
    search rules

-- with its elements cut from a front that has them
lock_cut : List ℕ → List LockElement → LockAsked
lock_cut request locks = record { lock_sequence = record { 0 = number_in 4 4 (body request) }; file_id = file_id_at 8 (body request); locks = locks }

lock_said : (request : List ℕ) → is_lock request ≡ true → SaysLock request (lock_of request)
unfolding lock_cut
lock_said request h =
    let bytes = drop 24 (body request) in
    let long : 24 ≤ length (body request) = grind (arith, nat_tests) in
    let size : number_in 2 0 (body request) ≡ 48 = grind (arith, nat_tests) in
    let some : 0 < number_in 2 2 (body request) = grind (arith, nat_tests) in
    let room : 24 + 24 * number_in 2 2 (body request) ≤ length (body request) = grind (arith, nat_tests) in
    let cut = length-cut (24 * number_in 2 2 (body request)) 24 (body request) room in
    let count : length (locks_in (take (24 * number_in 2 2 (body request)) bytes)) ≡ number_in 2 2 (body request) =
    omega (arith, length-locks_in (take (24 * number_in 2 2 (body request)) bytes), cut) in
    let said : SaysLock request (lock_cut request (locks_in (take (24 * number_in 2 2 (body request)) bytes))) =
    record { fields = rw count (search rules); some = rw count some; locks = rw count (chunks_said _ _ (omega (arith, cut))) } in
    subst (λ (locks : List LockElement). SaysLock request (lock_cut request locks)) (locks_cut (number_in 2 2 (body request)) bytes (omega (arith, length-drop 24 (body request)))) said

pub lock_told : IsTold SaysLock is_lock lock_of
lock_told = record { readable = lock_readable; only = lock_only; said = lock_said }

pub lock_written : (header : List ℕ) (a : LockAsked) → length header ≡ 64 → FitsLock a → 0 < length a.locks → SaysLock (header ++ lock_spelling a) a
unfolding lock_spelling
lock_written header a e f some =
    let front = length-joined (lock_request_fields a) f.fields in
    let list : take (24 * length a.locks) (drop 24 (joined (lock_request_fields a) ++ lock_bytes a.locks)) ≡ lock_bytes a.locks =
    rw (drop_at (joined (lock_request_fields a)) (lock_bytes a.locks) 24 front) (take_all (24 * length a.locks) (lock_bytes a.locks) (omega (arith, length-lock_bytes a.locks f.locks))) in
    record {
      fields = stand_in_body header (lock_request_fields a) (lock_bytes a.locks) e (search rules) f.fields;
      some = some;
      locks = rw (body_behind header (joined (lock_request_fields a) ++ lock_bytes a.locks) e, list) (elements_written a.locks f.locks);
    }
