-- LOCK's request ([MS-SMB2] 2.2.26).
use Rattle.std.specs.Prelude.{ℕ, ◌+◌, ◌*◌, ◌<◌, List, [], ◌∷◌, ◌++◌, length, take, drop, map, nat_le, nat_lt, ◌&&◌, Option, Some, None, if◌then◌else◌}
use Rattle.std.specs.Simd.{first_chunks}
use Rattle.smb_wire.specs.Fields.{Field, num, number_in, AllStand, AllFit, joined}
use Rattle.smb_body.specs.Buffers.{body, has_fixed_part, file_id_at}
use Rattle.smb_body.specs.Locks.{SaysElements, lock_bytes, AllLocksFit}
use Rattle.smb_body.specs.LockLists.{lock_at, locks_of}
use Rattle.smb_wire.specs.declared.file_id.FileId.{FileId}
use Rattle.smb_body.specs.declared.lock_element.LockElement.{LockElement}
use Rattle.smb_body.specs.declared.lock.LockSequence.{LockSequence}
use Rattle.smb_body.specs.declared.lock.LockRequest.{LockRequest}

-- what a request asks
pub record LockAsked : Type 0 where
  pub lock_sequence : LockSequence
  pub file_id : FileId
  pub locks : List LockElement

-- a request's value, without where its parts lie in memory
abbrev pub lock_asked : LockRequest → LockAsked
lock_asked r = record { lock_sequence = r.lock_sequence; file_id = r.file_id; locks = locks_of r.locks }

-- the fixed part of a request ([MS-SMB2] 2.2.26)
abbrev pub lock_request_fields : LockAsked → List Field
lock_request_fields a =
    num 0 2 48  -- StructureSize
    ∷ num 2 2 (length a.locks)  -- LockCount
    ∷ num 4 4 a.lock_sequence.0  -- LockSequence
    ∷ num 8 8 a.file_id.persistent  -- FileId.Persistent
    ∷ num 16 8 a.file_id.volatile  -- FileId.Volatile
    ∷ []

-- a request says this: its fields stand at their places, and then its elements, one or more
pub record SaysLock (request : List ℕ) (a : LockAsked) : Type 0 where
  pub fields : AllStand (body request) (lock_request_fields a)
  pub some : 0 < length a.locks
  pub locks : SaysElements (take (24 * length a.locks) (drop 24 (body request))) a.locks

-- what a request says; None where it says nothing
abbrev pub lock_in : List ℕ → Option LockAsked
lock_in request =
    if has_fixed_part 24 48 request
    && nat_lt 0 (number_in 2 2 (body request))
    && nat_le (24 + 24 * number_in 2 2 (body request)) (length (body request))
    then Some (record {
      lock_sequence = record { 0 = number_in 4 4 (body request) };
      file_id = file_id_at 8 (body request);
      locks = map lock_at (first_chunks 24 (number_in 2 2 (body request)) (drop 24 (body request)));
    })
    else None

-- the one spelling of a request
unfoldable pub lock_spelling : LockAsked → List ℕ
lock_spelling a = joined (lock_request_fields a) ++ lock_bytes a.locks

-- each number fits its field
pub record FitsLock (a : LockAsked) : Type 0 where
  pub fields : AllFit (lock_request_fields a)
  pub locks : AllLocksFit a.locks
