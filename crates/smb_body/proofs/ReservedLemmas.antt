-- RESERVED's request: what tells it, and that what was written is read.
use Rattle.std.proofs.Common.{◌≡◌, ℕ, ◌≤◌, List, [], ◌++◌, true, length, arith, rules, append-nil}
use Rattle.smb_wire.specs.Fields.{number_in, joined}
use Rattle.smb_body.specs.Buffers.{body}
use Rattle.smb_body.specs.Reserved.{reserved_fields, FitsReserved}
use Rattle.smb_body.specs.Readings.{SaysReserved, is_reserved, reserved_of}
use Rattle.smb_body.specs.declared.reserved.ReservedRequest.{ReservedRequest}
use Rattle.smb_body.proofs.Telling.{IsTold, fixed_part, fixed_length, fixed_size, stand_in_body}

pub reserved_told : IsTold SaysReserved is_reserved reserved_of
reserved_told = record {
  readable = λ request r s. fixed_part 4 4 request (omega arith) s.fields.0.1;
  only = λ request r s. reserved_only request r s;
  said = λ request h. reserved_said request h;
}
  where
    reserved_only : (request : List ℕ) (r : ReservedRequest) → SaysReserved request r → r ≡ reserved_of request
    reserved_only request r s = search rules

    reserved_said : (request : List ℕ) → is_reserved request ≡ true → SaysReserved request (reserved_of request)
    reserved_said request h =
        let long : 4 ≤ length (body request) = fixed_length 4 4 request h in
        let size : number_in 2 0 (body request) ≡ 4 = fixed_size 4 4 request h in
        record { fields = search rules }

pub reserved_written : (header : List ℕ) (r : ReservedRequest) → length header ≡ 64 → FitsReserved r → SaysReserved (header ++ joined (reserved_fields r)) r
reserved_written header r e f = record { fields = rw (← append-nil (joined (reserved_fields r))) (stand_in_body header (reserved_fields r) [] e (search rules) f.fields) }
