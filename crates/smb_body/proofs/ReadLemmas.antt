-- READ's request: what tells it, and that what was written is read.
use Rattle.std.proofs.Common.{◌≡◌, ℕ, ◌≤◌, List, [], ◌++◌, true, length, arith, rules, append-nil}
use Rattle.smb_wire.specs.Fields.{number_in, joined}
use Rattle.smb_body.specs.Buffers.{body}
use Rattle.smb_body.specs.Read.{read_fields, FitsRead}
use Rattle.smb_body.specs.Readings.{SaysRead, is_read, read_of}
use Rattle.smb_body.specs.declared.read.ReadRequest.{ReadRequest}
use Rattle.smb_body.proofs.Telling.{IsTold, fixed_part, fixed_length, fixed_size, stand_in_body}

pub read_told : IsTold SaysRead is_read read_of
read_told = record {
  readable = λ request r s. fixed_part 48 49 request (omega arith) s.fields.0.1;
  only = λ request r s. read_only request r s;
  said = λ request h. read_said request h;
}
  where
    read_only : (request : List ℕ) (r : ReadRequest) → SaysRead request r → r ≡ read_of request
    read_only request r s = search rules

    read_said : (request : List ℕ) → is_read request ≡ true → SaysRead request (read_of request)
    read_said request h =
        let long : 48 ≤ length (body request) = fixed_length 48 49 request h in
        let size : number_in 2 0 (body request) ≡ 49 = fixed_size 48 49 request h in
        record { fields = search rules }

pub read_written : (header : List ℕ) (r : ReadRequest) → length header ≡ 64 → FitsRead r → SaysRead (header ++ joined (read_fields r)) r
read_written header r e f = record { fields = rw (← append-nil (joined (read_fields r))) (stand_in_body header (read_fields r) [] e (search rules) f.fields) }
