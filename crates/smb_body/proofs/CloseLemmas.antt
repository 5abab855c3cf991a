-- CLOSE's request: what tells it, and that what was written is read.
use Rattle.std.proofs.Common.{◌≡◌, ℕ, ◌≤◌, List, [], ◌++◌, true, length, arith, rules, append-nil}
use Rattle.smb_wire.specs.Fields.{number_in, joined}
use Rattle.smb_body.specs.Buffers.{body}
use Rattle.smb_body.specs.Close.{close_fields, FitsClose}
use Rattle.smb_body.specs.Readings.{SaysClose, is_close, close_of}
use Rattle.smb_body.specs.declared.close.CloseRequest.{CloseRequest}
use Rattle.smb_body.proofs.Telling.{IsTold, fixed_part, fixed_length, fixed_size, stand_in_body}

pub close_told : IsTold SaysClose is_close close_of
close_told = record {
  readable = λ request r s. fixed_part 24 24 request (omega arith) s.fields.0.1;
  only = λ request r s. close_only request r s;
  said = λ request h. close_said request h;
}
  where
    close_only : (request : List ℕ) (r : CloseRequest) → SaysClose request r → r ≡ close_of request
    close_only request r s = search rules

    close_said : (request : List ℕ) → is_close request ≡ true → SaysClose request (close_of request)
    close_said request h =
        let long : 24 ≤ length (body request) = fixed_length 24 24 request h in
        let size : number_in 2 0 (body request) ≡ 24 = fixed_size 24 24 request h in
        record { fields = search rules }

pub close_written : (header : List ℕ) (r : CloseRequest) → length header ≡ 64 → FitsClose r → SaysClose (header ++ joined (close_fields r)) r
close_written header r e f = record { fields = rw (← append-nil (joined (close_fields r))) (stand_in_body header (close_fields r) [] e (search rules) f.fields) }
