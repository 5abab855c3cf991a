-- FLUSH's request: what tells it, and that what was written is read.
use Rattle.std.proofs.Common.{◌≡◌, ℕ, ◌≤◌, List, [], ◌++◌, true, length, arith, rules, append-nil}
use Rattle.smb_wire.specs.Fields.{number_in, joined}
use Rattle.smb_body.specs.Buffers.{body}
use Rattle.smb_body.specs.Flush.{flush_fields, FitsFlush}
use Rattle.smb_body.specs.Readings.{SaysFlush, is_flush, flush_of}
use Rattle.smb_body.specs.declared.flush.FlushRequest.{FlushRequest}
use Rattle.smb_body.proofs.Telling.{IsTold, fixed_part, fixed_length, fixed_size, stand_in_body}

pub flush_told : IsTold SaysFlush is_flush flush_of
flush_told = record {
  readable = λ request r s. fixed_part 24 24 request (omega arith) s.fields.0.1;
  only = λ request r s. flush_only request r s;
  said = λ request h. flush_said request h;
}
  where
    flush_only : (request : List ℕ) (r : FlushRequest) → SaysFlush request r → r ≡ flush_of request
    flush_only request r s = search rules

    flush_said : (request : List ℕ) → is_flush request ≡ true → SaysFlush request (flush_of request)
    flush_said request h =
        let long : 24 ≤ length (body request) = fixed_length 24 24 request h in
        let size : number_in 2 0 (body request) ≡ 24 = fixed_size 24 24 request h in
        record { fields = search rules }

pub flush_written : (header : List ℕ) (r : FlushRequest) → length header ≡ 64 → FitsFlush r → SaysFlush (header ++ joined (flush_fields r)) r
flush_written header r e f = record { fields = rw (← append-nil (joined (flush_fields r))) (stand_in_body header (flush_fields r) [] e (search rules) f.fields) }
