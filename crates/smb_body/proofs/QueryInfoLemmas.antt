-- QUERY_INFO's request: what tells it, and that what was written is read.
use Rattle.std.proofs.Common.{◌≡◌, ℕ, ◌≤◌, List, [], ◌++◌, true, length, arith, rules, append-nil}
use Rattle.smb_wire.specs.Fields.{number_in, joined}
use Rattle.smb_body.specs.Buffers.{body}
use Rattle.smb_body.specs.QueryInfo.{query_info_fields, FitsQueryInfo}
use Rattle.smb_body.specs.Readings.{SaysQueryInfo, is_query_info, query_info_of}
use Rattle.smb_body.specs.declared.query_info.QueryInfoRequest.{QueryInfoRequest}
use Rattle.smb_body.proofs.Telling.{IsTold, fixed_part, fixed_length, fixed_size, stand_in_body}

pub query_info_told : IsTold SaysQueryInfo is_query_info query_info_of
query_info_told = record {
  readable = λ request r s. fixed_part 40 41 request (omega arith) s.fields.0.1;
  only = λ request r s. query_info_only request r s;
  said = λ request h. query_info_said request h;
}
  where
    query_info_only : (request : List ℕ) (r : QueryInfoRequest) → SaysQueryInfo request r → r ≡ query_info_of request
    query_info_only request r s = search rules

    query_info_said : (request : List ℕ) → is_query_info request ≡ true → SaysQueryInfo request (query_info_of request)
    query_info_said request h =
        let long : 40 ≤ length (body request) = fixed_length 40 41 request h in
        let size : number_in 2 0 (body request) ≡ 41 = fixed_size 40 41 request h in
        record { fields = search rules }

pub query_info_written : (header : List ℕ) (r : QueryInfoRequest) → length header ≡ 64 → FitsQueryInfo r → SaysQueryInfo (header ++ joined (query_info_fields r)) r
query_info_written header r e f = record { fields = rw (← append-nil (joined (query_info_fields r))) (stand_in_body header (query_info_fields r) [] e (search rules) f.fields) }
