-- FLUSH's request ([MS-SMB2] 2.2.17).
use Rattle.std.specs.Prelude.{ℕ, List, [], ◌∷◌, Option, Some, None, if◌then◌else◌}
use Rattle.smb_wire.specs.Fields.{Field, num, number_in, AllFit}
use Rattle.smb_body.specs.Buffers.{body, has_fixed_part, file_id_at}
use Rattle.smb_body.specs.declared.flush.FlushRequest.{FlushRequest}

-- the fixed part of a request ([MS-SMB2] 2.2.17)
abbrev pub flush_fields : FlushRequest → List Field
flush_fields r =
    num 0 2 24  -- StructureSize
    ∷ num 2 2 r.reserved1  -- Reserved1
    ∷ num 4 4 r.reserved2  -- Reserved2
    ∷ num 8 8 r.file_id.persistent  -- FileId.Persistent
    ∷ num 16 8 r.file_id.volatile  -- FileId.Volatile
    ∷ []

-- what a request says; None where it says nothing
abbrev pub flush_in : List ℕ → Option FlushRequest
flush_in request =
    if has_fixed_part 24 24 request
    then Some (record {
      reserved1 = number_in 2 2 (body request);
      reserved2 = number_in 4 4 (body request);
      file_id = file_id_at 8 (body request);
    })
    else None

-- each number fits its field
pub record FitsFlush (r : FlushRequest) : Type 0 where
  pub fields : AllFit (flush_fields r)
