-- CLOSE ([MS-SMB2] 2.2.15, 2.2.16).
use Rattle.std.specs.Prelude.{ℕ, List, [], ◌∷◌, Option, Some, None, if◌then◌else◌}
use Rattle.smb_wire.specs.Fields.{Field, num, number_in, AllFit}
use Rattle.smb_body.specs.Buffers.{body, has_fixed_part, file_id_at}
use Rattle.smb_body.specs.declared.close.CloseRequest.{CloseRequest}
use Rattle.smb_body.specs.declared.close.CloseResponse.{CloseResponse}

-- the fixed part of a request ([MS-SMB2] 2.2.15)
abbrev pub close_fields : CloseRequest → List Field
close_fields r =
    num 0 2 24  -- StructureSize
    ∷ num 2 2 r.flags.0  -- Flags
    ∷ num 4 4 r.reserved  -- Reserved
    ∷ num 8 8 r.file_id.persistent  -- FileId.Persistent
    ∷ num 16 8 r.file_id.volatile  -- FileId.Volatile
    ∷ []

-- what a request says; None where it says nothing
abbrev pub close_in : List ℕ → Option CloseRequest
close_in request =
    if has_fixed_part 24 24 request
    then Some (record {
      flags = record { 0 = number_in 2 2 (body request) };
      reserved = number_in 4 4 (body request);
      file_id = file_id_at 8 (body request);
    })
    else None

-- each number fits its field
pub record FitsClose (r : CloseRequest) : Type 0 where
  pub fields : AllFit (close_fields r)

-- the fixed part of a response ([MS-SMB2] 2.2.16)
abbrev pub close_response_fields : CloseResponse → List Field
close_response_fields r =
    num 0 2 60  -- StructureSize
    ∷ num 2 2 r.flags.0  -- Flags
    ∷ num 4 4 0  -- Reserved
    ∷ num 8 8 r.creation_time  -- CreationTime
    ∷ num 16 8 r.last_access_time  -- LastAccessTime
    ∷ num 24 8 r.last_write_time  -- LastWriteTime
    ∷ num 32 8 r.change_time  -- ChangeTime
    ∷ num 40 8 r.allocation_size  -- AllocationSize
    ∷ num 48 8 r.end_of_file  -- EndOfFile
    ∷ num 56 4 r.file_attributes.0  -- FileAttributes
    ∷ []
