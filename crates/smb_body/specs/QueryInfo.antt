-- QUERY_INFO's request ([MS-SMB2] 2.2.37).
use Rattle.std.specs.Prelude.{ℕ, List, [], ◌∷◌, Option, Some, None, if◌then◌else◌}
use Rattle.smb_wire.specs.Fields.{Field, num, number_in, AllFit}
use Rattle.smb_body.specs.Buffers.{body, has_fixed_part, file_id_at}
use Rattle.smb_body.specs.declared.query_info.QueryInfoRequest.{QueryInfoRequest}

-- the fixed part of a request ([MS-SMB2] 2.2.37)
abbrev pub query_info_fields : QueryInfoRequest → List Field
query_info_fields r =
    num 0 2 41  -- StructureSize
    ∷ num 2 1 r.info_type.0  -- InfoType
    ∷ num 3 1 r.file_info_class.0  -- FileInfoClass
    ∷ num 4 4 r.output_buffer_length  -- OutputBufferLength
    ∷ num 8 2 r.input_buffer_offset  -- InputBufferOffset
    ∷ num 10 2 r.reserved  -- Reserved
    ∷ num 12 4 r.input_buffer_length  -- InputBufferLength
    ∷ num 16 4 r.additional_information.0  -- AdditionalInformation
    ∷ num 20 4 r.flags.0  -- Flags
    ∷ num 24 8 r.file_id.persistent  -- FileId.Persistent
    ∷ num 32 8 r.file_id.volatile  -- FileId.Volatile
    ∷ []

-- what a request says; None where it says nothing
abbrev pub query_info_in : List ℕ → Option QueryInfoRequest
query_info_in request =
    if has_fixed_part 40 41 request
    then Some (record {
      info_type = record { 0 = number_in 1 2 (body request) };
      file_info_class = record { 0 = number_in 1 3 (body request) };
      output_buffer_length = number_in 4 4 (body request);
      input_buffer_offset = number_in 2 8 (body request);
      reserved = number_in 2 10 (body request);
      input_buffer_length = number_in 4 12 (body request);
      additional_information = record { 0 = number_in 4 16 (body request) };
      flags = record { 0 = number_in 4 20 (body request) };
      file_id = file_id_at 24 (body request);
    })
    else None

-- each number fits its field
pub record FitsQueryInfo (r : QueryInfoRequest) : Type 0 where
  pub fields : AllFit (query_info_fields r)
