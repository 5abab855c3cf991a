-- READ ([MS-SMB2] 2.2.19, 2.2.20).
use Rattle.std.specs.Prelude.{ℕ, List, [], ◌∷◌, Option, Some, None, if◌then◌else◌}
use Rattle.smb_wire.specs.Fields.{Field, num, number_in, AllFit}
use Rattle.smb_body.specs.Buffers.{body, has_fixed_part, file_id_at}
use Rattle.smb_body.specs.declared.read.ReadRequest.{ReadRequest}

-- the fixed part of a request ([MS-SMB2] 2.2.19)
abbrev pub read_fields : ReadRequest → List Field
read_fields r =
    num 0 2 49  -- StructureSize
    ∷ num 2 1 r.padding  -- Padding
    ∷ num 3 1 r.flags.0  -- Flags
    ∷ num 4 4 r.length  -- Length
    ∷ num 8 8 r.offset  -- Offset
    ∷ num 16 8 r.file_id.persistent  -- FileId.Persistent
    ∷ num 24 8 r.file_id.volatile  -- FileId.Volatile
    ∷ num 32 4 r.minimum_count  -- MinimumCount
    ∷ num 36 4 r.channel.0  -- Channel
    ∷ num 40 4 r.remaining_bytes  -- RemainingBytes
    ∷ num 44 2 r.read_channel_info_offset  -- ReadChannelInfoOffset
    ∷ num 46 2 r.read_channel_info_length  -- ReadChannelInfoLength
    ∷ []

-- what a request says; None where it says nothing
abbrev pub read_in : List ℕ → Option ReadRequest
read_in request =
    if has_fixed_part 48 49 request
    then Some (record {
      padding = number_in 1 2 (body request);
      flags = record { 0 = number_in 1 3 (body request) };
      length = number_in 4 4 (body request);
      offset = number_in 8 8 (body request);
      file_id = file_id_at 16 (body request);
      minimum_count = number_in 4 32 (body request);
      channel = record { 0 = number_in 4 36 (body request) };
      remaining_bytes = number_in 4 40 (body request);
      read_channel_info_offset = number_in 2 44 (body request);
      read_channel_info_length = number_in 2 46 (body request);
    })
    else None

-- each number fits its field
pub record FitsRead (r : ReadRequest) : Type 0 where
  pub fields : AllFit (read_fields r)
