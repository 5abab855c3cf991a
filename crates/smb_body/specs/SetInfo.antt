-- SET_INFO ([MS-SMB2] 2.2.39, 2.2.40).
use Rattle.std.specs.Prelude.{ℕ, List, [], ◌∷◌, ◌++◌, length, drop, take, ◌&&◌, Option, Some, None, if◌then◌else◌, ◌+◌}
use Rattle.smb_wire.specs.Fields.{Field, num, number_in, AllStand, AllFit, joined}
use Rattle.smb_body.specs.Buffers.{body, has_fixed_part, file_id_at, is_within, Holds}
use Rattle.smb_body.specs.declared.types.InfoType.{InfoType}
use Rattle.smb_body.specs.declared.types.InformationClass.{InformationClass}
use Rattle.smb_body.specs.declared.types.AdditionalInformation.{AdditionalInformation}
use Rattle.smb_wire.specs.declared.file_id.FileId.{FileId}
use Rattle.smb_body.specs.declared.set_info.SetInfoRequest.{SetInfoRequest}

-- what a request asks
pub record SetInfoAsked : Type 0 where
  pub info_type : InfoType
  pub file_info_class : InformationClass
  pub buffer : List ℕ
  pub buffer_offset : ℕ
  pub reserved : ℕ
  pub additional_information : AdditionalInformation
  pub file_id : FileId

-- a request's value, without where its parts lie in memory
abbrev pub set_info_asked : SetInfoRequest → SetInfoAsked
set_info_asked r = record {
  info_type = r.info_type;
  file_info_class = r.file_info_class;
  buffer = r.buffer.now;
  buffer_offset = r.buffer_offset;
  reserved = r.reserved;
  additional_information = r.additional_information;
  file_id = r.file_id;
}

-- the fixed part of a request ([MS-SMB2] 2.2.39)
abbrev pub set_info_fields : SetInfoAsked → List Field
set_info_fields a =
    num 0 2 33  -- StructureSize
    ∷ num 2 1 a.info_type.0  -- InfoType
    ∷ num 3 1 a.file_info_class.0  -- FileInfoClass
    ∷ num 4 4 (length a.buffer)  -- BufferLength
    ∷ num 8 2 a.buffer_offset  -- BufferOffset
    ∷ num 10 2 a.reserved  -- Reserved
    ∷ num 12 4 a.additional_information.0  -- AdditionalInformation
    ∷ num 16 8 a.file_id.persistent  -- FileId.Persistent
    ∷ num 24 8 a.file_id.volatile  -- FileId.Volatile
    ∷ []

-- a request says this: its fields stand at their places, and its buffer is what an offset and a length name
pub record SaysSetInfo (request : List ℕ) (a : SetInfoAsked) : Type 0 where
  pub fields : AllStand (body request) (set_info_fields a)
  pub buffer : Holds (64 + 32) a.buffer_offset request a.buffer

-- what a request says; None where it says nothing
abbrev pub set_info_in : List ℕ → Option SetInfoAsked
set_info_in request =
    if has_fixed_part 32 33 request
    && is_within (64 + 32) (number_in 2 8 (body request)) (number_in 4 4 (body request)) request
    then Some (record {
      info_type = record { 0 = number_in 1 2 (body request) };
      file_info_class = record { 0 = number_in 1 3 (body request) };
      buffer = take (number_in 4 4 (body request)) (drop (number_in 2 8 (body request)) request);
      buffer_offset = number_in 2 8 (body request);
      reserved = number_in 2 10 (body request);
      additional_information = record { 0 = number_in 4 12 (body request) };
      file_id = file_id_at 16 (body request);
    })
    else None

-- the same but for layout: the offset as a writer sets it, straight behind the fixed part
abbrev pub set_info_laid : SetInfoAsked → SetInfoAsked
set_info_laid a = record a { buffer_offset = 64 + 32 }

-- the one spelling of a request
unfoldable pub set_info_spelling : SetInfoAsked → List ℕ
set_info_spelling a = joined (set_info_fields (set_info_laid a)) ++ a.buffer

-- each number fits its field
pub record FitsSetInfo (a : SetInfoAsked) : Type 0 where
  pub fields : AllFit (set_info_fields (set_info_laid a))
