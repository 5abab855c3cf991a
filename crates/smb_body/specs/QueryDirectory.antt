-- QUERY_DIRECTORY's request ([MS-SMB2] 2.2.33).
use Rattle.std.specs.Prelude.{ℕ, ◌*◌, ◌%◌, List, [], ◌∷◌, ◌++◌, length, drop, take, nat_eq, ◌&&◌, Option, Some, None, if◌then◌else◌, ◌+◌}
use Rattle.smb_wire.specs.Fields.{Field, num, number_in, AllStand, AllFit, joined}
use Rattle.smb_wire.specs.Pairs.{units_in, unit_bytes, AreUnits}
use Rattle.smb_wire.specs.Units.{units_of}
use Rattle.smb_body.specs.Buffers.{body, has_fixed_part, file_id_at, is_within, HoldsText}
use Rattle.smb_body.specs.declared.types.InformationClass.{InformationClass}
use Rattle.smb_wire.specs.declared.query_directory_flags.QueryDirectoryFlags.{QueryDirectoryFlags}
use Rattle.smb_wire.specs.declared.file_id.FileId.{FileId}
use Rattle.smb_body.specs.declared.query_directory.QueryDirectoryRequest.{QueryDirectoryRequest}

-- what a request asks
pub record QueryDirectoryAsked : Type 0 where
  pub file_information_class : InformationClass
  pub flags : QueryDirectoryFlags
  pub file_index : ℕ
  pub file_id : FileId
  pub file_name_offset : ℕ
  pub file_name : List ℕ
  pub output_buffer_length : ℕ

-- a request's value, without where its parts lie in memory
abbrev pub query_directory_asked : QueryDirectoryRequest → QueryDirectoryAsked
query_directory_asked r = record {
  file_information_class = r.file_information_class;
  flags = r.flags;
  file_index = r.file_index;
  file_id = r.file_id;
  file_name_offset = r.file_name_offset;
  file_name = units_of r.file_name;
  output_buffer_length = r.output_buffer_length;
}

-- the fixed part of a request ([MS-SMB2] 2.2.33)
abbrev pub query_directory_fields : QueryDirectoryAsked → List Field
query_directory_fields a =
    num 0 2 33  -- StructureSize
    ∷ num 2 1 a.file_information_class.0  -- FileInformationClass
    ∷ num 3 1 a.flags.0  -- Flags
    ∷ num 4 4 a.file_index  -- FileIndex
    ∷ num 8 8 a.file_id.persistent  -- FileId.Persistent
    ∷ num 16 8 a.file_id.volatile  -- FileId.Volatile
    ∷ num 24 2 a.file_name_offset  -- FileNameOffset
    ∷ num 26 2 (2 * length a.file_name)  -- FileNameLength
    ∷ num 28 4 a.output_buffer_length  -- OutputBufferLength
    ∷ []

-- a request says this: its fields stand at their places, and its buffer is what an offset and a length name
pub record SaysQueryDirectory (request : List ℕ) (a : QueryDirectoryAsked) : Type 0 where
  pub fields : AllStand (body request) (query_directory_fields a)
  pub file_name : HoldsText (64 + 32) a.file_name_offset request a.file_name

-- what a request says; None where it says nothing
abbrev pub query_directory_in : List ℕ → Option QueryDirectoryAsked
query_directory_in request =
    if has_fixed_part 32 33 request
    && nat_eq (number_in 2 26 (body request) % 2) 0
    && is_within (64 + 32) (number_in 2 24 (body request)) (number_in 2 26 (body request)) request
    then Some (record {
      file_information_class = record { 0 = number_in 1 2 (body request) };
      flags = record { 0 = number_in 1 3 (body request) };
      file_index = number_in 4 4 (body request);
      file_id = file_id_at 8 (body request);
      file_name_offset = number_in 2 24 (body request);
      file_name = units_in (take (number_in 2 26 (body request)) (drop (number_in 2 24 (body request)) request));
      output_buffer_length = number_in 4 28 (body request);
    })
    else None

-- the same but for layout: the offset as a writer sets it, straight behind the fixed part
abbrev pub query_directory_laid : QueryDirectoryAsked → QueryDirectoryAsked
query_directory_laid a = record a { file_name_offset = 64 + 32 }

-- the one spelling of a request
unfoldable pub query_directory_spelling : QueryDirectoryAsked → List ℕ
query_directory_spelling a = joined (query_directory_fields (query_directory_laid a)) ++ unit_bytes a.file_name

-- each number fits its field
pub record FitsQueryDirectory (a : QueryDirectoryAsked) : Type 0 where
  pub fields : AllFit (query_directory_fields (query_directory_laid a))
  pub units : AreUnits a.file_name
