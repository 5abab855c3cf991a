-- CREATE ([MS-SMB2] 2.2.13, 2.2.14).
use Rattle.std.specs.Prelude.{ℕ, ◌+◌, ◌-◌, ◌*◌, ◌%◌, List, [], ◌∷◌, ◌++◌, length, drop, replicate, nat_eq, ◌&&◌, Option, Some, None, if◌then◌else◌, take}
use Rattle.std.specs.Int.{next_multiple_of}
use Rattle.smb_wire.specs.Fields.{Field, num, number_in, AllStand, AllFit, joined}
use Rattle.smb_wire.specs.Pairs.{units_in, unit_bytes, AreUnits}
use Rattle.smb_wire.specs.Units.{units_of}
use Rattle.smb_wire.specs.CreateActions.{action_code}
use Rattle.smb_body.specs.Buffers.{body, has_fixed_part, is_within, Holds, HoldsText}
use Rattle.smb_wire.specs.declared.attributes.FileAttributes.{FileAttributes}
use Rattle.smb_wire.specs.declared.access.Access.{Access}
use Rattle.smb_wire.specs.declared.access.ShareAccess.{ShareAccess}
use Rattle.smb_wire.specs.declared.create_options.CreateOptions.{CreateOptions}
use Rattle.smb_body.specs.declared.create.SecurityFlags.{SecurityFlags}
use Rattle.smb_body.specs.declared.create.OplockLevel.{OplockLevel}
use Rattle.smb_body.specs.declared.create.ImpersonationLevel.{ImpersonationLevel}
use Rattle.smb_body.specs.declared.create.SmbCreateFlags.{SmbCreateFlags}
use Rattle.smb_wire.specs.declared.disposition.CreateDispositionCode.{CreateDispositionCode}
use Rattle.smb_body.specs.declared.create.CreateRequest.{CreateRequest}
use Rattle.smb_body.specs.declared.create.CreateResponse.{CreateResponse}

-- what a request asks
pub record CreateAsked : Type 0 where
  pub security_flags : SecurityFlags
  pub requested_oplock_level : OplockLevel
  pub impersonation_level : ImpersonationLevel
  pub smb_create_flags : SmbCreateFlags
  pub reserved : ℕ
  pub desired_access : Access
  pub file_attributes : FileAttributes
  pub share_access : ShareAccess
  pub create_disposition : CreateDispositionCode
  pub create_options : CreateOptions
  pub name_offset : ℕ
  pub name : List ℕ
  pub create_contexts_offset : ℕ
  pub create_contexts : List ℕ

-- a request's value, without where its parts lie in memory
abbrev pub create_asked : CreateRequest → CreateAsked
create_asked r = record {
  security_flags = r.security_flags;
  requested_oplock_level = r.requested_oplock_level;
  impersonation_level = r.impersonation_level;
  smb_create_flags = r.smb_create_flags;
  reserved = r.reserved;
  desired_access = r.desired_access;
  file_attributes = r.file_attributes;
  share_access = r.share_access;
  create_disposition = r.create_disposition;
  create_options = r.create_options;
  name_offset = r.name_offset;
  name = units_of r.name;
  create_contexts_offset = r.create_contexts_offset;
  create_contexts = r.create_contexts.now;
}

-- the fixed part of a request ([MS-SMB2] 2.2.13)
abbrev pub create_fields : CreateAsked → List Field
create_fields a =
    num 0 2 57  -- StructureSize
    ∷ num 2 1 a.security_flags.0  -- SecurityFlags
    ∷ num 3 1 a.requested_oplock_level.0  -- RequestedOplockLevel
    ∷ num 4 4 a.impersonation_level.0  -- ImpersonationLevel
    ∷ num 8 8 a.smb_create_flags.0  -- SmbCreateFlags
    ∷ num 16 8 a.reserved  -- Reserved
    ∷ num 24 4 a.desired_access.0  -- DesiredAccess
    ∷ num 28 4 a.file_attributes.0  -- FileAttributes
    ∷ num 32 4 a.share_access.0  -- ShareAccess
    ∷ num 36 4 a.create_disposition.0  -- CreateDisposition
    ∷ num 40 4 a.create_options.0  -- CreateOptions
    ∷ num 44 2 a.name_offset  -- NameOffset
    ∷ num 46 2 (2 * length a.name)  -- NameLength
    ∷ num 48 4 a.create_contexts_offset  -- CreateContextsOffset
    ∷ num 52 4 (length a.create_contexts)  -- CreateContextsLength
    ∷ []

-- a request says this: its fields stand at their places, and each buffer is what its offset and length name
pub record SaysCreate (request : List ℕ) (a : CreateAsked) : Type 0 where
  pub fields : AllStand (body request) (create_fields a)
  pub name : HoldsText (64 + 56) a.name_offset request a.name
  pub create_contexts : Holds (64 + 56) a.create_contexts_offset request a.create_contexts

-- what a request says; None where it says nothing
abbrev pub create_in : List ℕ → Option CreateAsked
create_in request =
    if has_fixed_part 56 57 request
    && nat_eq (number_in 2 46 (body request) % 2) 0
    && is_within (64 + 56) (number_in 2 44 (body request)) (number_in 2 46 (body request)) request
    && is_within (64 + 56) (number_in 4 48 (body request)) (number_in 4 52 (body request)) request
    then Some (record {
      security_flags = record { 0 = number_in 1 2 (body request) };
      requested_oplock_level = record { 0 = number_in 1 3 (body request) };
      impersonation_level = record { 0 = number_in 4 4 (body request) };
      smb_create_flags = record { 0 = number_in 8 8 (body request) };
      reserved = number_in 8 16 (body request);
      desired_access = record { 0 = number_in 4 24 (body request) };
      file_attributes = record { 0 = number_in 4 28 (body request) };
      share_access = record { 0 = number_in 4 32 (body request) };
      create_disposition = record { 0 = number_in 4 36 (body request) };
      create_options = record { 0 = number_in 4 40 (body request) };
      name_offset = number_in 2 44 (body request);
      name = units_in (take (number_in 2 46 (body request)) (drop (number_in 2 44 (body request)) request));
      create_contexts_offset = number_in 4 48 (body request);
      create_contexts = take (number_in 4 52 (body request)) (drop (number_in 4 48 (body request)) request);
    })
    else None

-- where contexts stand behind the name's end, if there are any: at the next multiple of 8 from the header
abbrev pub contexts_place : ℕ → List ℕ → ℕ
contexts_place end [] = 0
contexts_place end (byte ∷ bytes) = next_multiple_of end 8

-- the zeros before them
abbrev pub contexts_gap : ℕ → List ℕ → List ℕ
contexts_gap end [] = []
contexts_gap end (byte ∷ bytes) = replicate (next_multiple_of end 8 - end) 0

-- where the name ends that a writer puts
abbrev pub name_end : CreateAsked → ℕ
name_end a = 64 + 56 + 2 * length a.name

-- the same but for layout: the offsets as a writer sets them
abbrev pub create_laid : CreateAsked → CreateAsked
create_laid a =
    record a { name_offset = 64 + 56; create_contexts_offset = contexts_place (name_end a) a.create_contexts }

-- the one spelling of a request
unfoldable pub create_spelling : CreateAsked → List ℕ
create_spelling a =
    joined (create_fields (create_laid a))
    ++ (unit_bytes a.name ++ (contexts_gap (name_end a) a.create_contexts ++ a.create_contexts))

-- each number fits its field
pub record FitsCreate (a : CreateAsked) : Type 0 where
  pub fields : AllFit (create_fields (create_laid a))
  pub units : AreUnits a.name

-- the fixed part of a response ([MS-SMB2] 2.2.14)
abbrev pub create_response_fields : CreateResponse → List Field
create_response_fields r =
    num 0 2 89  -- StructureSize
    ∷ num 2 1 r.oplock_level.0  -- OplockLevel
    ∷ num 3 1 0  -- Flags
    ∷ num 4 4 (action_code r.create_action)  -- CreateAction
    ∷ num 8 8 r.creation_time  -- CreationTime
    ∷ num 16 8 r.last_access_time  -- LastAccessTime
    ∷ num 24 8 r.last_write_time  -- LastWriteTime
    ∷ num 32 8 r.change_time  -- ChangeTime
    ∷ num 40 8 r.allocation_size  -- AllocationSize
    ∷ num 48 8 r.end_of_file  -- EndOfFile
    ∷ num 56 4 r.file_attributes.0  -- FileAttributes
    ∷ num 60 4 0  -- Reserved2
    ∷ num 64 8 r.file_id.persistent  -- FileId.Persistent
    ∷ num 72 8 r.file_id.volatile  -- FileId.Volatile
    ∷ num 80 4 0  -- CreateContextsOffset
    ∷ num 84 4 0  -- CreateContextsLength
    ∷ []
