-- WRITE ([MS-SMB2] 2.2.21, 2.2.22).
use Rattle.std.specs.Prelude.{ℕ, List, [], ◌∷◌, ◌++◌, length, drop, take, ◌&&◌, Option, Some, None, if◌then◌else◌, ◌+◌}
use Rattle.smb_wire.specs.Fields.{Field, num, number_in, AllStand, AllFit, joined}
use Rattle.smb_body.specs.Buffers.{body, has_fixed_part, file_id_at, is_within, Holds}
use Rattle.smb_wire.specs.declared.file_id.FileId.{FileId}
use Rattle.smb_body.specs.declared.types.Channel.{Channel}
use Rattle.smb_body.specs.declared.write.WriteFlags.{WriteFlags}
use Rattle.smb_body.specs.declared.write.WriteRequest.{WriteRequest}

-- what a request asks
pub record WriteAsked : Type 0 where
  pub data_offset : ℕ
  pub buffer : List ℕ
  pub offset : ℕ
  pub file_id : FileId
  pub channel : Channel
  pub remaining_bytes : ℕ
  pub write_channel_info_offset : ℕ
  pub write_channel_info_length : ℕ
  pub flags : WriteFlags

-- a request's value, without where its parts lie in memory
abbrev pub write_asked : WriteRequest → WriteAsked
write_asked r = record {
  data_offset = r.data_offset;
  buffer = r.buffer.now;
  offset = r.offset;
  file_id = r.file_id;
  channel = r.channel;
  remaining_bytes = r.remaining_bytes;
  write_channel_info_offset = r.write_channel_info_offset;
  write_channel_info_length = r.write_channel_info_length;
  flags = r.flags;
}

-- the fixed part of a request ([MS-SMB2] 2.2.21)
abbrev pub write_fields : WriteAsked → List Field
write_fields a =
    num 0 2 49  -- StructureSize
    ∷ num 2 2 a.data_offset  -- DataOffset
    ∷ num 4 4 (length a.buffer)  -- Length
    ∷ num 8 8 a.offset  -- Offset
    ∷ num 16 8 a.file_id.persistent  -- FileId.Persistent
    ∷ num 24 8 a.file_id.volatile  -- FileId.Volatile
    ∷ num 32 4 a.channel.0  -- Channel
    ∷ num 36 4 a.remaining_bytes  -- RemainingBytes
    ∷ num 40 2 a.write_channel_info_offset  -- WriteChannelInfoOffset
    ∷ num 42 2 a.write_channel_info_length  -- WriteChannelInfoLength
    ∷ num 44 4 a.flags.0  -- Flags
    ∷ []

-- a request says this: its fields stand at their places, and its buffer is what an offset and a length name
pub record SaysWrite (request : List ℕ) (a : WriteAsked) : Type 0 where
  pub fields : AllStand (body request) (write_fields a)
  pub buffer : Holds (64 + 48) a.data_offset request a.buffer

-- what a request says; None where it says nothing
abbrev pub write_in : List ℕ → Option WriteAsked
write_in request =
    if has_fixed_part 48 49 request
    && is_within (64 + 48) (number_in 2 2 (body request)) (number_in 4 4 (body request)) request
    then Some (record {
      data_offset = number_in 2 2 (body request);
      buffer = take (number_in 4 4 (body request)) (drop (number_in 2 2 (body request)) request);
      offset = number_in 8 8 (body request);
      file_id = file_id_at 16 (body request);
      channel = record { 0 = number_in 4 32 (body request) };
      remaining_bytes = number_in 4 36 (body request);
      write_channel_info_offset = number_in 2 40 (body request);
      write_channel_info_length = number_in 2 42 (body request);
      flags = record { 0 = number_in 4 44 (body request) };
    })
    else None

-- the same but for layout: the offset as a writer sets it, straight behind the fixed part
abbrev pub write_laid : WriteAsked → WriteAsked
write_laid a = record a { data_offset = 64 + 48 }

-- the one spelling of a request
unfoldable pub write_spelling : WriteAsked → List ℕ
write_spelling a = joined (write_fields (write_laid a)) ++ a.buffer

-- each number fits its field
pub record FitsWrite (a : WriteAsked) : Type 0 where
  pub fields : AllFit (write_fields (write_laid a))
