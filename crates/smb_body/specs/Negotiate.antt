-- NEGOTIATE ([MS-SMB2] 2.2.3, 2.2.4).
use Rattle.std.specs.Prelude.{◌≡◌, ℕ, ◌+◌, ◌*◌, ◌<◌, List, [], ◌∷◌, ◌++◌, length, take, drop, nat_le, nat_lt, ◌&&◌, Option, Some, None, if◌then◌else◌}
use Rattle.smb_wire.specs.Fields.{Field, num, raw, number_in, AllStand, AllFit, joined}
use Rattle.smb_wire.specs.Pairs.{units_in, unit_bytes, AreUnits}
use Rattle.smb_body.specs.Buffers.{body, has_fixed_part}
use Rattle.smb_body.specs.Dialects.{dialects_of}
use Rattle.smb_body.specs.declared.types.Guid.{Guid}
use Rattle.smb_body.specs.declared.types.Capabilities.{Capabilities}
use Rattle.smb_body.specs.declared.negotiate.SecurityMode.{SecurityMode}
use Rattle.smb_body.specs.declared.negotiate.NegotiateRequest.{NegotiateRequest}
use Rattle.smb_body.specs.declared.types.DialectRevision.{DialectRevision}
use Rattle.smb_body.specs.declared.negotiate.NegotiateResponse.{NegotiateResponse}

-- what a request asks
pub record NegotiateAsked : Type 0 where
  pub security_mode : SecurityMode
  pub reserved : ℕ
  pub capabilities : Capabilities
  pub client_guid : Guid
  pub client_start_time : ℕ
  pub dialects : List ℕ

-- a request's value, without where its parts lie in memory
abbrev pub negotiate_asked : NegotiateRequest → NegotiateAsked
negotiate_asked r = record {
  security_mode = r.security_mode;
  reserved = r.reserved;
  capabilities = r.capabilities;
  client_guid = r.client_guid;
  client_start_time = r.client_start_time;
  dialects = dialects_of r.dialects;
}

-- the fixed part of a request ([MS-SMB2] 2.2.3)
abbrev pub negotiate_fields : NegotiateAsked → List Field
negotiate_fields a =
    num 0 2 36  -- StructureSize
    ∷ num 2 2 (length a.dialects)  -- DialectCount
    ∷ num 4 2 a.security_mode.0  -- SecurityMode
    ∷ num 6 2 a.reserved  -- Reserved
    ∷ num 8 4 a.capabilities.0  -- Capabilities
    ∷ raw 12 16 a.client_guid.0  -- ClientGuid
    ∷ num 28 8 a.client_start_time  -- ClientStartTime
    ∷ []

-- a request says this: its fields stand at their places, and then its dialects, one or more
pub record SaysNegotiate (request : List ℕ) (a : NegotiateAsked) : Type 0 where
  pub fields : AllStand (body request) (negotiate_fields a)
  pub some : 0 < length a.dialects
  pub dialects : units_in (take (2 * length a.dialects) (drop 36 (body request))) ≡ a.dialects

-- what a request says; None where it says nothing
abbrev pub negotiate_in : List ℕ → Option NegotiateAsked
negotiate_in request =
    if has_fixed_part 36 36 request
    && nat_lt 0 (number_in 2 2 (body request))
    && nat_le (36 + 2 * number_in 2 2 (body request)) (length (body request))
    then Some (record {
      security_mode = record { 0 = number_in 2 4 (body request) };
      reserved = number_in 2 6 (body request);
      capabilities = record { 0 = number_in 4 8 (body request) };
      client_guid = record { 0 = take 16 (drop 12 (body request)) };
      client_start_time = number_in 8 28 (body request);
      dialects = units_in (take (2 * number_in 2 2 (body request)) (drop 36 (body request)));
    })
    else None

-- the one spelling of a request
unfoldable pub negotiate_spelling : NegotiateAsked → List ℕ
negotiate_spelling a = joined (negotiate_fields a) ++ unit_bytes a.dialects

-- each number fits its field
pub record FitsNegotiate (a : NegotiateAsked) : Type 0 where
  pub fields : AllFit (negotiate_fields a)
  pub dialects : AreUnits a.dialects

-- what a response answers
pub record NegotiateAnswered : Type 0 where
  pub security_mode : SecurityMode
  pub dialect_revision : DialectRevision
  pub server_guid : Guid
  pub capabilities : Capabilities
  pub max_transact_size : ℕ
  pub max_read_size : ℕ
  pub max_write_size : ℕ
  pub system_time : ℕ
  pub server_start_time : ℕ
  pub security_buffer : List ℕ

-- a response's value, without where its buffer lies in memory
abbrev pub negotiate_answered : NegotiateResponse → NegotiateAnswered
negotiate_answered r = record {
  security_mode = r.security_mode;
  dialect_revision = r.dialect_revision;
  server_guid = r.server_guid;
  capabilities = r.capabilities;
  max_transact_size = r.max_transact_size;
  max_read_size = r.max_read_size;
  max_write_size = r.max_write_size;
  system_time = r.system_time;
  server_start_time = r.server_start_time;
  security_buffer = r.security_buffer.now;
}

-- the fixed part of a response ([MS-SMB2] 2.2.4)
abbrev pub negotiate_response_fields : NegotiateAnswered → List Field
negotiate_response_fields a =
    num 0 2 65  -- StructureSize
    ∷ num 2 2 a.security_mode.0  -- SecurityMode
    ∷ num 4 2 a.dialect_revision.0  -- DialectRevision
    ∷ num 6 2 0  -- Reserved
    ∷ raw 8 16 a.server_guid.0  -- ServerGuid
    ∷ num 24 4 a.capabilities.0  -- Capabilities
    ∷ num 28 4 a.max_transact_size  -- MaxTransactSize
    ∷ num 32 4 a.max_read_size  -- MaxReadSize
    ∷ num 36 4 a.max_write_size  -- MaxWriteSize
    ∷ num 40 8 a.system_time  -- SystemTime
    ∷ num 48 8 a.server_start_time  -- ServerStartTime
    ∷ num 56 2 128  -- SecurityBufferOffset
    ∷ num 58 2 (length a.security_buffer)  -- SecurityBufferLength
    ∷ num 60 4 0  -- Reserved2
    ∷ []
