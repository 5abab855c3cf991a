-- SESSION_SETUP ([MS-SMB2] 2.2.5, 2.2.6).
use Rattle.std.specs.Prelude.{ℕ, List, [], ◌∷◌, ◌++◌, length, drop, take, ◌&&◌, Option, Some, None, if◌then◌else◌, ◌+◌}
use Rattle.smb_wire.specs.Fields.{Field, num, number_in, AllStand, AllFit, joined}
use Rattle.smb_body.specs.Buffers.{body, has_fixed_part, is_within, Holds}
use Rattle.smb_body.specs.declared.session_setup.SessionSetupFlags.{SessionSetupFlags}
use Rattle.smb_body.specs.declared.session_setup.SessionSecurityMode.{SessionSecurityMode}
use Rattle.smb_body.specs.declared.types.Capabilities.{Capabilities}
use Rattle.smb_body.specs.declared.types.Channel.{Channel}
use Rattle.smb_body.specs.declared.session_setup.SessionSetupRequest.{SessionSetupRequest}
use Rattle.smb_body.specs.declared.session_setup.SessionFlags.{SessionFlags}
use Rattle.smb_body.specs.declared.session_setup.SessionSetupResponse.{SessionSetupResponse}

-- what a request asks
pub record SessionSetupAsked : Type 0 where
  pub flags : SessionSetupFlags
  pub security_mode : SessionSecurityMode
  pub capabilities : Capabilities
  pub channel : Channel
  pub security_buffer_offset : ℕ
  pub security_buffer : List ℕ
  pub previous_session_id : ℕ

-- a request's value, without where its parts lie in memory
abbrev pub session_setup_asked : SessionSetupRequest → SessionSetupAsked
session_setup_asked r = record {
  flags = r.flags;
  security_mode = r.security_mode;
  capabilities = r.capabilities;
  channel = r.channel;
  security_buffer_offset = r.security_buffer_offset;
  security_buffer = r.security_buffer.now;
  previous_session_id = r.previous_session_id;
}

-- the fixed part of a request ([MS-SMB2] 2.2.5)
abbrev pub session_setup_fields : SessionSetupAsked → List Field
session_setup_fields a =
    num 0 2 25  -- StructureSize
    ∷ num 2 1 a.flags.0  -- Flags
    ∷ num 3 1 a.security_mode.0  -- SecurityMode
    ∷ num 4 4 a.capabilities.0  -- Capabilities
    ∷ num 8 4 a.channel.0  -- Channel
    ∷ num 12 2 a.security_buffer_offset  -- SecurityBufferOffset
    ∷ num 14 2 (length a.security_buffer)  -- SecurityBufferLength
    ∷ num 16 8 a.previous_session_id  -- PreviousSessionId
    ∷ []

-- a request says this: its fields stand at their places, and its buffer is what an offset and a length name
pub record SaysSessionSetup (request : List ℕ) (a : SessionSetupAsked) : Type 0 where
  pub fields : AllStand (body request) (session_setup_fields a)
  pub security_buffer : Holds (64 + 24) a.security_buffer_offset request a.security_buffer

-- what a request says; None where it says nothing
abbrev pub session_setup_in : List ℕ → Option SessionSetupAsked
session_setup_in request =
    if has_fixed_part 24 25 request
    && is_within (64 + 24) (number_in 2 12 (body request)) (number_in 2 14 (body request)) request
    then Some (record {
      flags = record { 0 = number_in 1 2 (body request) };
      security_mode = record { 0 = number_in 1 3 (body request) };
      capabilities = record { 0 = number_in 4 4 (body request) };
      channel = record { 0 = number_in 4 8 (body request) };
      security_buffer_offset = number_in 2 12 (body request);
      security_buffer = take (number_in 2 14 (body request)) (drop (number_in 2 12 (body request)) request);
      previous_session_id = number_in 8 16 (body request);
    })
    else None

-- the same but for layout: the offset as a writer sets it, straight behind the fixed part
abbrev pub session_setup_laid : SessionSetupAsked → SessionSetupAsked
session_setup_laid a = record a { security_buffer_offset = 64 + 24 }

-- the one spelling of a request
unfoldable pub session_setup_spelling : SessionSetupAsked → List ℕ
session_setup_spelling a = joined (session_setup_fields (session_setup_laid a)) ++ a.security_buffer

-- each number fits its field
pub record FitsSessionSetup (a : SessionSetupAsked) : Type 0 where
  pub fields : AllFit (session_setup_fields (session_setup_laid a))

-- what a response answers
pub record SessionSetupAnswered : Type 0 where
  pub session_flags : SessionFlags
  pub security_buffer : List ℕ

-- a response's value, without where its buffer lies in memory
abbrev pub session_setup_answered : SessionSetupResponse → SessionSetupAnswered
session_setup_answered r = record {
  session_flags = r.session_flags;
  security_buffer = r.security_buffer.now;
}
