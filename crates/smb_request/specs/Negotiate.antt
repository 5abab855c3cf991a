-- The response to a NEGOTIATE ([MS-SMB2] 3.3.5.4).
use Rattle.std.specs.Prelude.{ℕ, Bool, List, Option, if◌then◌else◌}
use Rattle.std.specs.Option.{option_map_or}
use Rattle.smb_wire.specs.declared.dialect.Dialect.{Dialect}
use Rattle.smb_wire.specs.declared.dialect.Dialect.TheVariants.{Smb202, Smb210}
use Rattle.smb_wire.specs.Limits.{most_at_once}
use Rattle.smb_body.specs.Replies.{ReplyValue, answers_negotiate}

-- the response that says a dialect's revision: signing enabled (1), and required (2) where each session that is signed has
-- to sign its requests, for each size what one request may ask for in the
-- dialect that is established, if one is, the moment, and the authenticator's hello; and requests of several credits in
-- 2.1, SMB2_GLOBAL_CAP_LARGE_MTU (4) ([MS-SMB2] 2.2.4)
abbrev pub negotiate_answer : Bool → List ℕ → List ℕ → ℕ → Option Dialect → ℕ → ReplyValue
negotiate_answer required guid hello moment dialect revision = answers_negotiate (record {
  security_mode = record { 0 = if required then 3 else 1 };
  dialect_revision = record { 0 = revision };
  server_guid = record { 0 = guid };
  capabilities = record { 0 = option_map_or (λ known. elim known [ Smb202 ↦ 0 | Smb210 ↦ 4 ]) dialect 0 };
  max_transact_size = most_at_once dialect;
  max_read_size = most_at_once dialect;
  max_write_size = most_at_once dialect;
  system_time = moment;
  server_start_time = 0;
  security_buffer = hello;
})
