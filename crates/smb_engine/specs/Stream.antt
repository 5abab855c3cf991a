-- Connections' streams: what of them is unread ([MS-SMB2] 2.1).
use Rattle.std.specs.Prelude.{map}
use Rattle.smb_wire.specs.Limits.{longest_payload}
use Rattle.smb_frame.specs.Reading.{rest}
use Rattle.smb_engine.specs.State.{ShareState}

-- a share as the code holds it: of each stream the unread bytes alone
abbrev pub unread : {S : Type 0} → ShareState S → ShareState S
unread s = record s {
  streams = map (λ entry. (entry.0, record entry.1 { received = rest longest_payload entry.1.received })) s.streams;
}
