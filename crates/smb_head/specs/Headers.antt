-- The header of a request or a reply: 64 bytes ([MS-SMB2] 2.2.1).
use Rattle.std.specs.Prelude.{◌≡◌, ℕ, List, [], ◌∷◌, ◌++◌, length, take, drop, ◌==◌, Option, None, Some, nat_lt, not, if◌then◌else◌}
use Rattle.smb_wire.specs.Number.{IsBytes}
use Rattle.smb_wire.specs.Fields.{Field, num, raw, number_in, AllStand, AllFit, joined}
use Rattle.smb_head.specs.declared.header.Header.{Header}
use Rattle.smb_head.specs.declared.fault.HeadFault.{HeadFault}
use Rattle.smb_head.specs.declared.fault.HeadFault.TheVariants.{Short, Protocol, Size}

-- ProtocolId: 0xFE and the letters SMB, the lowest byte first
abbrev pub protocol_id : ℕ
protocol_id = 0x424d53fe

-- the header's fields at their offsets, in the order of the standard ([MS-SMB2] 2.2.1.2)
abbrev pub fields : Header → List Field
fields h =
    num 0 4 protocol_id  -- ProtocolId
    ∷ num 4 2 64  -- StructureSize
    ∷ num 6 2 h.credit_charge  -- CreditCharge
    ∷ num 8 4 h.status  -- Status
    ∷ num 12 2 h.command.0  -- Command
    ∷ num 14 2 h.credits  -- CreditRequest or CreditResponse
    ∷ num 16 4 h.flags.0  -- Flags
    ∷ num 20 4 h.next_command  -- NextCommand
    ∷ num 24 8 h.message_id  -- MessageId
    ∷ num 32 4 h.reserved  -- Reserved
    ∷ num 36 4 h.tree_id  -- TreeId
    ∷ num 40 8 h.session_id  -- SessionId
    ∷ raw 48 16 h.signature  -- Signature
    ∷ []

-- the bytes begin with the header
abbrev pub SpellsHeader : List ℕ → Header → Type 0
SpellsHeader bytes header = AllStand bytes (fields header)

-- the header that is read from the first 64 bytes
unfoldable pub header_of : List ℕ → Header
header_of bytes = record {
  credit_charge = number_in 2 6 bytes;
  status = number_in 4 8 bytes;
  command = record { 0 = number_in 2 12 bytes };
  credits = number_in 2 14 bytes;
  flags = record { 0 = number_in 4 16 bytes };
  next_command = number_in 4 20 bytes;
  message_id = number_in 8 24 bytes;
  reserved = number_in 4 32 bytes;
  tree_id = number_in 4 36 bytes;
  session_id = number_in 8 40 bytes;
  signature = take 16 (drop 48 bytes);
}

-- why bytes begin with no header, the first of these
abbrev pub header_fault : List ℕ → Option HeadFault
header_fault bytes =
    if nat_lt (length bytes) 64 then Some Short else
    if not (number_in 4 0 bytes == protocol_id) then Some Protocol else
    if not (number_in 2 4 bytes == 64) then Some Size else
    None

-- bytes without a fault begin with `header_of` and with no other header, and bytes with a fault with none
abbrev pub EachHeaderHasOneReading : Type 0
EachHeaderHasOneReading =
    (bytes : List ℕ) →
    (header_fault bytes ≡ None → SpellsHeader bytes (header_of bytes))
    × ((header : Header) → SpellsHeader bytes header → (header_fault bytes ≡ None) × (header ≡ header_of bytes))

-- a header whose numbers fit their fields is read where it was written, whatever follows
abbrev pub AWrittenHeaderIsRead : Type 0
AWrittenHeaderIsRead =
    (header : Header) (rest : List ℕ) → AllFit (fields header) →
    (header_fault (joined (fields header) ++ rest) ≡ None) × (header_of (joined (fields header) ++ rest) ≡ header)

-- the header that was read is written as the 64 bytes that it was read from
abbrev pub WhatIsReadIsWritten : Type 0
WhatIsReadIsWritten =
    (bytes : List ℕ) → IsBytes bytes → header_fault bytes ≡ None → joined (fields (header_of bytes)) ≡ take 64 bytes
