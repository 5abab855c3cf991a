-- For the proofs; nothing here need be believed.
-- The listing of a client's stream: a line for each request.
use Rattle.std.specs.Prelude.{ℕ, ◌+◌, Bool, true, false, ◌&&◌, ◌||◌, ◌==◌, not, List, [], ◌∷◌, ◌++◌, length, Option, is_some, codes, decimal, string_bytes, if◌then◌else◌}
use Rattle.std.specs.List.{filter}
use Rattle.std.specs.Option.{option_map_or}
use Rattle.std.specs.Result.{result_ok}
use Rattle.hex.specs.Hex.{decode_of}
use Rattle.smb_frame.specs.declared.fault.FrameFault.{FrameFault}
use Rattle.smb_frame.specs.declared.fault.FrameFault.TheVariants.{FirstByte, TooLong, PayloadTooLong, NoMemory}
use Rattle.smb_frame.specs.Reading.{payloads, rest, fault_of}
use Rattle.smb_wire.specs.declared.command.Command.{Command}
use Rattle.smb_wire.specs.declared.command.Command.TheVariants.{Negotiate, SessionSetup, Logoff, TreeConnect, TreeDisconnect, Create, Close, Flush, Read, Write, Lock, Ioctl, Cancel, Echo, QueryDirectory, ChangeNotify, QueryInfo, SetInfo, OplockBreak}
use Rattle.smb_head.specs.declared.fault.HeadFault.{HeadFault}
use Rattle.smb_head.specs.Chains.{chain_of, chain_fault}
use Rattle.smb_wire.specs.Commands.{known_command}
use Rattle.smb_head.specs.Faults.{fault_number}
use Rattle.smb_head.specs.Headers.{header_of}
use Rattle.smb_body.specs.Requests.{request_of}
use Rattle.smb_body.specs.Smb1.{smb1_of}
use Rattle.smb_wire.specs.Limits.{longest_payload}
use Rattle.smb_replay.specs.declared.show.Listing.{Listing}

-- ASCII white space: blank, tab, line feed, form feed, carriage return
abbrev pub is_white : ℕ → Bool
is_white c = (c == 32) || ((c == 9) || ((c == 10) || ((c == 12) || (c == 13))))

-- the bytes that a text spells in hex, its white space left out; none where it spells no whole bytes
abbrev pub stream_of : List ℕ → Option (List ℕ)
stream_of text = result_ok (decode_of (filter (λ c. not (is_white c)) text))

-- a command's name ([MS-SMB2] 2.2.1.2)
abbrev pub command_name : Command → List ℕ
command_name Negotiate = codes "NEGOTIATE"
command_name SessionSetup = codes "SESSION_SETUP"
command_name Logoff = codes "LOGOFF"
command_name TreeConnect = codes "TREE_CONNECT"
command_name TreeDisconnect = codes "TREE_DISCONNECT"
command_name Create = codes "CREATE"
command_name Close = codes "CLOSE"
command_name Flush = codes "FLUSH"
command_name Read = codes "READ"
command_name Write = codes "WRITE"
command_name Lock = codes "LOCK"
command_name Ioctl = codes "IOCTL"
command_name Cancel = codes "CANCEL"
command_name Echo = codes "ECHO"
command_name QueryDirectory = codes "QUERY_DIRECTORY"
command_name ChangeNotify = codes "CHANGE_NOTIFY"
command_name QueryInfo = codes "QUERY_INFO"
command_name SetInfo = codes "SET_INFO"
command_name OplockBreak = codes "OPLOCK_BREAK"

-- what a code is called; past the last command by its number
abbrev pub called : ℕ → List ℕ
called code = option_map_or command_name (known_command code) (codes "COMMAND" ++ decimal code)

-- ` unreadable` and the line's end, or the line's end alone
abbrev pub line_end : Bool → List ℕ
line_end readable = (if readable then [] else codes " unreadable") ++ 10 ∷ []

-- `F.R NAME mid=M`: the R-th request of the F-th frame, and whether its body can be read
unfoldable pub request_line : ℕ → ℕ → List ℕ → List ℕ
request_line frame number request =
    decimal frame ++ codes "." ++ decimal number ++ codes " " ++ called (header_of request).command.0
    ++ codes " mid=" ++ decimal (header_of request).message_id
    ++ line_end (is_some (request_of (header_of request).command.0 request))

-- the lines of a frame's requests from this number on
abbrev pub request_lines : ℕ → ℕ → List (List ℕ) → List ℕ
request_lines frame number [] = []
request_lines frame number (request ∷ requests) = request_line frame number request ++ request_lines frame (number + 1) requests

-- some lines, and whether nothing is wrong that ends them
pub record ListingText : Type 0 where
  pub text : List ℕ
  pub is_good : Bool

abbrev pub good_lines : List ℕ → ListingText
good_lines text = record { text = text; is_good = true }

abbrev pub last_line : List ℕ → ListingText
last_line text = record { text = text; is_good = false }

-- lines, and those that follow them unless they are the last
abbrev pub then_lines : ListingText → ListingText → ListingText
then_lines lines others = if lines.is_good then record others { text = lines.text ++ others.text } else lines

-- `F: HN`: the payload of the F-th frame is no chain
abbrev pub no_chain : ℕ → HeadFault → List ℕ
no_chain frame fault = decimal frame ++ codes ": H" ++ decimal (fault_number fault) ++ 10 ∷ []

-- a payload as a chain: its requests' lines, or its first fault
abbrev pub chain_lines : ℕ → List ℕ → ListingText
chain_lines frame payload =
    option_map_or (λ requests. good_lines (request_lines frame 1 requests)) (chain_of payload)
    (last_line (option_map_or (no_chain frame) (chain_fault payload) []))

-- a payload: the first may be an SMB_COM_NEGOTIATE, in place of a chain ([MS-SMB2] 3.3.5.3.1)
unfoldable pub payload_lines : ℕ → List ℕ → ListingText
payload_lines frame payload =
    if (frame == 1) && is_some (smb1_of payload) then good_lines (codes "1 smb1 negotiate" ++ 10 ∷ []) else chain_lines frame payload

-- F1 to F4
abbrev pub frame_fault_number : FrameFault → ℕ
frame_fault_number FirstByte = 1
frame_fault_number TooLong = 2
frame_fault_number PayloadTooLong = 3
frame_fault_number NoMemory = 4

-- `F: FN`: what would be the F-th frame is wrong
abbrev pub no_frame : ℕ → FrameFault → List ℕ
no_frame frame fault = decimal frame ++ codes ": F" ++ decimal (frame_fault_number fault) ++ 10 ∷ []

-- what is behind the last whole frame: its fault, or how many bytes it has, if any
unfoldable pub rest_lines : ℕ → List ℕ → ListingText
rest_lines frame bytes =
    option_map_or (λ fault. last_line (no_frame frame fault)) (fault_of longest_payload bytes) (
    if length bytes == 0 then good_lines [] else last_line (codes "rest " ++ decimal (length bytes) ++ 10 ∷ []))

-- payloads from the frame of this number on, and the rest of a stream, up to the first fault
abbrev pub lines_from : ℕ → List (List ℕ) → List ℕ → ListingText
lines_from frame [] bytes = rest_lines frame bytes
lines_from frame (payload ∷ payloads) bytes = then_lines (payload_lines frame payload) (lines_from (frame + 1) payloads bytes)

-- the listing of a stream; frames are counted from 1
abbrev pub show_of : List ℕ → ListingText
show_of stream = lines_from 1 (payloads longest_payload stream) (rest longest_payload stream)

-- a listing, without where its bytes lie
abbrev pub listing_text : Listing → ListingText
listing_text listing = record { text = string_bytes listing.text; is_good = listing.is_good }
