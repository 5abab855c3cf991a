-- The lines that say an event.
use Rattle.std.specs.Prelude.{ℕ, ◌+◌, ◌-◌, ◌*◌, Bool, ◌&&◌, ◌==◌, not, nat_le, nat_lt, List, [], ◌∷◌, length, take, drop, position, Option, Some, None, if◌then◌else◌}
use Rattle.std.specs.List.{list_all}
use Rattle.std.specs.Option.{option_map, option_map_or, option_and_then}
use Rattle.std.specs.Result.{result_ok}
use Rattle.hex.specs.Hex.{decode_of}
use Rattle.smb_peers.specs.Event.{EventText, opens, brings, ends, text_of}
use Rattle.smb_journal.specs.declared.line.Line.{Line}
use Rattle.smb_journal.specs.declared.line.Line.TheVariants.{Skipped, Happens, Answered, Stopped}

-- a decimal digit, and the number that digits spell behind a number
abbrev pub is_digit : ℕ → Bool
is_digit c = nat_le 48 c && nat_le c 57

abbrev pub decimal_from : ℕ → List ℕ → ℕ
decimal_from n [] = n
decimal_from n (digit ∷ digits) = decimal_from (10 * n + (digit - 48)) digits

-- a number: one decimal digit or more, below 2 ^ 64
abbrev pub decimal_number : List ℕ → Option ℕ
decimal_number digits =
    if nat_lt 0 (length digits) && list_all is_digit digits && nat_lt (decimal_from 0 digits) 18446744073709551616
    then Some (decimal_from 0 digits) else None

-- the bytes of one byte of hex or more, in either case
abbrev pub piece_of : List ℕ → Option (List ℕ)
piece_of digits = if nat_lt 0 (length digits) then result_ok (decode_of digits) else None

-- what is before the first blank, and what behind it
abbrev pub at_blank : List ℕ → Option (List ℕ × List ℕ)
at_blank text = option_map (λ i. (take i text, drop (i + 1) text)) (position (λ c. c == 32) text)

-- what a line says: nothing, an event, or no event that can be read
pub data LineText : Type 0 where
  skipped : LineText
  unreadable : LineText
  says : EventText → LineText

abbrev pub line_text : Option Line → LineText
line_text None = unreadable
line_text (Some Skipped) = skipped
line_text (Some (Happens event)) = says (text_of event)
line_text (Some (Answered answer)) = unreadable
line_text (Some (Stopped connection done)) = unreadable

-- a part of a line that can be read, and what is said with it
abbrev pub with_part : {X : Type 0} → Option X → (X → LineText) → LineText
with_part part rest = option_map_or rest part unreadable

-- `N MOMENT HEX`: the two numbers, and the hex
abbrev pub piece_parts : List ℕ → Option (ℕ × ℕ × List ℕ)
piece_parts text =
    option_and_then (λ first.
    option_and_then (λ number.
    option_and_then (λ second.
    option_map (λ moment. (number, moment, second.1)) (decimal_number second.0))
    (at_blank first.1)) (decimal_number first.0)) (at_blank text)

abbrev pub bytes_line : List ℕ → LineText
bytes_line text =
    with_part (piece_parts text) (λ parts. with_part (piece_of parts.2) (λ piece. says (brings parts.0 parts.1 piece)))

-- what a mark and a blank begin
abbrev pub marked_line : ℕ → List ℕ → LineText
marked_line mark [] = unreadable
marked_line mark (blank ∷ text) =
    if not (blank == 32) then unreadable else
    if mark == 43 then with_part (decimal_number text) (λ number. says (opens number)) else
    if mark == 45 then with_part (decimal_number text) (λ number. says (ends number)) else
    if mark == 62 then bytes_line text else unreadable

-- `+ N` opens a connection, `> N MOMENT HEX` brings a piece, `- N` ends a connection; an empty line and one that `#`
-- begins are skipped
abbrev pub read_line : List ℕ → LineText
read_line [] = skipped
read_line (mark ∷ text) = if mark == 35 then skipped else marked_line mark text
