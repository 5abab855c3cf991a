-- For the proofs; nothing here need be believed.
-- The text of a replay: one event a line.
use Rattle.std.specs.Prelude.{ℕ, ◌+◌, ◌==◌, List, [], ◌∷◌, Option, Some, None, if◌then◌else◌}
use Rattle.smb_peers.specs.Event.{EventText}
use Rattle.smb_journal.specs.Lines.{LineText, skipped, unreadable, says, read_line}

-- the lines of a text, each but the last ended by a line feed
abbrev pub onto_first : ℕ → List (List ℕ) → List (List ℕ)
onto_first c [] = (c ∷ []) ∷ []
onto_first c (line ∷ lines) = (c ∷ line) ∷ lines

abbrev pub lines_of : List ℕ → List (List ℕ)
lines_of [] = [] ∷ []
lines_of (c ∷ text) = if c == 10 then [] ∷ lines_of text else onto_first c (lines_of text)

-- the events of a text in order, each with the number of its line, up to the first line that cannot be read, if there is
-- one; lines are counted from 1
pub record ScriptText : Type 0 where
  pub events : List EventText
  pub places : List ℕ
  pub unreadable_at : Option ℕ

abbrev pub line_then : ℕ → LineText → ScriptText → ScriptText
line_then number skipped script = script
line_then number unreadable script = record { events = []; places = []; unreadable_at = Some number }
line_then number (says event) script = record script { events = event ∷ script.events; places = number ∷ script.places }

abbrev pub script_from : ℕ → List (List ℕ) → ScriptText
script_from number [] = record { events = []; places = []; unreadable_at = None }
script_from number (line ∷ lines) = line_then number (read_line line) (script_from (number + 1) lines)

abbrev pub script_of : List ℕ → ScriptText
script_of text = script_from 1 (lines_of text)
