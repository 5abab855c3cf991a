-- For the proofs; nothing here need be believed.
-- A script that is being read.
use Rattle.std.specs.Prelude.{◌++◌, map, Bool, if◌then◌else◌}
use Rattle.std.specs.Option.{option_map, option_map_or}
use Rattle.smb_peers.specs.Event.{text_of}
use Rattle.smb_replay.specs.Script.{ScriptText, lines_of, script_from}
use Rattle.smb_replay.specs.declared.script.Script.{Script}
use Rattle.smb_replay.specs.declared.script.Unread.{Unread}
use Rattle.smb_replay.specs.declared.script.Part.{Part}

-- what a script says, without where its bytes lie
abbrev pub script_text : Script → ScriptText
script_text script = record { events = map text_of script.events.items; places = script.places.items; unreadable_at = option_map (λ place. place.0) script.unreadable_at }

-- a script's events, and what is read behind them
abbrev pub behind : Script → ScriptText → ScriptText
behind script later = record {
  events = map text_of script.events.items ++ later.events;
  places = script.places.items ++ later.places;
  unreadable_at = later.unreadable_at;
}

-- a script is whole, or more is read behind it
abbrev pub script_so_far : Bool → Script → ScriptText → ScriptText
script_so_far goes_on script later = if goes_on then behind script later else script_text script

-- the script of what is left of a text
abbrev pub left_script : Unread → ScriptText
left_script left = script_from left.number (lines_of left.text.now)

-- the script of a text of which a part was read: what was read, and the script of what is left
abbrev pub part_script : Part → ScriptText
part_script part = option_map_or (λ left. behind part.script (left_script left)) part.left (script_text part.script)
