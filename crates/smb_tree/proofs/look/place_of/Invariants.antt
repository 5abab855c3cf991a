use Rattle.std.proofs.Common.{◌≡◌, take, None}
use Rattle.smb_tree.specs.Content.{numbered}
use Rattle.smb_tree.specs.Plain.{rows_of}
use Rattle.smb_tree.proofs.look.place_of.Given as goal

abbrev pub invariant-loop-i : goal.invariant-loop-i
invariant-loop-i l = numbered (rows_of (take l.i l.entries.items)) l.number ≡ None
