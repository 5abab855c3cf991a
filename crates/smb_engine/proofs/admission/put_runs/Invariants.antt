use Rattle.std.proofs.Common.{◌≡◌, ◌≤◌, ◌++◌, ◌||◌, drop, length}
use Rattle.std.specs.List.{list_any}
use Rattle.smb_engine.specs.Parts.{is_negotiate_request, runs_of}
use Rattle.smb_engine.proofs.admission.put_runs.Given as goal

abbrev pub invariant-loop-i : goal.invariant-loop-i
invariant-loop-i l = record {
  left : l.runs.items ++ runs_of l.dialect (drop l.i l.chain) ≡ runs_of l.dialect l.chain;
  few : length l.runs.items ≤ l.i;
  negotiates : (l.negotiates || list_any is_negotiate_request (drop l.i l.chain)) ≡ list_any is_negotiate_request l.chain;
}
