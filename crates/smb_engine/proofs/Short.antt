-- Outputs that are short.
use Rattle.std.proofs.Common.{◌≡◌, ◌≤◌, ℕ, ◌+◌, Bool, List, [], ◌∷◌, ◌++◌, length, true, false, if◌then◌else◌, ap, sym, subst, arith, length-append}
use Rattle.std.specs.List.{flat_map}
use Rattle.smb_session.proofs.Windows.{all-append}
use Rattle.smb_engine.specs.declared.connection.Connection.{Connection}
use Rattle.smb_request.specs.State.{ServerState}
use Rattle.smb_engine.specs.InPlace.{step_behind}
use Rattle.smb_engine.specs.Run.{Step}
use Rattle.smb_engine.specs.Output.{Output, end_of, AreShort, output_bytes}
use Rattle.smb_engine.specs.Parts.{IsShort, longest_reply}

pub both_short : (outputs others : List Output) → AreShort outputs → AreShort others → AreShort (outputs ++ others)
both_short = all-append IsShort

-- each output is no longer than all of them
pub short_within : (outputs : List Output) → length (flat_map output_bytes outputs) ≤ 4 + longest_reply → AreShort outputs
short_within [] h = tt
short_within (output ∷ outputs) h =
    let both = length-append (output_bytes output) (flat_map output_bytes outputs) in
    (omega (arith, h, both), short_within outputs (omega (arith, h, both)))

-- what was put behind some bytes
pub short_behind : (outputs : List Output) (before after : List ℕ) → after ≡ before ++ flat_map output_bytes outputs → length after ≤ length before + (4 + longest_reply) → AreShort outputs
short_behind outputs before after e h =
    short_within outputs (omega (arith, h, ap length e, length-append before (flat_map output_bytes outputs)))

-- a step that put out so many bytes
pub step_short : {S : Type 0} (step : Step S) (server : ServerState S) (connection : Connection) (stays_open : Bool) (before after : List ℕ) →
    record { server = server; connection = connection; stays_open = stays_open; out = after } ≡ step_behind output_bytes before step → length after ≤ length before + (4 + longest_reply) → AreShort step.outputs
step_short step server connection stays_open before after e h = short_behind step.outputs before after (ap (λ x. x.out) e) h

-- the steps of a piece, and the end of its connection
pub with_end : (ends : Bool) (outputs : List Output) (connection : ℕ) → AreShort outputs → AreShort (if ends then outputs else outputs ++ end_of connection ∷ [])
with_end true outputs connection h = h
with_end false outputs connection h = both_short outputs (end_of connection ∷ []) h (omega arith, tt)

-- outputs behind others, and outputs as they were
pub more_short : (before after outputs : List Output) → after ≡ before ++ outputs → AreShort before → AreShort outputs → AreShort after
more_short before after outputs e h k = subst AreShort (sym e) (both_short before outputs h k)

pub same_short : (before after : List Output) → after ≡ before → AreShort before → AreShort after
same_short before after e h = subst AreShort (sym e) h
