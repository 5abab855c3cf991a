use Rattle.std.proofs.Common.{◌≡◌, ◌-◌, ◌≤◌, length, take, drop}
use Rattle.smb_wire.specs.Limits.{longest_payload}
use Rattle.smb_engine.specs.SoFar.{StepsSoFar}
use Rattle.smb_frame.specs.Reading.{payloads}
use Rattle.smb_engine.specs.Ahead.{AreKnownOf}
use Rattle.smb_engine.specs.Observed.{payloads_observed}
use Rattle.smb_engine.proofs.Observed.{IsLeft}
use Rattle.smb_engine.proofs.stream.take_frames.Given as goal

abbrev pub invariant-loop-payload : goal.invariant-loop-payload
invariant-loop-payload g l = record {
  so_far : StepsSoFar g.A.Authenticator.meaning g.K.Sink.hears l.arrival
      l.fn.server l.fn.connection (g.K.Sink.content l.fn.out) l.bytes
      l.server l.connection (g.K.Sink.content l.out) (drop l.used l.bytes) l.done;
  within : l.used ≤ length l.bytes;
  kept : take (length (g.K.Sink.content l.fn.out)) (g.K.Sink.content l.out) ≡ g.K.Sink.content l.fn.out;
  observed : IsLeft (g.W.Observer.keeps l.fn.observer) (g.W.Observer.keeps l.observer) (g.W.Observer.observed l.fn.observer) (g.W.Observer.observed l.observer)
      (payloads_observed g.A.Authenticator.meaning l.arrival l.server l.connection (payloads longest_payload (drop l.used l.bytes)))
      (payloads_observed g.A.Authenticator.meaning l.arrival l.fn.server l.fn.connection (payloads longest_payload l.bytes));
  known : l.server.sessions.table.connections ≡ l.fn.server.sessions.table.connections;
  ahead : AreKnownOf (payloads longest_payload (drop l.used l.bytes)) l.ahead;
}

abbrev pub decreases-loop-payload : goal.decreases-loop-payload
decreases-loop-payload g l = length l.bytes - l.used
