use Rattle.std.proofs.Common.{◌≡◌, ◌++◌, take}
use Rattle.smb_engine.specs.Parts.{events_of}
use Rattle.smb_engine.specs.Output.{AreShort, outputs_of}
use Rattle.smb_peers.specs.Record.{Keeping}
use Rattle.smb_engine.specs.Observed.{run_observed}
use Rattle.smb_engine.proofs.Runs.{RunSoFar}
use Rattle.smb_engine.proofs.share.Share.run_events.Given as goal

abbrev pub invariant-loop-event : goal.invariant-loop-event
invariant-loop-event g l = record {
  so_far : RunSoFar g.A.Authenticator.meaning l.fn.self l.self (outputs_of l.fn.answers.items) (outputs_of l.answers.items) (events_of l.events) l.event-index;
  place : l.place ≡ l.event-index;
  observed : Keeping (g.W.Observer.keeps l.fn.observer) (g.W.Observer.keeps l.observer)
      (g.W.Observer.observed l.observer ≡ g.W.Observer.observed l.fn.observer ++ run_observed g.A.Authenticator.meaning l.fn.self (take l.event-index (events_of l.events)));
  short : AreShort (outputs_of l.fn.answers.items) → AreShort (outputs_of l.answers.items);
}
