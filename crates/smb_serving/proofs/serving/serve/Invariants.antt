use Rattle.std.proofs.Common.{◌≤◌, ◌&&◌, []}
use Rattle.smb_peers.specs.Record.{Keeping}
use Rattle.smb_serving.specs.Serving.{Turns}
use Rattle.smb_serving.specs.ServingParts.{serving}
use Rattle.smb_serving.specs.Restless.{AreTracked}
use Rattle.smb_serving.specs.Openings.{OpenedSince}
use Rattle.smb_serving.proofs.serving.serve.Given as goal

abbrev pub invariant-loop-turn : goal.invariant-loop-turn
invariant-loop-turn g l = record {
  few : l.count ≤ l._turn;
  tracked : AreTracked l.share l.served;
  so_far : Keeping (g.P.Peers.keeps l.fn.peers && g.C.Clock.keeps l.fn.clock) (g.P.Peers.keeps l.peers && g.C.Clock.keeps l.clock)
      (Turns g.A.Authenticator.meaning l._turn (serving l.fn.share [] (g.P.Peers.calls l.fn.peers) (g.C.Clock.moments l.fn.clock) 0)
      (serving l.share l.served.peers.items (g.P.Peers.calls l.peers) (g.C.Clock.moments l.clock) l.count)
      × OpenedSince (g.P.Peers.calls l.fn.peers) (g.P.Peers.calls l.peers) (g.P.Peers.opened l.peers));
}
