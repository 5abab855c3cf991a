use Rattle.std.proofs.Common.{◌≡◌, ◌≤◌, ◌&&◌, List, [], length}
use Rattle.smb_peers.specs.Record.{Keeping}
use Rattle.smb_serving.specs.Serving.{Turns, TurnsUnstopped}
use Rattle.smb_serving.specs.ServingParts.{serving}
use Rattle.smb_serving.specs.Restless.{AreTracked}
use Rattle.smb_serving.specs.Openings.{OpenedSince}
use Rattle.smb_serving.proofs.serving.serve_until_watched.Given as goal

abbrev pub invariant-loop-turn : goal.invariant-loop-turn
invariant-loop-turn g l = record {
  few : l.count ≤ l._turn;
  tracked : AreTracked l.share l.served;
  so_far : Keeping (g.P.Peers.keeps l.fn.peers && g.C.Clock.keeps l.fn.clock) (g.P.Peers.keeps l.peers && g.C.Clock.keeps l.clock)
      (Turns g.A.Authenticator.meaning l._turn (serving l.fn.share [] (g.P.Peers.calls l.fn.peers) (g.C.Clock.moments l.fn.clock) 0)
      (serving l.share l.served.peers.items (g.P.Peers.calls l.peers) (g.C.Clock.moments l.clock) l.count)
      × OpenedSince (g.P.Peers.calls l.fn.peers) (g.P.Peers.calls l.peers) (g.P.Peers.opened l.peers));
  unstopped : Keeping (g.P.Peers.keeps l.fn.peers && g.C.Clock.keeps l.fn.clock) (g.P.Peers.keeps l.peers && g.C.Clock.keeps l.clock)
      ((before : List _) × (length before ≡ l._turn)
      × TurnsUnstopped g.A.Authenticator.meaning g.P.Peers.calls g.P.Stopping.stopped before (serving l.fn.share [] (g.P.Peers.calls l.fn.peers) (g.C.Clock.moments l.fn.clock) 0)
      (serving l.share l.served.peers.items (g.P.Peers.calls l.peers) (g.C.Clock.moments l.clock) l.count));
}
