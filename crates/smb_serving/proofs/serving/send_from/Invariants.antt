use Rattle.std.proofs.Common.{◌≡◌, ◌-◌, length, take, drop}
use Rattle.smb_peers.specs.Record.{Keeping}
use Rattle.smb_serving.specs.Restless.{AreTrackedTo}
use Rattle.smb_serving.proofs.Turning.{SentSoFar}
use Rattle.smb_serving.proofs.serving.send_from.Given as goal

abbrev pub invariant-loop-place : goal.invariant-loop-place
invariant-loop-place g l = record {
  so_far : Keeping (g.P.Peers.keeps l.fn.peers) (g.P.Peers.keeps l.peers)
      (SentSoFar l.fn.share l.share (take l.first l.fn.served.peers.items) (drop l.first l.fn.served.peers.items) l.served.peers.items (g.P.Peers.calls l.fn.peers) (g.P.Peers.calls l.peers) l.place);
  tracked : AreTrackedTo l.place l.share l.served;
  opened : g.P.Peers.opened l.peers ≡ g.P.Peers.opened l.fn.peers;
}

abbrev pub decreases-loop-place : goal.decreases-loop-place
decreases-loop-place g l = length l.served.peers.items - l.place
