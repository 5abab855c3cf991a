use Rattle.std.proofs.Common.{◌≡◌, ◌-◌, length}
use Rattle.smb_serving.specs.Restless.{AreKept}
use Rattle.smb_serving.proofs.Skipping.{HasCome}
use Rattle.smb_serving.proofs.serving.send_restless.Given as goal

abbrev pub invariant-loop-index : goal.invariant-loop-index
invariant-loop-index g l = record {
  so_far : HasCome (g.P.Peers.keeps l.fn.peers) (g.P.Peers.keeps l.peers) l.fn.share l.share l.fn.served.peers.items l.served.peers.items
      (g.P.Peers.calls l.fn.peers) (g.P.Peers.calls l.peers) l.served.restless.items l.index;
  kept : AreKept l.served;
  opened : g.P.Peers.opened l.peers ≡ g.P.Peers.opened l.fn.peers;
}

abbrev pub decreases-loop-index : goal.decreases-loop-index
decreases-loop-index g l = length l.served.restless.items - l.index
