use Rattle.std.proofs.Common.{rules, ap}
use Rattle.smb_serving.specs.ServedPeers.{PeerState}
use Rattle.smb_serving.proofs.Turning.{sent_part}
use Rattle.smb_serving.proofs.serving.send_owed.Goals as goal

pub returns-in-Ok-clause-sent : goal.returns-in-Ok-clause-sent
returns-in-Ok-clause-sent g c = λ k.
    let t = c.in-Ok.ensures.told k in (
      t.0,
      sent_part c.args.peer.now c.drop_first.new.self c.args.share.now (g.P.Peers.calls c.args.peers.now) (g.P.Peers.calls c.send.new.self) c.peer.inside.number c.owed.result.now c.in-Ok.count
          (ap (λ (v : PeerState). v.number) c.peer.view_is) c.owed.ensures (search rules) c.in-Ok.ensures.within t.1 c.drop_first.ensures,
    )
