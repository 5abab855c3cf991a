use Rattle.std.proofs.Common.{◌<◌, length, sym, subst}
use Rattle.smb_engine.specs.State.{ShareState}
use Rattle.smb_engine.proofs.Kept.{kept_insert, new_waits}
use Rattle.smb_engine.proofs.share.Share.opened.Goals as goal

pub invariant_of-self-2 : goal.invariant_of-self-2
invariant_of-self-2 g c =
    let few = c.has_room.ensures.few c.if-not-has_room.false in
    let room : length c.self.inside.streams.entries < c.self.inside.most_connections = subst (λ (s : ShareState _). length s.streams < s.most_connections) (sym c.self.view_is) few in
    rw (c.in-Ok.ensures.streams, c.in-Ok.ensures.server, c.new_stream-stream.ensures)
    (kept_insert c.self.inside.server.sessions.table c.self.inside.streams.entries _ c.self.inside.next _ new_waits room c.self.invariant)
