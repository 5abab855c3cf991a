use Rattle.std.proofs.Common.{◌≡◌, length}
use Rattle.smb_session.specs.Table.{numbers_on}
use Rattle.smb_request.specs.State.{connection_ended}
use Rattle.smb_request.proofs.server.Server.disconnect.Given as goal

abbrev pub invariant-loop : goal.invariant-loop
invariant-loop g l = connection_ended l.self l.connection ≡ connection_ended l.fn.self l.connection

abbrev pub decreases-loop : goal.decreases-loop
decreases-loop g l = length (numbers_on l.self.sessions.table.sessions l.connection)
