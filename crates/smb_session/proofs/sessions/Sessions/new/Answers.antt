use Rattle.std.proofs.Common.{refl, arith}
use Rattle.smb_wire.specs.Units.{units_of}
use Rattle.smb_wire.proofs.Pairing.{length-unit_bytes, units_read}
use Rattle.smb_session.proofs.sessions.Sessions.new.Goals as goal

pub invariant_of-result : goal.invariant_of-result
invariant_of-result g c = rw (c.in_ok-share.ensures.items, c.bytes.ensures.bytes) (rw (length-unit_bytes (units_of c.args.share)) (omega arith))

pub returns-clause-ok : goal.returns-clause-ok
returns-clause-ok g c = rw (c.in_ok-share.ensures.items, c.bytes.ensures.bytes, units_read (units_of c.args.share) c.bytes.ensures.units, c.new.ensures) refl
