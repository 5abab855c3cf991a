use Rattle.smb_wire.proofs.Parting.{place_first, place_later}
use Rattle.smb_wire.proofs.parts.front_end.Goals as goal

pub returns-then-n-eq0 : goal.returns-then-n-eq0
returns-then-n-eq0 c = place_first c.args.ends.now.places c.args.n c.if-n-eq0.true

pub returns : goal.returns
returns c = place_later c.args.ends.now.places c.args.n c.if-n-eq0.false
