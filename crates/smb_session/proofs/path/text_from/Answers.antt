use Rattle.std.proofs.Common.{arith}
use Rattle.smb_wire.specs.Units.{units_of}
use Rattle.smb_wire.proofs.Pairing.{length-unit_bytes}
use Rattle.smb_session.proofs.Paths.{rest_is}
use Rattle.smb_session.proofs.path.text_from.Goals as goal

pub split_at-requires : goal.split_at-requires
split_at-requires c = rw c.bytes.ensures.bytes (omega (arith, c.requires, length-unit_bytes (units_of c.args.text)))

pub returns : goal.returns
returns c =
    let some = rw c.split_at.ensures.back at c.of.ensures.some in
    let units = rw c.split_at.ensures.back at c.of.ensures.units in
    rest_is units_of _ (units_of c.args.text) c.bytes.result.now c.args.from c.bytes.ensures.bytes c.bytes.ensures.units c.requires some units
