use Rattle.std.proofs.Common.{◌/◌, length, arith, refl}
use Rattle.smb_wire.proofs.Pairing.{chunks_pairs, chunks_units}
use Rattle.smb_wire.proofs.units.Units.of.Goals as goal

pub invariant_of-result : goal.invariant_of-result
invariant_of-result c = record {
  lawful = rw c.as_chunks.ensures.front (chunks_pairs (length c.args.bytes.now / 2) c.args.bytes.now (omega arith) (λ i. omega (arith, c.type_inv.bytes i)));
}

pub returns-then-is_empty-clause-units : goal.returns-then-is_empty-clause-units
returns-then-is_empty-clause-units c = rw c.as_chunks.ensures.front (chunks_units c.args.bytes.now (length c.args.bytes.now / 2) refl)
