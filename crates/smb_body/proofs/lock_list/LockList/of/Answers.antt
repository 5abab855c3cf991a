use Rattle.std.proofs.Common.{◌≡◌, ◌/◌, ◌%◌, length, arith}
use Rattle.smb_body.proofs.LockBytes.{chunks_elements, chunks_said}
use Rattle.smb_body.proofs.lock_list.LockList.of.Goals as goal

pub invariant_of-result : goal.invariant_of-result
invariant_of-result c = record {
  lawful = rw c.as_chunks.ensures.front (chunks_elements (length c.args.bytes.now / 24) c.args.bytes.now (omega arith) (λ i. omega (arith, c.type_inv.bytes i)));
}

pub returns-then-is_empty-clause-locks : goal.returns-then-is_empty-clause-locks
returns-then-is_empty-clause-locks c =
    let whole : length c.args.bytes.now % 24 ≡ 0 = grind arith in
    rw c.as_chunks.ensures.front (chunks_said (length c.args.bytes.now / 24) c.args.bytes.now (omega (arith, whole)))
