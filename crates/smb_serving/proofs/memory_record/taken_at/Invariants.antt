use Rattle.smb_serving.proofs.TakenBytes.{LookedSoFar}
use Rattle.smb_serving.proofs.memory_record.taken_at.Given as goal

abbrev pub invariant-loop-call : goal.invariant-loop-call
invariant-loop-call l = LookedSoFar l.number l.calls l.bytes l.index l.call-index l.start l.left
