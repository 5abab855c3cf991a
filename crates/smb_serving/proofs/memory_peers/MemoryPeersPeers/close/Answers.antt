use Rattle.std.proofs.Common.{length, refl, arith}
use Rattle.smb_peers.specs.Record.{close}
use Rattle.smb_serving.specs.declared.memory_record.Call.TheVariants.{Closed}
use Rattle.smb_serving.proofs.HeldCalls.{bytes_same, one_told}
use Rattle.smb_serving.proofs.MemoryCalls.{told_here, closed_here}
use Rattle.smb_serving.proofs.memory_peers.MemoryPeersPeers.close.Goals as goal

pub invariant_of-self-2 : goal.invariant_of-self-2
invariant_of-self-2 c =
    let h = c.self.invariant in (
      h.0,
      bytes_same c.self.inside.calls.items c.keep_call.new.calls.items (Closed c.args.number) (length c.self.inside.bytes.items) c.keep_call.ensures.items h.1 refl,
      omega arith,
      h.3,
      omega arith,
      omega arith,
      omega arith,
    )

pub returns-clause-told : goal.returns-clause-told
returns-clause-told c =
    told_here (close c.args.number) c.self.view_is
    (one_told c.self.inside.script.items c.self.inside.calls.items c.keep_call.new.calls.items (Closed c.args.number) c.self.inside.bytes.items c.keep_call.ensures.items c.self.invariant.1)

pub returns-clause-after : goal.returns-clause-after
returns-clause-after c =
    closed_here c.args.number c.self.view_is c.if-self-eq0.false
    (one_told c.self.inside.script.items c.self.inside.calls.items c.keep_call.new.calls.items (Closed c.args.number) c.self.inside.bytes.items c.keep_call.ensures.items c.self.invariant.1)
