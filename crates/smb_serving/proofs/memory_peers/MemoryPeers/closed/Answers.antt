use Rattle.std.proofs.Common.{List, sym, ap, ◌∙◌}
use Rattle.std.specs.Prelude.{count_by}
use Rattle.smb_serving.specs.declared.memory_record.Call.{Call}
use Rattle.smb_peers.specs.Record.{closes_of}
use Rattle.smb_serving.specs.MemoryPeers.{MemoryPeersState}
use Rattle.smb_serving.specs.MemoryRecord.{is_closing}
use Rattle.smb_serving.proofs.TakenBytes.{closes_told}
use Rattle.smb_serving.proofs.memory_peers.MemoryPeers.closed.Goals as goal

pub returns : goal.returns
returns c =
    c.closes_in.ensures
    ∙ ap (λ (calls : List Call). count_by (is_closing c.args.number) calls) c.deref.ensures.value
    ∙ sym (closes_told c.self.inside.script.items c.args.number c.self.inside.calls.items c.self.inside.bytes.items)
    ∙ ap (λ (p : MemoryPeersState). closes_of c.args.number p.calls) c.self.view_is
