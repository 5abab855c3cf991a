use Rattle.std.proofs.Common.{ℕ, List, sym, ap, ◌∙◌}
use Rattle.std.specs.List.{slice_get}
use Rattle.smb_serving.specs.declared.memory_record.Call.{Call}
use Rattle.smb_peers.specs.Record.{taken_by}
use Rattle.smb_serving.specs.MemoryPeers.{MemoryPeersState}
use Rattle.smb_serving.specs.MemoryRecord.{taken_of}
use Rattle.smb_serving.proofs.TakenBytes.{taken_told}
use Rattle.smb_serving.proofs.memory_peers.MemoryPeers.taken.Goals as goal

pub returns : goal.returns
returns c =
    c.taken_at.ensures
    ∙ ap (λ (calls : List Call). slice_get (taken_of c.args.number calls c.deref-2.result.now) c.args.index) c.deref.ensures.value
    ∙ ap (λ (bytes : List ℕ). slice_get (taken_of c.args.number c.self.inside.calls.items bytes) c.args.index) c.deref-2.ensures.value
    ∙ ap (λ (bytes : List ℕ). slice_get bytes c.args.index) (sym (taken_told c.self.inside.script.items c.args.number c.self.inside.calls.items c.self.inside.bytes.items))
    ∙ ap (λ (p : MemoryPeersState). slice_get (taken_by c.args.number p.calls) c.args.index) c.self.view_is
