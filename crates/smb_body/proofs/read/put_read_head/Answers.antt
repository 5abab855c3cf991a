use Rattle.std.proofs.Common.{◌∙◌, refl}
use Rattle.smb_wire.specs.Number.{spelling}
use Rattle.smb_body.proofs.ReadHeads.{spelling_4, read_head}
use Rattle.smb_body.proofs.read.put_read_head.Goals as goal

pub returns-clause-ok : goal.returns-clause-ok
unfolding spelling
returns-clause-ok c = λ buffer e.
    let bytes = c.to_le_bytes.ensures ∙ spelling_4 c.args.data_length in
    read_head c.args.out.now.items c.extend_from_slice.new.self.items buffer c.args.data_length e (c.in_ok-extend_from_slice.ensures.items ∙ rw bytes refl)
