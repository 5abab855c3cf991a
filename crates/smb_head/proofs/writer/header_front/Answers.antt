use Rattle.std.proofs.Common.{refl, ◌∙◌}
use Rattle.std.proofs.lemmas.List.{append-nil}
use Rattle.smb_wire.specs.Number.{spelling}
use Rattle.smb_head.proofs.Spelled.{spelling_2, spelling_4, spelling_8}
use Rattle.smb_head.proofs.writer.header_front.Goals as goal

pub returns : goal.returns
unfolding spelling
returns c =
    rw (
      c.to_le_bytes.ensures ∙ spelling_2 _,
      c.to_le_bytes-2.ensures ∙ spelling_4 _,
      c.to_le_bytes-3.ensures ∙ spelling_2 _,
      c.to_le_bytes-4.ensures ∙ spelling_2 _,
      c.to_le_bytes-5.ensures ∙ spelling_4 _,
      c.to_le_bytes-6.ensures ∙ spelling_8 _,
      c.to_le_bytes-7.ensures ∙ spelling_4 _,
      c.to_le_bytes-8.ensures ∙ spelling_4 _,
      c.to_le_bytes-9.ensures ∙ spelling_8 _,
      append-nil c.args.header.now.signature,
    ) refl
