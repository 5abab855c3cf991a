use Rattle.std.proofs.Common.{ap, ◌∙◌}
use Rattle.smb_wire.specs.Number.{spelling}
use Rattle.smb_info.proofs.InformationLemmas.{put_in_three}
use Rattle.smb_info.proofs.directory_fields.put_directory.Goals as goal

pub returns-clause-ok : goal.returns-clause-ok
returns-clause-ok c =
    put_in_three c.args.out.now.items _ _ _ _ _ _ _ _ _ _ _ _ _ _ _ _ _ _ _ _ _ _ _ _ _ _ c.in_ok-put_bytes.ensures.ok c.in_ok-put_bytes-2.ensures.ok c.in_ok-put_bytes-3.ensures.ok c.as_flattened.ensures.value c.as_flattened-2.ensures.value c.as_flattened-3.ensures.value
    c.in_four.ensures c.in_four-2.ensures c.in_eight.ensures c.in_eight-2.ensures c.in_eight-3.ensures c.in_eight-4.ensures c.in_eight-5.ensures (c.in_eight-6.ensures ∙ ap (spelling 8) c.allocation_size.ensures)
    (c.in_four-3.ensures ∙ ap (spelling 4) c.attributes.ensures) (c.in_four-4.ensures ∙ ap (spelling 4) c.name_length.ensures)
