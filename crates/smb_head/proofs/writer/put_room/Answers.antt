use Rattle.std.proofs.Common.{ap, ◌∙◌, ◌++◌}
use Rattle.std.proofs.lemmas.List.{take-replicate}
use Rattle.smb_head.proofs.writer.put_room.Goals as goal

pub returns-clause-ok : goal.returns-clause-ok
returns-clause-ok c = c.in_ok-put_bytes.ensures.ok ∙ ap (λ l. c.args.out.now.items ++ l) (take-replicate c.args.count 72 0 c.requires)
