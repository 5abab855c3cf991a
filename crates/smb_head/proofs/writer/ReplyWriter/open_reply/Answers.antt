use Rattle.std.proofs.Common.{rules, ap, ◌∙◌}
use Rattle.smb_head.specs.Placed.{ReplyPlaces}
use Rattle.smb_head.proofs.Placing.{open_is}
use Rattle.smb_head.proofs.writer.ReplyWriter.open_reply.Goals as goal

pub returns-clause-opened : goal.returns-clause-opened
returns-clause-opened c = λ before replies h o.
    open_is before c.args.out.now.items c.put_room.new.out.items replies c.self.inside.base c.len-end.result c.rounded_up.result
    (ap (λ (w : ReplyPlaces). w.base) (c.self.view_is ∙ h)) o (search rules) c.rounded_up.ensures c.in_ok-put_room.ensures.ok
