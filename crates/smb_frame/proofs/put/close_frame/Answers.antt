use Rattle.std.proofs.Common.{rules}
use Rattle.smb_frame.proofs.Heads.{closed_is}
use Rattle.smb_frame.proofs.put.close_frame.Goals as goal

pub returns-clause-closed : goal.returns-clause-closed
returns-clause-closed c = λ before payload s o.
    closed_is before payload c.frame_head.result c.args.out.now.items c.set_four.new.out.items c.args.start _ s o (search rules) c.frame_head.ensures c.set_four.ensures.bytes
