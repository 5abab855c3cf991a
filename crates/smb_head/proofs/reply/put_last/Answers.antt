use Rattle.smb_head.specs.Headers.{fields}
use Rattle.smb_head.proofs.Joining.{put_is}
use Rattle.smb_head.proofs.reply.put_last.Goals as goal

pub returns-clause-ok : goal.returns-clause-ok
returns-clause-ok c =
    put_is c.args.out.now.items c.write_header.new.out.items c.put_bytes.new.out.items (fields (record c.args.header.now { next_command = 0 })) c.args.body.now
    c.in_ok-write_header.ensures.ok c.in_ok-put_bytes.ensures.ok
