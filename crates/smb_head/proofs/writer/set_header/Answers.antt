use Rattle.std.proofs.Common.{rules}
use Rattle.smb_head.specs.Headers.{fields}
use Rattle.smb_wire.specs.Fields.{joined}
use Rattle.smb_head.proofs.Placing.{header_over}
use Rattle.smb_head.proofs.writer.set_header.Goals as goal

pub returns-clause-header : goal.returns-clause-header
returns-clause-header c =
    header_over c.header_front.result c.args.header.now.signature (joined (fields (record c.args.header.now { next_command = 0 }))) c.args.out.now.items c.set_bytes.new.out.items c.set_bytes-2.new.out.items c.args.place
    (search rules) (search rules) c.requires c.header_front.ensures c.set_bytes.ensures.bytes c.set_bytes-2.ensures.bytes
