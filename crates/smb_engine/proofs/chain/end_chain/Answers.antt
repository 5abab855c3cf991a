use Rattle.std.proofs.Common.{◌≡◌, ◌<◌, ◌+◌, length, arith, rules}
use Rattle.smb_head.proofs.Sealing.{apart_to}
use Rattle.smb_engine.proofs.Sealing.{none_framed, replies_framed}
use Rattle.smb_engine.proofs.chain.end_chain.Goals as goal

pub returns-then-len-start-clause-framed : goal.returns-then-len-start-clause-framed
returns-then-len-start-clause-framed c = λ connection before replies s w o.
    let size : length c.args.out.now.items ≡ c.args.start + 4 = search rules in
    none_framed connection c.args.start before c.args.out.now.items c.truncate.new.self.items c.args.writer.now replies c.args.unsigned.now s w o size c.truncate.ensures.items

pub put_off-requires-clause-apart : goal.put_off-requires-clause-apart
put_off-requires-clause-apart c = rw c.requires.base (apart_to 0 c.args.start (c.args.start + 4) c.args.unsigned.now (omega arith) c.requires.apart)

pub returns-else-len-start-clause-framed : goal.returns-else-len-start-clause-framed
returns-else-len-start-clause-framed c = λ connection before replies s w o.
    let some : c.args.start + 4 < length c.args.out.now.items = search rules in
    replies_framed connection c.args.start before c.args.out.now.items c.close_frame.new.out.items c.put_off.new.out.items c.args.writer.now replies c.args.unsigned.now c.put_off.new.unsigned
    s w o some c.close_frame.ensures.len c.requires.apart (λ payload e. c.close_frame.ensures.closed before payload s e) (λ front p q. c.put_off.ensures.signed front replies p q)
