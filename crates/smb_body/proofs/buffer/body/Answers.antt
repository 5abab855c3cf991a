use Rattle.std.proofs.Common.{drop, sym, arith}
use Rattle.std.proofs.lemmas.List.{drop_all, length-drop, take_all}
use Rattle.smb_body.proofs.buffer.body.Goals as goal

pub returns-then-request-lt-HEADER : goal.returns-then-request-lt-HEADER
returns-then-request-lt-HEADER c = sym (drop_all 64 c.args.request.now (omega arith))

pub returns : goal.returns
returns c = take_all _ (drop 64 c.args.request.now) (omega (arith, length-drop 64 c.args.request.now))
