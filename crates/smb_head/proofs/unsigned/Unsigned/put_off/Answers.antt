use Rattle.smb_head.proofs.Sealing.{apart_to}
use Rattle.smb_head.proofs.unsigned.Unsigned.put_off.Goals as goal

pub returns-in_default-clause-apart : goal.returns-in_default-clause-apart
returns-in_default-clause-apart c = apart_to 0 c.args.place c.args.end c.args.self.now c.requires.order c.requires.apart
