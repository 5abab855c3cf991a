use Rattle.std.proofs.Common.{sym}
use Rattle.smb_wire.proofs.Parting.{ends_count}
use Rattle.smb_wire.proofs.paths.PathView.len.Goals as goal

pub returns-clause-len : goal.returns-clause-len
returns-clause-len c = sym (ends_count _ _ _ c.args.self.now.kept.ends)
