use Rattle.std.proofs.Common.{sym, ◌∙◌}
use Rattle.smb_locks.specs.Asks.{locks_asked}
use Rattle.smb_locks.proofs.Asked.{none_or}
use Rattle.smb_locks.proofs.file_locks.FileLocks.refusal_before_memory.Goals as goal

pub returns-clause-memory : goal.returns-clause-memory
returns-clause-memory c =
    λ e. none_or c.args.most c.args.self.now (locks_asked c.args.holder c.args.asks.now) c.fault_of_all.result c.args.fault c.fault_of_all.ensures (sym c.unwrap_or.ensures ∙ e)
