use Rattle.std.proofs.Common.{false, sym, ◌∙◌}
use Rattle.smb_locks.proofs.Asked.{any_behind}
use Rattle.smb_locks.proofs.file_locks.FileLocks.has_conflict_behind.Goals as goal

pub returns-else-has_conflict : goal.returns-else-has_conflict
returns-else-has_conflict c =
    any_behind c.args.asked c.args.holder c.args.self.now c.args.asks.now false c.asks_conflict.result (sym c.if-has_conflict.false ∙ c.has_conflict.ensures) c.asks_conflict.ensures
