use Rattle.std.proofs.Common.{◌==◌, not, rules}
use Rattle.std.proofs.lemmas.Fn.{filter_same}
use Rattle.smb_locks.specs.declared.lock.Lock.{Lock}
use Rattle.smb_locks.proofs.file_locks.FileLocks.release.Goals as goal

pub returns-clause-locks : goal.returns-clause-locks
returns-clause-locks c =
    rw (← c.self.view_is) (filter_same _ (λ (lock : Lock). not (lock.holder == c.args.holder)) _ (λ lock b f' called. search rules) _ _ c.retain.ensures.filtered)
