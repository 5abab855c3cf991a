use Rattle.std.proofs.Common.{◌≡◌, ◌++◌, take, drop}
use Rattle.smb_locks.specs.Asks.{locks_asked}
use Rattle.smb_locks.specs.Locking.{locks_fault}
use Rattle.smb_locks.proofs.file_locks.FileLocks.lock_all.Given as goal

abbrev pub invariant-loop-ask : goal.invariant-loop-ask
invariant-loop-ask l = record {
  added : l.self ≡ l.initial.self ++ locks_asked l.holder (take l.ask-index l.asks);
  refusal : locks_fault l.most l.initial.self (locks_asked l.holder l.asks) ≡ locks_fault l.most l.self (locks_asked l.holder (drop l.ask-index l.asks));
}
