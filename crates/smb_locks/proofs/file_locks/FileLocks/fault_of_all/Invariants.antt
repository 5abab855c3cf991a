use Rattle.std.proofs.Common.{◌≡◌, ◌++◌, take, drop}
use Rattle.smb_locks.specs.Asks.{locks_asked}
use Rattle.smb_locks.specs.Locking.{locks_fault}
use Rattle.smb_locks.proofs.file_locks.FileLocks.fault_of_all.Given as goal

abbrev pub invariant-loop-before : goal.invariant-loop-before
invariant-loop-before l =
    locks_fault l.most l.self (locks_asked l.holder l.asks) ≡ locks_fault l.most (l.self ++ locks_asked l.holder (take l.before l.asks)) (locks_asked l.holder (drop l.before l.asks))
