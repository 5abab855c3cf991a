use Rattle.std.proofs.Common.{◌≡◌, drop}
use Rattle.smb_locks.specs.Parts.{left_by, unlock_error_from}
use Rattle.smb_locks.proofs.file_locks.FileLocks.unlock_all.Given as goal

abbrev pub invariant-loop-done : goal.invariant-loop-done
invariant-loop-done l = record {
  left : left_by l.holder l.initial.self l.asks ≡ left_by l.holder l.self (drop l.done l.asks);
  error : unlock_error_from 0 l.holder l.initial.self l.asks ≡ unlock_error_from l.done l.holder l.self (drop l.done l.asks);
}
