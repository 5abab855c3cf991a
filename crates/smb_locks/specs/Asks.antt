-- What the elements of a LOCK request ask ([MS-SMB2] 2.2.26.1).
use Rattle.std.specs.Prelude.{ℕ, ◌==◌, List, map, bit_and}
use Rattle.smb_wire.specs.LockFlags.{EXCLUSIVE_LOCK}
use Rattle.smb_locks.specs.declared.ask.LockAsk.{LockAsk}
use Rattle.smb_locks.specs.declared.lock.Lock.{Lock}

-- the locks that an open asks for: each over the range of its element
abbrev pub locks_asked : ℕ → List LockAsk → List Lock
locks_asked holder = map (λ ask. record {
  holder = holder;
  range = record { offset = ask.offset; length = ask.length };
  exclusive = bit_and ask.flags.0 EXCLUSIVE_LOCK == EXCLUSIVE_LOCK;
})
