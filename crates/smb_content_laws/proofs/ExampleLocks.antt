-- An example: a file with one lock, or two, of its first ten bytes.
use Rattle.std.proofs.Common.{ℕ, true, false, List, [], ◌∷◌, bit_or, refl, lit<}
use Rattle.smb_wire.specs.LockFlags.{SHARED_LOCK, EXCLUSIVE_LOCK, UNLOCK, FAIL_IMMEDIATELY}
use Rattle.smb_locks.specs.declared.ask.LockAsk.{LockAsk}
use Rattle.smb_locks.specs.declared.lock.Lock.{Lock}
use Rattle.smb_locks.specs.declared.range.ByteRange.{ByteRange}
use Rattle.smb_locks.specs.Good.{GoodLockTable}
use Rattle.smb_locks.specs.Table.{Table}
use Rattle.smb_opens.specs.Locks.{locked_through}
use Rattle.smb_opens.specs.State.{StoreState}
use Rattle.smb_content_laws.specs.Example.{example_open, example_store, example_lock}

-- the first ten bytes of a file
abbrev pub first_ten : ByteRange
first_ten = record { offset = 0; length = 10 }

-- an exclusive lock of them, and a shared one, by the open that holds it
abbrev pub exclusive_by : ℕ → Lock
exclusive_by holder = record { holder = holder; range = first_ten; exclusive = true }

abbrev pub shared_by : ℕ → Lock
shared_by holder = record { holder = holder; range = first_ten; exclusive = false }

-- a LOCK that asks for them as shared, and an UNLOCK of them
abbrev pub asks_shared : List LockAsk
asks_shared = example_lock SHARED_LOCK ∷ []

abbrev pub asks_unlock : List LockAsk
asks_unlock = example_lock UNLOCK ∷ []

-- the file 2 with the exclusive lock of open 1; and with that and a newer shared one of the same open
abbrev pub one_lock : Table
one_lock = (2, exclusive_by 1 ∷ []) ∷ []

abbrev pub two_locks : Table
two_locks = (2, exclusive_by 1 ∷ shared_by 1 ∷ []) ∷ []

-- the example store with another open of its file, of the number 2, and with locks of it
abbrev pub two_opens : Table → StoreState
two_opens table = record {
  tree = example_store.tree;
  opens = example_open ∷ record example_open { number = 2 } ∷ [];
  locks = table;
  next = 3;
}

-- the example store after a LOCK of the first ten bytes
abbrev pub example_locked : StoreState
example_locked = locked_through example_store 1 (example_lock (bit_or EXCLUSIVE_LOCK FAIL_IMMEDIATELY) ∷ [])

pub one_lock_is_good : GoodLockTable one_lock
one_lock_is_good = record {
  rising = (tt, tt);
  listed = (lit< tt, tt);
  good = (record { compatible = (tt, tt); within = (refl, tt) }, tt);
}

pub two_locks_are_good : GoodLockTable two_locks
two_locks_are_good = record {
  rising = (tt, tt);
  listed = (lit< tt, tt);
  good = (
    record {
      compatible = (((λ others. absurd (others refl)), tt), (tt, tt));
      within = (refl, (refl, tt));
    },
    tt,
  );
}
