-- Elements of a LOCK as functions, and a list of them ([MS-SMB2] 2.2.26.1).
use Rattle.std.specs.Prelude.{◌≡◌, ◌↔◌, ℕ, List, length, map}
use Rattle.smb_wire.specs.Fields.{number_in, AllStand}
use Rattle.smb_body.specs.Locks.{lock_fields}
use Rattle.smb_body.specs.declared.lock_element.LockElement.{LockElement}
use Rattle.smb_body.specs.declared.lock_list.LockList.{LockList}

-- the element that 24 bytes say
abbrev pub lock_at : List ℕ → LockElement
lock_at bytes = record {
  offset = number_in 8 0 bytes;
  length = number_in 8 8 bytes;
  flags = record { 0 = number_in 4 16 bytes };
  reserved = number_in 4 20 bytes;
}

-- 24 bytes say one element of the table, that which `lock_at` gives
abbrev pub EachElementIsRead : Type 0
EachElementIsRead =
    (bytes : List ℕ) (e : LockElement) → length bytes ≡ 24 → AllStand bytes (lock_fields e) ↔ (lock_at bytes ≡ e)

-- the elements of a list
abbrev pub locks_of : LockList → List LockElement
locks_of list = map lock_at list.elements.now
