-- A store with one file and one open of it, in which each request succeeds: no table refuses all.
use Rattle.std.specs.Prelude.{◌≡◌, ℕ, false, true, List, [], ◌∷◌, bit_or, None}
use Rattle.smb_wire.specs.Access.{FILE_ALL_ACCESS, FILE_SHARE_ALL}
use Rattle.smb_wire.specs.Dispositions.{disposition_code}
use Rattle.smb_wire.specs.LockFlags.{EXCLUSIVE_LOCK, UNLOCK, FAIL_IMMEDIATELY}
use Rattle.smb_wire.specs.declared.disposition.CreateDisposition.TheVariants.{Create}
use Rattle.smb_wire.specs.declared.nt_status.NtStatus.TheVariants.{Success}
use Rattle.smb_tree.specs.Content.{new_content, added}
use Rattle.smb_tree.specs.declared.entry.Kind.TheVariants.{File}
use Rattle.smb_locks.specs.declared.ask.LockAsk.{LockAsk}
use Rattle.smb_access.specs.declared.open_row.OpenRow.{OpenRow}
use Rattle.smb_access.specs.Asked.{FileAsked}
use Rattle.smb_access.specs.Opens.{open_of}
use Rattle.smb_access.specs.declared.scan.ScanLast.TheVariants.{Start}
use Rattle.smb_opens.specs.Bytes.{read_status, file_bytes, write_status, written_to}
use Rattle.smb_opens.specs.Close.{closed}
use Rattle.smb_opens.specs.Create.{create_status}
use Rattle.smb_opens.specs.Good.{GoodStore}
use Rattle.smb_opens.specs.Locks.{lock_status, unlock_status, locked_through}
use Rattle.smb_opens.specs.Renames.{rename_status}
use Rattle.smb_opens.specs.SetInfo.{delete_status, size_status, basic_status}
use Rattle.smb_opens.specs.State.{StoreState}
use Rattle.smb_opens.specs.Steps.{StoreStep, creates, writes, locks, unlocks, renames, closes, stepped_all}
use Rattle.smb_content_laws.specs.GoodStores.{AllSucceed}

-- the open of number 1, of the file of number 2, with every right and all sharing
abbrev pub example_open : OpenRow
example_open = record {
  number = 1;
  entry = 2;
  session = 1;
  tree = 1;
  access = record { 0 = FILE_ALL_ACCESS };
  share = record { 0 = FILE_SHARE_ALL };
  delete_on_close = false;
  scan = record { pattern = None; last = Start };
}

-- a tree with the root and an empty file `A` of number 2, and room for a megabyte; the open of it; and no lock
abbrev pub example_store : StoreState
example_store = record {
  tree = added (new_content 1 1048576) ((65 ∷ []) ∷ []) File 0 1;
  opens = example_open ∷ [];
  locks = [];
  next = 2;
}

-- a CREATE of a new file `B`
abbrev pub example_ask : FileAsked
example_ask = record {
  name = 66 ∷ [];
  access = FILE_ALL_ACCESS;
  attributes = 0;
  share = FILE_SHARE_ALL;
  disposition = disposition_code Create;
  options = 0;
  session = 1;
  tree = 1;
  read_only = false;
}

-- the first ten bytes of a file, to be locked as an open's own or to be unlocked
abbrev pub example_lock : ℕ → LockAsk
example_lock flags = record { offset = 0; length = 10; flags = record { 0 = flags } }

-- the store is a good one, and each request succeeds: a CREATE of a new file; a WRITE of three bytes at the offset 2,
-- and a READ, which gives them behind two zeros in the gap; a LOCK, the WRITE under it, and the UNLOCK; a SET_INFO of the
-- mark, of the size, of times and attributes of which all are left, and of the name; and a CLOSE takes the open away
pub record EachSucceeds : Type 0 where
  pub good : GoodStore example_store
  pub create : create_status example_store example_ask ≡ Success
  pub write : write_status example_store 65536 1 2 (7 ∷ 8 ∷ 9 ∷ []) ≡ Success
  pub read : let written = written_to example_store 1 2 (7 ∷ 8 ∷ 9 ∷ []) 5 in
      (read_status written 65536 1 0 65536 5 ≡ Success) × (file_bytes written 1 0 65536 ≡ 0 ∷ 0 ∷ 7 ∷ 8 ∷ 9 ∷ [])
  pub lock : let asks = example_lock (bit_or EXCLUSIVE_LOCK FAIL_IMMEDIATELY) ∷ [] in
      let locked = locked_through example_store 1 asks in
      (lock_status example_store 1 asks ≡ Success) × (write_status locked 65536 1 2 (7 ∷ 8 ∷ 9 ∷ []) ≡ Success)
      × (unlock_status locked 1 (example_lock UNLOCK ∷ []) ≡ Success)
  pub mark : delete_status example_store 1 true ≡ Success
  pub size : size_status example_store 1 100 ≡ Success
  pub times : basic_status example_store 1 (record {
    creation_time = 0;
    last_access_time = 0;
    last_write_time = 0;
    change_time = 0;
    attributes = record { 0 = 0 };
  }) ≡ Success
  pub rename : rename_status example_store 1 (67 ∷ []) false ≡ Success
  pub close : open_of (closed example_store 1).opens 1 ≡ None

-- some requests in a row: a CREATE of a new file, whose open has the number 2; a WRITE, a LOCK, a WRITE behind the end,
-- and the UNLOCK, through that open; a rename; and the CLOSE of the first open
abbrev pub example_session : List StoreStep
example_session =
    creates example_ask 5
    ∷ writes 2 0 (7 ∷ 8 ∷ 9 ∷ []) 6
    ∷ locks 2 (example_lock (bit_or EXCLUSIVE_LOCK FAIL_IMMEDIATELY) ∷ [])
    ∷ writes 2 5 (1 ∷ []) 7
    ∷ unlocks 2 (example_lock UNLOCK ∷ [])
    ∷ renames 2 (67 ∷ []) 8
    ∷ closes 1
    ∷ []

-- each of them succeeds, and the file reads as it was written
abbrev pub TheSessionSucceeds : Type 0
TheSessionSucceeds =
    AllSucceed 65536 example_store example_session
    × (file_bytes (stepped_all example_store example_session) 2 0 65536 ≡ 7 ∷ 8 ∷ 9 ∷ 0 ∷ 0 ∷ 1 ∷ [])
