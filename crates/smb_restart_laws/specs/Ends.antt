-- The ends of all connections that are open.
use Rattle.std.specs.Prelude.{◌≡◌, ℕ, true, false, List, [], None, Some}
use Rattle.smb_session.specs.Authenticator.{Meaning}
use Rattle.smb_tree.specs.Content.{Content, Path, entry_at, numbered}
use Rattle.smb_tree.specs.Entries.{Entry}
use Rattle.smb_access.specs.Close.{is_deletable}
use Rattle.smb_opens.specs.Good.{GoodStore, UnmarkedTree}
use Rattle.smb_opens.specs.Readers.{LeavesFiles, is_to_go}
use Rattle.smb_opens.specs.State.{StoreState}
use Rattle.smb_request.specs.Owners.{AreOwned}
use Rattle.smb_request.specs.Settings.{Settings, is_lawful}
use Rattle.smb_peers.specs.Event.{EventText}
use Rattle.smb_engine.specs.Good.{GoodState}
use Rattle.smb_engine.specs.Rest.{ends_of, IsAtRest}
use Rattle.smb_engine.specs.Run.{Ran, run}
use Rattle.smb_engine.specs.State.{ShareState, share_over, new_share}

-- what the ends of all connections that are open leave and put out, in rising number
abbrev pub all_ended : {S : Type 0} → Meaning S → ShareState S → Ran S
all_ended authenticator s = run authenticator s (ends_of s.streams)

module _ {S : Type 0} (authenticator : Meaning S) where
  -- the files that a run leaves, with their opens and locks
  abbrev pub files_left : ShareState S → List EventText → StoreState
  files_left s events = (run authenticator s events).state.server.store

  -- and those that the ends of all connections leave behind it
  abbrev pub files_kept : ShareState S → List EventText → StoreState
  files_kept s events = (all_ended authenticator (run authenticator s events).state).state.server.store

  -- a new share is good, if its configuration keeps the rules
  abbrev pub ANewShareIsGood : Type 0
  ANewShareIsGood =
      (settings : Settings) (accounts : S) → is_lawful settings ≡ true → GoodState (new_share settings accounts)

  -- and so is one over files, which are good, of the configuration's capacity and limits, and of which none is marked
  abbrev pub AShareOverFilesIsGood : Type 0
  AShareOverFilesIsGood =
      (settings : Settings) (accounts : S) (tree : Content) → is_lawful settings ≡ true → UnmarkedTree tree →
      tree.capacity ≡ settings.capacity → tree.limits ≡ settings.limits →
      GoodState (share_over settings accounts tree)

  -- whatever happens to a share that was good, its files, opens and locks stay good, and each open belongs to a session
  -- and a tree connect that exist
  abbrev pub TheFilesStayGood : Type 0
  TheFilesStayGood =
      (s : ShareState S) (events : List EventText) → GoodState s →
      GoodStore (files_left s events)
      × AreOwned (run authenticator s events).state.server.sessions.table (files_left s events).opens

  -- and all its connections that are open can end: their ends are performed, and put nothing out; the share is at rest
  -- then, and good: no connection, session, open or lock is left of it, and no mark
  abbrev pub AllConnectionsEnd : Type 0
  AllConnectionsEnd =
      (s : ShareState S) (events : List EventText) → GoodState s →
      let ended = all_ended authenticator (run authenticator s events).state in
      (ended.stop ≡ None) × (ended.outputs ≡ []) × IsAtRest ended.state × GoodState ended.state

  -- this changes no file: a file or folder that was not to go is there, with its path, name, bytes, times and
  -- attributes; none is new; and one that was to go is gone, or is as it was but for its mark ([MS-SMB2] 3.3.7.1)
  abbrev pub NoFileIsLost : Type 0
  NoFileIsLost = (s : ShareState S) (events : List EventText) → LeavesFiles (files_left s events) (files_kept s events)

  -- of a share that was good, a name finds the file or folder that it found, unless that was to go
  abbrev pub ANameFindsItsFileAgain : Type 0
  ANameFindsItsFileAgain =
      (s : ShareState S) (events : List EventText) → GoodState s → (path : Path) (entry : Entry) →
      entry_at (files_left s events).tree.rows path ≡ Some entry → is_to_go (files_left s events) entry.number ≡ false →
      entry_at (files_kept s events).tree.rows path ≡ Some entry

  -- what was to go is gone, if it could be deleted: a file, or a folder other than the root in which no entry is
  -- ([MS-FSA] 2.1.5.4)
  abbrev pub WhatWasToGoIsGone : Type 0
  WhatWasToGoIsGone =
      (s : ShareState S) (events : List EventText) → GoodState s → (number : ℕ) →
      is_to_go (files_left s events) number ≡ true → is_deletable (files_left s events).tree.rows number ≡ true →
      numbered (files_kept s events).tree.rows number ≡ None
