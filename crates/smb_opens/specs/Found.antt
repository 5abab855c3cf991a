-- What a CREATE request finds in a store.
use Rattle.std.specs.Prelude.{Option}
use Rattle.smb_tree.specs.Entries.{Entry}
use Rattle.smb_tree.specs.Content.{entry_at}
use Rattle.smb_access.specs.Asked.{FileAsked}
use Rattle.smb_opens.specs.State.{StoreState}
use Rattle.smb_access.specs.Found.{path_asked}

-- the entry that a request names, if it exists
abbrev pub entry_asked : StoreState → FileAsked → Option Entry
entry_asked state ask = entry_at state.tree.rows (path_asked ask)
