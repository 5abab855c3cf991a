-- For the proofs; nothing here need be believed.
-- What the code looks at once for a CREATE, in a store.
use Rattle.std.specs.Option.{option_map}
use Rattle.smb_tree.specs.Content.{Path, entry_at}
use Rattle.smb_access.specs.declared.found.CreateLookup.{CreateLookup}
use Rattle.smb_access.specs.Asked.{FileAsked}
use Rattle.smb_access.specs.Found.{path_asked, is_reached, is_pending}
use Rattle.smb_opens.specs.Parts.{has_all_opens, has_all_entries}
use Rattle.smb_opens.specs.State.{StoreState}
use Rattle.smb_access.specs.Looked.{target_of}

-- what is found at a path: the entry, if any, whether the way to it is one of folders, whether it or its folder is
-- marked, and whether an open and an entry may be added
abbrev pub found_at : StoreState → Path → CreateLookup
found_at state path = record {
  target = option_map target_of (entry_at state.tree.rows path);
  reached = is_reached state.tree.rows path;
  pending = is_pending state.tree.rows path;
  opens_full = has_all_opens state;
  entries_full = has_all_entries state;
}

-- what a request finds
abbrev pub found_by : StoreState → FileAsked → CreateLookup
found_by state ask = found_at state (path_asked ask)
