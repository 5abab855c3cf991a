-- What a CREATE that succeeds does to a tree ([MS-SMB2] 3.3.5.9).
use Rattle.std.specs.Prelude.{ℕ, [], if◌then◌else◌, Option, None, Some}
use Rattle.smb_wire.specs.Paths.{path_spelled}
use Rattle.smb_tree.specs.declared.entry.Kind.TheVariants.{File}
use Rattle.smb_tree.specs.Entries.{Entry, new_entry, kept_attributes}
use Rattle.smb_tree.specs.Content.{Content, added, changed}
use Rattle.smb_wire.specs.Dispositions.{supersedes_by, overwrites_by}
use Rattle.smb_access.specs.Asked.{FileAsked, kind_asked, attributes_asked}

-- an overwritten file: it has no bytes, the attributes of a new file, and the moment for the times of the last write and
-- change; SUPERSEDE sets all four times; its number and its spelling stay
abbrev pub overwritten : FileAsked → ℕ → Entry → Entry
overwritten ask moment entry = record entry {
  bytes = [];
  basic = record {
    creation_time = if supersedes_by ask.disposition then moment else entry.basic.creation_time;
    last_access_time = if supersedes_by ask.disposition then moment else entry.basic.last_access_time;
    last_write_time = moment;
    change_time = moment;
    attributes = record { 0 = kept_attributes (attributes_asked File ask) };
  };
}

-- the entry as it stands afterwards: added where there was none, overwritten where that is asked
abbrev pub entry_after : Content → FileAsked → ℕ → Option Entry → Entry
entry_after tree ask moment None =
    new_entry tree.next (path_spelled ask.name) (kind_asked ask) (attributes_asked (kind_asked ask) ask) moment
entry_after tree ask moment (Some entry) = if overwrites_by ask.disposition then overwritten ask moment entry else entry

-- the tree afterwards: at most this one entry is another, added or overwritten
abbrev pub tree_after : Content → FileAsked → ℕ → Option Entry → Content
tree_after tree ask moment None =
    added tree (path_spelled ask.name) (kind_asked ask) (attributes_asked (kind_asked ask) ask) moment
tree_after tree ask moment (Some entry) =
    if overwrites_by ask.disposition then record tree { rows = changed (overwritten ask moment) tree.rows entry.number }
    else tree
