-- What is shown of an entry that is open ([MS-FSCC] 2.4.2, 2.4.27).
use Rattle.std.specs.Prelude.{length}
use Rattle.smb_wire.specs.declared.access.Access.{Access}
use Rattle.smb_tree.specs.Entries.{Entry, allocation_size, shown_attributes}
use Rattle.smb_tree.specs.Views.{Shown}
use Rattle.smb_access.specs.declared.view.View.{View}

-- an entry through an open with this access
abbrev pub view_of : Access → Entry → View
view_of access entry = record {
  entry = entry.number;
  kind = entry.kind;
  creation_time = entry.basic.creation_time;
  last_access_time = entry.basic.last_access_time;
  last_write_time = entry.basic.last_write_time;
  change_time = entry.basic.change_time;
  size = length entry.bytes;
  allocation_size = allocation_size (length entry.bytes);
  attributes = record { 0 = shown_attributes entry.kind entry.basic.attributes.0 };
  mark = entry.mark;
  access = access;
}

-- the same of what a tree shows of an entry
abbrev pub view_shown : Access → Shown → View
view_shown access seen = record {
  entry = seen.number;
  kind = seen.kind;
  creation_time = seen.basic.creation_time;
  last_access_time = seen.basic.last_access_time;
  last_write_time = seen.basic.last_write_time;
  change_time = seen.basic.change_time;
  size = seen.size;
  allocation_size = allocation_size seen.size;
  attributes = record { 0 = shown_attributes seen.kind seen.basic.attributes.0 };
  mark = seen.mark;
  access = access;
}
