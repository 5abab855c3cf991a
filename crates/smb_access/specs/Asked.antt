-- What a CREATE request asks ([MS-SMB2] 2.2.13).
use Rattle.std.specs.Prelude.{ℕ, Bool, List, if◌then◌else◌, bit_or}
use Rattle.smb_wire.specs.Units.{units_of}
use Rattle.smb_wire.specs.Access.{has_any}
use Rattle.smb_wire.specs.CreateOptions.{FILE_DIRECTORY_FILE}
use Rattle.smb_wire.specs.Attributes.{FILE_ATTRIBUTE_ARCHIVE}
use Rattle.smb_tree.specs.declared.entry.Kind.{Kind}
use Rattle.smb_tree.specs.declared.entry.Kind.TheVariants.{File, Folder}
use Rattle.smb_access.specs.declared.ask.CreateAsk.{CreateAsk}

-- a request, without where the units of its name lie: masks and the disposition by their numbers
pub record FileAsked : Type 0 where
  pub name : List ℕ
  pub access : ℕ
  pub attributes : ℕ
  pub share : ℕ
  pub disposition : ℕ
  pub options : ℕ
  pub session : ℕ
  pub tree : ℕ
  -- the session that asks may only read
  pub read_only : Bool

abbrev pub asked : CreateAsk → FileAsked
asked ask = record {
  name = units_of ask.name;
  access = ask.access.0;
  attributes = ask.attributes.0;
  share = ask.share.0;
  disposition = ask.disposition.0;
  options = ask.options.0;
  session = ask.session;
  tree = ask.tree;
  read_only = ask.read_only;
}

-- what an entry becomes that is added: a folder where FILE_DIRECTORY_FILE is set
abbrev pub kind_asked : FileAsked → Kind
kind_asked ask = if has_any ask.options FILE_DIRECTORY_FILE then Folder else File

-- the attributes of a new file or folder; a file gets FILE_ATTRIBUTE_ARCHIVE besides those that are given
abbrev pub attributes_asked : Kind → FileAsked → ℕ
attributes_asked File ask = bit_or ask.attributes FILE_ATTRIBUTE_ARCHIVE
attributes_asked Folder ask = ask.attributes
