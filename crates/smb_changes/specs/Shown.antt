-- Changes of the code, without where their bytes lie.
use Rattle.std.specs.Prelude.{Bool}
use Rattle.smb_wire.specs.declared.units.Units.{Units}
use Rattle.smb_wire.specs.Units.{units_of}
use Rattle.smb_tree.specs.declared.entry.Basic.{Basic}
use Rattle.smb_tree.specs.declared.entry.Kind.{Kind}
use Rattle.smb_changes.specs.declared.change.Change.{Change as ChangeView}
use Rattle.smb_changes.specs.declared.change.Change.TheVariants.{Entry, Bytes, Size, Gone, Next}
use Rattle.smb_files.specs.Files.{About, Change, sets, writes, resizes, removes, counts}

-- what is known of an entry that is spelled by a text
abbrev pub about_with : Kind → Units → Basic → Bool → About
about_with kind text basic mark = record { kind = kind; spelling = units_of text; basic = basic; mark = mark }

-- the change of the definitions that a change of the code is
abbrev pub change_shown : ChangeView → Change
change_shown (Entry number parent kind mark basic spelling) =
    sets number parent (about_with kind spelling basic mark)
change_shown (Bytes number offset bytes) = writes number offset bytes.now
change_shown (Size number size) = resizes number size
change_shown (Gone number) = removes number
change_shown (Next next) = counts next
