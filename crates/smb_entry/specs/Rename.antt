-- The paths of a rename: SET_INFO of class FileRenameInformation ([MS-FSCC] 2.4.42, [MS-FSA] 2.1.5.15.11).
use Rattle.std.specs.Prelude.{ℕ, List}
use Rattle.smb_wire.specs.Paths.{path_spelled, folded_path}
use Rattle.smb_tree.specs.Content.{Path}

-- the path that a name spells ([MS-FSCC] 2.1.5)
abbrev pub path_named : List ℕ → Path
path_named name = folded_path (path_spelled name)
