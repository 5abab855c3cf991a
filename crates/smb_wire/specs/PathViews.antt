-- A borrowed path as a list of components.
use Rattle.std.specs.Prelude.{ℕ, List}
use Rattle.smb_wire.specs.Paths.{components}
use Rattle.smb_wire.specs.Units.{units_of}
use Rattle.smb_wire.specs.declared.paths.PathView.{PathView}

-- the components of a path, as they are spelled
abbrev pub parts_of : PathView → List (List ℕ)
parts_of path = components (units_of path.text)
