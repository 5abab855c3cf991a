-- NEGOTIATE: the dialect ([MS-SMB2] 3.3.5.4).
use Rattle.std.specs.Prelude.{ℕ, ◌==◌, List, Option, Some, None, if◌then◌else◌}
use Rattle.std.specs.List.{list_any}
use Rattle.smb_wire.specs.declared.dialect.Dialect.{Dialect}
use Rattle.smb_wire.specs.declared.dialect.Dialect.TheVariants.{Smb202, Smb210}
use Rattle.smb_wire.specs.Dialects.{revision_of}

-- the greatest dialect of the share that a list has; others are passed over
abbrev pub best_of : List ℕ → Option Dialect
best_of dialects =
    if list_any (λ d. d == revision_of Smb210) dialects then Some Smb210 else
    if list_any (λ d. d == revision_of Smb202) dialects then Some Smb202 else None
