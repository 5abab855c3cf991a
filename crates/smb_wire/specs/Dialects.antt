-- The dialects of the share ([MS-SMB2] 2.2.3).
use Rattle.std.specs.Prelude.{ℕ}
use Rattle.smb_wire.specs.declared.dialect.Dialect.{Dialect}
use Rattle.smb_wire.specs.declared.dialect.Dialect.TheVariants.{Smb202, Smb210}

-- a dialect's revision number
abbrev pub revision_of : Dialect → ℕ
revision_of Smb202 = 0x0202
revision_of Smb210 = 0x0210
