-- For the proofs; nothing here need be believed.
-- How far a scan is that has given an entry, by what the entry is listed as.
use Rattle.std.specs.Prelude.{ℕ, List}
use Rattle.smb_wire.specs.Names.{folded}
use Rattle.smb_access.specs.declared.scan.ScanLast.{ScanLast}
use Rattle.smb_access.specs.declared.scan.ScanLast.TheVariants.{Name}
use Rattle.smb_access.specs.declared.scan.ScanLast.TheVariants as last
use Rattle.smb_info.specs.declared.candidate.Listed.{Listed}
use Rattle.smb_info.specs.declared.candidate.Listed.TheVariants.{Dot, DotDot, Child}

-- behind `.`, behind `..`, or behind its name
abbrev pub behind_of : Listed → List ℕ → ScanLast
behind_of Dot name = last.Dot
behind_of DotDot name = last.DotDot
behind_of Child name = Name (folded name)
