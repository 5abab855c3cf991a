-- The order of folded names beside the names that a pattern matches ([MS-FSA] 2.1.4.4).
use Rattle.std.specs.Prelude.{◌≡◌, ℕ, List}
use Rattle.std.specs.Ordering.{nat_cmp}
use Rattle.std.specs.declared.cmp.Ordering.{Ordering}
use Rattle.std.specs.Cmp.Lexicographic.{slice_cmp}
use Rattle.smb_wire.specs.Names.{folded}
use Rattle.smb_patterns.specs.Patterns.{Matches}

-- a folded name compares in this way with each name that a pattern matches, folded
abbrev pub HasOrder : List ℕ → List ℕ → Ordering → Type 0
HasOrder pattern name order = (other : List ℕ) → Matches pattern other → slice_cmp nat_cmp name (folded other) ≡ order
