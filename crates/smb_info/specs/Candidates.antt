-- What may be listed of a directory ([MS-FSA] 2.1.5.6.3): `.`, `..` and its children, in the order of their names.
use Rattle.std.specs.Prelude.{ℕ, List, [], ◌∷◌, ◌++◌, length, map, Option, None, Some}
use Rattle.std.specs.Option.{option_and_then}
use Rattle.smb_tree.specs.Content.{Row}
use Rattle.smb_tree.specs.Children.{name_of}
use Rattle.smb_tree.specs.ChildLaws.{in_turn}
use Rattle.smb_tree.specs.Views.{Shown, row_shown, entry_shown}
use Rattle.smb_access.specs.declared.scan.ScanLast.{ScanLast}
use Rattle.smb_access.specs.declared.scan.ScanLast.TheVariants.{Start, Dot, DotDot, Name}

-- a candidate: how far a scan is that has given it, the units of the name under which it is listed, and the entry
pub record Candidate : Type 0 where
  pub behind : ScanLast
  pub name : List ℕ
  pub entry : Shown

-- the folder itself, as `.`
unfoldable pub dot : List Row → ℕ → List Candidate
dot rows folder = elim (entry_shown rows folder) [
  | None ↦ []
  | Some entry ↦ record { behind = Dot; name = 46 ∷ []; entry = entry } ∷ []
]

-- the folder around it, as `..`; the root is around itself
unfoldable pub dot_dot : List Row → ℕ → List Candidate
dot_dot rows folder = elim (option_and_then (λ own. entry_shown rows own.parent) (entry_shown rows folder)) [
  | None ↦ []
  | Some entry ↦ record { behind = DotDot; name = 46 ∷ 46 ∷ []; entry = entry } ∷ []
]

-- a child, under its name as it is spelled
abbrev pub child : List Row → Row → Candidate
child rows row = record { behind = Name (name_of row); name = row.1.spelling; entry = row_shown rows row }

-- the children of a folder whose names come after a given one, in the order of their names; where none is given, all
unfoldable pub children : List Row → ℕ → Option (List ℕ) → List Candidate
children rows folder after = map (child rows) (in_turn (length rows) rows folder after)

-- what comes behind the last one that a scan has given, whether that is still there or not
unfoldable pub candidates_behind : List Row → ℕ → ScanLast → List Candidate
candidates_behind rows folder Start = dot rows folder ++ (dot_dot rows folder ++ children rows folder None)
candidates_behind rows folder Dot = dot_dot rows folder ++ children rows folder None
candidates_behind rows folder DotDot = children rows folder None
candidates_behind rows folder (Name name) = children rows folder (Some name)
