-- For the proofs; nothing here need be believed.
-- The text of a stored path: a whole number of units, with at most 32 components, each lawful.
use Rattle.std.specs.Prelude.{◌≡◌, ℕ, ◌%◌, ◌≤◌, List, length, true}
use Rattle.std.specs.List.{list_all}
use Rattle.smb_wire.specs.Limits.{most_components}
use Rattle.smb_wire.specs.Pairs.{units_in}
use Rattle.smb_wire.specs.Paths.{components, is_lawful_component}

-- these bytes spell a path
pub record SpellPath (bytes : List ℕ) : Type 0 where
  pub even : length bytes % 2 ≡ 0
  pub lawful : list_all is_lawful_component (components (units_in bytes)) ≡ true
  pub shallow : length (components (units_in bytes)) ≤ most_components
