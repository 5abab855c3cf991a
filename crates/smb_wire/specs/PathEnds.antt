-- How a borrowed path is kept: its text, and where each component ends.
use Rattle.std.specs.Prelude.{◌≡◌, ℕ, zero, suc, ◌+◌, ◌≤◌, List, [], ◌∷◌, length, take, slice_index, true, if◌then◌else◌}
use Rattle.std.specs.List.{list_all}
use Rattle.smb_wire.specs.Limits.{most_components}
use Rattle.smb_wire.specs.Paths.{is_separator, components, is_lawful_component}

-- the places of the separators in a text that begins at a place, and the place of its end
abbrev pub ends_from : ℕ → List ℕ → List ℕ
ends_from place [] = place ∷ []
ends_from place (unit ∷ units) = if is_separator unit then place ∷ ends_from (place + 1) units else ends_from (place + 1) units

-- where the components of a text end
abbrev pub ends_in : List ℕ → List ℕ
ends_in [] = []
ends_in (unit ∷ units) = ends_from 0 (unit ∷ units)

-- where the first so many components end
abbrev pub front_end_in : List ℕ → ℕ → ℕ
front_end_in places zero = 0
front_end_in places (suc i) = slice_index places i

-- the first `count` of the places are where the components of the text end
pub record HasEnds (units places : List ℕ) (count : ℕ) : Type 0 where
  pub room : length places ≡ most_components
  pub few : count ≤ most_components
  pub ends : take count places ≡ ends_in units

-- so do they of a text whose components are lawful
pub record KeepsPath (units places : List ℕ) (count : ℕ) : Type 0 where
  pub ends : HasEnds units places count
  pub lawful : list_all is_lawful_component (components units) ≡ true
