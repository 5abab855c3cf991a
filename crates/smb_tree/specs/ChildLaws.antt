-- The children of a folder, asked for one after the other.
use Rattle.std.specs.Prelude.{◌≡◌, ℕ, zero, suc, ◌≤◌, Bool, true, nat_eq, is_some, List, [], ◌∷◌, ◌++◌, length, map, Option, None, Some}
use Rattle.std.specs.List.{list_any}
use Rattle.std.specs.Option.{option_map_or, option_and_then}
use Rattle.std.specs.Cmp.Lexicographic.{pointwise}
use Rattle.smb_tree.specs.Content.{Row, numbered, entry_at}
use Rattle.smb_tree.specs.Laws.{AreApart}
use Rattle.smb_tree.specs.Children.{name_of, is_before, child_after}
use Rattle.smb_tree.specs.declared.tree.TheConstants.{CHILDREN_AT_ONCE}

-- the entries that `child_after` gives of a folder: the next after a given name, the next after that one's name
-- and so on, up to None, in at most so many steps
abbrev pub in_turn : ℕ → List Row → ℕ → Option (List ℕ) → List Row
in_turn zero rows number after = []
in_turn (suc steps) rows number after = option_map_or (λ row. row ∷ in_turn steps rows number (Some (name_of row)))
    (option_and_then (numbered rows) (child_after rows number after)) []

-- the numbers of the children that come next after a given name, or first: of as many as are looked up at once
unfoldable pub children_at_once : List Row → ℕ → Option (List ℕ) → List ℕ
children_at_once rows number after = map (λ row. row.1.number) (in_turn CHILDREN_AT_ONCE rows number after)

-- each name comes before the one that follows it
abbrev pub AreInOrder : List (List ℕ) → Type 0
AreInOrder [] = Unit {0}
AreInOrder (name ∷ []) = Unit {0}
AreInOrder (name ∷ other ∷ names) = (is_before name other ≡ true) × AreInOrder (other ∷ names)

-- whether a name is among others
abbrev pub is_among : List ℕ → List (List ℕ) → Bool
is_among name names = list_any (λ other. pointwise nat_eq other name) names

-- from the first on the children of a folder come in the order of their names, so each once, and a name is
-- among theirs exactly where an entry stands in the folder under it
abbrev pub ChildrenComeInTurn : Type 0
ChildrenComeInTurn =
    (rows : List Row) (number steps : ℕ) (folder : Row) → AreApart rows → numbered rows number ≡ Some folder → length rows ≤ steps →
    AreInOrder (map name_of (in_turn steps rows number None)) ×
    ((name : List ℕ) → is_among name (map name_of (in_turn steps rows number None)) ≡ is_some (entry_at rows (folder.0 ++ name ∷ [])))
