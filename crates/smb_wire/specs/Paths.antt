-- Paths: names cut at separators, and which names are lawful.
use Rattle.std.specs.Prelude.{◌≡◌, ◌≢◌, ℕ, ◌-◌, List, [], ◌∷◌, length, map, take, slice_index, All, Bool, false, not, nat_le, nat_lt, nat_eq, ◌==◌, ◌&&◌, ◌||◌, if◌then◌else◌, Option, None, Some}
use Rattle.std.specs.List.{slice_split, join_with_byte, list_all, list_any}
use Rattle.std.specs.Cmp.Lexicographic.{pointwise}
use Rattle.smb_wire.specs.Limits.{most_components}
use Rattle.smb_wire.specs.Names.{folded}
use Rattle.smb_wire.specs.declared.fault.PathFault.{PathFault}
use Rattle.smb_wire.specs.declared.fault.PathFault.TheVariants.{LeadingSeparator, TooDeep, BadName}

-- the unit that separates the components of a name: a backslash
abbrev pub is_separator : ℕ → Bool
is_separator unit = unit == 92

-- what stands before, between and after the separators of a text; the empty text has no component
abbrev pub components : List ℕ → List (List ℕ)
components [] = []
components (unit ∷ units) = slice_split is_separator (unit ∷ units)

-- components with a separator between each two
abbrev pub joined_by_separators : List (List ℕ) → List ℕ
joined_by_separators = join_with_byte 92

-- a name without one separator at its end
abbrev pub without_trailing : List ℕ → List ℕ
without_trailing name = if is_separator (slice_index name (length name - 1)) then take (length name - 1) name else name

-- the path that a name spells: its components, one trailing separator dropped; the empty name spells the root
abbrev pub path_spelled : List ℕ → List (List ℕ)
path_spelled name = components (without_trailing name)

-- a component may have this unit: it is no control unit, and none of `"`, `*`, `/`, `:`, `<`, `>`, `?` and `|`
abbrev pub is_lawful_unit : ℕ → Bool
is_lawful_unit unit =
    nat_le 32 unit
    && not (list_any (λ other. unit == other) (34 ∷ 42 ∷ 47 ∷ 58 ∷ 60 ∷ 62 ∷ 63 ∷ 124 ∷ []))

-- `.` or `..`
abbrev pub is_dots : List ℕ → Bool
is_dots part = pointwise nat_eq part (46 ∷ []) || pointwise nat_eq part (46 ∷ 46 ∷ [])

-- a component is lawful: 1 to 255 lawful units, and neither `.` nor `..`
abbrev pub is_lawful_component : List ℕ → Bool
is_lawful_component part =
    nat_le 1 (length part) && nat_le (length part) 255 && list_all is_lawful_unit part && not (is_dots part)

-- why a name is no path: the first of these that holds
abbrev pub path_fault : List ℕ → Option PathFault
path_fault name =
    if is_separator (slice_index name 0) then Some LeadingSeparator else
    if nat_lt most_components (length (path_spelled name)) then Some TooDeep else
    if not (list_all is_lawful_component (path_spelled name)) then Some BadName else None

-- a path as paths are compared: each component folded
abbrev pub folded_path : List (List ℕ) → List (List ℕ)
folded_path = map folded

-- a text is its components joined by separators
abbrev pub ATextIsItsComponents : Type 0
ATextIsItsComponents = (text : List ℕ) → joined_by_separators (components text) ≡ text

-- components that have no separator are read again when they were joined, but for one empty component alone
abbrev pub ComponentsAreReadAgain : Type 0
ComponentsAreReadAgain =
    (parts : List (List ℕ)) → All (λ part. All (λ unit. is_separator unit ≡ false) part) parts → parts ≢ [] ∷ [] →
    components (joined_by_separators parts) ≡ parts
