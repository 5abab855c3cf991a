-- Lists of numbers.
use Rattle.std.specs.Prelude.{ℕ, ◌<◌, Bool, ◌==◌, nat_lt, not, List, [], ◌∷◌, filter, if◌then◌else◌}
use Rattle.std.specs.List.{list_any, AllByRecursion}

-- a number stands in a list
abbrev pub contains : List ℕ → ℕ → Bool
contains numbers n = list_any (λ m. m == n) numbers

-- each number is below those behind it
abbrev pub IsRising : List ℕ → Type 0
IsRising [] = Unit {0}
IsRising (n ∷ numbers) = AllByRecursion (λ m. n < m) numbers × IsRising numbers

-- rising numbers with one more, at its place
abbrev pub with_number : List ℕ → ℕ → List ℕ
with_number [] n = n ∷ []
with_number (m ∷ numbers) n = if nat_lt n m then n ∷ m ∷ numbers else m ∷ with_number numbers n

-- the numbers but one
abbrev pub without_number : List ℕ → ℕ → List ℕ
without_number numbers n = filter (λ m. not (m == n)) numbers
