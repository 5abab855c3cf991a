-- The numbers of files.
use Rattle.std.specs.Prelude.{◌≡◌, ℕ, ◌==◌, Bool, true, List, is_some}
use Rattle.std.specs.List.{list_any}
use Rattle.std.specs.FinMap.{get}
use Rattle.smb_files.specs.Files.{Files}

-- a number is one of these
abbrev pub is_one_of : List ℕ → ℕ → Bool
is_one_of numbers n = list_any (λ other. n == other) numbers

-- these numbers are all that have an entry
abbrev pub HasAll : Files → List ℕ → Type 0
HasAll files numbers = (n : ℕ) → is_some (get files.entries n) ≡ true → is_one_of numbers n ≡ true
