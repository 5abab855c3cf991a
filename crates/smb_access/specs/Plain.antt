-- For the proofs; nothing here need be believed.
-- Opens under their numbers in a map.
use Rattle.std.specs.Prelude.{◌≡◌, ◌<◌, ℕ, List, [], ◌∷◌}
use Rattle.std.specs.List.{AllByRecursion}
use Rattle.smb_access.specs.declared.open_row.OpenRow.{OpenRow}

-- each open is under its own number, and the numbers rise
abbrev pub AreKeyed : List (ℕ × OpenRow) → Type 0
AreKeyed [] = Unit {0}
AreKeyed (entry ∷ entries) =
    (entry.0 ≡ entry.1.number) × AllByRecursion (λ later. entry.0 < later.0) entries × AreKeyed entries
