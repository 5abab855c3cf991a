-- Counters: numbers that are given one after the other, each once.
use Rattle.std.specs.Prelude.{ℕ, ◌-◌, ◌^◌, Bool, nat_le}

-- a counter of so many bits is spent once it has given the greatest number but one that they spell
abbrev pub is_spent : ℕ → ℕ → Bool
is_spent bits next = nat_le (2 ^ bits - 1) next
