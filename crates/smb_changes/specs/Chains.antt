-- Batches of another chain.
use Rattle.std.specs.Prelude.{◌≡◌, ◌≢◌, ℕ, ◌^◌, ◌<◌, List, ◌++◌, length, None}
use Rattle.smb_changes.specs.Batches.{batch, batch_at}

-- a batch that was written by another seed is not read, though its number is right, whatever is in it and behind it
abbrev pub ABatchOfAnotherChainIsNotRead : Type 0
ABatchOfAnotherChainIsNotRead =
    (seed other number : ℕ) (body rest : List ℕ) → seed < 2 ^ 64 → other < 2 ^ 64 → seed ≢ other →
    length body < 256 ^ 8 → batch_at seed number (batch other number body ++ rest) ≡ None
