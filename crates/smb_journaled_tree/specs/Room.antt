-- For the proofs; nothing here need be believed.
-- The room that is left for what is never refused.
use Rattle.std.specs.Prelude.{ℕ, ◌+◌, ◌*◌}

-- in bytes, by the number of entries: each may go in one turn, and times, attributes, marks and names take a MiB
abbrev pub margin : ℕ → ℕ
margin entries = 1048576 + 25 * entries
