-- For the proofs; nothing here need be believed.
-- What is left of a message, block by block.
use Rattle.std.specs.Prelude.{◌≡◌, ℕ, ◌*◌, ◌-◌, ◌%◌, ◌<◌, ◌≤◌, ◌+◌, List, ◌++◌, length, take}
use Rattle.smb_lanes.specs.declared.source.Source.{Source}

-- a source gives the bytes q, block by block: whole blocks where they lie, and at most two in a tail of its own
abbrev pub Supplies : Source → List ℕ → Type 0
Supplies s q = (length s.whole.now % 64 ≡ 0) × (length q ≡ 64 * s.count)
    × (length s.whole.now < length q) × (length q ≤ length s.whole.now + 128)
    × (q ≡ s.whole.now ++ take (length q - length s.whole.now) s.tail)
