-- For the proofs; nothing here need be believed.
-- Parts of the reading of frames.
use Rattle.std.specs.Prelude.{ℕ, ◌+◌, ◌*◌, List, length, drop}

-- the length that three bytes say in network order
abbrev pub size : ℕ → ℕ → ℕ → ℕ
size high middle low = 65536 * high + 256 * middle + low

-- the bytes after the frame of this payload, with which they begin
abbrev pub after : List ℕ → List ℕ → List ℕ
after payload bytes = drop (length payload + 4) bytes
