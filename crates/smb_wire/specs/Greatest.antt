-- The most bytes that the limits of a share may ever let a file have.
use Rattle.std.specs.Prelude.{ℕ}

-- 2^43: with it sums of sizes fit 64 bits
abbrev pub greatest_file_bytes : ℕ
greatest_file_bytes = 8796093022208
