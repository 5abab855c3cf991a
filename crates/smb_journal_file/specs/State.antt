-- A journal's file.
use Rattle.std.specs.Prelude.{ℕ, List, Bool}

-- the bytes that were read of it and written to it, whether all of it was read, and how many bytes its room has and last
pub record FileState : Type 0 where
  pub bytes : List ℕ
  pub ended : Bool
  pub room : ℕ
  pub lasting : ℕ
