-- For the proofs; nothing here need be believed.
-- What a sink holds of the outputs: whole outputs, or their bytes.
use Rattle.std.specs.Prelude.{ℕ, List, [], ◌∷◌, map}
use Rattle.smb_engine.specs.Output.{Output, output_bytes}

-- an output whole, or one byte of it
pub data Heard : Type 0 where
  whole : Output → Heard
  byte : ℕ → Heard

abbrev pub hears_whole : Output → List Heard
hears_whole output = whole output ∷ []

abbrev pub hears_bytes : Output → List Heard
hears_bytes output = map byte (output_bytes output)
