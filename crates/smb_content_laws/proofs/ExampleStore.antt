-- The example store of specs/Example is good, before a WRITE and after it.
use Rattle.std.proofs.Common.{[], ◌∷◌, refl, rules}
use Rattle.smb_opens.specs.Bytes.{written_to}
use Rattle.smb_opens.specs.Good.{GoodStore}
use Rattle.smb_opens.specs.State.{StoreState}
use Rattle.smb_opens.specs.Steps.{writes}
use Rattle.smb_content_laws.specs.Example.{example_store}
use Rattle.smb_content_laws.proofs.GoodSteps.{steps_good}

pub example_is_good : GoodStore example_store
example_is_good = search rules

-- the store after a WRITE of three bytes at the offset 2
abbrev pub example_written : StoreState
example_written = written_to example_store 1 2 (7 ∷ 8 ∷ 9 ∷ []) 5

pub written_is_good : GoodStore example_written
written_is_good = steps_good 65536 example_store (writes 1 2 (7 ∷ 8 ∷ 9 ∷ []) 5 ∷ []) example_is_good (refl, tt)
