use Rattle.std.proofs.Common.{◌∙◌}
use Rattle.smb_held_files.proofs.Showing.{get_shown}
use Rattle.smb_held_files.proofs.files.HeldFiles.next.Goals as goal

pub returns-clause-below : goal.returns-clause-below
returns-clause-below c = rw (← c.self.view_is)
    (λ q h. get_shown c.self.inside.by_number.entries c.self.inside.next q ∙ c.self.invariant q h)
