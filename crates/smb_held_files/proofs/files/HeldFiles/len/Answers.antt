use Rattle.std.proofs.Common.{sym, ◌∙◌}
use Rattle.smb_held_files.proofs.Showing.{len_shown}
use Rattle.smb_held_files.proofs.files.HeldFiles.len.Goals as goal

pub returns-clause-len : goal.returns-clause-len
returns-clause-len c = rw (← c.self.view_is)
    (c.len.ensures.len ∙ sym (len_shown c.self.inside.by_number.entries c.self.inside.next c.len.ensures.ordered))
