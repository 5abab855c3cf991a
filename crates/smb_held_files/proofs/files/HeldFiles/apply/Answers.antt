use Rattle.smb_held_files.proofs.Showing.{gone_shown}
use Rattle.smb_held_files.proofs.files.HeldFiles.apply.Goals as goal

pub returns-in-Gone-clause-ok : goal.returns-in-Gone-clause-ok
returns-in-Gone-clause-ok c =
    let old = c.self.inside.by_number.entries in
    rw (c.in-Gone.is, ← c.self.view_is)
    (gone_shown old c.take.new.files.entries c.self.inside.next c.in-Gone.number c.take.ensures)
