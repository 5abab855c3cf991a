use Rattle.smb_tree.specs.Content.{resized}
use Rattle.smb_held_files.proofs.Showing.{bytes_shown}
use Rattle.smb_held_files.proofs.files.HeldFiles.resize.Goals as goal

pub returns-clause-ok : goal.returns-clause-ok
returns-clause-ok c =
    let old = c.self.inside.by_number.entries in
    let new = c.resize.new.files.entries in
    rw (← c.self.view_is)
    (bytes_shown (resized c.args.size) old new c.self.inside.next c.args.number c.resize.ensures)
