use Rattle.smb_pages.proofs.Places.{bytes_resized}
use Rattle.smb_pages.proofs.pages.Pages.resize.Goals as goal

pub returns : goal.returns
returns c =
    rw (← c.self.view_is) (bytes_resized c.self.inside.table.items c.cut.new.table.items c.self.inside.size c.args.size c.self.invariant c.cut.ensures.kept)
