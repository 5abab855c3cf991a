use Rattle.std.proofs.Common.{length, sym, ap, ◌∙◌}
use Rattle.smb_pages.proofs.Places.{length-bytes_of}
use Rattle.smb_pages.proofs.pages.Pages.size.Goals as goal

pub returns : goal.returns
returns c = sym (length-bytes_of c.self.inside.table.items c.self.inside.size) ∙ ap length c.self.view_is
