use Rattle.std.proofs.Common.{slice_get, sym, ap, ◌∙◌}
use Rattle.smb_engine.specs.State.{ShareState}
use Rattle.smb_engine.proofs.share.Share.first_open.Goals as goal

pub returns-in-Some-clause-some : goal.returns-in-Some-clause-some
returns-in-Some-clause-some g c = (c.in-Some.field-0-1.now, ap (λ (s : ShareState g.row.A.Denot). slice_get s.streams 0) (sym c.self.view_is) ∙ c.in-Some.ensures.first)
