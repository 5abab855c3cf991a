use Rattle.std.proofs.Common.{◌∙◌}
use Rattle.smb_wire.specs.PathViews.{parts_of}
use Rattle.smb_wire.specs.Units.{units_of}
use Rattle.smb_nodes.proofs.Spelled.{spelled, spelled_even, spelled_short}
use Rattle.smb_nodes.proofs.paths.last_spelling.Goals as goal

pub returns-clause-units : goal.returns-clause-units
returns-clause-units c =
    spelled c.in_ok-spelling.spelling.items (units_of c.part-last.result) (parts_of c.args.path.now) c.len.result (c.in_ok-spelling.ensures.items ∙ c.bytes.ensures.bytes) c.bytes.ensures.units c.part-last.ensures c.len.ensures.len

pub returns-clause-even : goal.returns-clause-even
returns-clause-even c = spelled_even c.in_ok-spelling.spelling.items (units_of c.part-last.result) (c.in_ok-spelling.ensures.items ∙ c.bytes.ensures.bytes)

pub returns-clause-short : goal.returns-clause-short
returns-clause-short c =
    spelled_short c.in_ok-spelling.spelling.items (units_of c.part-last.result) (parts_of c.args.path.now) c.len.result (c.in_ok-spelling.ensures.items ∙ c.bytes.ensures.bytes) c.bytes.ensures.units c.part-last.ensures c.len.ensures.len c.args.path.now.kept.lawful
