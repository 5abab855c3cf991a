use Rattle.std.proofs.Common.{sym, ap, ◌∙◌}
use Rattle.std.specs.Ordering.{is_eq}
use Rattle.std.specs.Cmp.Lexicographic.{texts_ties}
use Rattle.smb_wire.specs.Names.{folded}
use Rattle.smb_wire.specs.Units.{units_of}
use Rattle.smb_wire.proofs.names.same_name.Goals as goal

pub returns : goal.returns
returns c = c.is_eq.ensures ∙ ap is_eq c.compare_folded.ensures ∙ sym (texts_ties (folded (units_of c.args.left)) (folded (units_of c.args.right)))
