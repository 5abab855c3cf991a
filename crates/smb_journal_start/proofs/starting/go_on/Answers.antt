use Rattle.std.proofs.Common.{◌∙◌}
use Rattle.smb_journal_start.proofs.Recovered.{all_numbered, as_many}
use Rattle.smb_journal_start.proofs.starting.go_on.Goals as goal

pub resume-requires-clause-all : goal.resume-requires-clause-all
resume-requires-clause-all c = all_numbered c.in-Ok.tree c.args.files c.args.numbers.now c.in-Ok.ensures.files c.requires.numbers

pub resume-requires-clause-counted : goal.resume-requires-clause-counted
resume-requires-clause-counted c = c.len-entries.ensures.len ∙ as_many c.in-Ok.tree c.args.files c.in-Ok.ensures.good c.in-Ok.ensures.files
