use Rattle.std.proofs.Common.{◌+◌, ◌*◌, ◌<◌, length, refl, arith}
use Rattle.smb_patterns.proofs.BitRows.{has-set_same, has-set_other}
use Rattle.smb_patterns.proofs.rests.Rests.set_word.Goals as goal

pub returns-clause-here : goal.returns-clause-here
returns-clause-here c =
    let within : c.args.at < length c.args.self.now.words = omega arith in
    λ i h. has-set_same c.args.self.now.words c.args.at c.args.word i (64 * c.args.at + i) within h refl

pub returns-clause-shorter : goal.returns-clause-shorter
returns-clause-shorter c = λ n h. has-set_other c.args.self.now.words c.args.at c.args.word n (λ e. omega arith)

pub returns-clause-longer : goal.returns-clause-longer
returns-clause-longer c = λ n h. has-set_other c.args.self.now.words c.args.at c.args.word n (λ e. omega arith)
