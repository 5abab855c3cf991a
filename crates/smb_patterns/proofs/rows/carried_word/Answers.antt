use Rattle.smb_patterns.proofs.RowWords.{empty_carried}
use Rattle.smb_patterns.proofs.rows.carried_word.Goals as goal

pub returns-then-not-new : goal.returns-then-not-new
returns-then-not-new c =
    empty_carried c.args.symbols.now c.args.place c.args.at c.args.word c.args.old c.args.new c.if-word-eq0.true c.if-not-old.true c.if-not-new.true
