use Rattle.smb_tree_of_files.proofs.Checked.{all_more}
use Rattle.smb_tree_of_files.proofs.numbers.numbers_of.Goals as goal

pub loop-number-preserved : goal.loop-number-preserved
loop-number-preserved c =
    all_more c.args.files.now c.loop-number.last c.loop-number.numbers.items c.push.new.self.items c.in-Some.number
    c.loop-number.invariant c.in-Some.ensures.least c.in_ok-push.ensures.items
