use Rattle.std.proofs.Common.{ℕ}
use Rattle.smb_tree_of_files.specs.Building.{IsBare}
use Rattle.smb_tree_of_files.proofs.Checked.{of_more}
use Rattle.smb_tree_of_files.proofs.check.check_all.Goals as goal

pub loop-number-preserved : goal.loop-number-preserved
loop-number-preserved c =
    of_more (λ (n : ℕ). IsBare c.args.files.now c.args.tree.now n) c.args.numbers.now c.loop-number.number-index
    c.loop-number-test.true c.loop-number.invariant c.in_ok-check_one.ensures
