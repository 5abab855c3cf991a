use Rattle.smb_held_files.specs.Held.{file_shown}
use Rattle.smb_tree_of_files.proofs.Left.{one_filled, all_filled, fewer_left}
use Rattle.smb_tree_of_files.proofs.fill.fill_all.Goals as goal

pub loop-number-preserved : goal.loop-number-preserved
loop-number-preserved c = λ limits capacity k.
    one_filled c.args.files c.loop-number.left limits capacity c.loop-number.tree c.pour.new.tree c.in-Some.number
    (file_shown c.in-Some.file) (c.loop-number.invariant limits capacity k) c.in-Some.ensures.taken
    c.in_ok-pour.ensures.is c.in_ok-pour.ensures.good c.take_first.new.self c.in-Some.ensures.others

pub loop-number-smaller : goal.loop-number-smaller
loop-number-smaller c =
    fewer_left c.loop-number.left c.take_first.new.self c.in-Some.number
    (file_shown c.in-Some.file) c.in-Some.ensures.taken
    c.in-Some.ensures.others

pub returns : goal.returns
returns c = λ limits capacity k.
    all_filled c.args.files c.loop-number.left limits capacity c.loop-number.tree
    (c.loop-number.invariant limits capacity k)
    c.in_default.ensures.none
