use Rattle.std.proofs.Common.{◌∙◌, ap}
use Rattle.smb_tree.specs.Content.{Content, changed_in, written}
use Rattle.smb_tree_of_files.proofs.Filled.{filled_more, filled_zeros}
use Rattle.smb_tree_of_files.proofs.fill.put_part.Goals as goal

pub returns-then-are_zeros-clause-is : goal.returns-then-are_zeros-clause-is
returns-then-are_zeros-clause-is c = λ whole content within is old.
    old ∙ filled_zeros content c.args.number c.args.offset whole c.args.part.now within is
    (c.are_zeros.ensures c.if-are_zeros.true)

pub returns-clause-is : goal.returns-clause-is
returns-clause-is c = λ whole content within is old.
    c.in_ok-put.ensures.is
    ∙ ap (λ (t : Content). changed_in
    (λ entry. record entry { bytes = written c.args.offset c.args.part.now entry.bytes }) t c.args.number) old
    ∙ filled_more content c.args.number c.args.offset whole c.args.part.now within is
