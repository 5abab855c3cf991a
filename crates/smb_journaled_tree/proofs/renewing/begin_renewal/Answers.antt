use Rattle.std.proofs.Common.{arith}
use Rattle.std.proofs.lemmas.Bool.Decides.{nat_tests}
use Rattle.smb_files.specs.Contents.{files_of}
use Rattle.smb_journaled_tree.proofs.Slices.{next_is}
use Rattle.smb_journaled_tree.proofs.renewing.begin_renewal.Goals as goal

pub returns-clause-renewed : goal.returns-clause-renewed
returns-clause-renewed g c =
    let content = g.T.Tree.content c.args.tree.now in
    let is = next_is content c.in_ok-next.next _ c.next_no.ensures c.in_ok-next.was in
    c.begin.ensures (files_of content) (grind (arith, nat_tests, is, c.if-next-eq0.false))
