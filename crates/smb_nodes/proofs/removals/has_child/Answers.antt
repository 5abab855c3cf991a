use Rattle.std.proofs.Common.{◌≡◌, arith, ap, ◌∙◌}
use Rattle.std.proofs.lemmas.Bool.Decides.{nat_tests}
use Rattle.smb_nodes.specs.Seen.{heap_of, seen}
use Rattle.smb_nodes.proofs.Putting.{some_child}
use Rattle.smb_nodes.proofs.removals.has_child.Goals as goal

pub returns-clause-some : goal.returns-clause-some
returns-clause-some c = λ h.
    some_child c.index.result.now (heap_of c.args.nodes.now c.args.slot) (ap seen c.index.ensures) (λ e. (let none : c.len-count.result ≡ 0 = c.len-count.ensures.len ∙ e in grind (arith, nat_tests, h, none)))
