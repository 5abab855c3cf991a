use Rattle.std.proofs.Common.{◌≡◌, ◌<◌, ◌-◌, ℕ, List, length, get_or, [], Some, arith, sym, ap, ◌∙◌}
use Rattle.smb_wire.specs.Names.{folded}
use Rattle.smb_wire.specs.PathViews.{parts_of}
use Rattle.smb_wire.specs.Units.{units_of}
use Rattle.smb_tree.specs.Entries.{last_part}
use Rattle.smb_nodes.specs.Nodes.{step}
use Rattle.smb_nodes.specs.Seen.{heap_of}
use Rattle.smb_nodes.proofs.Targeting.{root_walk, last_walk}
use Rattle.smb_nodes.proofs.moves.target_in.Goals as goal

pub returns-then-count-eq0 : goal.returns-then-count-eq0
returns-then-count-eq0 c =
    let none : length (parts_of c.args.path.now) ≡ 0 = omega (arith, c.len-count.ensures.len) in
    root_walk (heap_of c.args.nodes.now) (parts_of c.args.path.now) none

pub returns : goal.returns
returns c =
    let some : 0 < length (parts_of c.args.path.now) = omega (arith, c.len-count.ensures.len) in
    let last : units_of c.part.result ≡ last_part (parts_of c.args.path.now) = c.part.ensures ∙ ap (λ (n : ℕ). get_or (parts_of c.args.path.now) (n - 1) []) c.len-count.ensures.len in
    c.child_of.ensures ∙ ap (λ (us : List ℕ). step (heap_of c.args.nodes.now) (Some c.args.folder) (folded us)) last
    ∙ sym (last_walk (heap_of c.args.nodes.now) (parts_of c.args.path.now) some c.args.folder c.requires)
