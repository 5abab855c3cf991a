use Rattle.std.proofs.Common.{◌≡◌, refl, rules, None}
use Rattle.smb_wire.specs.Paths.{folded_path}
use Rattle.smb_wire.specs.PathViews.{parts_of}
use Rattle.smb_nodes.specs.Seen.{heap_of}
use Rattle.smb_nodes.proofs.Numbered.{number_down}
use Rattle.smb_nodes.proofs.tree.NodeTreeTree.find.Goals as goal

pub returns-in_err-node : goal.returns-in_err-node
returns-in_err-node c =
    let n = number_down (heap_of c.self.inside.nodes) c.self.inside.index.entries c.self.inside.next (folded_path (parts_of c.args.path.now)) c.self.invariant.is_tree in
    let none : c.from_residual.result ≡ None = search rules in
    rw (← c.self.view_is, n, ← c.node_at.ensures, c.in_err-node.was) none

pub returns : goal.returns
returns c =
    let n = number_down (heap_of c.self.inside.nodes) c.self.inside.index.entries c.self.inside.next (folded_path (parts_of c.args.path.now)) c.self.invariant.is_tree in
    rw (← c.self.view_is, n, ← c.node_at.ensures, c.in_ok-node.was) refl
