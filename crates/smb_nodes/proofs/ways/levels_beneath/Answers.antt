use Rattle.std.proofs.Common.{◌≡◌, ◌-◌, ℕ, List, false, unwrap_or, arith, sym, ap, ◌∙◌, subst}
use Rattle.smb_nodes.specs.Nodes.{IsTree, levels, rows_in}
use Rattle.smb_nodes.specs.Seen.{heap_of}
use Rattle.smb_nodes.specs.Tree.{IsBound}
use Rattle.smb_nodes.specs.Ways.{NoneBelow, levels_below}
use Rattle.smb_nodes.proofs.Distances.{below_none, below_bound}
use Rattle.smb_nodes.proofs.ways.levels_beneath.Goals as goal

pub returns-then-not-has_child-clause-below : goal.returns-then-not-has_child-clause-below
returns-then-not-has_child-clause-below c =
    let none : c.has_child.result ≡ false = grind (arith, c.if-not-has_child.true) in
    λ (index : List (ℕ × ℕ)) (next : ℕ) (t : IsTree (heap_of c.args.nodes.now) index next) _. below_none (heap_of c.args.nodes.now) index next t c.args.top c.requires (c.has_child.ensures.none none)

pub returns-clause-below : goal.returns-clause-below
returns-clause-below c =
    let is : c.saturating_sub.result ≡ c.args.deepest - unwrap_or (levels_below (heap_of c.args.nodes.now) levels 0 c.args.top) 0 = c.saturating_sub.ensures ∙ ap (λ (n : ℕ). c.args.deepest - n) c.depth_of.ensures.depth in
    λ (index : List (ℕ × ℕ)) (next : ℕ) (t : IsTree (heap_of c.args.nodes.now) index next) (w : IsBound c.args.deepest (rows_in (heap_of c.args.nodes.now) levels index)). subst (NoneBelow (heap_of c.args.nodes.now) c.args.top) (sym is) (below_bound (heap_of c.args.nodes.now) index next t c.args.top c.requires c.args.deepest w)
