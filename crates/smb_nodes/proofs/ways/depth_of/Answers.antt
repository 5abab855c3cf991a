use Rattle.std.specs.Prelude.{◌≡◌, ◌<◌, ◌≤◌, ℕ, Option, None, Some, IfSome, unwrap_or}
use Rattle.std.proofs.Common.{arith, ◌∙◌}
use Rattle.smb_nodes.specs.Nodes.{levels-is}
use Rattle.smb_nodes.proofs.ways.depth_of.Goals as goal

few_or : (o : Option ℕ) (k : ℕ) → k ≡ 33 → IfSome o (λ b. b < k) → unwrap_or o 0 ≤ 32
few_or None k e h = omega arith
few_or (Some b) k e h = omega (arith, e, h)

pub returns-clause-few : goal.returns-clause-few
returns-clause-few c = rw c.unwrap_or.ensures (few_or c.levels_below.result c.most_levels.result (c.most_levels.ensures ∙ levels-is) c.levels_below.ensures.few)
