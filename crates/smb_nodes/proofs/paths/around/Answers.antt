use Rattle.std.proofs.Common.{ℕ, ◌-◌, ap, ◌∙◌}
use Rattle.smb_wire.specs.Paths.{folded_path}
use Rattle.smb_wire.specs.PathViews.{parts_of}
use Rattle.smb_tree.proofs.Keys.{parent_folded}
use Rattle.smb_nodes.proofs.paths.around.Goals as goal

pub returns : goal.returns
returns c =
    ap folded_path c.front.ensures ∙ parent_folded (parts_of c.args.path.now) c.saturating_sub.result (c.saturating_sub.ensures ∙ ap (λ (n : ℕ). n - 1) c.len.ensures.len)
