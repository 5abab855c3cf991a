use Rattle.std.proofs.Common.{◌≡◌, ℕ, ◌-◌, length, ap, ◌∙◌, arith, Option}
use Rattle.std.specs.Prelude.{unwrap_or}
use Rattle.smb_wire.specs.Paths.{folded_path}
use Rattle.smb_wire.specs.PathViews.{parts_of}
use Rattle.smb_tree.specs.Content.{number_at}
use Rattle.smb_tree.proofs.Keys.{parent_folded}
use Rattle.smb_journaled_tree.proofs.faults.parent_of.Goals as goal

pub returns : goal.returns
returns g c =
    let parts = parts_of c.args.path.now in
    let rows = (g.T.Tree.content c.args.tree.now).rows in
    let n : c.saturating_sub.result ≡ length parts - 1 = omega (arith, c.saturating_sub.ensures, c.len.ensures.len) in
    c.unwrap_or.ensures ∙ ap (λ (o : Option ℕ). unwrap_or o 0)
    (c.find.ensures ∙ ap (number_at rows) (ap folded_path c.front-around.ensures ∙ parent_folded parts c.saturating_sub.result n))
