use Rattle.std.proofs.Common.{◌≡◌, ◌-◌, length, ap, ◌∙◌, arith}
use Rattle.smb_wire.specs.Paths.{folded_path}
use Rattle.smb_wire.specs.PathViews.{parts_of}
use Rattle.smb_tree.specs.Entries.{is_folder}
use Rattle.smb_tree.specs.Content.{Path, entry_at}
use Rattle.smb_tree.proofs.Keys.{parent_folded}
use Rattle.smb_journaled_tree.proofs.faults.is_in_folder.Goals as goal

pub returns : goal.returns
returns g c =
    let parts = parts_of c.args.path.now in
    let rows = (g.T.Tree.content c.args.tree.now).rows in
    let n : c.saturating_sub.result ≡ length parts - 1 = omega (arith, c.saturating_sub.ensures, c.len.ensures.len) in
    c.is_folder_at.ensures ∙ ap (λ (p : Path). is_folder (entry_at rows p)) (ap folded_path c.front-around.ensures ∙ parent_folded parts c.saturating_sub.result n)
