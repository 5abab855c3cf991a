use Rattle.std.proofs.Common.{refl, ◌∙◌}
use Rattle.smb_nodes.proofs.Rooted.{root_alone}
use Rattle.smb_nodes.proofs.first.rooted.Goals as goal

pub returns : goal.returns
returns c =
    root_alone c.in_ok-nodes.nodes c.insert_reserved.new.self _ c.insert_reserved.result c.args.created c.in_ok-nodes.ensures.empty (c.insert_reserved.ensures.key ∙ c.in_ok-nodes.ensures.first_key) c.insert_reserved.ensures.updates (rw (c.new.ensures.items, c.new-3.ensures, c.of.ensures) refl) refl c.new-2.ensures.empty
