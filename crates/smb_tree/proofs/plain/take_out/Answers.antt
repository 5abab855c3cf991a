use Rattle.std.proofs.Common.{◌≡◌, length, rules, ap, ◌∙◌}
use Rattle.smb_tree.specs.Entries.{allocation_size}
use Rattle.smb_tree.proofs.Spaces.{space_removed}
use Rattle.smb_tree.proofs.plain.take_out.Goals as goal

pub returns-clause-space : goal.returns-clause-space
returns-clause-space c =
    let long : c.len.result ≡ length c.remove-stored.result.bytes.items = search rules in
    let space : c.allocation_size.result ≡ allocation_size (length c.remove-stored.result.bytes.items) = c.allocation_size.ensures ∙ ap allocation_size long in
    rw (c.remove-stored.ensures.items, space) (space_removed c.args.entries.now.items c.args.place c.remove-stored.result c.requires c.remove-stored.ensures.value)
