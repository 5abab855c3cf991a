use Rattle.std.proofs.Common.{Some, sym, ap, ◌∙◌}
use Rattle.std.specs.Option.{option_map}
use Rattle.smb_wire.specs.Paths.{folded_path}
use Rattle.smb_wire.specs.PathViews.{parts_of}
use Rattle.smb_tree.specs.Content.{entry_at}
use Rattle.smb_tree.specs.Views.{shown}
use Rattle.smb_access.proofs.Trees.{above_seen, none_there, reached_told, seen_target, target_seen}
use Rattle.smb_access.proofs.look.find_with_above.Goals as goal

pub unreachable-requires : goal.unreachable-requires
unreachable-requires g c =
    none_there (entry_at (g.T.Tree.content c.args.tree.now).rows (folded_path (parts_of c.args.path.now))) c.in-Some.number
    (ap (option_map seen_target) c.in_default-entry.ensures ∙ target_seen _ _ _ c.requires.apart (sym c.in-Some.ensures)) (sym c.in-Some.ensures)

pub returns-clause-target : goal.returns-clause-target
returns-clause-target g c = ap Some c.target_of.ensures ∙ ap (option_map seen_target) c.in-Some-entry.ensures ∙ target_seen _ _ _ c.requires.apart (sym c.in-Some.ensures)

pub returns-clause-above : goal.returns-clause-above
returns-clause-above g c =
    c.numbered_target-above.ensures
    ∙ above_seen (g.T.Tree.content c.args.tree.now) c.requires (folded_path (parts_of c.args.path.now)) c.in-Some.number (shown c.in-Some-entry.entry) (sym c.in-Some.ensures) c.in-Some-entry.ensures

pub returns-clause-reached : goal.returns-clause-reached
returns-clause-reached g c = reached_told (g.T.Tree.content c.args.tree.now) c.requires (folded_path (parts_of c.args.path.now)) c.numbered_target-above.result (returns-clause-above g c)
