use Rattle.std.proofs.Common.{sym, ◌∙◌}
use Rattle.smb_wire.specs.Paths.{folded_path}
use Rattle.smb_wire.specs.PathViews.{parts_of}
use Rattle.smb_tree.specs.Views.{shown}
use Rattle.smb_journaled_tree.proofs.Faulting.{no_entry_found, entry_found}
use Rattle.smb_journaled_tree.proofs.faults.is_folder_at.Goals as goal

pub returns-in-None-entry : goal.returns-in-None-entry
returns-in-None-entry g c =
    no_entry_found (g.T.Tree.content c.args.tree.now) (folded_path (parts_of c.args.path.now)) c.in-Some.number c.requires (sym c.find.ensures ∙ c.in-Some.is) c.in-None-entry.ensures

pub returns-in-Some-entry : goal.returns-in-Some-entry
returns-in-Some-entry g c =
    entry_found (g.T.Tree.content c.args.tree.now) (folded_path (parts_of c.args.path.now)) c.in-Some.number (shown c.in-Some-entry.view) c.is_folder.result c.requires (sym c.find.ensures ∙ c.in-Some.is) c.in-Some-entry.ensures c.is_folder.ensures
