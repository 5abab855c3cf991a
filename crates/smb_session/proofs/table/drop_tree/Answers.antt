use Rattle.std.proofs.Common.{sym}
use Rattle.smb_session.specs.Parts.{without_tree}
use Rattle.smb_session.proofs.Entries.{set-changed, changed-none}
use Rattle.smb_session.proofs.table.drop_tree.Goals as goal

pub returns-in-Some : goal.returns-in-Some
returns-in-Some c = rw ((c.get_mut.follows.holds c.drop_tree.new.self).0, c.drop_tree.ensures) (set-changed (without_tree c.args.tree) c.args.number c.args.sessions.now.entries _ (sym c.in-Some.ensures.value))

pub returns-in_default : goal.returns-in_default
returns-in_default c = rw c.get_mut.follows.holds-at-none (sym (changed-none (without_tree c.args.tree) c.args.number c.args.sessions.now.entries (sym c.in_default.ensures.value)))
