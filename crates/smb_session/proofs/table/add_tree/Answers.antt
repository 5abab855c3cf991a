use Rattle.std.proofs.Common.{sym}
use Rattle.smb_session.specs.Parts.{with_tree}
use Rattle.smb_session.proofs.Entries.{set-changed}
use Rattle.smb_session.proofs.table.add_tree.Goals as goal

pub returns-in-Some-clause-state : goal.returns-in-Some-clause-state
returns-in-Some-clause-state c = rw ((c.get_mut.follows.holds c.add_tree.new.self).0, c.add_tree.ensures.state) (set-changed with_tree c.args.number c.args.sessions.now.entries _ (sym c.in-Some.ensures.value))
