use Rattle.std.proofs.Common.{sym}
use Rattle.smb_session.specs.Parts.{finished_by}
use Rattle.smb_session.proofs.Entries.{set-changed, changed-none}
use Rattle.smb_session.proofs.table.finish.Goals as goal

pub returns-in-Some : goal.returns-in-Some
returns-in-Some c = rw ((c.get_mut.follows.holds c.finish.new.self).0, c.finish.ensures) (set-changed (finished_by c.args.user.items c.args.read_only c.args.signing) c.args.number c.args.sessions.now.entries _ (sym c.in-Some.ensures.value))

pub returns-in_default : goal.returns-in_default
returns-in_default c = rw c.get_mut.follows.holds-at-none (sym (changed-none (finished_by c.args.user.items c.args.read_only c.args.signing) c.args.number c.args.sessions.now.entries (sym c.in_default.ensures.value)))
