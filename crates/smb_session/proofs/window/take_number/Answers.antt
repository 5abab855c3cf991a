use Rattle.smb_session.proofs.Taken.{taken, not_taken}
use Rattle.smb_session.proofs.window.take_number.Goals as goal

pub returns-in-Some : goal.returns-in-Some
returns-in-Some c = taken c.args.number c.args.numbers.now.items c.remove.new.self.items c.in-Some.place c.requires (c.in-Some.ensures {u = tt}) c.remove.ensures.items

pub returns-in_default : goal.returns-in_default
returns-in_default c = not_taken c.args.number c.args.numbers.now.items (c.in_default.ensures {u = tt})
