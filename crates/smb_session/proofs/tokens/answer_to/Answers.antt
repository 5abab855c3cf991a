use Rattle.std.proofs.Common.{sym}
use Rattle.smb_session.proofs.Users.{name_found}
use Rattle.smb_session.proofs.tokens.answer_to.Goals as goal

pub accept-requires-clause-user : goal.accept-requires-clause-user
accept-requires-clause-user c = rw c.deref.ensures.value (name_found c.args.token.now c.args.users.now _ c.requires (sym c.in-Some.ensures))
