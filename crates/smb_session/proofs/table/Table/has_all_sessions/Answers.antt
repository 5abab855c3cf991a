use Rattle.std.proofs.Common.{◌≡◌, ◌<◌, true, nat_le, sym, ◌∙◌, arith}
use Rattle.std.proofs.lemmas.Bool.Decides.{nat_tests}
use Rattle.smb_session.proofs.Steps.{full_unknown, full_then, full_else}
use Rattle.smb_session.proofs.table.Table.has_all_sessions.Goals as goal

pub returns-in-None : goal.returns-in-None
returns-in-None c = rw (← c.self.view_is) (full_unknown _ _ _ c.args.connection (sym c.in-None.ensures.value))

pub returns-then-len-ge-MOST_SESSIONS : goal.returns-then-len-ge-MOST_SESSIONS
returns-then-len-ge-MOST_SESSIONS c =
    let full = c.if-len-ge-MOST_SESSIONS.true in
    let t : nat_le 16 c.len.result ≡ true = grind (arith, nat_tests) in
    rw (← c.self.view_is) (t ∙ full_then _ _ _ c.args.connection _ _ c.self.invariant (sym c.in-Some.ensures.value) c.len.ensures.len full)

pub returns-else-len-ge-MOST_SESSIONS : goal.returns-else-len-ge-MOST_SESSIONS
returns-else-len-ge-MOST_SESSIONS c =
    let room = c.if-len-ge-MOST_SESSIONS.false in
    let less : c.len.result < 16 = omega arith in
    rw (← c.self.view_is) (full_else _ _ _ c.args.connection _ _ c.self.invariant (sym c.in-Some.ensures.value) c.len.ensures.len less)
