use Rattle.std.proofs.Common.{sym}
use Rattle.smb_access.proofs.Keyed.{values_scanned, keyed_scanned, values_unscanned}
use Rattle.smb_access.proofs.plain.PlainOpensOpens.set_scan.Goals as goal

pub invariant_of-self-2 : goal.invariant_of-self-2
invariant_of-self-2 c = rw (c.get_mut.follows.holds _).0 (keyed_scanned _ c.args.number c.args.scan c.in-Some.row.now c.self.invariant (sym c.in-Some.ensures.value))

pub returns : goal.returns
returns c = rw (← c.self.view_is, (c.get_mut.follows.holds _).0) (values_scanned _ c.args.number c.args.scan c.in-Some.row.now c.self.invariant (sym c.in-Some.ensures.value))

pub returns-in_default : goal.returns-in_default
returns-in_default c = rw (← c.self.view_is, c.get_mut.follows.holds-at-none) (sym (values_unscanned _ c.args.number c.args.scan c.self.invariant (sym c.in_default.ensures.value)))
