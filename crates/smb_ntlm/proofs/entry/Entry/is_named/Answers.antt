use Rattle.std.proofs.Common.{◌∙◌, ap}
use Rattle.smb_wire.specs.Pairs.{units_in}
use Rattle.smb_ntlm.specs.Proof.{is_named}
use Rattle.smb_ntlm.proofs.CapitalUnits.{named_by, capitals_even}
use Rattle.smb_ntlm.proofs.entry.Entry.is_named.Goals as goal

pub returns-in_default-of : goal.returns-in_default-of
returns-in_default-of c =
    absurd (capitals_even c.args.self.now.account.name.items c.deref.result.now (c.deref.ensures.value ∙ c.args.self.now.spelled) c.in_default-of.ensures.some)

pub returns : goal.returns
unfolding is_named
returns c =
    rw (← c.in-Some.ensures.some)
    (c.same_name.ensures
    ∙ named_by c.args.user.now c.args.self.now.account.name.items _ _ c.in-Some.ensures.units
    (c.in-Some-of.ensures.units ∙ ap units_in c.deref.ensures.value ∙ c.args.self.now.read))
