use Rattle.std.proofs.Common.{List, map, sym, subst}
use Rattle.smb_session.specs.Authenticator.{IsLawful}
use Rattle.smb_ntlm.specs.declared.entry.Entry.{Entry}
use Rattle.smb_ntlm.specs.Accounts.{AreLawful}
use Rattle.smb_ntlm.specs.Gates.{known_entry, decided}
use Rattle.smb_ntlm.proofs.LoginRows.{ok_then}
use Rattle.smb_ntlm.proofs.Lawful.{answer_lawful}
use Rattle.smb_ntlm.proofs.ntlm.Ntlm.decide.Goals as goal

pub returns-clause-lawful : goal.returns-clause-lawful
returns-clause-lawful c =
    let lawful : AreLawful (map known_entry c.deref.result.now) =
    subst (λ (entries : List Entry). AreLawful (map known_entry entries)) (sym c.deref.ensures.value) c.self.invariant in
    ok_then c.answer_to.result _ (λ decision. IsLawful (decided decision)) c.answer_to.ensures
    (λ decision e. subst IsLawful (sym e) (answer_lawful _ c.args.session c.args.token.now lawful c.ranges.session.fits))
