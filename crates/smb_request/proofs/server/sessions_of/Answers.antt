use Rattle.std.proofs.Common.{ap, ◌∙◌}
use Rattle.smb_wire.specs.Pairs.{units_in}
use Rattle.smb_wire.proofs.Pairing.{units_read}
use Rattle.smb_session.specs.Sessions.{new_sessions}
use Rattle.smb_request.proofs.server.sessions_of.Goals as goal

pub returns-in-Ok : goal.returns-in-Ok
returns-in-Ok g c =
    c.in-Ok.ensures.ok ∙ ap (new_sessions c.args.authenticator)
    (c.in-Some.ensures.units ∙ ap units_in (c.deref.ensures.value ∙ c.in_ok-bytes.ensures.bytes) ∙ units_read c.args.name.now c.in_ok-bytes.ensures.fits)
