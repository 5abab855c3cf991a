use Rattle.std.proofs.Common.{◌∙◌, ap}
use Rattle.smb_ntlm.specs.Login.{guest_user}
use Rattle.smb_ntlm.proofs.login.guest_user.Goals as goal

pub returns : goal.returns
unfolding guest_user
returns c = ap (λ v. v.items) c.into_bytes.ensures.value ∙ c.in_ok-text.ensures.ok
