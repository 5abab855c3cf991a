use Rattle.std.proofs.Common.{refl}
use Rattle.smb_ntlm.specs.Tokens.{element_of, hello_token}
use Rattle.smb_ntlm.proofs.token.hello_token.Goals as goal

pub returns-clause-value : goal.returns-clause-value
unfolding hello_token element_of
returns-clause-value c = refl
