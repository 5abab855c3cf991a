use Rattle.std.proofs.Common.{refl}
use Rattle.smb_ntlm.specs.Tokens.{element_of, ask_token}
use Rattle.smb_ntlm.proofs.token.ask_token.Goals as goal

pub returns : goal.returns
unfolding ask_token element_of
returns c = refl
