use Rattle.std.proofs.Common.{refl, inl, inr}
use Rattle.smb_ntlm.specs.Tokens.{element_of, last_token}
use Rattle.smb_ntlm.proofs.token.Wrapping.last_token.Goals as goal

pub returns-in-Raw : goal.returns-in-Raw
unfolding last_token
returns-in-Raw c = rw c.in-Raw.is refl

pub returns-in-Init : goal.returns-in-Init
unfolding last_token element_of
returns-in-Init c = elim c.in-Init.is [ inl e ↦ rw e refl | inr e ↦ rw e refl ]
