use Rattle.smb_ntlm.proofs.TokenBytes.{front_raw, front_first, front_later}
use Rattle.smb_ntlm.proofs.token.Wrapping.front.Goals as goal

pub returns-in-Raw-clause-before : goal.returns-in-Raw-clause-before
returns-in-Raw-clause-before c = λ message e. rw c.in-Raw.is (front_raw message)

pub returns-in-Init-clause-before : goal.returns-in-Init-clause-before
returns-in-Init-clause-before c = λ message e. rw c.in-Init.is (front_first message e)

pub returns-in-Response-clause-before : goal.returns-in-Response-clause-before
returns-in-Response-clause-before c = λ message e. rw c.in-Response.is (front_later message e)
