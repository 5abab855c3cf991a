use Rattle.std.proofs.Common.{◌∙◌, ap, sym}
use Rattle.smb_head.specs.Replies.{Held}
use Rattle.smb_head.proofs.Signing.{without_keys}
use Rattle.smb_head.proofs.reply.ReplyChain.finish.Goals as goal

pub returns-clause-joined : goal.returns-clause-joined
returns-clause-joined c = λ replies h none. ap (λ (k : Held). k.bytes) (c.self.view_is ∙ h) ∙ sym (without_keys replies none)
