use Rattle.std.proofs.Common.{◌∙◌}
use Rattle.smb_signing.proofs.Signed.{put_is_signed, signed_is_accepted}
use Rattle.smb_signing.proofs.key.Key.sign.Goals as goal

pub returns-then-message-ge64-clause-placed : goal.returns-then-message-ge64-clause-placed
returns-then-message-ge64-clause-placed c =
    put_is_signed c.args.self.now.bytes c.args.message.now c.copy_from_slice.new.self c.if-message-ge64.true (c.copy_from_slice.ensures.after ∙ c.signature-signature.ensures)

pub returns-then-message-ge64-clause-accepted : goal.returns-then-message-ge64-clause-accepted
returns-then-message-ge64-clause-accepted c = λ long.
    signed_is_accepted c.args.self.now.bytes c.args.message.now _ long
    (put_is_signed c.args.self.now.bytes c.args.message.now c.copy_from_slice.new.self long (c.copy_from_slice.ensures.after ∙ c.signature-signature.ensures))
