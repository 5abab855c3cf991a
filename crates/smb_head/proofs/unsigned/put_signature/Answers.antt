use Rattle.std.proofs.Common.{refl}
use Rattle.smb_head.proofs.Sealing.{signature_put, short_stays}
use Rattle.smb_head.proofs.unsigned.put_signature.Goals as goal

pub returns-then-message-ge64-clause-signed : goal.returns-then-message-ge64-clause-signed
returns-then-message-ge64-clause-signed c = λ e.
    signature_put c.args.message c.args.own.now c.args.out.now.items c.set_bytes.new.out.items _ c.requires.order c.requires.within c.if-message-ge64.true refl c.set_bytes.ensures.bytes e

pub returns-else-message-ge64-clause-signed : goal.returns-else-message-ge64-clause-signed
returns-else-message-ge64-clause-signed c = λ e. short_stays c.args.message c.args.out.now.items c.requires.order c.requires.within c.if-message-ge64.false
