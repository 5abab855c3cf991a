use Rattle.smb_head.proofs.Signing.{without_keys, sent_messages}
use Rattle.smb_head.proofs.reply.laws_of_replies.Goals as goal

pub returns-clause-unsigned : goal.returns-clause-unsigned
returns-clause-unsigned c = without_keys

pub returns-clause-signed : goal.returns-clause-signed
returns-clause-signed c = sent_messages
