use Rattle.smb_body.specs.Replies.{reply_value}
use Rattle.smb_body.proofs.ReplyLemmas.{reply_size, reply_stands, reply_buffer_stands}
use Rattle.smb_body.proofs.reply.write_reply.Goals as goal

pub returns-in-Ok-clause-len : goal.returns-in-Ok-clause-len
returns-in-Ok-clause-len c = reply_size (reply_value c.args.reply.now) c.args.out.now.items _ c.in-Ok.ensures.fits c.in-Ok.ensures.ok

pub returns-in-Ok-clause-stand : goal.returns-in-Ok-clause-stand
returns-in-Ok-clause-stand c = reply_stands (reply_value c.args.reply.now) c.in-Ok.ensures.fits

pub returns-in-Ok-clause-buffer : goal.returns-in-Ok-clause-buffer
returns-in-Ok-clause-buffer c = reply_buffer_stands (reply_value c.args.reply.now) c.in-Ok.ensures.fits
