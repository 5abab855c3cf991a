use Rattle.smb_ntlm.proofs.Challenges.{challenge_put}
use Rattle.smb_ntlm.proofs.messages.put_challenge.Goals as goal

pub returns : goal.returns
returns c = challenge_put c.args.out.now.items c.put_head.new.out.items c.put_target.new.out.items c.args.flags c.args.challenge.now c.in_ok-put_head.ensures c.in_ok-put_target.ensures
