use Rattle.smb_body.specs.Create.{create_response_fields}
use Rattle.smb_body.proofs.ReplyLemmas.{joined_alone}
use Rattle.smb_body.proofs.reply.put_reply.Goals as goal

pub returns-in_ok-put_negotiate_response-in-Negotiate-clause-ok : goal.returns-in_ok-put_negotiate_response-in-Negotiate-clause-ok
returns-in_ok-put_negotiate_response-in-Negotiate-clause-ok c = rw c.in-Negotiate.is c.in_ok-put_negotiate_response-in-Negotiate.ensures.ok

pub returns-in_ok-put_negotiate_response-in-Negotiate-clause-fits : goal.returns-in_ok-put_negotiate_response-in-Negotiate-clause-fits
returns-in_ok-put_negotiate_response-in-Negotiate-clause-fits c = rw c.in-Negotiate.is c.in_ok-put_negotiate_response-in-Negotiate.ensures.fits

pub returns-in_ok-put_create_response-in-Create-clause-ok : goal.returns-in_ok-put_create_response-in-Create-clause-ok
returns-in_ok-put_create_response-in-Create-clause-ok c =
    rw c.in-Create.is (joined_alone c.args.out.now.items _ (create_response_fields c.in-Create.r) c.in_ok-put_create_response-in-Create.ensures.ok)
