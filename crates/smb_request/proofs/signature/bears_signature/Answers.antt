use Rattle.smb_request.proofs.Signed.{same_test, signature_field}
use Rattle.smb_request.proofs.signature.bears_signature.Goals as goal

pub returns : goal.returns
returns c = same_test c.has_signed_known.result (signature_field c.args.request.now) c.has_signed_known.ensures
