use Rattle.std.proofs.Common.{◌∙◌, sym}
use Rattle.smb_body.proofs.LockBytes.{elements_bytes, elements_fit}
use Rattle.smb_body.proofs.lock_list.LockList.bytes.Goals as goal

pub returns-clause-bytes : goal.returns-clause-bytes
returns-clause-bytes c = c.as_flattened.ensures.value ∙ sym (elements_bytes _ c.args.self.lawful)

pub returns-clause-numbers : goal.returns-clause-numbers
returns-clause-numbers c = elements_fit _ c.args.self.lawful
