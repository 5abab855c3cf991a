use Rattle.smb_name_laws.proofs.KeptOut.{refuses, by_bits, not_refused, after_close}
use Rattle.smb_name_laws.proofs.sharing.laws_of_sharing.Goals as goal

pub returns : goal.returns
returns c = record { not_granted = refuses; bits = by_bits; shares = not_refused; after_close = after_close }
