use Rattle.std.proofs.Common.{◌∙◌, sym}
use Rattle.smb_wire.proofs.Pairing.{all_bytes, all_fit}
use Rattle.smb_wire.proofs.units.Units.bytes.Goals as goal

pub returns-clause-bytes : goal.returns-clause-bytes
returns-clause-bytes c = c.as_flattened.ensures.value ∙ sym (all_bytes _ c.args.self.lawful)

pub returns-clause-units : goal.returns-clause-units
returns-clause-units c = λ i. all_fit _ i c.args.self.lawful
