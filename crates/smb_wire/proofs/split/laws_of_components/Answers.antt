use Rattle.smb_wire.proofs.Splits.{joined_components, components_joined}
use Rattle.smb_wire.proofs.split.laws_of_components.Goals as goal

pub returns-clause-joined : goal.returns-clause-joined
returns-clause-joined c = joined_components

pub returns-clause-read : goal.returns-clause-read
returns-clause-read c = components_joined
