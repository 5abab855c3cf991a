use Rattle.std.proofs.Common.{[], ◌++◌, length, refl}
use Rattle.std.proofs.lemmas.List.{drop_at}
use Rattle.smb_wire.specs.Fields.{joined}
use Rattle.smb_wire.proofs.FieldTables.{stand_behind, length-joined}
use Rattle.smb_wire.proofs.fields.laws_of_fields.Goals as goal

pub returns-clause-stand : goal.returns-clause-stand
returns-clause-stand c = λ front fields rest o f. rw (drop_at front (joined fields ++ rest) (length front) refl) (stand_behind [] fields rest 0 refl o f)

pub returns-clause-width : goal.returns-clause-width
returns-clause-width c = length-joined
