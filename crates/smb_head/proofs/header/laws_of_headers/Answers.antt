use Rattle.std.proofs.Common.{◌++◌, rules, sym}
use Rattle.smb_wire.specs.Fields.{joined}
use Rattle.smb_head.specs.Headers.{fields, header_of}
use Rattle.smb_head.proofs.Readings.{begins, faultless, spells_header_of, spells_only, spells_begins, written_spells, joined-stand}
use Rattle.smb_head.proofs.header.laws_of_headers.Goals as goal

pub returns-clause-one : goal.returns-clause-one
returns-clause-one c = λ bytes. (
  (λ h. spells_header_of bytes (begins bytes h)),
  (λ header s. (faultless bytes (spells_begins bytes header s), spells_only bytes header s)),
)

pub returns-clause-written : goal.returns-clause-written
returns-clause-written c = λ header rest fit.
    let s = written_spells header rest fit in
    let bytes = joined (fields header) ++ rest in
    (faultless bytes (spells_begins bytes header s), sym (spells_only bytes header s))

pub returns-clause-read : goal.returns-clause-read
returns-clause-read c = λ bytes each h.
    joined-stand bytes 0 (fields (header_of bytes)) each (search rules) (spells_header_of bytes (begins bytes h))
