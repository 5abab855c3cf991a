use Rattle.smb_wire.proofs.Numbers.{length-spelling, number-spelling, spelling-each, spells_only, spells_below, put_is_read}
use Rattle.smb_wire.proofs.number.laws_of_numbers.Goals as goal

pub returns-clause-one : goal.returns-clause-one
returns-clause-one c = λ w n. (
  λ h. record { width = length-spelling w n; each = spelling-each w n; sum = number-spelling w n h },
  λ bytes s. (spells_below w n bytes s, spells_only w n bytes s),
)

pub returns-clause-put : goal.returns-clause-put
returns-clause-put c = put_is_read
