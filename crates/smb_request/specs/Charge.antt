-- What a request is charged: how many MessageIds it takes ([MS-SMB2] 3.3.5.2.3).
use Rattle.std.specs.Prelude.{ℕ, max, Option, Some, None}
use Rattle.smb_wire.specs.declared.dialect.Dialect.{Dialect}
use Rattle.smb_wire.specs.declared.dialect.Dialect.TheVariants.{Smb202, Smb210}

-- how many MessageIds a request takes, its own and those that follow it: its CreditCharge, and 1 at least, in dialect
-- 2.1; else 1, where that field is reserved ([MS-SMB2] 2.2.1.2)
abbrev pub charge_of : Option Dialect → ℕ → ℕ
charge_of None credit_charge = 1
charge_of (Some Smb202) credit_charge = 1
charge_of (Some Smb210) credit_charge = max credit_charge 1
