-- Why a body is not written.
use Rattle.std.specs.Prelude.{Bool, true, false}
use Rattle.smb_body.specs.declared.fault.BodyFault.{BodyFault}
use Rattle.smb_body.specs.declared.fault.BodyFault.TheVariants.{NoMemory, TooLong}

-- the refusal, where a length passes its field (true) and where none does
abbrev pub body_refusal : Bool → BodyFault
body_refusal true = TooLong
body_refusal false = NoMemory
