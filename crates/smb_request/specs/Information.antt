-- For the proofs; nothing here need be believed.
-- What the code holds of an information class, and of what is refused before one is looked at.
use Rattle.std.specs.Prelude.{◌≡◌, ◌≢◌, ℕ, Option, Some, None}
use Rattle.smb_info.specs.declared.fault.InfoFault.{InfoFault}
use Rattle.smb_info.specs.declared.fault.InfoFault.TheVariants.{NoMemory}
use Rattle.smb_info.specs.Information.{Information, told, information_written, info_fault}
use Rattle.smb_request.specs.declared.query_info.InformationBytes.{InformationBytes}

-- what is answered of information
pub record IsToldOf (information : Option Information) (room : ℕ) (it : InformationBytes) : Type 0 where
  pub bytes : it.bytes.items ≡ told information room
  pub written : it.written ≡ information_written information room
  pub lawful : info_fault information room ≡ None

-- why nothing is answered; memory may be wanted at any time
abbrev pub IsWhy : Option Information → ℕ → InfoFault → Type 0
IsWhy information room fault = fault ≢ NoMemory → info_fault information room ≡ Some fault
