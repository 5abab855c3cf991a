-- The numbers under which faults are printed.
use Rattle.std.specs.Prelude.{ℕ}
use Rattle.smb_head.specs.declared.fault.HeadFault.{HeadFault}
use Rattle.smb_head.specs.declared.fault.HeadFault.TheVariants.{Short, Protocol, Size, Next, TooMany, FromServer, RelatedFirst, NoMemory}

-- H1 to H8
abbrev pub fault_number : HeadFault → ℕ
fault_number Short = 1
fault_number Protocol = 2
fault_number Size = 3
fault_number Next = 4
fault_number TooMany = 5
fault_number FromServer = 6
fault_number RelatedFirst = 7
fault_number NoMemory = 8
