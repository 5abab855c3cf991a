-- What a SET_INFO asks, as it is read.
use Rattle.smb_wire.specs.Units.{units_of}
use Rattle.smb_info.specs.SetInformation.{SetAsked, asks_basic, asks_rename, asks_mark, asks_allocation, asks_end}
use Rattle.smb_info.specs.declared.set_info.SetAsk.{SetAsk}
use Rattle.smb_info.specs.declared.set_info.SetAsk.TheVariants.{Basic, Rename, Mark, Allocation, End}

-- a value, without where its name lies in memory
abbrev pub set_asked : SetAsk → SetAsked
set_asked (Basic basic) = asks_basic basic
set_asked (Rename replace name) = asks_rename replace (units_of name)
set_asked (Mark mark) = asks_mark mark
set_asked (Allocation size) = asks_allocation size
set_asked (End size) = asks_end size
