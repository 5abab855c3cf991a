-- For the proofs; nothing here need be believed.
-- What a refusal of an information class comes to.
use Rattle.smb_info.specs.declared.fault.InfoFault.{InfoFault}
use Rattle.smb_info.specs.declared.fault.InfoFault.TheVariants.{TooSmall, Unreadable, NoMemory}
use Rattle.smb_refusals.specs.declared.query.QueryInfoRefusal.{QueryInfoRefusal}
use Rattle.smb_refusals.specs.declared.set_info.SetInfoRefusal.{SetInfoRefusal}
use Rattle.smb_refusals.specs.declared.refused_by.RefusedBy.{RefusedBy}
use Rattle.smb_refusals.specs.declared.refused_by.RefusedBy.TheVariants.{Row, NoMemory as NoRoom}

-- of a QUERY_INFO, whose class is unknown, or has no room for its fixed part
abbrev pub query_info_refused : InfoFault → RefusedBy QueryInfoRefusal
query_info_refused NoMemory = NoRoom
query_info_refused TooSmall = Row QueryInfoRefusal.NoRoomForFields
query_info_refused fault = Row QueryInfoRefusal.UnknownClass

-- of the buffer of a SET_INFO, whose class is unknown, which is shorter than its fixed part, or a rename without a name
abbrev pub set_info_refusal : InfoFault → SetInfoRefusal
set_info_refusal TooSmall = SetInfoRefusal.BufferTooShort
set_info_refusal Unreadable = SetInfoRefusal.RenameSaysNoName
set_info_refusal fault = SetInfoRefusal.UnknownClass
