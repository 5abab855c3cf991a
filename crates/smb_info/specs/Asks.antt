-- What is asked of a directory, as it is handed in.
use Rattle.smb_wire.specs.Units.{units_of}
use Rattle.smb_info.specs.Queries.{ListAsked}
use Rattle.smb_info.specs.declared.scan.ListAsk.{ListAsk}

-- what is asked, without where its pattern lies in memory
abbrev pub list_asked : ListAsk → ListAsked
list_asked ask = record { class = ask.class; flags = ask.flags.0; pattern = units_of ask.pattern; room = ask.room }
