use Rattle.smb_name_laws.proofs.SetAs.{alone, marks, times, last_writes, only_cuts}
use Rattle.smb_name_laws.proofs.settings.laws_of_settings.Goals as goal

pub returns : goal.returns
returns c = record { alone = alone; marks = marks; times = times; writes = last_writes; allocation = only_cuts }
