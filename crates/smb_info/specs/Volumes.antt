-- A volume as it is handed in.
use Rattle.smb_info.specs.FileSystemInformation.{VolumeFacts}
use Rattle.smb_info.specs.declared.volume.Volume.{Volume}

-- a volume, without where its label lies in memory
abbrev pub volume_facts : Volume → VolumeFacts
volume_facts volume = record {
  created = volume.created;
  label = volume.label.now;
  capacity = volume.capacity;
  used = volume.used;
}
