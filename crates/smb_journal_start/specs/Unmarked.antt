-- What a start leaves of the files of a journal.
use Rattle.std.specs.Prelude.{◌≡◌, ℕ, Option, None, Some, option_and_then, if◌then◌else◌}
use Rattle.std.specs.FinMap.{get}
use Rattle.smb_tree.specs.Content.{Content}
use Rattle.smb_files.specs.Files.{FileEntry, Files}
use Rattle.smb_files.specs.Contents.{files_of}

-- an entry, if it is not marked
abbrev pub unmarked : Option FileEntry → Option FileEntry
unmarked found = option_and_then (λ (entry : FileEntry). if entry.about.mark then None else Some entry) found

-- a content has these files but for those that are marked: these are gone, as they would be with their last open
pub record HasUnmarked (files : Files) (content : Content) : Type 0 where
  pub entries : (number : ℕ) → get (files_of content).entries number ≡ unmarked (get files.entries number)
  pub next : content.next ≡ files.next
