-- For the proofs; nothing here need be believed.
-- The bytes of a file to which something was done.
use Rattle.std.specs.Prelude.{ℕ, List, [], ◌++◌, take, drop}
use Rattle.smb_journal_file.specs.declared.done.Done.{Done, Added', Cut'}
use Rattle.smb_journal_file.specs.declared.done.Done.TheVariants.{Nothing}

-- what was read and written, one behind the other, but for what was cut off
abbrev pub bytes_of : Done → List ℕ
bytes_of Nothing = []
bytes_of (Added' marker before begin bytes) = bytes_of before ++ drop begin bytes.value.items
bytes_of (Cut' marker before size) = take size (bytes_of before)
