-- For the proofs; nothing here need be believed.
-- What is left of a listing behind one of its entries.
use Rattle.std.specs.Prelude.{ℕ, ◌-◌, List, [], ◌∷◌, nat_le, if◌then◌else◌}
use Rattle.smb_info.specs.Candidates.{Candidate}
use Rattle.smb_info.specs.Parts.{entry_length, distance, Sought}
use Rattle.smb_info.specs.Cursors.{matched}
use Rattle.smb_info.specs.declared.directory_class.DirectoryInformationClass.{DirectoryInformationClass}

-- what is wanted of the candidates behind an entry that was given
unfoldable pub rest_of : Sought → List Candidate → List Candidate
rest_of sought cs = if sought.single then [] else matched sought.pattern cs

-- what fits in a room, taken one by one
unfoldable pub one_by_one : DirectoryInformationClass → ℕ → List Candidate → List Candidate
one_by_one class room [] = []
one_by_one class room (c ∷ cs) =
    if nat_le (entry_length class c.name) room then c ∷ one_by_one class (room - distance class c.name) cs else []
