-- What is listed of a directory behind a place ([MS-FSA] 2.1.5.6.3).
use Rattle.std.specs.Prelude.{ℕ, zero, suc, List, [], length, take, filter, nat_le, if◌then◌else◌}
use Rattle.smb_tree.specs.Content.{Row}
use Rattle.smb_patterns.specs.Patterns.{is_match}
use Rattle.smb_info.specs.Candidates.{Candidate, candidates_behind}
use Rattle.smb_info.specs.DirectoryInformation.{laid}
use Rattle.smb_access.specs.declared.scan.ScanLast.{ScanLast}
use Rattle.smb_info.specs.declared.directory_class.DirectoryInformationClass.{DirectoryInformationClass}

-- of the candidates behind the last one those whose names the pattern matches
unfoldable pub matching : List Row → ℕ → List ℕ → ScanLast → List Candidate
matching rows folder pattern last = filter (λ c. is_match pattern c.name) (candidates_behind rows folder last)

-- of the first so many candidates as many as are laid in the room: all of them, or else what fits of one fewer
unfoldable pub fitting : DirectoryInformationClass → ℕ → List Candidate → ℕ → List Candidate
fitting class room cs zero = []
fitting class room cs (suc n) =
    if nat_le (length (laid class (take (suc n) cs))) room then take (suc n) cs else fitting class room cs n
