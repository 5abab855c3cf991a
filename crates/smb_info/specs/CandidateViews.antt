-- For the proofs; nothing here need be believed.
-- A candidate as it is handed on.
use Rattle.smb_wire.specs.Units.{units_of}
use Rattle.smb_tree.specs.Views.{shown}
use Rattle.smb_info.specs.Candidates.{Candidate}
use Rattle.smb_info.specs.Places.{behind_of}
use Rattle.smb_info.specs.declared.candidate.CandidateView.{CandidateView}

-- a candidate, without where its names lie in memory
abbrev pub candidate : CandidateView → Candidate
candidate view = record {
  behind = behind_of view.listed (units_of view.name);
  name = units_of view.name;
  entry = shown view.entry;
}
