use Rattle.smb_info.proofs.ListingRuns.{in_full, nothing_left_out, goes_on}
use Rattle.smb_info.proofs.Listed.{only_matched}
use Rattle.smb_info.proofs.laws.laws_of_listings.Goals as goal

pub returns-clause-full : goal.returns-clause-full
returns-clause-full c = in_full

pub returns-clause-left : goal.returns-clause-left
returns-clause-left c = nothing_left_out

pub returns-clause-next : goal.returns-clause-next
returns-clause-next c = goes_on

pub returns-clause-only : goal.returns-clause-only
returns-clause-only c = only_matched
