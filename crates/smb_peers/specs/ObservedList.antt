-- An observer with a list of what it heard.
use Rattle.std.specs.Prelude.{Bool, List}
use Rattle.smb_peers.specs.declared.observed_list.Heard.{Heard}
use Rattle.smb_peers.specs.declared.observed_list.Heard.TheVariants.{Performed, Responded, Ended}
use Rattle.smb_peers.specs.Observed.{Observed, performed, responded, ended}

-- what it heard, and whether that is all
pub record ListObserverState : Type 0 where
  pub heard : List Observed
  pub keeps : Bool

-- an entry of its list, without where its bytes lie
abbrev pub observed_of : Heard → Observed
observed_of (Performed connection request acting) = performed connection request.items acting
observed_of (Responded connection response) = responded connection response
observed_of (Ended connection ending) = ended connection ending
