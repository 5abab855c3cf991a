-- A session ([MS-SMB2] 3.3.1.8).
use Rattle.std.specs.Prelude.{ℕ, Bool, List, Option}
use Rattle.smb_session.specs.declared.signing.Signing.{Signing}

-- its connection, its user once it is finished, whether it may only read, how its messages are signed, if they are, the
-- numbers of its trees in rising order, and the next tree's number
pub record SessionState : Type 0 where
  pub connection : ℕ
  pub user : Option (List ℕ)
  pub read_only : Bool
  pub signing : Option Signing
  pub trees : List ℕ
  pub next_tree : ℕ
