-- What follows from the definitions of sessions and of windows.
use Rattle.std.specs.Prelude.{◌≡◌, ℕ, ◌<◌, ◌==◌, true, false, List, ◌+◌, [], ◌∷◌, ◌++◌, None, if◌then◌else◌}
use Rattle.std.specs.List.{AllByRecursion}
use Rattle.smb_session.specs.Authenticator.{Answered}
use Rattle.smb_session.specs.Good.{GoodTable}
use Rattle.smb_session.specs.Numbers.{contains}
use Rattle.smb_session.specs.Session.{SessionState}
use Rattle.smb_session.specs.Setup.{table_answered}
use Rattle.smb_session.specs.Table.{TableState, connected, session_ended, session_changed, knows_session, end_connection_step}
use Rattle.smb_session.specs.Window.{WindowState, may_use, without_ids, with_more, GoodWindow}

-- the session that is set up: SessionId 0 asks for a new one
abbrev pub setup_number : TableState → ℕ → ℕ
setup_number table session = if session == 0 then table.next else session

-- the table as the authenticator is asked: a new session has begun, with no user yet and no tree, and its first tree
-- will be 1 (3.3.5.5.1)
abbrev pub setup_table : TableState → ℕ → ℕ → TableState
setup_table table connection session =
    let fresh : SessionState = record {
      connection = connection;
      user = None;
      read_only = false;
      signing = None;
      trees = [];
      next_tree = 1;
    } in
    if session == 0
    then record table { sessions = table.sessions ++ (table.next, fresh) ∷ []; next = table.next + 1 }
    else table

-- a number that was given to a session, and is none's now
pub record IsGone (table : TableState) (session : ℕ) : Type 0 where
  pub given : session < table.next
  pub unused : AllByRecursion (λ e. (e.0 == session) ≡ false) table.sessions

-- a session that was ended, logged off or denied is gone
abbrev pub WhatEndedIsGone : Type 0
WhatEndedIsGone = (table : TableState) (session : ℕ) → GoodTable table → session < table.next → IsGone (session_ended table session) session

-- whoever names a session that is gone is not known; and its number stays gone when a connection comes, a session begins,
-- ends or changes, a connection ends, or an authenticator's answer is performed: no number is given to two sessions
abbrev pub WhatIsGoneStaysGone : Type 0
WhatIsGoneStaysGone =
    (table : TableState) (session : ℕ) → IsGone table session →
    ((connection : ℕ) → knows_session table connection session ≡ false)
    × ((connection : ℕ) → IsGone (connected table connection) session)
    × ((connection : ℕ) → IsGone (setup_table table connection 0) session)
    × ((other : ℕ) → IsGone (session_ended table other) session)
    × ((change : SessionState → SessionState) (other : ℕ) → IsGone (session_changed change table other) session)
    × ((connection : ℕ) → IsGone (end_connection_step table connection).table session)
    × ((connection other previous : ℕ) (answer : Answered) →
    IsGone (table_answered (setup_table table connection other) (setup_number table other) previous answer) session)

-- A MESSAGEID IS USED ONCE

-- a MessageId that was granted, and is no more in the window
pub record IsUsed (window : WindowState) (id : ℕ) : Type 0 where
  pub granted : id < window.next
  pub gone : contains window.usable id ≡ false

-- each MessageId that a chain takes is used, of however many credits its requests are
abbrev pub WhatIsTakenIsUsed : Type 0
WhatIsTakenIsUsed =
    (window : WindowState) (ids : List ℕ) (id : ℕ) → GoodWindow window → may_use window ids ≡ true → contains ids id ≡ true → IsUsed (without_ids window ids) id

-- a used MessageId stays used, whatever MessageIds chains take and responses grant afterwards; and a chain that names one
-- is not let in
abbrev pub WhatIsUsedStaysUsed : Type 0
WhatIsUsedStaysUsed =
    (window : WindowState) (id : ℕ) → IsUsed window id →
    ((ids : List ℕ) → IsUsed (without_ids window ids) id) × ((count : ℕ) → IsUsed (with_more window count) id)
    × ((ids : List ℕ) → contains ids id ≡ true → may_use window ids ≡ false)
