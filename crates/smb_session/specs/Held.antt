-- For the proofs; nothing here need be believed.
-- What the table holds besides: for each connection the numbers of its sessions. And what a window holds.
use Rattle.std.specs.Prelude.{◌≡◌, ◌≤◌, ℕ, ◌+◌, ◌-◌, Bool, nat_le, min, max, List, drop, length, map}
use Rattle.std.specs.Option.{option_map_or}
use Rattle.std.specs.List.{AllByRecursion}
use Rattle.std.specs.Map.{lookup}
use Rattle.std.specs.BTreeMap.{is_at}
use Rattle.std.specs.Ordering.{nat_cmp}
use Rattle.smb_session.specs.Numbers.{without_number}
use Rattle.smb_session.specs.Window.{WindowState, GoodWindow}
use Rattle.smb_session.specs.Session.{SessionState}
use Rattle.smb_session.specs.Table.{TableState, numbers_on, changed_at, session_ended}
use Rattle.smb_session.specs.Good.{GoodTable}

-- the table, without its index
abbrev pub table_of : List (ℕ × List ℕ) → List (ℕ × SessionState) → ℕ → TableState
table_of index sessions next = record { connections = map (λ e. e.0) index; sessions = sessions; next = next }

-- the index without a session that stands
abbrev pub index_without : List (ℕ × List ℕ) → List (ℕ × SessionState) → ℕ → List (ℕ × List ℕ)
index_without index sessions number = option_map_or
    (λ session. changed_at (λ numbers. without_number numbers number) session.connection index)
    (lookup (is_at (nat_cmp number)) sessions) index

-- the table as it was before its last session began
abbrev pub withdrawn : TableState → TableState
withdrawn table = record (session_ended table (table.next - 1)) { next = table.next - 1 }

-- the table is good, and the index has each connection's sessions
pub record IsHeld (index : List (ℕ × List ℕ)) (sessions : List (ℕ × SessionState)) (next : ℕ) : Type 0 where
  pub good : GoodTable (table_of index sessions next)
  pub indexed : AllByRecursion (λ e. e.1 ≡ numbers_on sessions e.0) index

-- two runs of numbers, each a first number and how many, have none in common
abbrev pub are_apart : ℕ × ℕ → ℕ × ℕ → Bool
are_apart one other = nat_le (min (one.0 + one.1) (other.0 + other.1)) (max one.0 other.0)

-- the window of numbers, of which so many at the front were used
abbrev pub window_of : List ℕ → ℕ → ℕ → WindowState
window_of numbers used next = record { usable = drop used numbers; next = next }

-- the window is good, and no more numbers were used than are kept
pub record KeepsWindow (numbers : List ℕ) (used next : ℕ) : Type 0 where
  pub good : GoodWindow (window_of numbers used next)
  pub within : used ≤ length numbers
