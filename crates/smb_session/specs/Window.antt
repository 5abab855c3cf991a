-- The message window of a connection: the MessageIds that its client may use ([MS-SMB2] 3.3.1.1, 3.3.5.2.3).
use Rattle.std.specs.Prelude.{ℕ, zero, suc, ◌+◌, ◌-◌, ◌<◌, ◌≤◌, Bool, true, ◌&&◌, not, List, [], ◌∷◌, ◌++◌, length, filter, min, max}
use Rattle.std.specs.List.{list_all, flat_map, AllByRecursion}
use Rattle.smb_wire.specs.Limits.{most_credits}
pub use Rattle.smb_session.specs.Numbers.{contains}
use Rattle.smb_session.specs.Numbers.{IsRising}

-- the numbers that may be used, in rising order, and the next number to be granted
pub record WindowState : Type 0 where
  pub usable : List ℕ
  pub next : ℕ

-- a window of one number
abbrev pub first_window : ℕ → WindowState
first_window first = record { usable = first ∷ []; next = first + 1 }

-- no number stands twice
abbrev pub are_distinct : List ℕ → Bool
are_distinct [] = true
are_distinct (n ∷ numbers) = not (contains numbers n) && are_distinct numbers

-- the numbers of a chain may be used: they are distinct, and the window has each of them
abbrev pub may_use : WindowState → List ℕ → Bool
may_use window numbers = are_distinct numbers && list_all (contains window.usable) numbers

-- the window when numbers have left it
abbrev pub without_ids : WindowState → List ℕ → WindowState
without_ids window numbers = record window { usable = filter (λ n. not (contains numbers n)) window.usable }

-- how many numbers a request for credits is granted: as many as asked and 1 at least, as far as the window
-- then has at most 256, and none past 2 ^ 64 - 2
abbrev pub credits_granted : WindowState → ℕ → ℕ
credits_granted window credits = min (max credits 1) (min (most_credits - length window.usable) (18446744073709551615 - window.next))

-- so many numbers from the first upward
abbrev pub upward : ℕ → ℕ → List ℕ
upward first zero = []
upward first (suc count) = first ∷ upward (first + 1) count

-- the numbers of requests that each begin at one and take so many ([MS-SMB2] 3.3.5.2.3)
abbrev pub numbers_of : List (ℕ × ℕ) → List ℕ
numbers_of runs = flat_map (λ run. upward run.0 run.1) runs

-- the window when the next numbers were granted, so many
abbrev pub with_more : WindowState → ℕ → WindowState
with_more window count = record { usable = window.usable ++ upward window.next count; next = window.next + count }

-- what holds of every window between calls: at most 256 numbers may be used, they rise, and all are below the next
pub record GoodWindow (window : WindowState) : Type 0 where
  pub few : length window.usable ≤ most_credits
  pub rising : IsRising window.usable
  pub below : AllByRecursion (λ n. n < window.next) window.usable
