-- The record of the calls on peers and on a clock.
use Rattle.std.specs.Prelude.{◌≡◌, ℕ, Bool, true, false, ◌==◌, List, [], Option, Some, count_by, if◌then◌else◌}
use Rattle.std.specs.List.{flat_map}

-- what some calls do to a record: if it is complete after them, it was complete before them, and this holds
abbrev pub Keeping : Bool → Bool → Type 0 → Type 0
Keeping kept keeps Holds = keeps ≡ true → (kept ≡ true) × Holds

-- a call on peers with its answer: of `next` that a connection was opened, that a piece of its stream came, that it ended,
-- or that nothing came; of a `send` how many bytes were offered, and which of them were taken, none where it failed; and a `close`
pub data PeerCall : Type 0 where
  next_opened : ℕ → PeerCall
  next_bytes : ℕ → List ℕ → PeerCall
  next_ended : ℕ → PeerCall
  next_idle : PeerCall
  send : ℕ → ℕ → Option (List ℕ) → PeerCall
  close : ℕ → PeerCall

-- the bytes that came of a number
abbrev pub sent_by : ℕ → List PeerCall → List ℕ
sent_by number calls = flat_map
    (λ call. elim call as (λ c. List ℕ) [ next_bytes other piece ↦ if other == number then piece else [] | _ ↦ [] ])
    calls

-- the bytes that were taken for a number
abbrev pub taken_by : ℕ → List PeerCall → List ℕ
taken_by number calls = flat_map
    (λ call. elim call as (λ c. List ℕ) [
      | send other offered (Some bytes) ↦ if other == number then bytes else []
      | _ ↦ []
    ])
    calls

-- how often calls closed a number
abbrev pub closes_of : ℕ → List PeerCall → ℕ
closes_of number calls = count_by
    (λ call. elim call as (λ c. Bool) [ close other ↦ other == number | _ ↦ false ])
    calls
