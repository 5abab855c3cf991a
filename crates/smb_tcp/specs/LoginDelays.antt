-- For the proofs; nothing here need be believed.
-- How long pieces of an address are kept back behind wrong passwords.
use Rattle.std.specs.Prelude.{ℕ, ◌-◌, ◌*◌, ◌^◌, ◌==◌, nat_lt, min, if◌then◌else◌, is_some, take, List, Option, None, Some}
use Rattle.std.specs.List.{find}
use Rattle.std.specs.Duration.{as_nanos}
use Rattle.smb_tcp.specs.declared.login_delay.Tries.{Tries}

-- by so many wrong passwords, in seconds: not at all by fewer than five, then one, doubled by each further one, up to a
-- minute
abbrev pub seconds_by : ℕ → ℕ
seconds_by wrong = if nat_lt wrong 5 then 0 else min (2 ^ (wrong - 5)) 60

-- how many wrong passwords there are still at a moment, in nanoseconds: none behind a minute without another one
abbrev pub wrong_at : ℕ → Tries → ℕ
wrong_at now tries = if nat_lt (now - as_nanos tries.last) 60_000_000_000 then tries.wrong else 0

-- how long pieces are kept back from a moment on, in nanoseconds
abbrev pub left_at : ℕ → Tries → ℕ
left_at now tries = seconds_by tries.wrong * 1_000_000_000 - (now - as_nanos tries.last)

-- what is kept in mind of an address, by its key, in a list whose newest is first
abbrev pub tries_of : ℕ → List Tries → Option Tries
tries_of key list = find (λ tries. tries.key == key) list

-- a number of what is kept in mind, 0 where that is nothing
abbrev pub number_of : (Tries → ℕ) → Option Tries → ℕ
number_of number None = 0
number_of number (Some tries) = number tries

-- what stays in mind beside an address: all where it was in mind already, else the newest, so that 4,096 are in mind
-- with it
abbrev pub kept_beside : ℕ → List Tries → List Tries
kept_beside key list = if is_some (tries_of key list) then list else take 4095 list
