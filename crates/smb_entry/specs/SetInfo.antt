-- What a SET_INFO sets of a file or a folder ([MS-SMB2] 3.3.5.21.1, [MS-FSA] 2.1.5.15).
use Rattle.std.specs.Prelude.{ℕ, ◌-◌, ◌^◌, ◌==◌, ◌||◌, ◌&&◌, Bool, not, nat_lt, if◌then◌else◌}

-- what is asked for is no time: it is over 2^63 - 1, and neither -1 nor -2 in 64 bits ([MS-FSCC] 2.4.7)
abbrev pub is_bad_time : ℕ → Bool
is_bad_time time = nat_lt (2 ^ 63 - 1) time && not (time == 2 ^ 64 - 1) && not (time == 2 ^ 64 - 2)

-- a time as it is asked for, by what it was: 0, or -1 or -2 in 64 bits, leaves it as it is ([MS-FSCC] 2.4.7)
abbrev pub time_set : ℕ → ℕ → ℕ
time_set asked before = if asked == 0 || asked == 2 ^ 64 - 1 || asked == 2 ^ 64 - 2 then before else asked
