-- Times since 1970 as moments ([MS-DTYP] 2.3.3).
use Rattle.std.specs.Prelude.{ℕ, ◌+◌, ◌/◌}
use Rattle.std.specs.declared.time.Duration.{Duration}
use Rattle.std.specs.Duration.{as_nanos}

-- the moment of 1970: from 1601 it is 134,774 days
abbrev pub of_1970 : ℕ
of_1970 = 116444736000000000

-- a moment by the time since 1970: whole units of 100 ns, since 1601
abbrev pub units_of : Duration → ℕ
units_of since_1970 = of_1970 + as_nanos since_1970 / 100
