-- What a CREATE is to do where its entry exists, and where it does not ([MS-SMB2] 2.2.13).
use Rattle.std.specs.Prelude.{ℕ, Bool, ◌==◌, ◌||◌}
use Rattle.smb_wire.specs.declared.disposition.CreateDisposition.{CreateDisposition}
use Rattle.smb_wire.specs.declared.disposition.CreateDisposition.TheVariants.{Supersede, Open, Create, OpenIf, Overwrite, OverwriteIf}

-- the number of a disposition in a request
abbrev pub disposition_code : CreateDisposition → ℕ
disposition_code Supersede = 0
disposition_code Open = 1
disposition_code Create = 2
disposition_code OpenIf = 3
disposition_code Overwrite = 4
disposition_code OverwriteIf = 5

-- a disposition by its number: a file that exists is overwritten, and all four of its times become the moment
abbrev pub supersedes_by : ℕ → Bool
supersedes_by number = number == disposition_code Supersede

-- the bytes of a file that exists are overwritten
abbrev pub overwrites_by : ℕ → Bool
overwrites_by number =
    number == disposition_code Supersede || number == disposition_code Overwrite || number == disposition_code OverwriteIf

-- the entry has to exist
abbrev pub must_exist_by : ℕ → Bool
must_exist_by number = number == disposition_code Open || number == disposition_code Overwrite

-- the entry has to be new
abbrev pub must_be_new_by : ℕ → Bool
must_be_new_by number = number == disposition_code Create
