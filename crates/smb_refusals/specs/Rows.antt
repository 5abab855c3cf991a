-- A table of refusals: its rows in order, of which the first whose condition holds decides. And the statuses of its rows.
use Rattle.std.specs.Prelude.{Bool, List, [], ◌∷◌, if◌then◌else◌, Option, None, Some}
use Rattle.std.specs.Option.{option_map_or}
use Rattle.smb_wire.specs.declared.nt_status.NtStatus.{NtStatus}
use Rattle.smb_wire.specs.declared.nt_status.NtStatus.TheVariants.{Success}
use Rattle.smb_refusals.specs.declared.refusal.Refusal.{Refusal}
use Rattle.smb_refusals.specs.Refusals.{refusal_status}

-- a condition, and why a request is refused where it holds
abbrev pub RefusalRow : Type 0 → Type 0
RefusalRow R = Bool × R

-- why a request is refused: the first row that holds, if any
abbrev pub first_refusal : {R : Type 0} → List (RefusalRow R) → Option R
first_refusal [] = None
first_refusal (row ∷ rows) = if row.0 then Some row.1 else first_refusal rows

-- a condition, and the status where it holds
abbrev pub StatusRow : Type 0
StatusRow = Bool × NtStatus

-- the status of the first row that holds, or SUCCESS
abbrev pub first_status : List StatusRow → NtStatus
first_status [] = Success
first_status (row ∷ rows) = if row.0 then row.1 else first_status rows

-- the rows of a table with the status of each refusal in its place; the refusals of the table are such of a request
abbrev pub with_statuses : {R : Type 0} → (R → Refusal) → List (RefusalRow R) → List StatusRow
with_statuses refusal_of [] = []
with_statuses refusal_of (row ∷ rows) = (row.0, refusal_status (refusal_of row.1)) ∷ with_statuses refusal_of rows

-- a condition, and why a request is refused where it holds; None where it is not refused then, by no row behind either
abbrev pub DecidingRow : Type 0 → Type 0
DecidingRow R = Bool × Option R

-- why a request is refused, by the first row that holds
abbrev pub first_decided : {R : Type 0} → List (DecidingRow R) → Option R
first_decided [] = None
first_decided (row ∷ rows) = if row.0 then row.1 else first_decided rows

-- such rows with the status of each refusal in its place, and with SUCCESS where there is none
abbrev pub with_decided_statuses : {R : Type 0} → (R → Refusal) → List (DecidingRow R) → List StatusRow
with_decided_statuses refusal_of [] = []
with_decided_statuses refusal_of (row ∷ rows) =
    (row.0, option_map_or (λ refusal. refusal_status (refusal_of refusal)) row.1 Success)
    ∷ with_decided_statuses refusal_of rows
