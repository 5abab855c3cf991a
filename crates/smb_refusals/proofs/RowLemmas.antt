-- The statuses of rows are those of their refusals.
use Rattle.std.proofs.Common.{◌≡◌, ◌≢◌, List, [], ◌∷◌, ◌++◌, true, false, None, Some, if◌then◌else◌, refl, sym, ap, ◌∙◌}
use Rattle.std.specs.List.{AllByRecursion}
use Rattle.std.specs.Option.{option_map_or}
use Rattle.smb_wire.specs.declared.nt_status.NtStatus.TheVariants.{Success}
use Rattle.smb_refusals.specs.declared.refusal.Refusal.{Refusal}
use Rattle.smb_refusals.specs.Refusals.{refusal_status}
use Rattle.smb_refusals.specs.Rows.{RefusalRow, first_refusal, first_status, with_statuses, DecidingRow, first_decided, with_decided_statuses}

-- the status of a table is that of its refusal
pub status_is : {R : Type 0} (refusal_of : R → Refusal) (rows : List (RefusalRow R)) → first_status (with_statuses refusal_of rows) ≡ option_map_or (λ row. refusal_status (refusal_of row)) (first_refusal rows) Success
status_is refusal_of [] = refl
status_is refusal_of (row ∷ rows) =
    elim (row.0) as (λ b. (if b then refusal_status (refusal_of row.1) else first_status (with_statuses refusal_of rows)) ≡ option_map_or (λ row. refusal_status (refusal_of row)) (if b then Some row.1 else first_refusal rows) Success) [
      | true ↦ refl
      | false ↦ status_is refusal_of rows
    ]

-- where nothing is refused, no row holds
pub none_holds : {R : Type 0} (rows : List (RefusalRow R)) → first_refusal rows ≡ None → AllByRecursion (λ row. row.0 ≡ false) rows
none_holds [] e = tt
none_holds (row ∷ rows) e =
    elim (row.0) as (λ b. row.0 ≡ b → (if b then Some row.1 else first_refusal rows) ≡ None → AllByRecursion (λ (row : RefusalRow _). row.0 ≡ false) (row ∷ rows)) [
      | true ↦ λ _ f. absurd (cc)
      | false ↦ λ t f. (t, none_holds rows f)
    ] refl e

-- a table none of whose refusals is answered by STATUS_SUCCESS, and whose status is that, refuses nothing
pub unrefused : {R : Type 0} (refusal_of : R → Refusal) → ((row : R) → refusal_status (refusal_of row) ≢ Success) → (rows : List (RefusalRow R)) → first_status (with_statuses refusal_of rows) ≡ Success → first_refusal rows ≡ None
unrefused refusal_of fails rows e =
    elim (first_refusal rows) as (λ o. option_map_or (λ row. refusal_status (refusal_of row)) o Success ≡ Success → o ≡ None) [
      | None ↦ λ _. refl
      | Some row ↦ λ f. absurd (fails row f)
    ] (sym (status_is refusal_of rows) ∙ e)

-- where two tables one behind the other refuse nothing, neither does
pub both_pass : {R : Type 0} (xs ys : List (RefusalRow R)) → first_refusal (xs ++ ys) ≡ None → AllByRecursion (λ row. row.0 ≡ false) xs × (first_refusal ys ≡ None)
both_pass [] ys e = (tt, e)
both_pass (row ∷ xs) ys e =
    elim (row.0) as (λ b. row.0 ≡ b → (if b then Some row.1 else first_refusal (xs ++ ys)) ≡ None → AllByRecursion (λ (row : RefusalRow _). row.0 ≡ false) (row ∷ xs) × (first_refusal ys ≡ None)) [
      | true ↦ λ _ f. absurd (cc)
      | false ↦ λ t f. (let rest = both_pass xs ys f in ((t, rest.0), rest.1))
    ] refl e

-- where the rows of a table refuse nothing, its status is STATUS_SUCCESS
pub succeeds : {R : Type 0} (refusal_of : R → Refusal) (rows : List (RefusalRow R)) → first_refusal rows ≡ None → first_status (with_statuses refusal_of rows) ≡ Success
succeeds refusal_of rows e = status_is refusal_of rows ∙ ap (λ o. option_map_or (λ row. refusal_status (refusal_of row)) o Success) e

-- where a row of a table holds first, its status is the row's
pub fails_by : {R : Type 0} (refusal_of : R → Refusal) (rows : List (RefusalRow R)) (row : R) → first_refusal rows ≡ Some row → first_status (with_statuses refusal_of rows) ≡ refusal_status (refusal_of row)
fails_by refusal_of rows row e = status_is refusal_of rows ∙ ap (λ o. option_map_or (λ row. refusal_status (refusal_of row)) o Success) e

-- the same of rows that may let a request pass
pub decided_status_is : {R : Type 0} (refusal_of : R → Refusal) (rows : List (DecidingRow R)) → first_status (with_decided_statuses refusal_of rows) ≡ option_map_or (λ row. refusal_status (refusal_of row)) (first_decided rows) Success
decided_status_is refusal_of [] = refl
decided_status_is refusal_of (row ∷ rows) =
    elim (row.0) as (λ b. (if b then option_map_or (λ r. refusal_status (refusal_of r)) row.1 Success else first_status (with_decided_statuses refusal_of rows)) ≡ option_map_or (λ r. refusal_status (refusal_of r)) (if b then row.1 else first_decided rows) Success) [
      | true ↦ refl
      | false ↦ decided_status_is refusal_of rows
    ]

pub decided_unrefused : {R : Type 0} (refusal_of : R → Refusal) → ((row : R) → refusal_status (refusal_of row) ≢ Success) → (rows : List (DecidingRow R)) → first_status (with_decided_statuses refusal_of rows) ≡ Success → first_decided rows ≡ None
decided_unrefused refusal_of fails rows e =
    elim (first_decided rows) as (λ o. option_map_or (λ row. refusal_status (refusal_of row)) o Success ≡ Success → o ≡ None) [
      | None ↦ λ _. refl
      | Some row ↦ λ f. absurd (fails row f)
    ] (sym (decided_status_is refusal_of rows) ∙ e)

-- the first rows of those of which none refuses
pub decided_before : {R : Type 0} (xs ys : List (DecidingRow R)) → first_decided (xs ++ ys) ≡ None → first_decided xs ≡ None
decided_before [] ys e = refl
decided_before (x ∷ xs) ys e =
    elim (x.0) as (λ b. (if b then x.1 else first_decided (xs ++ ys)) ≡ None → (if b then x.1 else first_decided xs) ≡ None) [
      | true ↦ λ f. f
      | false ↦ λ f. decided_before xs ys f
    ] e
