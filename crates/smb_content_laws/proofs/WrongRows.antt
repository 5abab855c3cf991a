-- Wrong ways to read a table of statuses, each with a law of specs/Successes that refuses it.
-- A law whose name ends in By says of any definition what that of specs/ says of the right one, as the line below it
-- shows; then come the wrong definition, and the proof that the law is false of it.
use Rattle.std.proofs.Common.{◌≡◌, ℕ, true, List, [], ◌∷◌, ◌++◌, if◌then◌else◌, Some, refl}
use Rattle.std.specs.List.{list_any}
use Rattle.std.specs.Option.{option_map_or}
use Rattle.smb_wire.specs.declared.nt_status.NtStatus.{NtStatus}
use Rattle.smb_wire.specs.declared.nt_status.NtStatus.TheVariants.{Success, AccessDenied, EndOfFile, FileClosed}
use Rattle.smb_access.specs.declared.view.View.{View}
use Rattle.smb_refusals.specs.Rows.{StatusRow, first_status}
use Rattle.smb_opens.specs.State.{StoreState}
use Rattle.smb_opens.specs.Views.{open_view, status_through}
use Rattle.smb_content_laws.specs.Example.{example_store}
use Rattle.smb_content_laws.specs.Successes.{NoneHolds, TheFirstRowDecides}

-- the status of a table is that of its first row that holds, and that of a request through an open that of its table
abbrev TheFirstRowDecidesBy : (List StatusRow → NtStatus) → (StoreState → ℕ → (View → List StatusRow) → NtStatus) → Type 0
TheFirstRowDecidesBy status_by through =
    ((rows : List StatusRow) → NoneHolds rows → status_by rows ≡ Success)
    × ((before after : List StatusRow) (status : NtStatus) → NoneHolds before →
    status_by (before ++ (true, status) ∷ after) ≡ status)
    × ((state : StoreState) (number : ℕ) (view : View) (rows : View → List StatusRow) →
    open_view state number ≡ Some view → through state number rows ≡ status_by (rows view))

the_first_row_decides : TheFirstRowDecides ≡ TheFirstRowDecidesBy first_status status_through
the_first_row_decides = refl

-- the status of a request through an open, by how a table is read
abbrev status_through_by : (List StatusRow → NtStatus) → StoreState → ℕ → (View → List StatusRow) → NtStatus
status_through_by status_by state number rows =
    option_map_or (λ view. status_by (rows view)) (open_view state number) FileClosed

-- wrong: where two rows hold, the last of them decides
abbrev last_status : List StatusRow → NtStatus
last_status [] = Success
last_status (row ∷ rows) =
    if list_any (λ later. later.0) rows then last_status rows else if row.0 then row.1 else Success

the_last_status_breaks_it : TheFirstRowDecidesBy last_status (status_through_by last_status) → ⊥
the_last_status_breaks_it law =
    let same : EndOfFile ≡ AccessDenied = law.1 [] ((true, EndOfFile) ∷ []) AccessDenied tt in cc

-- wrong: where no row holds, the request is refused
abbrev first_status_or_refusal : List StatusRow → NtStatus
first_status_or_refusal [] = AccessDenied
first_status_or_refusal (row ∷ rows) = if row.0 then row.1 else first_status_or_refusal rows

a_refusal_where_none_holds_breaks_it :
    TheFirstRowDecidesBy first_status_or_refusal (status_through_by first_status_or_refusal) → ⊥
a_refusal_where_none_holds_breaks_it law = let same : AccessDenied ≡ Success = law.0 [] tt in cc

-- wrong: a request through an open is refused where no row of its table holds
a_refusal_through_an_open_breaks_it : TheFirstRowDecidesBy first_status (status_through_by first_status_or_refusal) → ⊥
a_refusal_through_an_open_breaks_it law =
    let same : AccessDenied ≡ Success = law.2 example_store 1 _ (λ view. []) refl in cc
