-- The status of a table of rows.
use Rattle.std.proofs.Common.{◌≡◌, true, List, [], ◌∷◌, ◌++◌, Option, Some, ℕ, refl, ap, ◌∙◌}
use Rattle.std.specs.Option.{option_map_or}
use Rattle.smb_wire.specs.declared.nt_status.NtStatus.{NtStatus}
use Rattle.smb_wire.specs.declared.nt_status.NtStatus.TheVariants.{Success, FileClosed}
use Rattle.smb_access.specs.declared.view.View.{View}
use Rattle.smb_refusals.specs.Rows.{StatusRow, first_status}
use Rattle.smb_opens.specs.State.{StoreState}
use Rattle.smb_opens.specs.Views.{open_view, status_through}
use Rattle.smb_content_laws.specs.Successes.{NoneHolds}

pub none_success : (rows : List StatusRow) → NoneHolds rows → first_status rows ≡ Success
none_success [] h = refl
none_success (row ∷ rows) h = rw (h.0) (none_success rows h.1)

pub first_decides : (before after : List StatusRow) (status : NtStatus) → NoneHolds before → first_status (before ++ (true, status) ∷ after) ≡ status
first_decides [] after status h = refl
first_decides (row ∷ before) after status h = rw (h.0) (first_decides before after status h.1)

pub shown_status : (state : StoreState) (number : ℕ) (view : View) (rows : View → List StatusRow) → open_view state number ≡ Some view → status_through state number rows ≡ first_status (rows view)
shown_status state number view rows shown = ap (λ (o : Option View). option_map_or (λ view. first_status (rows view)) o FileClosed) shown

pub request_succeeds : (state : StoreState) (number : ℕ) (view : View) (rows : View → List StatusRow) → open_view state number ≡ Some view → NoneHolds (rows view) → status_through state number rows ≡ Success
request_succeeds state number view rows shown h = shown_status state number view rows shown ∙ none_success (rows view) h
