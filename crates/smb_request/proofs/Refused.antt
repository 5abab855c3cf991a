-- What a refusal comes to is what the definitions say of it.
use Rattle.std.proofs.Common.{◌≡◌, ℕ, Bool, true, false, List, if◌then◌else◌, Option, None, Some, is_some, IfSome, Result, Ok, Err, IsErrAnd, refl, sym, subst}
use Rattle.std.specs.Option.{option_map}
use Rattle.smb_wire.specs.declared.nt_status.NtStatus.TheVariants.{Success}
use Rattle.smb_refusals.specs.declared.refusal.Refusal.{Refusal}
use Rattle.smb_refusals.specs.declared.request.RequestRefusal.TheVariants.{UnknownOpen}
use Rattle.smb_refusals.specs.declared.refused_by.RefusedBy.{RefusedBy}
use Rattle.smb_refusals.specs.declared.refused_by.RefusedBy.TheVariants.{Row, NoMemory}
use Rattle.smb_refusals.specs.Refused.{IsRefusedBy, refused_as}
use Rattle.smb_refusals.specs.Rows.{RefusalRow, with_statuses}
use Rattle.smb_refusals.proofs.RowLemmas.{succeeds}
use Rattle.smb_access.specs.declared.view.View.{View}
use Rattle.smb_access.specs.Asked.{FileAsked}
use Rattle.smb_locks.specs.declared.ask.LockAsk.{LockAsk}
use Rattle.smb_info.specs.SetInformation.{SetAsked, asks_basic, asks_rename, asks_mark, asks_allocation, asks_end}
use Rattle.smb_opens.specs.Bytes.{read_refusals, read_refusal, read_status, write_refusals, write_refusal, write_status}
use Rattle.smb_opens.specs.Create.{create_refusals, create_refusal, create_status}
use Rattle.smb_opens.specs.Found.{entry_asked}
use Rattle.smb_opens.specs.Locks.{lock_refusal, lock_status, unlock_refusal, unlock_status}
use Rattle.smb_opens.specs.Renames.{rename_refusal, rename_status}
use Rattle.smb_opens.specs.SetInfo.{basic_refusals, delete_refusals, size_refusals}
use Rattle.smb_opens.specs.State.{StoreState}
use Rattle.smb_opens.specs.Views.{open_view, refusal_through, status_through}
use Rattle.smb_opens.proofs.ByRow.{through_is, renamed_is, lock_is, passes}
use Rattle.smb_session.specs.Authenticator.{Meaning}
use Rattle.smb_request.specs.declared.call.Call.{Call}
use Rattle.smb_request.specs.declared.response.Response.{Response}
use Rattle.smb_request.specs.Bodies.{result_step}
use Rattle.smb_request.specs.Parts.{set_refusal, set_status}
use Rattle.smb_request.specs.Response.{CommandStep, through_open, unless_refused}
use Rattle.smb_request.specs.State.{ServerState}

-- where no refusal is named, there is none
pub none_named : {X Y : Type 0} (name : X → Y) (o : Option X) → option_map name o ≡ None → o ≡ None
none_named name None e = refl
none_named name (Some x) e = absurd (cc)

-- what the code refuses is what the definitions say
module _ {S : Type 0} (m : Meaning S) (server : ServerState S) (call : Call) (done : CommandStep S) where
  by_refused : (refusal : Option Refusal) (found : RefusedBy Refusal) → IsRefusedBy refusal found →
      IfSome (result_step m server call (Err found)) (λ step. step ≡ unless_refused server call.ids refusal done)
  by_refused refusal (Row row) why = rw why refl
  by_refused refusal NoMemory why = tt

  pub failed : (refusal : Option Refusal) (target : RefusedBy Refusal) (result : Result Response (RefusedBy Refusal)) → IsErrAnd result (λ found. found ≡ target) → IsRefusedBy refusal target →
      IfSome (result_step m server call result) (λ step. step ≡ unless_refused server call.ids refusal done)
  failed refusal target (Ok response) e why = absurd e
  failed refusal target (Err found) e why =
      subst (λ (f : RefusedBy Refusal). IfSome (result_step m server call (Err f)) (λ step. step ≡ unless_refused server call.ids refusal done)) (sym e) (by_refused refusal target why)

-- a refusal by a row of a table, among those of a request
pub named_refused : {R : Type 0} (name : R → Refusal) (refusal : Option R) (refused : RefusedBy R) → IsRefusedBy refusal refused → IsRefusedBy (option_map name refusal) (refused_as name refused)
named_refused name refusal (Row row) why = rw why refl
named_refused name refusal NoMemory why = rw why refl

pub named_row : {R : Type 0} (name : R → Refusal) (refusal : Option R) (row : R) → refusal ≡ Some row → IsRefusedBy (option_map name refusal) (Row (name row))
named_row name refusal row why = rw why refl

-- and one of what is asked through an open that exists
pub through_refused : {R : Type 0} (name : R → Refusal) (store : StoreState) (k : ℕ) (refusal : Option R) (refused : RefusedBy R) → is_some (open_view store k) ≡ true → IsRefusedBy refusal refused →
    IsRefusedBy (through_open store k (option_map name refusal)) (refused_as name refused)
through_refused name store k refusal (Row row) shown why = rw (shown, why) refl
through_refused name store k refusal NoMemory shown why = rw (shown, why) refl

pub through_row : {R : Type 0} (name : R → Refusal) (store : StoreState) (k : ℕ) (refusal : Option R) (row : R) → is_some (open_view store k) ≡ true → refusal ≡ Some row →
    IsRefusedBy (through_open store k (option_map name refusal)) (Row (name row))
through_row name store k refusal row shown why = rw (shown, why) refl

pub through_any : (store : StoreState) (k : ℕ) (refusal : Option Refusal) (refused : RefusedBy Refusal) → is_some (open_view store k) ≡ true → IsRefusedBy refusal refused →
    IsRefusedBy (through_open store k refusal) refused
through_any store k refusal (Row row) shown why = rw (shown, why) refl
through_any store k refusal NoMemory shown why = rw (shown, why) refl

-- what is asked through an open, and is not refused
pub through_passed : (store : StoreState) (k : ℕ) (refusal : Option Refusal) → is_some (open_view store k) ≡ true → refusal ≡ None → through_open store k refusal ≡ None
through_passed store k refusal shown none = rw (shown, none) refl

pub through_none : (store : StoreState) (k : ℕ) (refusal : Option Refusal) → through_open store k refusal ≡ None → (is_some (open_view store k) ≡ true) × (refusal ≡ None)
through_none store k refusal e =
    elim (is_some (open_view store k)) as (λ b. is_some (open_view store k) ≡ b → (if b then refusal else Some (Refusal.Request UnknownOpen)) ≡ None → (is_some (open_view store k) ≡ true) × (refusal ≡ None)) [
      | true ↦ λ t f. (t, f)
      | false ↦ λ t f. absurd (cc)
    ] refl e

shown_by : (o : Option View) → is_some o ≡ true → (view : View) × (Some view ≡ o)
shown_by None e = cc
shown_by (Some view) e = (view, refl)

-- then its status is SUCCESS
pub table_succeeds : {R : Type 0} (name : R → Refusal) (store : StoreState) (k : ℕ) (rows : View → List (RefusalRow R)) → through_open store k (option_map name (refusal_through store k rows)) ≡ None →
    status_through store k (λ view. with_statuses name (rows view)) ≡ Success
table_succeeds name store k rows e =
    let passed = through_none store k (option_map name (refusal_through store k rows)) e in
    let shown = shown_by (open_view store k) passed.0 in
    passes name _ (refusal_through store k rows) (through_is name store k shown.0 rows shown.1) (none_named name (refusal_through store k rows) passed.1)

pub read_succeeds : (store : StoreState) (most k offset count minimum : ℕ) → through_open store k (option_map (λ refusal. Refusal.Read refusal) (read_refusal store most k offset count minimum)) ≡ None → read_status store most k offset count minimum ≡ Success
read_succeeds store most k offset count minimum e = table_succeeds (λ refusal. Refusal.Read refusal) store k (read_refusals store most k offset count minimum) e

pub write_succeeds : (store : StoreState) (most k offset : ℕ) (buffer : List ℕ) → through_open store k (option_map (λ refusal. Refusal.Write refusal) (write_refusal store most k offset buffer)) ≡ None → write_status store most k offset buffer ≡ Success
write_succeeds store most k offset buffer e = table_succeeds (λ refusal. Refusal.Write refusal) store k (write_refusals store most k offset buffer) e

pub lock_succeeds : (store : StoreState) (k : ℕ) (asks : List LockAsk) → through_open store k (option_map (λ refusal. Refusal.Lock refusal) (lock_refusal store k asks)) ≡ None → lock_status store k asks ≡ Success
lock_succeeds store k asks e =
    let passed = through_none store k (option_map (λ refusal. Refusal.Lock refusal) (lock_refusal store k asks)) e in
    let shown = shown_by (open_view store k) passed.0 in
    passes (λ refusal. Refusal.Lock refusal) _ (lock_refusal store k asks) (lock_is (open_view store k) shown.0 _ shown.1) (none_named (λ refusal. Refusal.Lock refusal) (lock_refusal store k asks) passed.1)

pub unlock_succeeds : (store : StoreState) (k : ℕ) (asks : List LockAsk) → through_open store k (option_map (λ refusal. Refusal.Lock refusal) (unlock_refusal store k asks)) ≡ None → unlock_status store k asks ≡ Success
unlock_succeeds store k asks e =
    let passed = through_none store k (option_map (λ refusal. Refusal.Lock refusal) (unlock_refusal store k asks)) e in
    let shown = shown_by (open_view store k) passed.0 in
    passes (λ refusal. Refusal.Lock refusal) _ (unlock_refusal store k asks) (lock_is (open_view store k) shown.0 _ shown.1) (none_named (λ refusal. Refusal.Lock refusal) (unlock_refusal store k asks) passed.1)

rename_succeeds : (store : StoreState) (k : ℕ) (name : List ℕ) (replace : Bool) → through_open store k (option_map (λ refusal. Refusal.Rename refusal) (rename_refusal store k name replace)) ≡ None → rename_status store k name replace ≡ Success
rename_succeeds store k name replace e =
    let passed = through_none store k (option_map (λ refusal. Refusal.Rename refusal) (rename_refusal store k name replace)) e in
    let shown = shown_by (open_view store k) passed.0 in
    passes (λ refusal. Refusal.Rename refusal) _ (rename_refusal store k name replace) (renamed_is store k shown.0 name replace shown.1) (none_named (λ refusal. Refusal.Rename refusal) (rename_refusal store k name replace) passed.1)

pub set_succeeds : (store : StoreState) (k : ℕ) (ask : SetAsked) → through_open store k (set_refusal store k ask) ≡ None → set_status store k ask ≡ Success
set_succeeds store k (asks_basic ask) e = table_succeeds (λ refusal. Refusal.SetBasic refusal) store k (basic_refusals ask) e
set_succeeds store k (asks_rename replace name) e = rename_succeeds store k name replace e
set_succeeds store k (asks_mark mark) e = table_succeeds (λ refusal. Refusal.SetDisposition refusal) store k (delete_refusals store mark) e
set_succeeds store k (asks_allocation size) e = table_succeeds (λ refusal. Refusal.SetSize refusal) store k (size_refusals store size) e
set_succeeds store k (asks_end size) e = table_succeeds (λ refusal. Refusal.SetSize refusal) store k (size_refusals store size) e

-- a CREATE that is not refused has the status SUCCESS
pub create_succeeds : (store : StoreState) (ask : FileAsked) → create_refusal store ask ≡ None → create_status store ask ≡ Success
create_succeeds store ask e = succeeds (λ refusal. Refusal.Create refusal) (create_refusals store ask (entry_asked store ask)) e
