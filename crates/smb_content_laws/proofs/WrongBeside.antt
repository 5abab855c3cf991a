-- Wrong definitions of a CREATE, a WRITE and a rename that touch locks or opens, each refused by a law of specs/Locking.
-- A law whose name ends in By says of any definition what that of specs/ says of the right one, as the line below it
-- shows; then come the wrong definitions, and the proofs that the law is false of them.
use Rattle.std.proofs.Common.{◌≡◌, ◌≢◌, ℕ, ◌==◌, Bool, true, false, filter, length, is_some, List, [], ◌∷◌}
use Rattle.std.proofs.Common.{refl, ap, arith}
use Rattle.std.specs.List.{AllByRecursion}
use Rattle.smb_locks.specs.declared.ask.LockAsk.{LockAsk}
use Rattle.smb_access.specs.declared.open_row.OpenRow.{OpenRow}
use Rattle.smb_access.specs.Asked.{FileAsked}
use Rattle.smb_access.specs.Opens.{open_of}
use Rattle.smb_entry.specs.declared.ask.BasicAsk.{BasicAsk}
use Rattle.smb_opens.specs.Bytes.{written_to}
use Rattle.smb_opens.specs.Close.{closed}
use Rattle.smb_opens.specs.Effect.{created, create_result}
use Rattle.smb_opens.specs.Locks.{locked_through, unlocked_through}
use Rattle.smb_opens.specs.Renames.{renamed_through}
use Rattle.smb_opens.specs.SetInfo.{delete_set_through, size_set_through, basic_set_through}
use Rattle.smb_opens.specs.State.{StoreState}
use Rattle.smb_content_laws.specs.Example.{example_store, example_ask}
use Rattle.smb_content_laws.specs.Locking.{RequestsLeaveLocksAndOpens}
use Rattle.smb_content_laws.proofs.ExampleLocks.{example_locked}

-- a CREATE, a WRITE and a SET_INFO leave locks and opens, but for the open that a CREATE makes; a LOCK leaves entries
abbrev RequestsLeaveLocksAndOpensBy :
    (StoreState → FileAsked → ℕ → StoreState) → (StoreState → ℕ → ℕ → List ℕ → ℕ → StoreState)
    → (StoreState → ℕ → List ℕ → ℕ → StoreState) → Type 0
RequestsLeaveLocksAndOpensBy create write rename =
    (state : StoreState) (number offset size moment : ℕ) (buffer name : List ℕ) (is_deleted is_allocation : Bool)
    (ask : FileAsked) (times : BasicAsk) (asks : List LockAsk) →
    let made = create state ask moment in
    (made.locks ≡ state.locks)
    × ((other : ℕ) → other ≢ (create_result state ask moment).number →
    open_of made.opens other ≡ open_of state.opens other)
    × AllByRecursion (λ (after : StoreState). (after.locks ≡ state.locks) × (after.opens ≡ state.opens))
    (write state number offset buffer moment ∷ delete_set_through state number is_deleted
    ∷ size_set_through state number size is_allocation moment ∷ basic_set_through state number times moment
    ∷ rename state number name moment ∷ [])
    × AllByRecursion (λ (after : StoreState). (after.tree ≡ state.tree) × (after.opens ≡ state.opens))
    (locked_through state number asks ∷ unlocked_through state number asks ∷ [])

requests_leave_locks_and_opens :
    RequestsLeaveLocksAndOpens ≡ RequestsLeaveLocksAndOpensBy created written_to renamed_through
requests_leave_locks_and_opens = refl

-- what all the examples ask: a SET_INFO of times of which all are left
abbrev example_times : BasicAsk
example_times = record {
  creation_time = 0;
  last_access_time = 0;
  last_write_time = 0;
  change_time = 0;
  attributes = record { 0 = 0 };
}

-- wrong: a CREATE takes all locks away
abbrev created_without_locks : StoreState → FileAsked → ℕ → StoreState
created_without_locks state ask moment = record (created state ask moment) { locks = [] }

a_create_without_locks_breaks_it : RequestsLeaveLocksAndOpensBy created_without_locks written_to renamed_through → ⊥
a_create_without_locks_breaks_it law =
    let none : 0 ≡ 1 = ap length (law example_locked 1 0 0 0 [] [] false false example_ask example_times []).0 in
    omega (arith, none)

-- wrong: a CREATE takes all other opens away
abbrev created_alone : StoreState → FileAsked → ℕ → StoreState
created_alone state ask moment = record (created state ask moment) {
  opens = filter (λ (row : OpenRow). row.number == state.next) (created state ask moment).opens;
}

a_create_alone_breaks_it : RequestsLeaveLocksAndOpensBy created_alone written_to renamed_through → ⊥
a_create_alone_breaks_it law =
    let others = (law example_store 1 0 0 0 [] [] false false example_ask example_times []).1 in
    let none : false ≡ true = ap is_some (others 1 (λ e. omega (arith, e))) in cc

-- wrong: a WRITE takes all locks away
abbrev written_without_locks : StoreState → ℕ → ℕ → List ℕ → ℕ → StoreState
written_without_locks state number offset buffer moment =
    record (written_to state number offset buffer moment) { locks = [] }

a_write_without_locks_breaks_it : RequestsLeaveLocksAndOpensBy created written_without_locks renamed_through → ⊥
a_write_without_locks_breaks_it law =
    let leaves = (law example_locked 1 0 0 0 [] [] false false example_ask example_times []).2 in
    let none : 0 ≡ 1 = ap length leaves.0.0 in omega (arith, none)

-- wrong: a rename also closes the open
abbrev renamed_and_closed : StoreState → ℕ → List ℕ → ℕ → StoreState
renamed_and_closed state number name moment = closed (renamed_through state number name moment) number

a_rename_that_closes_breaks_it : RequestsLeaveLocksAndOpensBy created written_to renamed_and_closed → ⊥
a_rename_that_closes_breaks_it law =
    let leaves = (law example_store 1 0 0 0 [] (67 ∷ []) false false example_ask example_times []).2 in
    let none : 0 ≡ 1 = ap length leaves.1.1.1.1.0.1 in omega (arith, none)
