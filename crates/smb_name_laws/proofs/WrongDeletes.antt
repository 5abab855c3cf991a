-- Wrong definitions of a CLOSE and of the end of an owner's opens, each with a law of specs/Deletes that refuses it.
-- A law whose name ends in By says of any definition what that of specs/ says of the right one, as the line below it
-- shows; then come the wrong definition, and the proof that the law is false of it.
use Rattle.std.proofs.Common.{◌≡◌, ◌≢◌, ◌⊎◌, inl, ℕ, [], ◌∷◌, true, false, if◌then◌else◌, None, Some, is_some, refl, sym, arith, ◌∙◌}
use Rattle.std.specs.Option.{option_map_or}
use Rattle.smb_wire.specs.Access.{FILE_SHARE_ALL}
use Rattle.smb_wire.specs.declared.disposition.CreateDisposition.TheVariants.{Open}
use Rattle.smb_wire.specs.declared.nt_status.NtStatus.{NtStatus}
use Rattle.smb_wire.specs.declared.nt_status.NtStatus.TheVariants.{Success, ObjectNameNotFound}
use Rattle.smb_tree.specs.Content.{Path, Row, is_same_path, entry_at, numbered, parent, changed}
use Rattle.smb_tree.specs.Entries.{Entry}
use Rattle.smb_access.specs.declared.open_row.OpenRow.{OpenRow}
use Rattle.smb_access.specs.declared.open_row.Owner.{Owner}
use Rattle.smb_access.specs.declared.open_row.Owner.TheVariants.{Session}
use Rattle.smb_access.specs.Asked.{FileAsked}
use Rattle.smb_access.specs.Found.{path_asked}
use Rattle.smb_access.specs.Parts.{tree_marked, tree_cleared}
use Rattle.smb_access.specs.Opens.{open_of, first_held_by, is_held_by}
use Rattle.smb_opens.specs.Close.{closed, closed_all}
use Rattle.smb_opens.specs.Create.{create_status}
use Rattle.smb_opens.specs.Found.{entry_asked}
use Rattle.smb_opens.specs.Good.{GoodStore}
use Rattle.smb_opens.specs.State.{StoreState}
use Rattle.smb_opens.proofs.Closing.{number_found}
use Rattle.smb_name_laws.specs.Deletes.{ACloseDeletesWhatIsToBeDeleted, NothingElseGoes, AnEntryGoesWithItsOwner}
use Rattle.smb_name_laws.specs.Deletes.{is_to_be_deleted, HasNoOtherOpen, NothingMarkedIsOpened}
use Rattle.smb_name_laws.proofs.ExampleStore.{path, file, deleting, sharing, with_opens, open_among, is_not_gone}
use Rattle.smb_name_laws.proofs.ExampleStore.{file_name, asks}
use Rattle.smb_name_laws.proofs.ExampleStore.{is_good_with_deleting, is_good_with_both}

-- an entry that is to be deleted is gone once its last open is closed; with another open it is left, and marked; an entry
-- that is not to be deleted stays, and so does what is elsewhere
abbrev ACloseDeletesWhatIsToBeDeletedBy : (StoreState → ℕ → StoreState) → Type 0
ACloseDeletesWhatIsToBeDeletedBy close =
    (state : StoreState) (number : ℕ) (closing : OpenRow) (path : Path) (entry : Entry) → GoodStore state →
    open_of state.opens number ≡ Some closing → numbered state.tree.rows closing.entry ≡ Some (path, entry) →
    let due = is_to_be_deleted state.tree.rows closing (path, entry) in
    let after = (close state number).tree in
    (due ≡ true → HasNoOtherOpen state.opens number closing.entry →
    (numbered after.rows closing.entry ≡ None) × (entry_at after.rows path ≡ None))
    × (due ≡ true → (other : ℕ) (left : OpenRow) → open_of state.opens other ≡ Some left →
    left.entry ≡ closing.entry → other ≢ number →
    (numbered after.rows closing.entry ≡ Some (path, record entry { mark = true }))
    × (entry_at after.rows path ≡ Some (record entry { mark = true })))
    × (due ≡ false → after ≡ state.tree)
    × ((other : ℕ) → other ≢ closing.entry → numbered after.rows other ≡ numbered state.tree.rows other)
    × ((other : Path) → is_same_path path other ≡ false → entry_at after.rows other ≡ entry_at state.tree.rows other)

a_close_deletes_what_is_to_be_deleted : ACloseDeletesWhatIsToBeDeleted ≡ ACloseDeletesWhatIsToBeDeletedBy closed
a_close_deletes_what_is_to_be_deleted = refl

-- wrong: an entry that is to be deleted is left, though its last open is closed
abbrev closed_without_removal : StoreState → ℕ → StoreState
closed_without_removal state number = option_map_or
    (λ (row : OpenRow). record (closed state number) { tree = tree_marked state.tree row })
    (open_of state.opens number) state

no_other_than_deleting : HasNoOtherOpen (deleting ∷ []) 1 2
no_other_than_deleting other row found own =
    sym (number_found (deleting ∷ []) other row found)
    ∙ open_among (λ (row : OpenRow). row.number ≡ 1) (deleting ∷ []) other row (refl, tt) found

a_close_without_removal_breaks_it : ACloseDeletesWhatIsToBeDeletedBy closed_without_removal → ⊥
a_close_without_removal_breaks_it law =
    let gone = (law (with_opens (deleting ∷ [])) 1 deleting path file is_good_with_deleting refl refl).0 refl
    no_other_than_deleting in
    is_not_gone gone.0 refl

-- no other entry goes with a CLOSE
abbrev NothingElseGoesBy : (StoreState → ℕ → StoreState) → Type 0
NothingElseGoesBy close =
    (state : StoreState) (number entry : ℕ) (row : Row) → GoodStore state →
    numbered state.tree.rows entry ≡ Some row → numbered (close state number).tree.rows entry ≡ None →
    (closing : OpenRow) × (open_of state.opens number ≡ Some closing) × (row.1.number ≡ closing.entry)
    × HasNoOtherOpen state.opens number closing.entry × (is_to_be_deleted state.tree.rows closing row ≡ true)

nothing_else_goes : NothingElseGoes ≡ NothingElseGoesBy closed
nothing_else_goes = refl

-- wrong: an entry that is to be deleted is removed, though another open of it is left
abbrev closed_beside_others : StoreState → ℕ → StoreState
closed_beside_others state number = option_map_or
    (λ (row : OpenRow). record (closed state number) { tree = tree_cleared (tree_marked state.tree row) [] row.entry })
    (open_of state.opens number) state

a_close_beside_others_breaks_it : NothingElseGoesBy closed_beside_others → ⊥
a_close_beside_others_breaks_it law =
    let went = law (with_opens (deleting ∷ sharing ∷ [])) 1 2 (path, file) is_good_with_both refl refl in
    omega (arith, went.3 2 sharing refl went.2)

-- an entry that is to be deleted is gone once all opens of an owner end, where no one else has an open of it
abbrev AnEntryGoesWithItsOwnerBy : (StoreState → Owner → StoreState) → Type 0
AnEntryGoesWithItsOwnerBy close_all =
    (state : StoreState) (owner : Owner) (number : ℕ) (row : OpenRow) (path : Path) (entry : Entry) → GoodStore state →
    open_of state.opens number ≡ Some row → numbered state.tree.rows row.entry ≡ Some (path, entry) →
    ((other : ℕ) (held : OpenRow) → open_of state.opens other ≡ Some held → held.entry ≡ row.entry →
    is_held_by owner held ≡ true) →
    is_to_be_deleted state.tree.rows row (path, entry) ≡ true →
    (numbered (close_all state owner).tree.rows row.entry ≡ None)
    × (entry_at (close_all state owner).tree.rows path ≡ None)

an_entry_goes_with_its_owner : AnEntryGoesWithItsOwner ≡ AnEntryGoesWithItsOwnerBy closed_all
an_entry_goes_with_its_owner = refl

-- wrong: of an owner's opens only the first ends
abbrev closed_first : StoreState → Owner → StoreState
closed_first state owner = option_map_or (closed state) (first_held_by owner state.opens) state

both_held :
    (number : ℕ) (row : OpenRow) → open_of (deleting ∷ sharing ∷ []) number ≡ Some row → row.entry ≡ 2 →
    is_held_by (Session 1) row ≡ true
both_held number row found own =
    open_among (λ (row : OpenRow). is_held_by (Session 1) row ≡ true) (deleting ∷ sharing ∷ []) number row
    (refl, (refl, tt)) found

a_close_of_the_first_breaks_it : AnEntryGoesWithItsOwnerBy closed_first → ⊥
a_close_of_the_first_breaks_it law =
    let gone = law (with_opens (deleting ∷ sharing ∷ [])) (Session 1) 1 deleting path file is_good_with_both refl refl
    both_held refl in
    is_not_gone gone.0 refl

-- what is marked is not opened
abbrev NothingMarkedIsOpenedBy : (StoreState → FileAsked → NtStatus) → Type 0
NothingMarkedIsOpenedBy status =
    (state : StoreState) (ask : FileAsked) (entry : Entry) → entry.mark ≡ true →
    (entry_at state.tree.rows (path_asked ask) ≡ Some entry)
    ⊎ (entry_at state.tree.rows (parent (path_asked ask)) ≡ Some entry) →
    status state ask ≢ Success

nothing_marked_is_opened : NothingMarkedIsOpened ≡ NothingMarkedIsOpenedBy create_status
nothing_marked_is_opened = refl

-- wrong: whatever is there is opened
abbrev opens_what_is_there : StoreState → FileAsked → NtStatus
opens_what_is_there state ask = if is_some (entry_asked state ask) then Success else ObjectNameNotFound

-- the store with the file marked
abbrev with_mark : StoreState
with_mark =
    let state : StoreState = with_opens [] in
    record state { tree = record state.tree { rows = changed (λ entry. record entry { mark = true }) state.tree.rows 2 } }

opens_what_is_there_is_refused : NothingMarkedIsOpenedBy opens_what_is_there → ⊥
opens_what_is_there_is_refused law =
    law with_mark (asks file_name FILE_SHARE_ALL Open) (record file { mark = true }) refl (inl refl) refl
