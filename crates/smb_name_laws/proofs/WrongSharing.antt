-- Wrong rules of sharing, each with a law of specs/Sharing that refuses it.
-- A law whose name ends in By says of any definition of a CREATE's status what that of specs/ says of the right one, as
-- the line below it shows; then come the wrong rule, and the proof that the law is false of the status by it.
use Rattle.std.proofs.Common.{◌≡◌, ◌≢◌, ◌⊎◌, inl, inr, bit_and, ℕ, [], ◌∷◌, ◌++◌, take, drop, Bool, true, false, not, ◌&&◌, ◌||◌, Option, Some, refl}
use Rattle.std.specs.List.{list_any}
use Rattle.std.specs.Option.{option_map_or}
use Rattle.smb_wire.specs.Access.{has_any, FILE_READ_DATA, FILE_EXECUTE, FILE_SHARE_READ, FILE_SHARE_WRITE, FILE_SHARE_DELETE, FILE_SHARE_ALL}
use Rattle.smb_wire.specs.declared.disposition.CreateDisposition.TheVariants.{Open}
use Rattle.smb_wire.specs.declared.nt_status.NtStatus.{NtStatus}
use Rattle.smb_wire.specs.declared.nt_status.NtStatus.TheVariants.{Success, SharingViolation}
use Rattle.smb_tree.specs.Entries.{Entry}
use Rattle.smb_wire.specs.declared.access.Access.{Access}
use Rattle.smb_wire.specs.declared.access.ShareAccess.{ShareAccess}
use Rattle.smb_access.specs.declared.open_row.OpenRow.{OpenRow}
use Rattle.smb_access.specs.Access.{granted, is_reading, is_writing, is_deleting}
use Rattle.smb_access.specs.Asked.{FileAsked}
use Rattle.smb_access.specs.Found.{is_read_only_file}
use Rattle.smb_access.specs.Opens.{open_of}
use Rattle.smb_access.specs.Parts.{is_on_entry, Use, use_of}
use Rattle.smb_access.specs.Sharing.{is_shared_access, is_kept_out, is_conflict, use_asked}
use Rattle.smb_refusals.specs.Rows.{first_status}
use Rattle.smb_opens.specs.Create.{access_granted, create_rows, create_status}
use Rattle.smb_opens.specs.Found.{entry_asked}
use Rattle.smb_opens.specs.Good.{GoodStore}
use Rattle.smb_opens.specs.State.{StoreState}
use Rattle.smb_name_laws.specs.Sharing.{NothingIsGrantedWhereNothingIsShared, EachRightHasItsShareBit, WhoSharesIsNotRefused, is_to_use}
use Rattle.smb_name_laws.proofs.ExampleStore.{file, opened, sharing, unsharing, with_opens, file_name, asks, open_among}
use Rattle.smb_name_laws.proofs.ExampleStore.{is_good_with_sharing}

-- a request conflicts with an open of its entry by a rule, of what the request is to do and to share, and of what the
-- open may do and shares
abbrev conflicts_by : (Use → Use → Bool) → StoreState → FileAsked → Option Entry → Bool
conflicts_by rule state ask entry =
    let wanted : Use = use_asked ask (granted ask.access ask.read_only (is_read_only_file entry)) in
    option_map_or
    (λ found. list_any (λ row. is_on_entry found.number row && rule wanted (use_of row)) state.opens)
    entry false

-- the status of a CREATE with such a rule in row 15 of docs/PROFILE.md, which is the seventeenth, behind 6b and 9b
abbrev status_by : (Use → Use → Bool) → StoreState → FileAsked → NtStatus
status_by rule state ask = first_status
    (take 16 (create_rows state ask (entry_asked state ask))
    ++ (conflicts_by rule state ask (entry_asked state ask), SharingViolation)
    ∷ drop 17 (create_rows state ask (entry_asked state ask)))

-- by the right rule it is that of specs/
right_status : create_status ≡ status_by is_conflict
right_status = refl

-- a CREATE that is to open the file, and shares this
abbrev opens_file : ℕ → FileAsked
opens_file share = asks file_name share Open

-- no CREATE is granted what an open in use does not share, or is to use an entry where it or such an open shares nothing
abbrev NothingIsGrantedWhereNothingIsSharedBy : (StoreState → FileAsked → NtStatus) → Type 0
NothingIsGrantedWhereNothingIsSharedBy status =
    (state : StoreState) (ask : FileAsked) (entry : Entry) (number : ℕ) (row : OpenRow) →
    entry_asked state ask ≡ Some entry → open_of state.opens number ≡ Some row → row.entry ≡ entry.number →
    is_shared_access row.access ≡ true →
    (row.share.0 ≡ 0) ⊎ (bit_and ask.share FILE_SHARE_ALL ≡ 0) → is_to_use state ask ≡ true →
    status state ask ≢ Success

nothing_is_granted_where_nothing_is_shared : NothingIsGrantedWhereNothingIsShared ≡ NothingIsGrantedWhereNothingIsSharedBy create_status
nothing_is_granted_where_nothing_is_shared = refl

-- wrong: only what the new open shares counts, so an open that shares nothing keeps no one out
abbrev conflict_by_new_share : Use → Use → Bool
conflict_by_new_share new old = is_shared_access new.0 && is_shared_access old.0 && is_kept_out old.0 new.1

a_conflict_by_new_share_breaks_it : NothingIsGrantedWhereNothingIsSharedBy (status_by conflict_by_new_share) → ⊥
a_conflict_by_new_share_breaks_it law =
    law (with_opens (unsharing ∷ [])) (opens_file FILE_SHARE_ALL) file 2 unsharing refl refl refl refl (inl refl) refl refl

-- wrong: only what the old open shares counts, so one that would share nothing is let in beside it
abbrev conflict_by_old_share : Use → Use → Bool
conflict_by_old_share new old = is_shared_access new.0 && is_shared_access old.0 && is_kept_out new.0 old.1

a_conflict_by_old_share_breaks_it : NothingIsGrantedWhereNothingIsSharedBy (status_by conflict_by_old_share) → ⊥
a_conflict_by_old_share_breaks_it law =
    law (with_opens (sharing ∷ [])) (opens_file 0) file 2 sharing refl refl refl refl (inr refl) refl refl

-- no CREATE is refused for sharing, where it and each open of its entry share what the other is to do, or where it is to
-- do none of what is shared
abbrev WhoSharesIsNotRefusedBy : (StoreState → FileAsked → NtStatus) → Type 0
WhoSharesIsNotRefusedBy status =
    (state : StoreState) (ask : FileAsked) →
    let wanted = use_asked ask (access_granted state ask) in
    ((entry : Entry) → GoodStore state → entry_asked state ask ≡ Some entry →
    ((number : ℕ) (row : OpenRow) → open_of state.opens number ≡ Some row → row.entry ≡ entry.number →
    (is_kept_out wanted.0 row.share ≡ false) × (is_kept_out row.access wanted.1 ≡ false)) →
    status state ask ≢ SharingViolation)
    × (is_to_use state ask ≡ false → status state ask ≢ SharingViolation)

who_shares_is_not_refused : WhoSharesIsNotRefused ≡ WhoSharesIsNotRefusedBy create_status
who_shares_is_not_refused = refl

-- wrong: what is shared does not count, so one open in use keeps out every other
abbrev conflict_by_use : Use → Use → Bool
conflict_by_use new old = is_shared_access new.0 && is_shared_access old.0

a_conflict_by_use_breaks_it : WhoSharesIsNotRefusedBy (status_by conflict_by_use) → ⊥
a_conflict_by_use_breaks_it law =
    (law (with_opens (sharing ∷ [])) (opens_file FILE_SHARE_ALL)).0 file is_good_with_sharing refl
    (λ number row found own. open_among lets (sharing ∷ []) number row ((refl, refl), tt) found) refl
  where
    lets : OpenRow → Type 0
    lets row =
        let wanted = use_asked (opens_file FILE_SHARE_ALL)
        (access_granted (with_opens (sharing ∷ [])) (opens_file FILE_SHARE_ALL)) in
        (is_kept_out wanted.0 row.share ≡ false) × (is_kept_out row.access wanted.1 ≡ false)

-- no CREATE is granted a right whose share bit an open in use lacks, or lacks that of a right which such an open has
abbrev EachRightHasItsShareBitBy : (StoreState → FileAsked → NtStatus) → Type 0
EachRightHasItsShareBitBy status =
    (state : StoreState) (ask : FileAsked) (entry : Entry) (number : ℕ) (row : OpenRow) →
    entry_asked state ask ≡ Some entry → open_of state.opens number ≡ Some row → row.entry ≡ entry.number →
    let reads = λ (rights : ℕ). has_any rights 0x1 || has_any rights 0x20 in
    let writes = λ (rights : ℕ). has_any rights 0x2 || has_any rights 0x4 in
    let deletes = λ (rights : ℕ). has_any rights 0x10000 in
    let wanted = (access_granted state ask).0 in
    let held = row.access.0 in
    (reads wanted || writes wanted || deletes wanted) ≡ true → (reads held || writes held || deletes held) ≡ true →
    (reads wanted ≡ true → has_any row.share.0 1 ≡ false → status state ask ≢ Success)
    × (writes wanted ≡ true → has_any row.share.0 2 ≡ false → status state ask ≢ Success)
    × (deletes wanted ≡ true → has_any row.share.0 4 ≡ false → status state ask ≢ Success)
    × (reads held ≡ true → has_any ask.share 1 ≡ false → status state ask ≢ Success)
    × (writes held ≡ true → has_any ask.share 2 ≡ false → status state ask ≢ Success)
    × (deletes held ≡ true → has_any ask.share 4 ≡ false → status state ask ≢ Success)

each_right_has_its_share_bit : EachRightHasItsShareBit ≡ EachRightHasItsShareBitBy create_status
each_right_has_its_share_bit = refl

-- a conflict, by when an access is kept out by what is shared
abbrev conflict_as : (Access → ShareAccess → Bool) → Use → Use → Bool
conflict_as out new old =
    is_shared_access new.0 && is_shared_access old.0 && (out new.0 old.1 || out old.0 new.1)

-- wrong: who reads goes by the bit of writing, and who writes by that of reading
abbrev kept_out_by_other_bits : Access → ShareAccess → Bool
kept_out_by_other_bits access share =
    is_reading access && not (has_any share.0 FILE_SHARE_WRITE)
    || is_writing access && not (has_any share.0 FILE_SHARE_READ)
    || is_deleting access && not (has_any share.0 FILE_SHARE_DELETE)

a_conflict_by_other_bits_breaks_it : EachRightHasItsShareBitBy (status_by (conflict_as kept_out_by_other_bits)) → ⊥
a_conflict_by_other_bits_breaks_it law =
    let row : OpenRow = opened 2 FILE_SHARE_WRITE false in
    (law (with_opens (row ∷ [])) (opens_file FILE_SHARE_ALL) file 2 row refl refl refl refl refl).0 refl refl refl

-- wrong: a right to execute is none to read
abbrev kept_out_but_to_execute : Access → ShareAccess → Bool
kept_out_but_to_execute access share =
    has_any access.0 FILE_READ_DATA && not (has_any share.0 FILE_SHARE_READ)
    || is_writing access && not (has_any share.0 FILE_SHARE_WRITE)
    || is_deleting access && not (has_any share.0 FILE_SHARE_DELETE)

a_conflict_but_to_execute_breaks_it : EachRightHasItsShareBitBy (status_by (conflict_as kept_out_but_to_execute)) → ⊥
a_conflict_but_to_execute_breaks_it law =
    let ask : FileAsked = record (opens_file FILE_SHARE_ALL) { access = FILE_EXECUTE } in
    (law (with_opens (unsharing ∷ [])) ask file 2 unsharing refl refl refl refl refl).0 refl refl refl
