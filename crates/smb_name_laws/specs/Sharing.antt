-- What an open keeps others from, in a user's words ([MS-FSA] 2.1.5.1.2).
use Rattle.std.specs.Prelude.{◌≡◌, ◌≢◌, ◌⊎◌, ℕ, ◌||◌, Bool, true, false, Some, bit_and}
use Rattle.smb_wire.specs.Access.{FILE_SHARE_ALL, has_any}
use Rattle.smb_wire.specs.Counters.{is_spent}
use Rattle.smb_wire.specs.Dispositions.{overwrites_by}
use Rattle.smb_wire.specs.declared.nt_status.NtStatus.TheVariants.{Success, SharingViolation}
use Rattle.smb_tree.specs.Entries.{Entry}
use Rattle.smb_access.specs.declared.open_row.OpenRow.{OpenRow}
use Rattle.smb_access.specs.Asked.{FileAsked}
use Rattle.smb_access.specs.Opens.{open_of}
use Rattle.smb_access.specs.Sharing.{is_shared_access, is_kept_out, is_conflict, use_asked}
use Rattle.smb_opens.specs.Close.{closed}
use Rattle.smb_opens.specs.Create.{access_granted, create_status}
use Rattle.smb_opens.specs.Found.{entry_asked}
use Rattle.smb_opens.specs.Good.{GoodStore}
use Rattle.smb_opens.specs.State.{StoreState}

-- a CREATE is to read, write or delete its entry: by the access that it is granted, or as it overwrites
abbrev pub is_to_use : StoreState → FileAsked → Bool
is_to_use state ask = is_shared_access (access_granted state ask) || overwrites_by ask.disposition

-- while an open of an entry reads, writes or deletes it, no CREATE that is to read, write or delete the entry succeeds
-- where the open or the CREATE shares nothing
abbrev pub NothingIsGrantedWhereNothingIsShared : Type 0
NothingIsGrantedWhereNothingIsShared =
    (state : StoreState) (ask : FileAsked) (entry : Entry) (number : ℕ) (row : OpenRow) →
    entry_asked state ask ≡ Some entry → open_of state.opens number ≡ Some row → row.entry ≡ entry.number →
    is_shared_access row.access ≡ true →
    (row.share.0 ≡ 0) ⊎ (bit_and ask.share FILE_SHARE_ALL ≡ 0) → is_to_use state ask ≡ true →
    create_status state ask ≢ Success

-- while an open reads, writes or deletes its entry, no CREATE of the entry succeeds that would be granted a right to
-- read where the open lacks FILE_SHARE_READ 1, to write where it lacks FILE_SHARE_WRITE 2, or to delete where it lacks
-- FILE_SHARE_DELETE 4; nor, the other way, one that is to read, write or delete, and lacks what the open does. Rights to
-- read are FILE_READ_DATA 1 and FILE_EXECUTE 0x20; to write FILE_WRITE_DATA 2 and FILE_APPEND_DATA 4; and to delete
-- DELETE 0x10000 ([MS-SMB2] 2.2.13.1)
abbrev pub EachRightHasItsShareBit : Type 0
EachRightHasItsShareBit =
    (state : StoreState) (ask : FileAsked) (entry : Entry) (number : ℕ) (row : OpenRow) →
    entry_asked state ask ≡ Some entry → open_of state.opens number ≡ Some row → row.entry ≡ entry.number →
    let reads = λ (rights : ℕ). has_any rights 0x1 || has_any rights 0x20 in
    let writes = λ (rights : ℕ). has_any rights 0x2 || has_any rights 0x4 in
    let deletes = λ (rights : ℕ). has_any rights 0x10000 in
    let wanted = (access_granted state ask).0 in
    let held = row.access.0 in
    (reads wanted || writes wanted || deletes wanted) ≡ true → (reads held || writes held || deletes held) ≡ true →
    (reads wanted ≡ true → has_any row.share.0 1 ≡ false → create_status state ask ≢ Success)
    × (writes wanted ≡ true → has_any row.share.0 2 ≡ false → create_status state ask ≢ Success)
    × (deletes wanted ≡ true → has_any row.share.0 4 ≡ false → create_status state ask ≢ Success)
    × (reads held ≡ true → has_any ask.share 1 ≡ false → create_status state ask ≢ Success)
    × (writes held ≡ true → has_any ask.share 2 ≡ false → create_status state ask ≢ Success)
    × (deletes held ≡ true → has_any ask.share 4 ≡ false → create_status state ask ≢ Success)

-- no CREATE is refused for sharing, where it and each open of its entry share what the other is to do of reading, writing
-- and deleting; nor where it is neither to read, nor to write, delete or overwrite
abbrev pub WhoSharesIsNotRefused : Type 0
WhoSharesIsNotRefused =
    (state : StoreState) (ask : FileAsked) →
    let wanted = use_asked ask (access_granted state ask) in
    ((entry : Entry) → GoodStore state → entry_asked state ask ≡ Some entry →
    ((number : ℕ) (row : OpenRow) → open_of state.opens number ≡ Some row → row.entry ≡ entry.number →
    (is_kept_out wanted.0 row.share ≡ false) × (is_kept_out row.access wanted.1 ≡ false)) →
    create_status state ask ≢ SharingViolation)
    × (is_to_use state ask ≡ false → create_status state ask ≢ SharingViolation)

-- a CREATE that is refused for one open's sharing alone, where no other open of the entry conflicts with it, succeeds once
-- that open is closed, unless this was to delete the entry, or no number of an open is left
abbrev pub ACreateSucceedsAfterTheClose : Type 0
ACreateSucceedsAfterTheClose =
    (state : StoreState) (ask : FileAsked) (entry : Entry) (number : ℕ) (row : OpenRow) → GoodStore state →
    create_status state ask ≡ SharingViolation → entry_asked state ask ≡ Some entry →
    open_of state.opens number ≡ Some row → row.entry ≡ entry.number → row.delete_on_close ≡ false →
    ((other : ℕ) (held : OpenRow) → open_of state.opens other ≡ Some held → held.entry ≡ entry.number →
    other ≢ number → is_conflict (use_asked ask (access_granted state ask)) (held.access, held.share) ≡ false) →
    is_spent 64 state.next ≡ false → create_status (closed state number) ask ≡ Success
