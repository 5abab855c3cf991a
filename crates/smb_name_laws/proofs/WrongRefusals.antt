-- Wrong definitions of which CREATE is refused, each refused by the law of specs/Creates.
-- The law whose name ends in By says of any definition what that of specs/ says of the right one, as the line below it
-- shows; then come the wrong definitions, and the proofs that the law is false of them.
use Rattle.std.proofs.Common.{◌≡◌, ◌≢◌, ◌⊎◌, inl, inr, ℕ, suc, ◌==◌, [], ◌++◌, take, drop, true, false, None, Some, if◌then◌else◌, refl}
use Rattle.smb_wire.specs.Access.{has_any, FILE_WRITE_DATA, FILE_SHARE_ALL}
use Rattle.smb_wire.specs.Dispositions.{overwrites_by}
use Rattle.smb_wire.specs.declared.disposition.CreateDisposition.TheVariants.{Create, Open}
use Rattle.smb_wire.specs.declared.nt_status.NtStatus.{NtStatus}
use Rattle.smb_wire.specs.declared.nt_status.NtStatus.TheVariants.{Success}
use Rattle.smb_tree.specs.Content.{changed}
use Rattle.smb_tree.specs.Entries.{Entry, new_entry, is_folder_kind}
use Rattle.smb_tree.specs.declared.entry.Kind.TheVariants.{Folder}
use Rattle.smb_access.specs.Asked.{FileAsked}
use Rattle.smb_refusals.specs.Rows.{first_status}
use Rattle.smb_opens.specs.Create.{access_granted, create_rows, create_status}
use Rattle.smb_opens.specs.Found.{entry_asked}
use Rattle.smb_opens.specs.State.{StoreState}
use Rattle.smb_name_laws.specs.Creates.{ACreateIsRefused}
use Rattle.smb_name_laws.proofs.ExampleStore.{file, content, with_opens, file_name, new_name, asks}

-- no CREATE succeeds whose disposition or options do not fit what is there, nor one that would write to a READONLY file
abbrev ACreateIsRefusedBy : (StoreState → FileAsked → NtStatus) → Type 0
ACreateIsRefusedBy status =
    (state : StoreState) (ask : FileAsked) →
    let rights = (access_granted state ask).0 in
    ((entry : Entry) → entry_asked state ask ≡ Some entry →
    (ask.disposition ≡ 2 → status state ask ≢ Success)
    × (is_folder_kind entry.kind ≡ true → has_any ask.options 0x40 ≡ true → status state ask ≢ Success)
    × (is_folder_kind entry.kind ≡ false → has_any ask.options 1 ≡ true → status state ask ≢ Success)
    × (is_folder_kind entry.kind ≡ false → has_any entry.basic.attributes.0 1 ≡ true →
    (overwrites_by ask.disposition ≡ true) ⊎ ((has_any rights 2 ≡ true) ⊎ (has_any rights 4 ≡ true)) →
    status state ask ≢ Success))
    × (entry_asked state ask ≡ None → (ask.disposition ≡ 1) ⊎ (ask.disposition ≡ 4) → status state ask ≢ Success)

a_create_is_refused : ACreateIsRefused ≡ ACreateIsRefusedBy create_status
a_create_is_refused = refl

-- wrong: FILE_OPEN makes what is absent
abbrev status_of_open_if : StoreState → FileAsked → NtStatus
status_of_open_if state ask =
    create_status state (if ask.disposition == 1 then record ask { disposition = 3 } else ask)

a_status_of_open_if_breaks_it : ACreateIsRefusedBy status_of_open_if → ⊥
a_status_of_open_if_breaks_it law =
    (law (with_opens []) (asks new_name FILE_SHARE_ALL Open)).1 refl (inl refl) refl

-- the status of a CREATE by all rows but one, of the rows of docs/PROFILE.md, which has one more behind 6 and behind 9
abbrev status_without : ℕ → StoreState → FileAsked → NtStatus
status_without row state ask = first_status
    (take row (create_rows state ask (entry_asked state ask))
    ++ drop (suc row) (create_rows state ask (entry_asked state ask)))

-- wrong: FILE_CREATE opens what is there, without row 10
a_status_of_what_is_there_breaks_it : ACreateIsRefusedBy (status_without 11) → ⊥
a_status_of_what_is_there_breaks_it law =
    ((law (with_opens []) (asks file_name FILE_SHARE_ALL Create)).0 file refl).0 refl refl

-- wrong: a folder, the root, is opened as a file, without row 11
a_status_of_a_folder_breaks_it : ACreateIsRefusedBy (status_without 12) → ⊥
a_status_of_a_folder_breaks_it law =
    ((law (with_opens []) (record (asks [] FILE_SHARE_ALL Open) { options = 0x40 })).0
    (new_entry 1 [] Folder 0 0) refl).1 refl refl refl

-- wrong: a file is opened as a folder, without row 12
a_status_of_a_file_breaks_it : ACreateIsRefusedBy (status_without 13) → ⊥
a_status_of_a_file_breaks_it law =
    ((law (with_opens []) (record (asks file_name FILE_SHARE_ALL Open) { options = 1 })).0 file refl).2 refl refl refl

-- the same file, but READONLY
abbrev read_only : Entry → Entry
read_only entry = record entry { basic = record entry.basic { attributes = record { 0 = 1 } } }

-- wrong: a file that is READONLY is opened to be written, without row 13
a_status_of_read_only_breaks_it : ACreateIsRefusedBy (status_without 14) → ⊥
a_status_of_read_only_breaks_it law =
    let state : StoreState = record (with_opens []) {
      tree = record content { rows = changed read_only content.rows 2 };
    } in
    ((law state (record (asks file_name FILE_SHARE_ALL Open) { access = FILE_WRITE_DATA })).0 (read_only file) refl).3
    refl refl (inr (inl refl)) refl
