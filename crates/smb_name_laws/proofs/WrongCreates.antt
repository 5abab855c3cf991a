-- Wrong definitions of what a CREATE makes, each with a law of specs/Creates that refuses it.
-- A law whose name ends in By says of any definition what that of specs/ says of the right one, as the line below it
-- shows; then come the wrong definition, and the proof that the law is false of it.
use Rattle.std.proofs.Common.{◌≡◌, ◌≢◌, ◌⊎◌, inl, ℕ, zero, suc, ◌<◌, List, [], ◌∷◌, ◌++◌, length, slice_index, All, bit_and, bit_or}
use Rattle.std.proofs.Common.{true, false}
use Rattle.std.proofs.Common.{Option, None, Some, lit<, refl, sym, ap, arith, ◌∙◌}
use Rattle.std.specs.Option.{option_map_or}
use Rattle.smb_wire.specs.Access.{FILE_SHARE_ALL}
use Rattle.smb_wire.specs.Dispositions.{overwrites_by}
use Rattle.smb_wire.specs.Names.{folded}
use Rattle.smb_wire.specs.Paths.{path_spelled, is_separator}
use Rattle.smb_wire.specs.declared.disposition.CreateDisposition.TheVariants.{Supersede, Create, Open, Overwrite}
use Rattle.smb_wire.specs.declared.nt_status.NtStatus.TheVariants.{Success}
use Rattle.smb_tree.specs.Content.{Content, Path, is_same_path, entry_at, numbered, changed}
use Rattle.smb_tree.specs.Entries.{Entry, is_folder_kind}
use Rattle.smb_tree.specs.declared.entry.Kind.TheVariants.{File, Folder}
use Rattle.smb_access.specs.declared.open_row.OpenRow.{OpenRow}
use Rattle.smb_access.specs.Asked.{FileAsked, kind_asked}
use Rattle.smb_access.specs.Effect.{entry_after, tree_after}
use Rattle.smb_access.specs.Found.{path_asked}
use Rattle.smb_access.specs.Opens.{open_of}
use Rattle.smb_access.specs.Views.{view_of}
use Rattle.smb_opens.specs.Create.{create_status}
use Rattle.smb_opens.specs.Effect.{created, create_result}
use Rattle.smb_opens.specs.Found.{entry_asked}
use Rattle.smb_opens.specs.Good.{GoodStore}
use Rattle.smb_opens.specs.State.{StoreState}
use Rattle.smb_opens.specs.Views.{open_view}
use Rattle.smb_name_laws.specs.Creates.{ACreateFindsItsEntry, AnOverwriteRenewsItsFile, AnAbsentEntryIsMade}
use Rattle.smb_name_laws.specs.Creates.{ACreateChangesItsEntryAlone}
use Rattle.smb_name_laws.specs.Settings.{HasKeptItsName}
use Rattle.smb_name_laws.proofs.ExampleStore.{path, file, with_opens, file_name, new_name, asks, is_not_gone}
use Rattle.smb_name_laws.proofs.ExampleStore.{is_good_without_opens}

-- once a CREATE is performed, its name finds an entry, its open is of this entry, and its view is what the open shows
abbrev ACreateFindsItsEntryBy : (StoreState → FileAsked → ℕ → StoreState) → Type 0
ACreateFindsItsEntryBy create =
    (state : StoreState) (ask : FileAsked) (moment : ℕ) → GoodStore state →
    let after = create state ask moment in
    let result = create_result state ask moment in
    (entry : Entry) × (row : OpenRow) × (entry_at after.tree.rows (path_asked ask) ≡ Some entry)
    × (result.number ≡ state.next) × (open_of after.opens state.next ≡ Some row) × (row.entry ≡ entry.number)
    × (open_view after state.next ≡ Some result.view) × (result.view ≡ view_of row.access entry)

a_create_finds_its_entry : ACreateFindsItsEntry ≡ ACreateFindsItsEntryBy created
a_create_finds_its_entry = refl

-- the tree after a CREATE of an entry that existed or did not: a new entry is at its path as this is spelled
abbrev tree_as_spelled : Content → FileAsked → ℕ → Option Entry → Content
tree_as_spelled tree ask moment None = record (tree_after tree ask moment None) {
  rows = tree.rows ++ (path_spelled ask.name, entry_after tree ask moment None) ∷ [];
}
tree_as_spelled tree ask moment (Some entry) = tree_after tree ask moment (Some entry)

-- wrong: a new entry whose name has a small letter is never found, since what is looked up is folded
abbrev created_as_spelled : StoreState → FileAsked → ℕ → StoreState
created_as_spelled state ask moment = record (created state ask moment) {
  tree = tree_as_spelled state.tree ask moment (entry_asked state ask);
}

a_create_as_spelled_breaks_it : ACreateFindsItsEntryBy created_as_spelled → ⊥
a_create_as_spelled_breaks_it law =
    let finds = law (with_opens []) (asks new_name FILE_SHARE_ALL Create) 0 is_good_without_opens in
    is_not_gone (sym finds.2) refl

-- a CREATE that succeeds and overwrites leaves a file under its name without bytes, renewed as its disposition says
abbrev AnOverwriteRenewsItsFileBy : (StoreState → FileAsked → ℕ → StoreState) → Type 0
AnOverwriteRenewsItsFileBy create =
    (state : StoreState) (ask : FileAsked) (moment : ℕ) (before : Entry) → GoodStore state →
    create_status state ask ≡ Success → entry_asked state ask ≡ Some before → overwrites_by ask.disposition ≡ true →
    let was = before.basic in
    (after : Entry) × (entry_at (create state ask moment).tree.rows (path_asked ask) ≡ Some after)
    × (is_folder_kind after.kind ≡ false) × (after.bytes ≡ []) × HasKeptItsName after before
    × (after.basic.last_write_time ≡ moment) × (after.basic.change_time ≡ moment)
    × (after.basic.attributes.0 ≡ bit_and (bit_or ask.attributes 0x20) 0x27)
    × (ask.disposition ≡ 0 → after.basic.creation_time ≡ moment)
    × (ask.disposition ≡ 0 → after.basic.last_access_time ≡ moment)
    × (ask.disposition ≢ 0 → after.basic.creation_time ≡ was.creation_time)
    × (ask.disposition ≢ 0 → after.basic.last_access_time ≡ was.last_access_time)

an_overwrite_renews_its_file : AnOverwriteRenewsItsFile ≡ AnOverwriteRenewsItsFileBy created
an_overwrite_renews_its_file = refl

-- of two entries that are found alike each part is the same
found_has : {T : Type 0} (of : Entry → T) (one other : Entry) → Some one ≡ Some other → of one ≡ of other
found_has of one other h = let same : one ≡ other = cc in ap of same

-- what a CREATE leaves, but that the file, of number 2, is made another
abbrev and_then : (Entry → Entry) → StoreState → FileAsked → ℕ → StoreState
and_then made state ask moment = record (created state ask moment) {
  tree = record (created state ask moment).tree { rows = changed made (created state ask moment).tree.rows 2 };
}

-- wrong: a file that is overwritten has the bytes that it had
abbrev with_bytes : Entry → Entry
with_bytes entry = record entry { bytes = file.bytes }

a_byte_is_left : (byte : ℕ) (bytes : List ℕ) → byte ∷ bytes ≡ [] → ⊥
a_byte_is_left byte bytes none = cc

an_overwrite_with_bytes_breaks_it : AnOverwriteRenewsItsFileBy (and_then with_bytes) → ⊥
an_overwrite_with_bytes_breaks_it law =
    let after = law (with_opens []) (asks file_name FILE_SHARE_ALL Overwrite) 0 file
    is_good_without_opens refl refl refl in
    a_byte_is_left 7 [] (found_has (λ entry. entry.bytes) _ after.0 after.1 ∙ after.3)

-- wrong: it has the times that it had
abbrev with_times : Entry → Entry
with_times entry = record entry {
  basic = record entry.basic { last_write_time = file.basic.last_write_time; change_time = file.basic.change_time };
}

an_overwrite_with_times_breaks_it : AnOverwriteRenewsItsFileBy (and_then with_times) → ⊥
an_overwrite_with_times_breaks_it law =
    let after = law (with_opens []) (asks file_name FILE_SHARE_ALL Overwrite) 9 file
    is_good_without_opens refl refl refl in
    let old : 0 ≡ 9 = found_has (λ entry. entry.basic.last_write_time) _ after.0 after.1 ∙ after.5 in omega (arith, old)

-- wrong: SUPERSEDE leaves the time of the creation
abbrev with_creation_time : ℕ → Entry → Entry
with_creation_time time entry = record entry { basic = record entry.basic { creation_time = time } }

a_supersede_of_old_breaks_it : AnOverwriteRenewsItsFileBy (and_then (with_creation_time 0)) → ⊥
a_supersede_of_old_breaks_it law =
    let after = law (with_opens []) (asks file_name FILE_SHARE_ALL Supersede) 9 file
    is_good_without_opens refl refl refl in
    let old : 0 ≡ 9 = found_has (λ entry. entry.basic.creation_time) _ after.0 after.1 ∙ after.8 refl in omega (arith, old)

-- wrong: OVERWRITE renews it
an_overwrite_as_if_new_breaks_it : AnOverwriteRenewsItsFileBy (and_then (with_creation_time 9)) → ⊥
an_overwrite_as_if_new_breaks_it law =
    let after = law (with_opens []) (asks file_name FILE_SHARE_ALL Overwrite) 9 file
    is_good_without_opens refl refl refl in
    let new : 9 ≡ 0 = found_has (λ entry. entry.basic.creation_time) _ after.0 after.1 ∙ after.10 (λ e. omega (arith, e)) in
    omega (arith, new)

-- wrong: it has the attributes that it had, whatever is asked for
abbrev with_attributes : Entry → Entry
with_attributes entry = record entry { basic = record entry.basic { attributes = file.basic.attributes } }

an_overwrite_with_attributes_breaks_it : AnOverwriteRenewsItsFileBy (and_then with_attributes) → ⊥
an_overwrite_with_attributes_breaks_it law =
    let after = law (with_opens []) (asks file_name FILE_SHARE_ALL Overwrite) 9 file
    is_good_without_opens refl refl refl in
    let none : 0 ≡ 32 = found_has (λ entry. entry.basic.attributes.0) _ after.0 after.1 ∙ after.7 in omega (arith, none)

-- wrong: it is spelled as the CREATE spells it
abbrev with_spelling : Entry → Entry
with_spelling entry = record entry { spelling = file_name }

an_overwrite_that_respells_breaks_it : AnOverwriteRenewsItsFileBy (and_then with_spelling) → ⊥
an_overwrite_that_respells_breaks_it law =
    let after = law (with_opens []) (asks file_name FILE_SHARE_ALL Overwrite) 9 file
    is_good_without_opens refl refl refl in
    let small : 97 ∷ [] ≡ 65 ∷ [] = found_has (λ entry. entry.spelling) _ after.0 after.1 ∙ after.4.spelling in
    let unit : 97 ≡ 65 = ap (λ (units : List ℕ). slice_index units 0) small in omega (arith, unit)

-- a CREATE of a name that finds nothing makes a new entry there, of its moment, and spelled as it was asked for
abbrev AnAbsentEntryIsMadeBy : (StoreState → FileAsked → ℕ → StoreState) → Type 0
AnAbsentEntryIsMadeBy create =
    (state : StoreState) (ask : FileAsked) (moment : ℕ) → GoodStore state → entry_asked state ask ≡ None →
    (made : Entry) × (entry_at (create state ask moment).tree.rows (path_asked ask) ≡ Some made)
    × (numbered state.tree.rows made.number ≡ None) × (made.kind ≡ kind_asked ask) × (made.bytes ≡ [])
    × (made.mark ≡ false)
    × (made.basic.creation_time ≡ moment) × (made.basic.last_access_time ≡ moment)
    × (made.basic.last_write_time ≡ moment) × (made.basic.change_time ≡ moment)
    × (made.kind ≡ File → made.basic.attributes.0 ≡ bit_and (bit_or ask.attributes 0x20) 0x27)
    × (made.kind ≡ Folder → made.basic.attributes.0 ≡ bit_and ask.attributes 0x27)
    × ((front last : List ℕ) → (ask.name ≡ last) ⊎ (ask.name ≡ front ++ 92 ∷ last) → 0 < length last →
    All (λ unit. is_separator unit ≡ false) last → made.spelling ≡ last)

an_absent_entry_is_made : AnAbsentEntryIsMade ≡ AnAbsentEntryIsMadeBy created
an_absent_entry_is_made = refl

-- wrong: a new entry has no times
abbrev created_at_no_time : StoreState → FileAsked → ℕ → StoreState
created_at_no_time state ask moment = created state ask 0

a_create_at_no_time_breaks_it : AnAbsentEntryIsMadeBy created_at_no_time → ⊥
a_create_at_no_time_breaks_it law =
    let made = law (with_opens []) (asks new_name FILE_SHARE_ALL Create) 9 is_good_without_opens refl in
    let old : 0 ≡ 9 = found_has (λ entry. entry.basic.creation_time) _ made.0 made.1 ∙ made.6 in
    omega (arith, old)

-- wrong: a new entry is not SYSTEM, whatever is asked for
abbrev created_without_system : StoreState → FileAsked → ℕ → StoreState
created_without_system state ask moment =
    created state (record ask { attributes = bit_and ask.attributes 0x23 }) moment

a_create_without_system_breaks_it : AnAbsentEntryIsMadeBy created_without_system → ⊥
a_create_without_system_breaks_it law =
    let ask : FileAsked = record (asks new_name FILE_SHARE_ALL Create) { attributes = 4 } in
    let made = law (with_opens []) ask 9 is_good_without_opens refl in
    let kind : made.0.kind ≡ File = made.3 in
    let dropped : 32 ≡ 36 =
    found_has (λ entry. entry.basic.attributes.0) _ made.0 made.1 ∙ made.10 kind in
    omega (arith, dropped)

-- wrong: a new entry is spelled in large letters
abbrev created_in_large : StoreState → FileAsked → ℕ → StoreState
created_in_large state ask moment =
    created state (record ask { name = folded ask.name }) moment

new_name_is_one : All (λ unit. is_separator unit ≡ false) new_name
new_name_is_one zero d l = refl
new_name_is_one (suc k) d l = absurd (omega (arith, l))

a_create_in_large_breaks_it : AnAbsentEntryIsMadeBy created_in_large → ⊥
a_create_in_large_breaks_it law =
    let made = law (with_opens []) (asks new_name FILE_SHARE_ALL Create) 0 is_good_without_opens refl in
    let large : 66 ∷ [] ≡ 98 ∷ [] =
    found_has (λ entry. entry.spelling) _ made.0 made.1 ∙ made.12 [] new_name (inl refl) (lit< tt) new_name_is_one in
    let unit : 66 ≡ 98 = ap (λ (units : List ℕ). slice_index units 0) large in omega (arith, unit)

-- a CREATE changes no entry but the one that its name finds, and where it does not overwrite, none
abbrev ACreateChangesItsEntryAloneBy : (StoreState → FileAsked → ℕ → StoreState) → Type 0
ACreateChangesItsEntryAloneBy create =
    (state : StoreState) (ask : FileAsked) (moment : ℕ) →
    let after = (create state ask moment).tree in
    (GoodStore state → (other : Path) → is_same_path (path_asked ask) other ≡ false →
    entry_at after.rows other ≡ entry_at state.tree.rows other)
    × (overwrites_by ask.disposition ≡ false → (entry : Entry) → entry_asked state ask ≡ Some entry →
    after ≡ state.tree)
    × (overwrites_by ask.disposition ≡ false → (path : Path) (entry : Entry) →
    entry_at state.tree.rows path ≡ Some entry → entry_at after.rows path ≡ Some entry)

a_create_changes_its_entry_alone : ACreateChangesItsEntryAlone ≡ ACreateChangesItsEntryAloneBy created
a_create_changes_its_entry_alone = refl

-- wrong: a CREATE empties a file, that of number 2, whatever it names
abbrev created_and_emptied : StoreState → FileAsked → ℕ → StoreState
created_and_emptied state ask moment = record (created state ask moment) {
  tree = record (created state ask moment).tree {
    rows = changed (λ entry. record entry { bytes = [] }) (created state ask moment).tree.rows 2;
  };
}

a_create_and_emptied_breaks_it : ACreateChangesItsEntryAloneBy created_and_emptied → ⊥
a_create_and_emptied_breaks_it law =
    let same = (law (with_opens []) (asks new_name FILE_SHARE_ALL Create) 0).0 is_good_without_opens path refl in
    let lost : 0 ≡ 1 = ap (λ (o : Option Entry). option_map_or (λ (e : Entry). length e.bytes) o 0) same in
    omega (arith, lost)

-- also where it opens this file itself
a_create_that_empties_breaks_it : ACreateChangesItsEntryAloneBy created_and_emptied → ⊥
a_create_that_empties_breaks_it law =
    let same = (law (with_opens []) (asks file_name FILE_SHARE_ALL Open) 0).1 refl file refl in
    let lost : 0 ≡ 1 =
    ap (λ (tree : Content). option_map_or (λ (e : Entry). length e.bytes) (entry_at tree.rows path) 0) same in
    omega (arith, lost)
