-- Wrong definitions of a rename, with a law of specs/Names that refuses each.
-- A law whose name ends in By says of any definition what that of specs/ says of the right one, as the line below it
-- shows; then come the wrong definitions, and the proofs that the law is false of them.
use Rattle.std.proofs.Common.{◌≡◌, ◌⊎◌, ℕ, ◌<◌, List, [], ◌∷◌, ◌++◌, length, All, bit_and, false, Option, None, Some}
use Rattle.std.proofs.Common.{refl, ap, arith, ◌∙◌}
use Rattle.std.specs.Option.{option_map_or}
use Rattle.smb_wire.specs.Paths.{is_separator}
use Rattle.smb_tree.specs.Content.{Path, Row, Content, is_same_path, entry_at, numbered, changed}
use Rattle.smb_tree.specs.Entries.{Entry}
use Rattle.smb_tree.specs.Moves.{is_within}
use Rattle.smb_access.specs.declared.open_row.OpenRow.{OpenRow}
use Rattle.smb_access.specs.Opens.{open_of}
use Rattle.smb_access.specs.Views.{view_of}
use Rattle.smb_entry.specs.Rename.{path_named}
use Rattle.smb_opens.specs.Renames.{renamed_through}
use Rattle.smb_opens.specs.State.{StoreState}
use Rattle.smb_opens.specs.Views.{open_view}
use Rattle.smb_name_laws.specs.Names.{IsRenamed, ARenameMovesItsEntry}
use Rattle.smb_name_laws.proofs.ExampleStore.{path, file, sharing, with_opens, new_name, is_not_gone}
use Rattle.smb_name_laws.proofs.ExampleStore.{is_good_with_sharing}

-- once an entry is renamed, the new name finds it and the old name nothing, and what is open or beneath goes along
abbrev ARenameMovesItsEntryBy : (StoreState → ℕ → List ℕ → ℕ → StoreState) → Type 0
ARenameMovesItsEntryBy rename =
    (state : StoreState) (number : ℕ) (name : List ℕ) (moment : ℕ) (row : OpenRow) (from : Path) (entry : Entry) →
    IsRenamed state number name row from entry →
    let after = rename state number name moment in
    let to = path_named name in
    (moved : Entry) × (entry_at after.tree.rows to ≡ Some moved)
    × (moved.number ≡ entry.number) × (moved.kind ≡ entry.kind) × (moved.bytes ≡ entry.bytes)
    × (is_same_path from to ≡ false → entry_at after.tree.rows from ≡ None)
    × ((other : ℕ) (held : OpenRow) → open_of state.opens other ≡ Some held → held.entry ≡ row.entry →
    (open_of after.opens other ≡ Some held) × (open_view after other ≡ Some (view_of held.access moved)))
    × ((part : List ℕ) (rest : Path) →
    entry_at after.tree.rows (to ++ part ∷ rest) ≡ entry_at state.tree.rows (from ++ part ∷ rest))
    × ((path : Path) → is_within from path ≡ false → is_within to path ≡ false →
    entry_at after.tree.rows path ≡ entry_at state.tree.rows path)
    × (moved.mark ≡ entry.mark) × (moved.basic.change_time ≡ moment)
    × (moved.basic.creation_time ≡ entry.basic.creation_time)
    × (moved.basic.last_access_time ≡ entry.basic.last_access_time)
    × (moved.basic.last_write_time ≡ entry.basic.last_write_time)
    × (moved.basic.attributes.0 ≡ bit_and entry.basic.attributes.0 0x27)
    × ((front last : List ℕ) → (name ≡ last) ⊎ (name ≡ front ++ 92 ∷ last) → 0 < length last →
    All (λ unit. is_separator unit ≡ false) last → moved.spelling ≡ last)

a_rename_moves_its_entry : ARenameMovesItsEntry ≡ ARenameMovesItsEntryBy renamed_through
a_rename_moves_its_entry = refl

-- a tree with one more row, if there is one
abbrev with_row : Content → Option Row → Content
with_row tree None = tree
with_row tree (Some row) = record tree { rows = tree.rows ++ row ∷ [] }

-- wrong: a rename leaves the entry under its old name too
abbrev renamed_beside_old : StoreState → ℕ → List ℕ → ℕ → StoreState
renamed_beside_old state number name moment = record (renamed_through state number name moment) {
  tree =
      with_row (renamed_through state number name moment).tree
      (option_map_or (λ (row : OpenRow). numbered state.tree.rows row.entry) (open_of state.opens number) None);
}

a_rename_beside_old_breaks_it : ARenameMovesItsEntryBy renamed_beside_old → ⊥
a_rename_beside_old_breaks_it law =
    let moved = law (with_opens (sharing ∷ [])) 2 new_name 0 sharing path file
    (record { good = is_good_with_sharing; opened = refl; found = refl; replace = false; status = refl }) in
    is_not_gone (moved.5 refl) refl

-- of two entries that are found alike each part is the same
found_has : {T : Type 0} (of : Entry → T) (one other : Entry) → Some one ≡ Some other → of one ≡ of other
found_has of one other h = let same : one ≡ other = cc in ap of same

-- what a rename leaves, but that the file, of number 2, is made another
abbrev and_then : (ℕ → Entry → Entry) → StoreState → ℕ → List ℕ → ℕ → StoreState
and_then made state number name moment = record (renamed_through state number name moment) {
  tree = record (renamed_through state number name moment).tree {
    rows = changed (made moment) (renamed_through state number name moment).tree.rows 2;
  };
}

-- wrong: a rename is the creation of its entry
abbrev as_created : ℕ → Entry → Entry
as_created moment entry = record entry { basic = record entry.basic { creation_time = moment } }

a_rename_as_created_breaks_it : ARenameMovesItsEntryBy (and_then as_created) → ⊥
a_rename_as_created_breaks_it law =
    let moved = law (with_opens (sharing ∷ [])) 2 new_name 9 sharing path file
    (record { good = is_good_with_sharing; opened = refl; found = refl; replace = false; status = refl }) in
    let new : 9 ≡ 0 = found_has (λ entry. entry.basic.creation_time) _ moved.0 moved.1 ∙ moved.11 in omega (arith, new)

-- wrong: it hides its entry
abbrev as_hidden : ℕ → Entry → Entry
as_hidden moment entry = record entry { basic = record entry.basic { attributes = record { 0 = 2 } } }

a_rename_that_hides_breaks_it : ARenameMovesItsEntryBy (and_then as_hidden) → ⊥
a_rename_that_hides_breaks_it law =
    let moved = law (with_opens (sharing ∷ [])) 2 new_name 9 sharing path file
    (record { good = is_good_with_sharing; opened = refl; found = refl; replace = false; status = refl }) in
    let hidden : 2 ≡ 0 = found_has (λ entry. entry.basic.attributes.0) _ moved.0 moved.1 ∙ moved.14 in
    omega (arith, hidden)
