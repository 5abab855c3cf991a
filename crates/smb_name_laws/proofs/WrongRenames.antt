-- Wrong definitions of which rename succeeds, each with a law of specs/RenamesSucceed that refuses it.
-- A law whose name ends in By says of any definition what that of specs/ says of the right one, as the line below it
-- shows; then come the wrong definitions, and the proofs that the law is false of them.
use Rattle.std.proofs.Common.{◌≡◌, inl, inr, ℕ, ◌≤◌, ◌==◌, List, [], ◌∷◌, length, Bool, true, false, not, ◌&&◌, cond, if◌then◌else◌}
use Rattle.std.proofs.Common.{None, Some, is_some, lit≤, refl, sym, ap, arith}
use Rattle.std.specs.List.{list_any}
use Rattle.std.specs.Option.{option_map_or}
use Rattle.smb_wire.specs.Limits.{most_components}
use Rattle.smb_wire.specs.Paths.{is_separator}
use Rattle.smb_wire.specs.declared.nt_status.NtStatus.{NtStatus}
use Rattle.smb_wire.specs.declared.nt_status.NtStatus.TheVariants.{Success, ObjectNameInvalid, ObjectNameCollision, AccessDenied, DirectoryNotEmpty}
use Rattle.smb_tree.specs.Content.{Path, is_same_path, entry_at}
use Rattle.smb_tree.specs.Entries.{Entry}
use Rattle.smb_tree.proofs.Keys.{same_path-eq}
use Rattle.smb_access.specs.declared.open_row.OpenRow.{OpenRow}
use Rattle.smb_access.specs.Opens.{open_of, has_open}
use Rattle.smb_entry.specs.Parts.{has_entries}
use Rattle.smb_entry.specs.Rename.{path_named}
use Rattle.smb_opens.specs.Good.{GoodStore}
use Rattle.smb_opens.specs.Renames.{rename_status}
use Rattle.smb_opens.specs.State.{StoreState}
use Rattle.smb_name_laws.specs.NewNames.{IsPlain, NamesPlainly}
use Rattle.smb_name_laws.specs.RenamesSucceed.{MayRename, MayMoveTo, ARenameSucceeds, ARenameOfCaseSucceeds}
use Rattle.smb_name_laws.proofs.ExampleStore.{path, file, file_name, new_name, deleting, sharing, with_opens, is_good_with_both}
use Rattle.smb_name_laws.proofs.ExampleNames.{two_letters, plain_letter, plain_two_letters, one_part, two_parts}
use Rattle.smb_name_laws.proofs.ExampleFolder.{path_a, path_c, path_d, file_a, file_b, folder_c, file_d, four_rows, open_on, with_open_on, is_good_with_open_on}

-- a rename to a plain name succeeds
abbrev ARenameSucceedsBy : (StoreState → ℕ → List ℕ → Bool → NtStatus) → Type 0
ARenameSucceedsBy status =
    (state : StoreState) (number : ℕ) (name : List ℕ) (replace : Bool) (row : OpenRow) (from : Path) (entry : Entry) →
    GoodStore state → MayRename state number row from entry → NamesPlainly state name →
    MayMoveTo state from entry (path_named name) replace → status state number name replace ≡ Success

a_rename_succeeds : ARenameSucceeds ≡ ARenameSucceedsBy rename_status
a_rename_succeeds = refl

-- the file `A`, and the folder `C`, each of which can be renamed through open 2
may_rename_a : MayRename (with_open_on 2) 2 (open_on 2) path_a file_a
may_rename_a = record { opened = refl; access = refl; found = refl; inside = λ e. cc; unmarked = refl }

may_rename_c : MayRename (with_open_on 4) 2 (open_on 4) path_c folder_c
may_rename_c = record { opened = refl; access = refl; found = refl; inside = λ e. cc; unmarked = refl }

-- a name of one part, in the root
named : (entry : ℕ) (name : List ℕ) → IsPlain name → NamesPlainly (with_open_on entry) name
named entry name plain = record {
  above = [];
  last = name;
  folder = _;
  spelled = refl;
  plain = one_part name plain;
  few = lit≤ tt;
  found = refl;
  kind = refl;
  unmarked = refl;
}

-- wrong: a name that exists is refused, also where ReplaceIfExists is set
abbrev status_without_replacing : StoreState → ℕ → List ℕ → Bool → NtStatus
status_without_replacing state number name replace =
    if is_some (entry_at state.tree.rows (path_named name)) then ObjectNameCollision
    else rename_status state number name replace

a_status_without_replacing_breaks_it : ARenameSucceedsBy status_without_replacing → ⊥
a_status_without_replacing_breaks_it law =
    let renamed : ObjectNameCollision ≡ Success =
    law (with_open_on 2) 2 new_name true (open_on 2) path_a file_a (is_good_with_open_on 2 refl) may_rename_a
    (named 2 new_name (plain_letter 98 refl))
    (record {
      outside = refl;
      free = inr (file_b, refl, record { kind = refl; unmarked = refl; writable = refl; unopened = refl }, refl);
      beneath = λ folder. absurd (cc);
    }) in cc

-- wrong: an entry stays in its folder: a name that has a separator is refused
abbrev status_in_folder : StoreState → ℕ → List ℕ → Bool → NtStatus
status_in_folder state number name replace =
    if list_any is_separator name then ObjectNameInvalid else rename_status state number name replace

-- the name `c\a`
abbrev inner_name : List ℕ
inner_name = 99 ∷ 92 ∷ 97 ∷ []

a_status_in_folder_breaks_it : ARenameSucceedsBy status_in_folder → ⊥
a_status_in_folder_breaks_it law =
    let renamed : ObjectNameInvalid ≡ Success =
    law (with_open_on 2) 2 inner_name false (open_on 2) path_a file_a (is_good_with_open_on 2 refl) may_rename_a
    (record {
      above = (99 ∷ []) ∷ [];
      last = file_name;
      folder = folder_c;
      spelled = refl;
      plain = two_parts (99 ∷ []) file_name (plain_letter 99 refl) (plain_letter 97 refl);
      few = lit≤ tt;
      found = refl;
      kind = refl;
      unmarked = refl;
    })
    (record { outside = refl; free = inl refl; beneath = λ folder. absurd (cc) }) in cc

-- wrong: a name of two letters is refused
abbrev status_not_of_two : StoreState → ℕ → List ℕ → Bool → NtStatus
status_not_of_two state number name replace =
    if length name == 2 then ObjectNameInvalid else rename_status state number name replace

a_status_not_of_two_breaks_it : ARenameSucceedsBy status_not_of_two → ⊥
a_status_not_of_two_breaks_it law =
    let renamed : ObjectNameInvalid ≡ Success =
    law (with_open_on 2) 2 two_letters false (open_on 2) path_a file_a (is_good_with_open_on 2 refl) may_rename_a
    (named 2 two_letters plain_two_letters)
    (record { outside = refl; free = inl refl; beneath = λ folder. absurd (cc) }) in cc

-- wrong: an entry with another open is not renamed
abbrev status_of_one_open : StoreState → ℕ → List ℕ → Bool → NtStatus
status_of_one_open state number name replace =
    if option_map_or
    (λ (row : OpenRow). list_any (λ other. other.entry == row.entry && not (other.number == number)) state.opens)
    (open_of state.opens number) false
    then AccessDenied else rename_status state number name replace

a_status_of_one_open_breaks_it : ARenameSucceedsBy status_of_one_open → ⊥
a_status_of_one_open_breaks_it law =
    let renamed : AccessDenied ≡ Success =
    law (with_opens (deleting ∷ sharing ∷ [])) 2 new_name false sharing path file is_good_with_both
    (record { opened = refl; access = refl; found = refl; inside = λ e. cc; unmarked = refl })
    (record {
      above = [];
      last = new_name;
      folder = _;
      spelled = refl;
      plain = one_part new_name (plain_letter 98 refl);
      few = lit≤ tt;
      found = refl;
      kind = refl;
      unmarked = refl;
    })
    (record { outside = refl; free = inl refl; beneath = λ folder. absurd (cc) }) in cc

-- wrong: a folder that is not empty is not renamed
abbrev status_of_empty : StoreState → ℕ → List ℕ → Bool → NtStatus
status_of_empty state number name replace =
    if option_map_or (λ (row : OpenRow). has_entries state.tree.rows row.entry) (open_of state.opens number) false
    then DirectoryNotEmpty else rename_status state number name replace

-- beneath `C` there is `D` alone
beneath_c : (part : List ℕ) (rest : Path) (other : Entry) → entry_at four_rows ((67 ∷ []) ∷ part ∷ rest) ≡ Some other →
    (has_open (open_on 4 ∷ []) other.number ≡ false) × (length (two_letters ∷ part ∷ rest) ≤ most_components)
beneath_c part rest other found =
    elim (is_same_path path_d ((67 ∷ []) ∷ part ∷ rest)) as
    (λ b. is_same_path path_d ((67 ∷ []) ∷ part ∷ rest) ≡ b → cond b (Some file_d) None ≡ Some other →
    (has_open (open_on 4 ∷ []) other.number ≡ false) × (length (two_letters ∷ part ∷ rest) ≤ most_components)) [
      | true ↦ λ same it.
          let is : file_d ≡ other = cc in
          let long = ap (λ (p : Path). length p) (same_path-eq path_d ((67 ∷ []) ∷ part ∷ rest) same) in
          (ap (λ (entry : Entry). has_open (open_on 4 ∷ []) entry.number) (sym is), omega (arith, long))
      | false ↦ λ other none. absurd (cc)
    ] refl found

a_status_of_empty_breaks_it : ARenameSucceedsBy status_of_empty → ⊥
a_status_of_empty_breaks_it law =
    let renamed : DirectoryNotEmpty ≡ Success =
    law (with_open_on 4) 2 two_letters false (open_on 4) path_c folder_c (is_good_with_open_on 4 refl) may_rename_c
    (named 4 two_letters plain_two_letters)
    (record { outside = refl; free = inl refl; beneath = λ folder. beneath_c }) in cc

-- a rename to the same name in letters of another case succeeds
abbrev ARenameOfCaseSucceedsBy : (StoreState → ℕ → List ℕ → Bool → NtStatus) → Type 0
ARenameOfCaseSucceedsBy status =
    (state : StoreState) (number : ℕ) (name : List ℕ) (replace : Bool) (row : OpenRow) (from : Path) (entry : Entry) →
    GoodStore state → MayRename state number row from entry → NamesPlainly state name →
    is_same_path from (path_named name) ≡ true → status state number name replace ≡ Success

a_rename_of_case_succeeds : ARenameOfCaseSucceeds ≡ ARenameOfCaseSucceedsBy rename_status
a_rename_of_case_succeeds = refl

-- wrong: a name that exists is refused where ReplaceIfExists is not set, also the entry's own
abbrev status_of_other_names : StoreState → ℕ → List ℕ → Bool → NtStatus
status_of_other_names state number name replace =
    if is_some (entry_at state.tree.rows (path_named name)) && not replace then ObjectNameCollision
    else rename_status state number name replace

a_status_of_other_names_breaks_it : ARenameOfCaseSucceedsBy status_of_other_names → ⊥
a_status_of_other_names_breaks_it law =
    let renamed : ObjectNameCollision ≡ Success =
    law (with_open_on 2) 2 file_name false (open_on 2) path_a file_a (is_good_with_open_on 2 refl) may_rename_a
    (named 2 file_name (plain_letter 97 refl)) refl in cc
