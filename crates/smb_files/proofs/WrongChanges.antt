-- Wrong definitions of changes, each with a law of specs/Laws that refuses it: of the wrong one the law is false.
-- A law whose name ends in By says of any definition what that of specs/ says of the right one, as the line below it
-- shows; then come the wrong definitions, and the proofs that the law is false of them.
use Rattle.std.proofs.Common.{◌≡◌, ◌≢◌, ℕ, length, map, Bool, true, false, is_some, List, [], ◌∷◌, Option, None, Some}
use Rattle.std.proofs.Common.{refl, sym, ap, arith, ◌∙◌}
use Rattle.std.proofs.lemmas.Bool.{eq-eqb}
use Rattle.std.proofs.lemmas.Cmp.{nat_cmp_total}
use Rattle.std.specs.FinMap.{get, from_entries, get-insert}
use Rattle.std.specs.List.{AllByRecursion}
use Rattle.std.specs.Option.{option_map, option_map_or}
use Rattle.smb_wire.specs.Paths.{folded_path}
use Rattle.smb_tree.specs.declared.entry.Basic.{Basic}
use Rattle.smb_tree.specs.declared.entry.Kind.{Kind}
use Rattle.smb_tree.specs.declared.entry.Kind.TheVariants.{File}
use Rattle.smb_tree.specs.Entries.{kept_basic}
use Rattle.smb_tree.specs.Content.{Path, Row, Content, entry_at, numbered, added, changed_in, without, resized, written}
use Rattle.smb_tree.specs.Faults.{add_fault, remove_fault, move_fault}
use Rattle.smb_tree.specs.Moves.{moved}
use Rattle.smb_tree.specs.Good.{GoodContent, IsLawfulRow}
use Rattle.smb_files.specs.Files.{About, FileEntry, Files, Change, sets, writes, resizes, removes}
use Rattle.smb_files.specs.Files.{changed_by, replayed, with_bytes, bytes_in}
use Rattle.smb_files.specs.Contents.{about_of, parent_number, file_of, files_of}
use Rattle.smb_files.specs.Laws.{entry_change, move_changes, AnAdditionIsAChange, AWriteIsAChange}
use Rattle.smb_files.specs.Laws.{ASettingIsAChange, ARemovalIsAChange, AMoveIsAChange, FilesTellTheContent}
use Rattle.smb_files.proofs.Gets.{tie, get-files_of}
use Rattle.smb_files.proofs.Equations.{get-with_bytes}
use Rattle.smb_files.proofs.ExampleContent.{file, example, with_move}
use Rattle.smb_files.proofs.ExampleContent.{example_is_good, example_is_lawful, with_move_is_good, with_move_is_lawful}

-- the entry of a number in a content, and in files that are the content's
found_in : (content : Content) (files : Files) (number : ℕ) → files_of content ≡ files →
    option_map (file_of content.rows) (numbered content.rows number) ≡ get files.entries number
found_in content files number same =
    sym (get-files_of content number) ∙ ap (λ (others : Files). get others.entries number) same

-- an entry that was set
entry_set : (files : Files) (number parent : ℕ) (about : About) →
    let entry : FileEntry = record { parent = parent; about = about; bytes = bytes_in (get files.entries number) } in
    get (changed_by files (sets number parent about)).entries number ≡ Some entry
entry_set files number parent about =
    let entry : FileEntry = record { parent = parent; about = about; bytes = bytes_in (get files.entries number) } in
    rw (get-insert nat_cmp_total files.entries number entry number, tie number number, eq-eqb number number refl) refl

no_entry : (entry : FileEntry) → ◌≡◌ {A = Option FileEntry} None (Some entry) → ⊥
no_entry entry e = cc

-- ADDITIONS

-- an addition is one change: the new entry
abbrev AnAdditionIsAChangeBy : (Files → Change → Files) → Type 0
AnAdditionIsAChangeBy change_by =
    (content : Content) (parts : List (List ℕ)) (kind : Kind) (attributes moment : ℕ) → GoodContent content →
    add_fault content (folded_path parts) ≡ None →
    let after = added content parts kind attributes moment in
    files_of after ≡ change_by (files_of content) (entry_change after content.next)

an_addition_is_a_change : AnAdditionIsAChange ≡ AnAdditionIsAChangeBy changed_by
an_addition_is_a_change = refl

-- wrong: the number of a new entry is given again
abbrev changed_for_reuse : Files → Change → Files
changed_for_reuse files change = record (changed_by files change) { next = files.next }

a_number_given_again_breaks_it : AnAdditionIsAChangeBy changed_for_reuse → ⊥
a_number_given_again_breaks_it law =
    let same = law example ((68 ∷ []) ∷ []) File 0 0 example_is_good refl in
    let again : 6 ≡ 5 = ap (λ (files : Files). files.next) same in
    omega (arith, again)

-- WRITES

-- bytes put at an offset are one change, and so is another size
abbrev AWriteIsAChangeBy : (Files → Change → Files) → Type 0
AWriteIsAChangeBy change_by =
    (content : Content) (number : ℕ) →
    ((offset : ℕ) (buffer : List ℕ) →
    files_of (changed_in (λ entry. record entry { bytes = written offset buffer entry.bytes }) content number)
    ≡ change_by (files_of content) (writes number offset buffer))
    × ((size : ℕ) →
    files_of (changed_in (λ entry. record entry { bytes = resized size entry.bytes }) content number)
    ≡ change_by (files_of content) (resizes number size))

a_write_is_a_change : AWriteIsAChange ≡ AWriteIsAChangeBy changed_by
a_write_is_a_change = refl

-- wrong: bytes are put at the front of a file, whatever their offset
abbrev changed_at_front : Files → Change → Files
changed_at_front files (writes number offset buffer) = changed_by files (writes number 0 buffer)
changed_at_front files change = changed_by files change

a_write_at_the_front_breaks_it : AWriteIsAChangeBy changed_at_front → ⊥
a_write_at_the_front_breaks_it law =
    let put = written 0 (9 ∷ []) in
    let after = changed_in (λ entry. record entry { bytes = written 1 (9 ∷ []) entry.bytes }) example 2 in
    let found = found_in after (with_bytes put (files_of example) 2) 2 ((law example 2).0 1 (9 ∷ [])) in
    let is_put = get-with_bytes put (files_of example) 2 2 in
    let was_there = get-files_of example 2 in
    let count : Option FileEntry → ℕ = λ entry. length (bytes_in entry) in
    let put_in : FileEntry → FileEntry = λ entry. record entry { bytes = put entry.bytes } in
    let shorter : 2 ≡ 1 = ap count (found ∙ is_put ∙ ap (option_map put_in) was_there) in
    omega (arith, shorter)

-- wrong: another size leaves a file's bytes
abbrev changed_but_for_sizes : Files → Change → Files
changed_but_for_sizes files (resizes number size) = files
changed_but_for_sizes files change = changed_by files change

a_size_that_leaves_breaks_it : AWriteIsAChangeBy changed_but_for_sizes → ⊥
a_size_that_leaves_breaks_it law =
    let after = changed_in (λ entry. record entry { bytes = resized 0 entry.bytes }) example 2 in
    let found = found_in after (files_of example) 2 ((law example 2).1 0) in
    let count : Option FileEntry → ℕ = λ entry. length (bytes_in entry) in
    let longer : 0 ≡ 1 = ap count (found ∙ get-files_of example 2) in
    omega (arith, longer)

-- SETTINGS

-- other times and attributes, and a mark, are one change: the entry as it then is
abbrev ASettingIsAChangeBy : (Content → ℕ → Change) → Type 0
ASettingIsAChangeBy change_of =
    (content : Content) (number : ℕ) (row : Row) → GoodContent content → numbered content.rows number ≡ Some row →
    ((basic : Basic) →
    let after = changed_in (λ entry. record entry { basic = kept_basic basic }) content number in
    files_of after ≡ changed_by (files_of content) (change_of after number))
    × ((mark : Bool) →
    let after = changed_in (λ entry. record entry { mark = mark }) content number in
    files_of after ≡ changed_by (files_of content) (change_of after number))

a_setting_is_a_change : ASettingIsAChange ≡ ASettingIsAChangeBy entry_change
a_setting_is_a_change = refl

-- wrong: the mark of an entry is not set
abbrev change_without_mark : Content → ℕ → Change
change_without_mark content number = option_map_or
    (λ (row : Row). sets number (parent_number content.rows row) (record (about_of row.1) { mark = false }))
    (numbered content.rows number) (removes number)

-- the mark of an entry, if there is one
abbrev mark_in : Option FileEntry → Bool
mark_in found = option_map_or (λ (entry : FileEntry). entry.about.mark) found false

a_mark_that_is_not_set_breaks_it : ASettingIsAChangeBy change_without_mark → ⊥
a_mark_that_is_not_set_breaks_it law =
    let after = changed_in (λ entry. record entry { mark = true }) example 2 in
    let about : About = about_of (file 2 65 7) in
    let same : files_of after ≡ changed_by (files_of example) (sets 2 1 about) =
    (law example 2 ((65 ∷ []) ∷ [], file 2 65 7) example_is_good refl).1 true in
    let found = found_in after (changed_by (files_of example) (sets 2 1 about)) 2 same in
    let marked : true ≡ false = ap mark_in (found ∙ entry_set (files_of example) 2 1 about) in
    cc

-- REMOVALS

-- a removal is one change: the entry is gone
abbrev ARemovalIsAChangeBy : (Files → Change → Files) → Type 0
ARemovalIsAChangeBy change_by =
    (content : Content) (number : ℕ) → GoodContent content → number ≢ 1 → remove_fault content number ≡ None →
    files_of (record content { rows = without content.rows number }) ≡ change_by (files_of content) (removes number)

a_removal_is_a_change : ARemovalIsAChange ≡ ARemovalIsAChangeBy changed_by
a_removal_is_a_change = refl

-- wrong: a removal leaves the entry
abbrev changed_but_for_removals : Files → Change → Files
changed_but_for_removals files (removes number) = files
changed_but_for_removals files change = changed_by files change

a_removal_that_leaves_breaks_it : ARemovalIsAChangeBy changed_but_for_removals → ⊥
a_removal_that_leaves_breaks_it law =
    let after : Content = record example { rows = without example.rows 2 } in
    let same : files_of after ≡ files_of example = law example 2 example_is_good (λ e. omega (arith, e)) refl in
    no_entry (file_of example.rows ((65 ∷ []) ∷ [], file 2 65 7))
    (found_in after (files_of example) 2 same ∙ get-files_of example 2)

-- MOVES

-- a move is one change, or two where it replaces a file
abbrev AMoveIsAChangeBy : (Content → ℕ → List (List ℕ) → List Change) → Type 0
AMoveIsAChangeBy changes_of =
    (content : Content) (number : ℕ) (parts : List (List ℕ)) → GoodContent content →
    move_fault content number (folded_path parts) ≡ None →
    files_of (moved content number parts) ≡ replayed (files_of content) (changes_of content number parts)

a_move_is_a_change : AMoveIsAChange ≡ AMoveIsAChangeBy move_changes
a_move_is_a_change = refl

-- wrong: the file that a move replaces stays
abbrev changes_of_the_moved : Content → ℕ → List (List ℕ) → List Change
changes_of_the_moved content number parts = entry_change (moved content number parts) number ∷ []

a_replaced_file_that_stays_breaks_it : AMoveIsAChangeBy changes_of_the_moved → ⊥
a_replaced_file_that_stays_breaks_it law =
    let after = moved example 2 ((66 ∷ []) ∷ []) in
    let change = entry_change after 2 in
    let same = law example 2 ((66 ∷ []) ∷ []) example_is_good refl in
    let found = found_in after (changed_by (files_of example) change) 3 same in
    let entry : FileEntry = record {
      parent = 1;
      about = about_of (file 2 66 7);
      bytes = bytes_in (get (files_of example).entries 2);
    } in
    let stays = get-insert nat_cmp_total (files_of example).entries 2 entry 3 in
    no_entry (file_of example.rows ((66 ∷ []) ∷ [], file 3 66 8)) (found ∙ stays ∙ get-files_of example 3)

-- the number of the folder in which an entry is, if there is one
abbrev parent_in : Option FileEntry → ℕ
parent_in found = option_map_or (λ (entry : FileEntry). entry.parent) found 0

-- wrong: the entry that is moved stays in its folder
abbrev changes_within_the_folder : Content → ℕ → List (List ℕ) → List Change
changes_within_the_folder content number parts =
    let after = λ (row : Row). option_map_or (λ (other : Row). other)
    (numbered (moved content number parts).rows number) row in
    let change = λ (row : Row). sets number (parent_number content.rows row) (about_of (after row).1) in
    option_map_or (λ (row : Row). change row ∷ []) (numbered content.rows number) []

a_move_within_the_folder_breaks_it : AMoveIsAChangeBy changes_within_the_folder → ⊥
a_move_within_the_folder_breaks_it law =
    let same = law example 2 ((67 ∷ []) ∷ (65 ∷ []) ∷ []) example_is_good refl in
    let about : About = about_of (file 2 65 7) in
    let found = found_in with_move (changed_by (files_of example) (sets 2 1 about)) 2 same in
    let elsewhere : 4 ≡ 1 = ap parent_in (found ∙ entry_set (files_of example) 2 1 about) in
    omega (arith, elsewhere)

-- FILES

-- files tell all of a good and lawful content but its capacity, its limits and the order of its rows
abbrev FilesTellTheContentBy : (Content → Files) → Type 0
FilesTellTheContentBy files =
    (one other : Content) → GoodContent one → GoodContent other →
    AllByRecursion IsLawfulRow one.rows → AllByRecursion IsLawfulRow other.rows → files one ≡ files other →
    ((path : Path) → entry_at one.rows path ≡ entry_at other.rows path) × (one.next ≡ other.next)

files_tell_the_content : FilesTellTheContent ≡ FilesTellTheContentBy files_of
files_tell_the_content = refl

-- the files of a content, by what becomes of an entry
abbrev files_by : (List Row → Row → FileEntry) → Content → Files
files_by file_in content = record {
  entries = from_entries (map (λ row. (row.1.number, file_in content.rows row)) content.rows);
  next = content.next;
}

right_files : files_of ≡ files_by file_of
right_files = refl

-- wrong: files do not say in which folder an entry is
abbrev file_without_folder : List Row → Row → FileEntry
file_without_folder rows row = record (file_of rows row) { parent = 1 }

files_without_folders_break_it : FilesTellTheContentBy (files_by file_without_folder) → ⊥
files_without_folders_break_it law =
    let tells = law example with_move example_is_good with_move_is_good example_is_lawful with_move_is_lawful refl in
    let there : true ≡ false = ap is_some (tells.0 ((65 ∷ []) ∷ [])) in
    cc
