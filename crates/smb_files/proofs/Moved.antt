-- A move: the parents' numbers of all other entries stay.
use Rattle.std.proofs.Common.{◌≡◌, ◌≢◌, ℕ, ◌+◌, ◌<◌, ◌==◌, inl, inr, Bool, true, false, not, ◌||◌, if◌then◌else◌}
use Rattle.std.proofs.Common.{unwrap_or, List, [], ◌∷◌, ◌++◌, length, take, Option, Some, None, refl, sym, ◌∙◌, ap}
use Rattle.std.proofs.Common.{arith, max, append-nil}
use Rattle.std.proofs.lemmas.Bool.Decides.{nat_tests}
use Rattle.std.proofs.lemmas.Bool.{eqb-true}
use Rattle.std.proofs.lemmas.Cmp.{nat_cmp_total}
use Rattle.std.specs.Option.{option_map, option_map_or}
use Rattle.std.specs.FinMap.{get, remove, get-insert, get-remove}
use Rattle.smb_wire.specs.Paths.{folded_path}
use Rattle.smb_tree.specs.declared.fault.TreeFault.{TreeFault}
use Rattle.smb_tree.specs.declared.fault.TreeFault.TheVariants.{Absent, ParentAbsent, Exists, TooDeep}
use Rattle.smb_tree.specs.Entries.{Entry, is_folder, is_folder_kind, last_part}
use Rattle.smb_tree.specs.Content.{Path, Row, Content, numbered, number_at, entry_at, parent, is_same_path}
use Rattle.smb_tree.specs.Parts.{is_other_folder, would_be_too_deep, move_fault_of, respelled, moved_row}
use Rattle.smb_tree.specs.Faults.{move_fault}
use Rattle.smb_tree.specs.Moves.{is_within, replaced, moved}
use Rattle.smb_tree.specs.Good.{GoodContent}
use Rattle.smb_tree.specs.MoveLaws.{CanMove}
use Rattle.smb_tree.proofs.Keys.{same_path-itself, same_path-eq}
use Rattle.smb_tree.proofs.Apart.{at-from_numbered, numbered-from_at, number-from_numbered}
use Rattle.smb_tree.proofs.Heads.{within_or_not, replaced-within, replaced-elsewhere, parent_beneath, within_parent}
use Rattle.smb_tree.proofs.Renamed.{same_number}
use Rattle.smb_tree.proofs.Kept.{numbers_kept, replaced_gone, good_kept}
use Rattle.smb_files.specs.Files.{About, FileEntry, Files, Change, sets, removes, replayed, bytes_in}
use Rattle.smb_files.specs.Contents.{about_of, parent_number, file_of, files_of}
use Rattle.smb_files.specs.Laws.{entry_change, move_changes}
use Rattle.smb_files.proofs.Gets.{tie, get-files_of, same_files, of_numbered}

-- the folder around what is outside is outside
outside : (from p : Path) → is_within from p ≡ false → is_within from (parent p) ≡ false
outside from p h =
    elim (is_within from (parent p)) as (λ b. is_within from (parent p) ≡ b → b ≡ false) [
      | true ↦ λ e. (let w : is_within from p ≡ true = within_parent from p e in sym w ∙ h)
      | false ↦ λ e. refl
    ] refl

beneath : (from to r p : Path) → p ≡ from ++ r → (p ≡ from → ⊥) →
    parent (replaced from to p) ≡ replaced from to (parent p)
beneath from to [] p e apart = absurd (apart (e ∙ append-nil from))
beneath from to (name ∷ rest) p e apart =
    rw (
      e,
      replaced-within from to (name ∷ rest),
      parent_beneath to name rest,
      parent_beneath from name rest,
      replaced-within from to (take (length rest) (name ∷ rest)),
    ) refl

of_folder : (o : Option Entry) → is_folder o ≡ true → (e : Entry) × (o ≡ Some e) × (is_folder_kind e.kind ≡ true)
of_folder None h = absurd (let e : false ≡ true = h in cc)
of_folder (Some e) h = (e, refl, h)

-- of a move that is not refused the folder is there and outside of what moves, and no other folder is replaced
tests : (a b c d : Bool) (x y z : TreeFault) →
    (if not a || b then Some x else if c then Some y else if d then Some z else None) ≡ None →
    (a ≡ true) × (b ≡ false) × (c ≡ false)
tests true false false d x y z h = (refl, refl, refl)
tests true false true d x y z h = cc
tests false b c d x y z h = cc
tests true true c d x y z h = cc

-- the entry of a number that is known
pub entry_of_number : (o : Option Entry) (k : ℕ) → option_map (λ (e : Entry). e.number) o ≡ Some k →
    (e : Entry) × (o ≡ Some e) × (e.number ≡ k)
entry_of_number None k h = absurd (cc)
entry_of_number (Some e) k h = (e, refl, cc)

same_entry : (p q : Path) (e g : Entry) → (let row : Row = (p, e) in Some row) ≡ Some (q, g) → e ≡ g
same_entry p q e g h = ap (λ (o : Option Row). option_map_or (λ row. row.1) o e) h

the_same : (n : ℕ) (g : Entry) → is_folder_kind g.kind ≡ true → is_other_folder n (Some g) ≡ false → g.number ≡ n
the_same n g h k = grind (arith, nat_tests, h, k)

same_numbers : (rows : List Row) (p q : Path) (e g : Entry) (m n : ℕ) → p ≡ q → entry_at rows p ≡ Some e →
    entry_at rows q ≡ Some g → e.number ≡ m → g.number ≡ n → m ≡ n
same_numbers rows p q e g m n h k l i j =
    let found : Some e ≡ Some g = sym k ∙ ap (entry_at rows) h ∙ l in
    let same : Some e.number ≡ Some g.number = ap (option_map (λ (x : Entry). x.number)) found in
    cc

-- the folder around a path that is not the moved one itself moves as the path does
parent_replaced : (from to p : Path) → (p ≡ from → ⊥) → parent (replaced from to p) ≡ replaced from to (parent p)
parent_replaced from to p apart =
    elim (within_or_not from p) [
      | inl s ↦ beneath from to s.0 p s.1 apart
      | inr j ↦ rw (replaced-elsewhere from to p j, replaced-elsewhere from to (parent p) (outside from p j)) refl
    ]

no_absent : ◌≡◌ {A = Option TreeFault} (Some Absent) None → ⊥
no_absent h = cc

-- what stands at a path of a folder
pub folder_at : (rows : List Row) (p : Path) → is_folder (entry_at rows p) ≡ true →
    (e : Entry) × (entry_at rows p ≡ Some e) × (is_folder_kind e.kind ≡ true)
folder_at rows p h = of_folder (entry_at rows p) h

-- what the tests of a move that is not refused say
passed : (content : Content) (n : ℕ) (parts : List (List ℕ)) (from : Path) (entry : Entry) →
    CanMove content n parts from entry →
    let to : Path = folded_path parts in
    (is_folder (entry_at content.rows (parent to)) ≡ true) × (is_within from (parent to) ≡ false)
    × (is_other_folder n (entry_at content.rows to) ≡ false)
passed content n parts from entry can =
    let to : Path = folded_path parts in
    tests (is_folder (entry_at content.rows (parent to))) (is_within from (parent to))
    (is_other_folder n (entry_at content.rows to)) (would_be_too_deep content.rows from to) ParentAbsent Exists TooDeep
    (sym (ap (move_fault_of content.rows n to) can.found) ∙ can.free)

-- the folder of a path is not replaced
folder_not_replaced : (content : Content) (n : ℕ) (parts : List (List ℕ)) (from p : Path) (entry g : Entry) →
    CanMove content n parts from entry → entry_at content.rows p ≡ Some g → is_folder_kind g.kind ≡ true →
    number_at content.rows (folded_path parts) ≡ Some g.number → g.number ≡ n
folder_not_replaced content n parts from p entry g m at kind there =
    let to : Path = folded_path parts in
    let found = numbered-from_at content.rows p g m.good.apart at in
    let e = entry_of_number (entry_at content.rows to) g.number there in
    let again = numbered-from_at content.rows to e.0 m.good.apart e.1 in
    let same : e.0 ≡ g = same_entry to p e.0 g (sym again ∙ ap (numbered content.rows) e.2 ∙ found) in
    let none : is_other_folder n (entry_at content.rows to) ≡ false = (passed content n parts from entry m).2 in
    let other : is_other_folder n (Some g) ≡ false = ap (is_other_folder n) (sym (e.1 ∙ ap Some same)) ∙ none in
    the_same n g kind other

-- what is not the moved entry is not at its path
not_moving : (content : Content) (n : ℕ) (parts : List (List ℕ)) (from : Path) (entry : Entry) (row : Row) (m : ℕ) →
    CanMove content n parts from entry → numbered content.rows m ≡ Some row → m ≢ n → row.0 ≡ from → ⊥
not_moving content n parts from entry row m can found apart same =
    let here = at-from_numbered content.rows row.0 row.1 m can.good.apart found in
    let moving = at-from_numbered content.rows from entry n can.good.apart can.found in
    let number = number-from_numbered content.rows row m found in
    let other = number-from_numbered content.rows (from, entry) n can.found in
    apart (same_numbers content.rows row.0 from row.1 entry m n same here moving number other)

-- a folder keeps its number, at the path that it has after the move
folder_kept : (content : Content) (n : ℕ) (parts : List (List ℕ)) (from : Path) (entry : Entry) (path : Path) →
    CanMove content n parts from entry → is_folder (entry_at content.rows path) ≡ true →
    number_at (moved content n parts).rows (replaced from (folded_path parts) path) ≡ number_at content.rows path
folder_kept content n parts from entry path can is_there =
    let after = moved content n parts in
    let place : Path = replaced from (folded_path parts) path in
    let good : GoodContent after = good_kept content n parts can.good can.free in
    let around = folder_at content.rows path is_there in
    let g = around.0 in
    let its : numbered content.rows g.number ≡ Some (path, g) =
    numbered-from_at content.rows path g can.good.apart around.1 in
    let stays = folder_not_replaced content n parts from path entry g can around.1 around.2 in
    let kept : numbered after.rows g.number ≡ Some (moved_row from parts (path, g)) =
    numbers_kept content n parts from entry g.number can stays ∙ rw its refl in
    let there : entry_at after.rows place ≡ Some (respelled from parts path g) =
    at-from_numbered after.rows place (respelled from parts path g) g.number good.apart kept in
    rw (there, around.1) (ap Some (same_number from parts path g))

-- the folder of an entry that is not the moved one has the number that it had
pub parent_moved : (content : Content) (n : ℕ) (parts : List (List ℕ)) (from : Path) (entry : Entry) (row : Row)
    (m : ℕ) → CanMove content n parts from entry → numbered content.rows m ≡ Some row → m ≢ n →
    number_at (moved content n parts).rows (parent (replaced from (folded_path parts) row.0))
    ≡ number_at content.rows (parent row.0)
parent_moved content n parts from entry row m can found apart =
    let after = moved content n parts in
    let is_in = λ (r : Row). is_folder (entry_at content.rows (parent r.0)) ≡ true in
    let around = of_numbered is_in content.rows m row can.good.parents found in
    let place = parent_replaced from (folded_path parts) row.0
    (not_moving content n parts from entry row m can found apart) in
    ap (number_at after.rows) place ∙ folder_kept content n parts from entry (parent row.0) can around

-- a row that stays what it is but for its place is the same file
pub moved_file : (content : Content) (n : ℕ) (parts : List (List ℕ)) (from : Path) (entry : Entry) (row : Row) (m : ℕ) →
    CanMove content n parts from entry → numbered content.rows m ≡ Some row → m ≢ n →
    file_of (moved content n parts).rows (moved_row from parts row) ≡ file_of content.rows row
moved_file content n parts from entry row m can found apart =
    let is_apart = not_moving content n parts from entry row m can found apart in
    let other : is_same_path row.0 from ≡ false =
    elim (is_same_path row.0 from) as (λ b. is_same_path row.0 from ≡ b → b ≡ false) [
      | true ↦ λ e. absurd (is_apart (same_path-eq row.0 from e))
      | false ↦ λ e. refl
    ] refl in
    rw (parent_moved content n parts from entry row m can found apart, other) refl

-- numbers that are not equal are apart
pub apart_by : (a b : ℕ) → (a == b) ≡ false → a ≡ b → ⊥
apart_by a b h e = grind (arith, nat_tests, h, e)

same_some : (a b : ℕ) → Some a ≡ Some b → b ≡ a
same_some a b h = cc

-- the other entry at the path to which one is moved
abbrev pub target : Content → ℕ → List (List ℕ) → Option ℕ
target content n parts =
    option_map_or (λ (other : ℕ). if other == n then None else Some other) (number_at content.rows (folded_path parts))
    None

-- the change by which it goes, and whether an entry is the one that goes
abbrev gone_of : Option ℕ → List Change
gone_of t = option_map_or (λ (other : ℕ). removes other ∷ []) t []

abbrev is_gone : Option ℕ → ℕ → Bool
is_gone t q = option_map_or (λ other. q == other) t false

move_changes_are : (n : ℕ) (o : Option ℕ) →
    option_map_or (λ (other : ℕ). if other == n then [] else removes other ∷ []) o []
    ≡ gone_of (option_map_or (λ (other : ℕ). if other == n then None else Some other) o None)
move_changes_are n None = refl
move_changes_are n (Some other) = grind (arith, nat_tests)

numbers_by : (content : Content) (n q : ℕ) (parts : List (List ℕ)) (from : Path) (entry : Entry) (o : Option ℕ) →
    CanMove content n parts from entry → number_at content.rows (folded_path parts) ≡ o →
    numbered (moved content n parts).rows q
    ≡ (if is_gone (option_map_or (λ (other : ℕ). if other == n then None else Some other) o None) q then None
    else option_map (moved_row from parts) (numbered content.rows q))
numbers_by content n q parts from entry None can h =
    numbers_kept content n parts from entry q can
    (λ e. absurd (let no : ◌≡◌ {A = Option ℕ} None (Some q) = sym h ∙ e in cc))
numbers_by content n q parts from entry (Some k) can h =
    elim (k == n) as (λ b. (k == n) ≡ b → numbered (moved content n parts).rows q
    ≡ (if is_gone (if b then None else Some k) q then None
    else option_map (moved_row from parts) (numbered content.rows q))) [
      | true ↦ λ e. numbers_kept content n parts from entry q can (λ f. let its : k ≡ n = eqb-true k n e in
          let same : Some k ≡ Some q = sym h ∙ f in cc)
      | false ↦ λ e. elim (q == k) as (λ b. (q == k) ≡ b →
          numbered (moved content n parts).rows q
          ≡ (if b then None else option_map (moved_row from parts) (numbered content.rows q))) [
            | true ↦ λ f. replaced_gone content n parts from entry q can (h ∙ ap Some (sym (eqb-true q k f)))
                (λ same. apart_by k n e (sym (eqb-true q k f) ∙ same))
            | false ↦ λ f. numbers_kept content n parts from entry q can
                (λ g. absurd (apart_by q k f (same_some k q (sym h ∙ g))))
          ] refl
    ] refl

-- the numbers after a move, by that of the entry that it replaces
pub numbers_after : (content : Content) (n q : ℕ) (parts : List (List ℕ)) (from : Path) (entry : Entry) (t : Option ℕ) →
    CanMove content n parts from entry → target content n parts ≡ t →
    numbered (moved content n parts).rows q
    ≡ (if is_gone t q then None else option_map (moved_row from parts) (numbered content.rows q))
numbers_after content n q parts from entry t can is =
    rw (← is) (numbers_by content n q parts from entry (number_at content.rows (folded_path parts)) can refl)

-- the entry of a number after the changes of a move
get-replayed : (files : Files) (t : Option ℕ) (n parent : ℕ) (about : About) (q : ℕ) → is_gone t n ≡ false →
    let entry : FileEntry = record { parent = parent; about = about; bytes = bytes_in (get files.entries n) } in
    get (replayed files (gone_of t ++ sets n parent about ∷ [])).entries q
    ≡ (if q == n then Some entry else if is_gone t q then None else get files.entries q)
get-replayed files None n parent about q h = rw (get-insert nat_cmp_total files.entries n _ q, tie q n) refl
get-replayed files (Some other) n parent about q h =
    let others = remove files.entries other in
    rw (get-insert nat_cmp_total others n _ q, tie q n) (
    rw (get-remove nat_cmp_total files.entries other q, get-remove nat_cmp_total files.entries other n)
    (rw (tie q other, tie n other, h) refl))

-- the moved entry is not the one that goes
not_target : (n : ℕ) (o : Option ℕ) →
    is_gone (option_map_or (λ (other : ℕ). if other == n then None else Some other) o None) n ≡ false
not_target n None = refl
not_target n (Some other) = grind (arith, nat_tests)

next-replayed : (files : Files) (t : Option ℕ) (n parent : ℕ) (about : About) →
    (replayed files (gone_of t ++ sets n parent about ∷ [])).next ≡ max files.next (n + 1)
next-replayed files None n parent about = refl
next-replayed files (Some other) n parent about = refl

one_moved : (F G : Row → FileEntry) (there : Row → Row) (o : Option Row) (gone its : Bool) (entry : FileEntry) →
    (its ≡ true → (gone ≡ false) × (row : Row) × (o ≡ Some row) × (F (there row) ≡ entry)) →
    (its ≡ false → (row : Row) → o ≡ Some row → F (there row) ≡ G row) →
    option_map F (if gone then None else option_map there o)
    ≡ (if its then Some entry else if gone then None else option_map G o)
one_moved F G there o gone true entry h k = (let c = h refl in rw (c.0, c.2) (ap Some c.3))
one_moved F G there o true false entry h k = refl
one_moved F G there None false false entry h k = refl
one_moved F G there (Some row) false false entry h k = ap Some (k refl row refl)

pub files_moved_from : (content : Content) (n : ℕ) (parts : List (List ℕ)) (from : Path) (entry : Entry) →
    CanMove content n parts from entry →
    files_of (moved content n parts) ≡ replayed (files_of content) (move_changes content n parts)
files_moved_from content n parts from entry can =
    let after = moved content n parts in
    let t = target content n parts in
    let new : Row = moved_row from parts (from, entry) in
    let apart = not_target n (number_at content.rows (folded_path parts)) in
    let there : numbered after.rows n ≡ Some new =
    numbers_after content n n parts from entry t can refl ∙ rw (apart, can.found) refl in
    let is_change : entry_change after n ≡ sets n (parent_number after.rows new) (about_of new.1) = rw there refl in
    let are_changes :
    move_changes content n parts ≡ gone_of t ++ sets n (parent_number after.rows new) (about_of new.1) ∷ [] =
    rw (move_changes_are n (number_at content.rows (folded_path parts)), is_change) refl in
    let its : entry.number ≡ n = number-from_numbered content.rows (from, entry) n can.found in
    let below : entry.number < content.next =
    of_numbered (λ r. r.1.number < content.next) content.rows n (from, entry) can.good.below can.found in
    let got : get (files_of content).entries n ≡ Some (file_of content.rows (from, entry)) =
    get-files_of content n ∙ rw can.found refl in
    let its_parent : ℕ = parent_number after.rows new in
    let bytes : List ℕ = bytes_in (get (files_of content).entries n) in
    let as_new : file_of after.rows new ≡ record { parent = its_parent; about = about_of new.1; bytes = bytes } =
    rw (got, same_path-itself from) refl in
    rw are_changes (same_files _ _
    (omega (arith, next-replayed (files_of content) t n (parent_number after.rows new) (about_of new.1))) (λ q.
    get-files_of after q ∙
    rw (
      numbers_after content n q parts from entry t can refl,
      get-replayed (files_of content) t n its_parent (about_of new.1) q apart,
      get-files_of content q,
    )
    (one_moved (file_of after.rows) (file_of content.rows) (moved_row from parts) (numbered content.rows q)
    (is_gone t q) (q == n) _
    (λ e. let same : q ≡ n = eqb-true q n e in (rw same apart, (from, entry), rw same can.found, as_new))
    (λ e row h. moved_file content n parts from entry row q can h (apart_by q n e)))))

moving : (o : Option Row) (to : Path) (rows : List Row) (n : ℕ) → move_fault_of rows n to o ≡ None →
    (row : Row) × (o ≡ Some row)
moving None to rows n h = absurd (no_absent h)
moving (Some row) to rows n h = (row, refl)

-- the files of a content in which an entry was moved
pub files_moved : (content : Content) (n : ℕ) (parts : List (List ℕ)) → GoodContent content →
    move_fault content n (folded_path parts) ≡ None →
    files_of (moved content n parts) ≡ replayed (files_of content) (move_changes content n parts)
files_moved content n parts good free =
    let row = moving (numbered content.rows n) (folded_path parts) content.rows n free in
    files_moved_from content n parts row.0.0 row.0.1 (record { good = good; found = row.1; free = free })

itself_replaced : (from to : Path) → replaced from to from ≡ to
itself_replaced from to = ap (replaced from to) (sym (append-nil from)) ∙ replaced-within from to [] ∙ append-nil to

-- the number of the folder to which an entry is moved stays
pub parent_kept : (content : Content) (n : ℕ) (parts : List (List ℕ)) (from : Path) (entry : Entry) →
    CanMove content n parts from entry →
    number_at (moved content n parts).rows (parent (folded_path parts))
    ≡ number_at content.rows (parent (folded_path parts))
parent_kept content n parts from entry can =
    let to : Path = folded_path parts in
    let after = moved content n parts in
    let free = passed content n parts from entry can in
    let stays : replaced from to (parent to) ≡ parent to = replaced-elsewhere from to (parent to) free.1 in
    ap (number_at after.rows) (sym stays) ∙ folder_kept content n parts from entry (parent to) can free.0

-- the change of a moved entry, by what is known before the move
pub moved_change : (content : Content) (n : ℕ) (parts : List (List ℕ)) (from : Path) (entry : Entry) →
    CanMove content n parts from entry →
    entry_change (moved content n parts) n ≡ sets n (unwrap_or (number_at content.rows (parent (folded_path parts))) 0)
    (record { kind = entry.kind; spelling = last_part parts; basic = entry.basic; mark = entry.mark })
moved_change content n parts from entry can =
    let after = moved content n parts in
    let new : Row = moved_row from parts (from, entry) in
    let apart = not_target n (number_at content.rows (folded_path parts)) in
    let there : numbered after.rows n ≡ Some new =
    numbers_after content n n parts from entry (target content n parts) can refl ∙ rw (apart, can.found) refl in
    let place : replaced from (folded_path parts) from ≡ folded_path parts = itself_replaced from (folded_path parts) in
    rw (there, place, parent_kept content n parts from entry can, same_path-itself from) refl

-- an entry that can be moved is there
pub moving_row : (content : Content) (n : ℕ) (parts : List (List ℕ)) → GoodContent content →
    move_fault content n (folded_path parts) ≡ None → (row : Row) × CanMove content n parts row.0 row.1
moving_row content n parts good free =
    let row = moving (numbered content.rows n) (folded_path parts) content.rows n free in
    (row.0, record { good = good; found = row.1; free = free })
