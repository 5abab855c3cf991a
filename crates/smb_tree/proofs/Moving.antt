-- A move of stored entries, and the copy of one.
use Rattle.std.proofs.Common.{◌≡◌, ℕ, zero, suc, ◌+◌, ◌-◌, ◌*◌, ◌<◌, ◌≤◌, Bool, true, false, not, ◌||◌, nat_eq, if◌then◌else◌, List, [], ◌∷◌, ◌++◌, length, map, take, get_or, Option, Some, None, refl, sym, ap, ◌∙◌, arith, length-append, append_assoc, add-one}
use Rattle.std.proofs.lemmas.Bool.Decides.{nat_tests}
use Rattle.std.proofs.lemmas.List.{length-map, take_more}
use Rattle.std.proofs.lemmas.List.Sums.{sum_by-cons}
use Rattle.std.specs.List.{remove}
use Rattle.smb_wire.specs.Pairs.{unit_bytes}
use Rattle.smb_wire.specs.Paths.{folded_path}
use Rattle.smb_wire.proofs.Pairing.{length-unit_bytes}
use Rattle.smb_tree.specs.declared.fault.TreeFault.{TreeFault}
use Rattle.smb_tree.specs.declared.fault.TreeFault.TheVariants.{ParentAbsent, Exists, TooDeep}
use Rattle.smb_tree.specs.declared.stored.Stored.{Stored}
use Rattle.smb_tree.specs.declared.stored.NewText.{NewText}
use Rattle.smb_tree.specs.Content.{Path, Row, Content, is_same_path, entry_at, numbered, parent, used_space}
use Rattle.smb_tree.specs.Entries.{is_folder, allocation_size, last_part}
use Rattle.smb_tree.specs.Faults.{move_fault}
use Rattle.smb_tree.specs.Parts.{is_other_folder, would_be_too_deep, move_fault_of, move_fault_between, renamed, without_other, moved_rows, spelling_at, whole_name, row_copied, moved_row}
use Rattle.smb_tree.specs.Moves.{is_within, moved}
use Rattle.smb_tree.specs.NewTexts.{separated, parts_new, parts_moved, with_all_parts}
use Rattle.smb_tree.specs.Plain.{row_of, rows_of}
use Rattle.smb_tree.specs.WholeNames.{spellings_from, Copied}
use Rattle.smb_tree.proofs.NewRows.{all_moved, map-remove}

-- the fault of an entry that was found
pub fault_found : (content : Content) (n : ℕ) (row : Row) (from to : Path) (fault : Option TreeFault) → numbered content.rows n ≡ Some row → from ≡ row.0 → fault ≡ move_fault_between content.rows n from to → move_fault content n to ≡ fault
fault_found content n row from to fault h e f = ap (move_fault_of content.rows n to) h ∙ ap (λ (p : Path). move_fault_between content.rows n p to) (sym e) ∙ sym f

last_test : (a b c : Bool) (x y z : TreeFault) → (if a then Some x else if b then Some y else if c then Some z else None) ≡ None → c ≡ false
last_test true b c x y z h = cc
last_test false true c x y z h = cc
last_test false false true x y z h = cc
last_test false false false x y z h = refl

-- what is not refused isn't too deep
pub not_too_deep : (rows : List Row) (n : ℕ) (from to : Path) (fault : Option TreeFault) → fault ≡ move_fault_between rows n from to → fault ≡ None → would_be_too_deep rows from to ≡ false
not_too_deep rows n from to fault e h =
    last_test (not (is_folder (entry_at rows (parent to))) || is_within from (parent to)) (is_other_folder n (entry_at rows to)) (would_be_too_deep rows from to) ParentAbsent Exists TooDeep (sym e ∙ h)

-- as many texts as entries
pub as_many : (news : List (Option NewText)) (xs : List Stored) (from to : List (List ℕ)) → map parts_new news ≡ map (parts_moved from to) xs → length news ≡ length xs
as_many news xs from to h =
    let same = ap (λ (ps : List (Option (List (List ℕ)))). length ps) h in
    omega (arith, same, length-map news parts_new, length-map xs (parts_moved from to))

-- the rows once all texts were put
pub rows_put : (rows : List Row) (xs : List Stored) (news : List (Option NewText)) (from to : List (List ℕ)) → rows ≡ with_all_parts (rows_of xs) (map parts_new news) → map parts_new news ≡ map (parts_moved from to) xs → rows ≡ renamed (folded_path from) to (rows_of xs)
rows_put rows xs news from to h e = h ∙ ap (with_all_parts (rows_of xs)) e ∙ all_moved from to xs

as_long : (from : Path) (parts : List (List ℕ)) (row : Row) → length (moved_row from parts row).1.bytes ≡ length row.1.bytes
as_long from parts row = elim (is_same_path row.0 from) as (λ b. length (if b then record row.1 { spelling = last_part parts } else row.1).bytes ≡ length row.1.bytes) [ true ↦ refl | false ↦ refl ]

-- a move takes no space
pub used-renamed : (from : Path) (parts : List (List ℕ)) (rows : List Row) → used_space (renamed from parts rows) ≡ used_space rows
used-renamed from parts [] = refl
used-renamed from parts (row ∷ rows) =
    let after = sum_by-cons (λ (r : Row). allocation_size (length r.1.bytes)) (moved_row from parts row) (renamed from parts rows) in
    let before = sum_by-cons (λ (r : Row). allocation_size (length r.1.bytes)) row rows in
    let same = ap allocation_size (as_long from parts row) in
    omega (arith, after, before, same, used-renamed from parts rows)

pub used_put : (rows : List Row) (xs : List Stored) (news : List (Option NewText)) (from to : List (List ℕ)) → rows ≡ with_all_parts (rows_of xs) (map parts_new news) → map parts_new news ≡ map (parts_moved from to) xs → used_space rows ≡ used_space (rows_of xs)
used_put rows xs news from to h e = ap used_space (rows_put rows xs news from to h e) ∙ used-renamed (folded_path from) to (rows_of xs)

-- the entry at a place taken out of moved rows
pub taken_out : (ys xs : List Stored) (i : ℕ) (from : Path) (parts : List (List ℕ)) (rest : List Row) → rows_of ys ≡ renamed from parts (rows_of xs) → rows_of (remove xs i) ≡ rest → rows_of (remove ys i) ≡ renamed from parts rest
taken_out ys xs i from parts rest h e =
    map-remove row_of ys i ∙ ap (λ (rows : List Row). remove rows i) h ∙ sym (map-remove (moved_row from parts) (rows_of xs) i)
    ∙ ap (renamed from parts) (sym (map-remove row_of xs i) ∙ e)

pub moved_is : (content : Content) (n : ℕ) (parts : List (List ℕ)) (row : Row) (from : Path) (rows : List Row) → numbered content.rows n ≡ Some row → from ≡ row.0 → rows ≡ renamed from parts (without_other content.rows n (entry_at content.rows (folded_path parts))) → record content { rows = rows } ≡ moved content n parts
moved_is content n parts row from rows h e f =
    ap (λ (rs : List Row). record content { rows = rs }) (f ∙ ap (λ (p : Path). renamed p parts (without_other content.rows n (entry_at content.rows (folded_path parts)))) e ∙ sym (ap (moved_rows content.rows n parts) h))

-- how the entry at each front of a path is spelled
pub length-spellings : (rows : List Row) (front path : Path) → length (spellings_from rows front path) ≡ length path
length-spellings rows front [] = refl
length-spellings rows front (name ∷ path) = ap suc (length-spellings rows (front ++ name ∷ []) path)

spelling_nth : (rows : List Row) (front path : Path) (i : ℕ) → i < length path → get_or (spellings_from rows front path) i [] ≡ spelling_at rows (front ++ take (suc i) path)
spelling_nth rows front [] i h = absurd (omega arith)
spelling_nth rows front (name ∷ path) zero h = refl
spelling_nth rows front (name ∷ path) (suc i) h = spelling_nth rows (front ++ name ∷ []) path i (omega arith) ∙ ap (spelling_at rows) (append_assoc front (name ∷ []) (take (suc i) path))

pub spelling_next : (rows : List Row) (path : Path) (i : ℕ) → i < length path → take (i + 1) (spellings_from rows [] path) ≡ take i (spellings_from rows [] path) ++ spelling_at rows (take (i + 1) path) ∷ []
spelling_next rows path i h =
    let nth : get_or (spellings_from rows [] path) i [] ≡ spelling_at rows (take (i + 1) path) = spelling_nth rows [] path i h ∙ ap (λ (n : ℕ). spelling_at rows (take n path)) (sym (add-one i)) in
    take_more (spellings_from rows [] path) i [] (omega (arith, h, length-spellings rows [] path)) ∙ ap (λ (s : List ℕ). take i (spellings_from rows [] path) ++ s ∷ []) nth

-- a name is two bytes longer than 512 bytes a component
pub short_more : (i : ℕ) (part old new : List ℕ) → new ≡ old ++ unit_bytes (separated (nat_eq i 0) part) → length old ≤ 512 * i - 2 → length part ≤ 255 → length new ≤ 512 * (i + 1) - 2
short_more zero part old new h k e =
    let long = ap (λ (bytes : List ℕ). length bytes) h in
    omega (arith, long, length-append old (unit_bytes part), length-unit_bytes part, k, e)
short_more (suc i) part old new h k e =
    let later : nat_eq (suc i) 0 ≡ false = grind (arith, nat_tests) in
    let long = ap (λ (bytes : List ℕ). length bytes) (rw later at h) in
    omega (arith, long, length-append old (unit_bytes (92 ∷ part)), length-unit_bytes (92 ∷ part), k, e)

-- the copy of an entry
pub copy_same : (rows : List Row) (x : Stored) (n size : ℕ) (name : List ℕ) → x.number ≡ n → size ≡ length x.bytes.items → name ≡ unit_bytes (whole_name rows (row_of x).0) → (let copy : Copied = record { number = n; kind = x.kind; basic = x.basic; size = size; mark = x.mark; name = name } in copy) ≡ row_copied rows (row_of x)
copy_same rows x n size name h k e = rw (← h, k, e) refl
