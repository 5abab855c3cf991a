-- What an addition, a write, another size and a setting do to the files of a content.
use Rattle.std.proofs.Common.{◌≡◌, ℕ, ◌+◌, ◌<◌, ◌==◌, Bool, true, false, cond, if◌then◌else◌, is_some, unwrap_or, List}
use Rattle.std.proofs.Common.{[], ◌∷◌, ◌++◌, Option, Some, None, refl, ◌∙◌, ap, arith}
use Rattle.std.proofs.lemmas.Grind.{common_steps}
use Rattle.std.proofs.lemmas.Bool.Decides.{nat_tests}
use Rattle.std.proofs.lemmas.Bool.{eqb-true, eq-eqb}
use Rattle.std.proofs.lemmas.Cmp.{nat_cmp_total}
use Rattle.std.specs.Option.{option_map, option_map_or}
use Rattle.std.specs.FinMap.{get, insert, get-insert}
use Rattle.smb_wire.specs.Paths.{folded_path}
use Rattle.smb_tree.specs.declared.entry.Kind.{Kind}
use Rattle.smb_tree.specs.Entries.{Entry, is_folder, new_entry}
use Rattle.smb_tree.specs.Content.{Path, Row, Content, numbered, number_at, entry_at, parent, added, changed}
use Rattle.smb_tree.specs.Content.{changed_in}
use Rattle.smb_tree.specs.Faults.{add_fault}
use Rattle.smb_tree.specs.Good.{GoodContent}
use Rattle.smb_tree.proofs.Apart.{at-push, numbered-push, numbered-changed, numbered-fresh, number-from_numbered}
use Rattle.smb_files.specs.Files.{FileEntry, Files, sets, changed_by, with_bytes, bytes_in}
use Rattle.smb_files.specs.Contents.{about_of, parent_number, file_of, files_of}
use Rattle.smb_files.specs.Laws.{entry_change}
use Rattle.smb_files.proofs.Gets.{tie, get-files_of, same_files, of_numbered}

-- rows whose parent's number is the same are the same files
same_parent : (all some_rows : List Row) (row : Row) →
    number_at all (parent row.0) ≡ number_at some_rows (parent row.0) → file_of all row ≡ file_of some_rows row
same_parent all some_rows row h = rw h refl

folder_there : (o : Option Entry) → is_folder o ≡ true → is_some o ≡ true
folder_there None h = h
folder_there (Some e) h = refl

-- AN ADDITION

kept_at : (rows : List Row) (p q : Path) (e : Entry) → is_folder (entry_at rows q) ≡ true →
    number_at (rows ++ (p, e) ∷ []) q ≡ number_at rows q
kept_at rows p q e h =
    let stays = at-push rows p q e ∙ rw (folder_there (entry_at rows q) h) refl in
    ap (option_map (λ (entry : Entry). entry.number)) stays

one_added : (F G : Row → FileEntry) (o : Option Row) (new : Row) (q : ℕ) →
    ((row : Row) → o ≡ Some row → F row ≡ G row) → (q ≡ new.1.number → o ≡ None) →
    option_map F (if is_some o then o else if new.1.number == q then Some new else None)
    ≡ cond (q == new.1.number) (Some (F new)) (option_map G o)
one_added F G None new q h k = grind (arith, nat_tests)
one_added F G (Some row) new q h k = grind (arith, nat_tests, h row refl, k)

-- the entry that was added is there
pub last_there : (rows : List Row) (new : Row) → numbered rows new.1.number ≡ None →
    numbered (rows ++ new ∷ []) new.1.number ≡ Some new
last_there rows new h = grind (arith, nat_tests, numbered-push rows new new.1.number, h)

-- the files of a content to which an entry was added
pub files_added : (content : Content) (path : Path) (e : Entry) → GoodContent content → e.number ≡ content.next →
    e.bytes ≡ [] →
    (let after : Content = record content { rows = content.rows ++ (path, e) ∷ []; next = content.next + 1 } in
    files_of after ≡ changed_by (files_of content) (entry_change after content.next))
files_added content path e good number bytes =
    let new : Row = (path, e) in
    let after : Content = record content { rows = content.rows ++ new ∷ []; next = content.next + 1 } in
    let fresh : numbered content.rows content.next ≡ None = numbered-fresh content.rows content.next good.below in
    let there : numbered after.rows content.next ≡ Some new =
    rw (← number) (last_there content.rows new (rw number fresh)) in
    let no_entry : get (files_of content).entries content.next ≡ None =
    get-files_of content content.next ∙ rw fresh refl in
    let none : bytes_in (get (files_of content).entries content.next) ≡ [] = ap bytes_in no_entry in
    let is_change : entry_change after content.next ≡ sets content.next (parent_number after.rows new) (about_of e) =
    rw there refl in
    let kept : (q : ℕ) (row : Row) → numbered content.rows q ≡ Some row →
    file_of after.rows row ≡ file_of content.rows row = λ q row h.
    same_parent after.rows content.rows row (kept_at content.rows path (parent row.0) e
    (of_numbered (λ r. is_folder (entry_at content.rows (parent r.0)) ≡ true) content.rows q row good.parents h)) in
    let entry : FileEntry = record {
      parent = parent_number after.rows new;
      about = about_of e;
      bytes = bytes_in (get (files_of content).entries content.next);
    } in
    let as_new : entry ≡ file_of after.rows new = rw (none, bytes) refl in
    rw is_change (same_files _ _ (omega arith) (λ q.
    get-files_of after q ∙
    rw (
      numbered-push content.rows new q,
      get-insert nat_cmp_total (files_of content).entries content.next entry q,
      tie q content.next,
      get-files_of content q,
      as_new,
      ← number,
    )
    (one_added (file_of after.rows) (file_of content.rows) (numbered content.rows q) new q (kept q)
    (λ same. rw (same, number) fresh))))

-- A CHANGE OF ONE ENTRY

at_changed : (f : Entry → Entry) (rows : List Row) (n : ℕ) (path : Path) → ((e : Entry) → (f e).number ≡ e.number) →
    number_at (changed f rows n) path ≡ number_at rows path
at_changed f [] n path k = refl
at_changed f (row ∷ rows) n path k = grind (arith, common_steps, k row.1, at_changed f rows n path k)

-- a change that leaves an entry's number leaves the folders of all
pub kept_file : (f : Entry → Entry) (rows : List Row) (n : ℕ) (row : Row) → ((e : Entry) → (f e).number ≡ e.number) →
    file_of (changed f rows n) row ≡ file_of rows row
kept_file f rows n row k = same_parent (changed f rows n) rows row (at_changed f rows n (parent row.0) k)

with_some : (change : List ℕ → List ℕ) (files : Files) (n q : ℕ) (o : Option FileEntry) → get files.entries n ≡ o →
    get (option_map_or (λ (entry : FileEntry). insert files.entries n (record entry { bytes = change entry.bytes })) o
    files.entries) q
    ≡ (if q == n then option_map (λ (entry : FileEntry). record entry { bytes = change entry.bytes }) o
    else get files.entries q)
with_some change files n q None h = grind (arith, nat_tests, h)
with_some change files n q (Some entry) h =
    rw (get-insert nat_cmp_total files.entries n (record entry { bytes = change entry.bytes }) q, tie q n) refl

-- the entry of a number with other bytes, as a map gives it
pub get-with_bytes : (change : List ℕ → List ℕ) (files : Files) (n q : ℕ) →
    get (with_bytes change files n).entries q
    ≡ (if q == n
    then option_map (λ (entry : FileEntry). record entry { bytes = change entry.bytes }) (get files.entries n)
    else get files.entries q)
get-with_bytes change files n q = with_some change files n q (get files.entries n) refl

one_changed : (f : Entry → Entry) (F G : Row → FileEntry) (H : FileEntry → FileEntry) (o p : Option Row) (b : Bool) →
    (b ≡ true → o ≡ p) → ((row : Row) → F row ≡ G row) → ((row : Row) → G (row.0, f row.1) ≡ H (G row)) →
    option_map F (if b then option_map (λ (x : Row). (x.0, f x.1)) o else o)
    ≡ (if b then option_map H (option_map G p) else option_map G o)
one_changed f F G H None p true e k h = rw (← e refl) refl
one_changed f F G H None p false e k h = refl
one_changed f F G H (Some row) p true e k h = rw (← e refl) (ap Some (k (row.0, f row.1) ∙ h row))
one_changed f F G H (Some row) p false e k h = ap Some (k row)

-- the files of a content in which a file got other bytes
pub files_with_bytes : (change : List ℕ → List ℕ) (content : Content) (n : ℕ) →
    files_of (changed_in (λ entry. record entry { bytes = change entry.bytes }) content n)
    ≡ with_bytes change (files_of content) n
files_with_bytes change content n =
    let f : Entry → Entry = λ entry. record entry { bytes = change entry.bytes } in
    let after = changed_in f content n in
    same_files _ _ refl (λ q.
    get-files_of after q ∙
    rw (
      numbered-changed f content.rows n q (λ e. refl),
      get-with_bytes change (files_of content) n q,
      get-files_of content n,
      get-files_of content q,
    )
    (one_changed f (file_of after.rows) (file_of content.rows)
    (λ (entry : FileEntry). record entry { bytes = change entry.bytes }) (numbered content.rows q)
    (numbered content.rows n) (q == n)
    (λ e. ap (numbered content.rows) (eqb-true q n e)) (λ row. kept_file f content.rows n row (λ e. refl))
    (λ row. refl)))

-- an entry set as it then is, with its bytes kept
one_set : (F G : Row → FileEntry) (f : Entry → Entry) (o : Option Row) (row : Row) (b : Bool) →
    (b ≡ true → o ≡ Some row) → ((r : Row) → F r ≡ G r) →
    option_map F (if b then option_map (λ (x : Row). (x.0, f x.1)) o else o)
    ≡ cond b (Some (F (row.0, f row.1))) (option_map G o)
one_set F G f o row true e k = rw (e refl) refl
one_set F G f None row false e k = refl
one_set F G f (Some x) row false e k = ap Some (k x)

-- the files of a content in which an entry was set
pub files_set : (f : Entry → Entry) (content : Content) (n : ℕ) (row : Row) → GoodContent content →
    ((e : Entry) → (f e).number ≡ e.number) → ((e : Entry) → (f e).bytes ≡ e.bytes) →
    numbered content.rows n ≡ Some row →
    files_of (changed_in f content n) ≡ changed_by (files_of content) (entry_change (changed_in f content n) n)
files_set f content n row good k h found =
    let after = changed_in f content n in
    let new : Row = (row.0, f row.1) in
    let its : row.1.number ≡ n = number-from_numbered content.rows row n found in
    let below : row.1.number < content.next =
    of_numbered (λ r. r.1.number < content.next) content.rows n row good.below found in
    let there : numbered after.rows n ≡ Some new =
    numbered-changed f content.rows n n k ∙ rw (eq-eqb n n refl, found) refl in
    let is_change : entry_change after n ≡ sets n (parent_number after.rows new) (about_of (f row.1)) = rw there refl in
    let got : get (files_of content).entries n ≡ Some (file_of content.rows row) =
    get-files_of content n ∙ rw found refl in
    let entry : FileEntry = record {
      parent = parent_number after.rows new;
      about = about_of (f row.1);
      bytes = bytes_in (get (files_of content).entries n);
    } in
    let as_new : entry ≡ file_of after.rows new = rw (got, h row.1) refl in
    rw is_change (same_files _ _ (omega arith) (λ q.
    get-files_of after q ∙
    rw (
      numbered-changed f content.rows n q k,
      get-insert nat_cmp_total (files_of content).entries n entry q,
      tie q n,
      get-files_of content q,
      as_new,
    )
    (one_set (file_of after.rows) (file_of content.rows) f (numbered content.rows q) row (q == n)
    (λ e. ap (numbered content.rows) (eqb-true q n e) ∙ found) (λ r. kept_file f content.rows n r k))))

folder_by : (content : Content) (path : Path) → add_fault content path ≡ None →
    is_folder (entry_at content.rows (parent path)) ≡ true
folder_by content path free = grind (arith, nat_tests, common_steps, free)

-- the change of an entry that was added, by what is known before
pub added_change : (content : Content) (parts : List (List ℕ)) (kind : Kind) (attributes moment : ℕ) →
    GoodContent content → add_fault content (folded_path parts) ≡ None →
    entry_change (added content parts kind attributes moment) content.next
    ≡ sets content.next (unwrap_or (number_at content.rows (parent (folded_path parts))) 0)
    (about_of (new_entry content.next parts kind attributes moment))
added_change content parts kind attributes moment good free =
    let path : Path = folded_path parts in
    let e : Entry = new_entry content.next parts kind attributes moment in
    let fresh : numbered content.rows content.next ≡ None = numbered-fresh content.rows content.next good.below in
    let there : numbered (content.rows ++ (path, e) ∷ []) content.next ≡ Some (path, e) =
    last_there content.rows (path, e) fresh in
    rw (there, kept_at content.rows path (parent path) e (folder_by content path free)) refl
