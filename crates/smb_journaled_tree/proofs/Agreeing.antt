-- Files that agree with a content, after a change of it.
use Rattle.std.proofs.Common.{◌≡◌, ◌≢◌, ℕ, ◌+◌, ◌<◌, ◌≤◌, ◌==◌, Bool, true, false, cond, if◌then◌else◌, is_some, List, [], ◌∷◌, ◌++◌, Option, None, Some, refl, sym, ap, arith, ◌∙◌}
use Rattle.std.proofs.lemmas.Bool.Decides.{nat_tests}
use Rattle.std.proofs.lemmas.Bool.{eqb-true}
use Rattle.std.proofs.lemmas.Cmp.{nat_cmp_total}
use Rattle.std.specs.Option.{option_map, option_map_or}
use Rattle.std.specs.Ordering.{nat_cmp, eq_by_cmp}
use Rattle.std.specs.FinMap.{get, get-insert, get-remove}
use Rattle.smb_tree.specs.Entries.{Entry, last_part}
use Rattle.smb_tree.specs.Content.{Path, Row, Content, is_same_path, number_at, numbered, changed, changed_in, without}
use Rattle.smb_tree.specs.Faults.{remove_fault}
use Rattle.smb_tree.specs.Good.{GoodContent}
use Rattle.smb_tree.proofs.Apart.{numbered-changed, numbered-push, numbered-fresh, number-from_numbered}
use Rattle.smb_tree.proofs.Renamed.{numbered-without}
use Rattle.smb_files.specs.Files.{FileEntry, Files, Change, sets, removes, changed_by, with_bytes, bytes_in}
use Rattle.smb_files.specs.Contents.{about_of, parent_number, file_of, files_of}
use Rattle.smb_files.specs.Laws.{entry_change}
use Rattle.smb_files.proofs.Gets.{tie, get-files_of, same_files, of_numbered}
use Rattle.smb_files.proofs.Equations.{get-with_bytes, kept_file, files_with_bytes, files_added, last_there}
use Rattle.smb_wire.specs.Paths.{folded_path}
use Rattle.smb_tree.specs.Faults.{move_fault}
use Rattle.smb_tree.specs.Moves.{moved}
use Rattle.smb_tree.specs.Parts.{AreBelow, moved_row}
use Rattle.smb_tree.proofs.Kept.{numbers_kept}
use Rattle.smb_files.proofs.Moved.{moving_row, moved_file, numbers_after, target}
use Rattle.smb_files.proofs.Removal.{files_removed}
use Rattle.smb_journaled_tree.specs.Kept.{Agrees}
use Rattle.smb_journaled_tree.specs.Slots.{is_in}

none_by : (b : Bool) (x y : Option FileEntry) (g : FileEntry → FileEntry) → x ≡ None → (b ≡ true → y ≡ None) → (if b then option_map g y else x) ≡ None
none_by true x y g h k = rw (k refl) refl
none_by false x y g h k = h

none_kept : (b : Bool) (x : Option FileEntry) → x ≡ None → cond b None x ≡ None
none_kept true x h = refl
none_kept false x h = h

above : (q n : ℕ) → n < q → (q == n) ≡ false
above q n h = grind (arith, nat_tests, h)

abbrev bytes_of_entry : Option FileEntry → Option (List ℕ)
bytes_of_entry = option_map (λ (entry : FileEntry). entry.bytes)

not_same : (q n : ℕ) (d : ℕ → Bool) → d n ≡ true → d q ≡ false → (q == n) ≡ false
not_same q n d h k =
    elim (q == n) as (λ b. (q == n) ≡ b → b ≡ false) [
      | true ↦ λ e. absurd (let same : q ≡ n = eqb-true q n e in let no : true ≡ false = sym h ∙ ap d (sym same) ∙ k in cc)
      | false ↦ λ e. refl
    ] refl

pub apart_of : (q n : ℕ) → (q == n) ≡ false → q ≢ n
apart_of q n h e = grind (arith, nat_tests, h, e)

no_row : (row : Row) → ◌≡◌ {A = Option Row} None (Some row) → ⊥
no_row row h = cc

by_test : (b : Bool) (o : Option Row) (row : Row) → (if b then None else o) ≡ Some row → o ≡ Some row
by_test true o row h = absurd (let no : ◌≡◌ {A = Option Row} None (Some row) = h in no_row row no)
by_test false o row h = h

pub left_there : (rows : List Row) (q n : ℕ) (row : Row) → numbered (without rows n) q ≡ (if q == n then None else numbered rows q) → numbered (without rows n) q ≡ Some row → numbered rows q ≡ Some row
left_there rows q n row e h = by_test (q == n) (numbered rows q) row (sym e ∙ h)

same_option : (o : Option Row) (F G : Row → FileEntry) → ((row : Row) → F row ≡ G row) → option_map F o ≡ option_map G o
same_option None F G h = refl
same_option (Some row) F G h = ap Some (h row)

row_is : (x y : Row) → Some x ≡ Some y → x ≡ y
row_is x y h = cc

set_kept : (f : Entry → Entry) (b : Bool) (o : Option Row) (row : Row) (found : Option FileEntry) → ((e : Entry) → (f e).bytes ≡ e.bytes) → ((row : Row) → o ≡ Some row → bytes_of_entry found ≡ Some row.1.bytes) →
    (if b then option_map (λ (x : Row). (x.0, f x.1)) o else o) ≡ Some row → bytes_of_entry found ≡ Some row.1.bytes
set_kept f true None row found b k h = absurd (no_row row h)
set_kept f true (Some x) row found b k h = k x refl ∙ ap Some (sym (b x.1) ∙ ap (λ (r : Row). r.1.bytes) (row_is (x.0, f x.1) row h))
set_kept f false o row found b k h = k row h

with_change : (change : List ℕ → List ℕ) (o : Option FileEntry) (bytes : List ℕ) → bytes_of_entry o ≡ Some bytes → bytes_of_entry (option_map (λ (entry : FileEntry). record entry { bytes = change entry.bytes }) o) ≡ Some (change bytes)
with_change change None bytes h = absurd (let no : ◌≡◌ {A = Option (List ℕ)} None (Some bytes) = h in cc)
with_change change (Some entry) bytes h = ap (option_map change) h

clean_by : (b : Bool) (x y u v : Option FileEntry) (g : FileEntry → FileEntry) → x ≡ u → (b ≡ true → y ≡ v) → (if b then option_map g y else x) ≡ (if b then option_map g v else u)
clean_by true x y u v g h k = ap (option_map g) (k refl)
clean_by false x y u v g h k = h

written_kept : (change : List ℕ → List ℕ) (b : Bool) (o : Option Row) (x y : Option FileEntry) (row : Row) → ((row : Row) → o ≡ Some row → bytes_of_entry x ≡ Some row.1.bytes) → (b ≡ true → x ≡ y) →
    (if b then option_map (λ (r : Row). (let s : Row = (r.0, record r.1 { bytes = change r.1.bytes }) in s)) o else o) ≡ Some row →
    bytes_of_entry (if b then option_map (λ (entry : FileEntry). record entry { bytes = change entry.bytes }) y else x) ≡ Some row.1.bytes
written_kept change true None x y row k e h = absurd (no_row row h)
written_kept change true (Some r) x y row k e h =
    with_change change y r.1.bytes (ap bytes_of_entry (sym (e refl)) ∙ k r refl) ∙ ap (λ (s : Row). Some s.1.bytes) (row_is (r.0, record r.1 { bytes = change r.1.bytes }) row h)
written_kept change false o x y row k e h = k row h

pub agrees_removed : (content : Content) (files : Files) (d d' : ℕ → Bool) (n : ℕ) → Agrees content files d → GoodContent content → n ≢ 1 → remove_fault content n ≡ None → d' n ≡ true → ((q : ℕ) → d' q ≡ false → d q ≡ false) →
    Agrees (record content { rows = without content.rows n }) files d'
agrees_removed content files d d' n a good k free marked others = record {
  next = a.next;
  fresh = a.fresh;
  clean = λ q c.
      let away = not_same q n d' marked c in
      let before : get files.entries q ≡ get (files_of content).entries q = a.clean q (others q c) in
      before ∙ sym (ap (λ (f : Files). get f.entries q) (files_removed content n good k free) ∙ get-remove nat_cmp_total (files_of content).entries n q ∙ rw (tie q n, away) refl);
  kept = λ q row h. a.kept q row (left_there content.rows q n row (numbered-without content.rows n q good.apart) h);
}

-- a change that keeps number and bytes
pub agrees_set : (f : Entry → Entry) (content : Content) (files : Files) (d d' : ℕ → Bool) (n : ℕ) → Agrees content files d → ((e : Entry) → (f e).number ≡ e.number) → ((e : Entry) → (f e).bytes ≡ e.bytes) → d' n ≡ true → ((q : ℕ) → d' q ≡ false → d q ≡ false) →
    Agrees (changed_in f content n) files d'
agrees_set f content files d d' n a k b marked others = record {
  next = a.next;
  fresh = a.fresh;
  clean = λ q c.
      let away = not_same q n d' marked c in
      let before : get files.entries q ≡ get (files_of content).entries q = a.clean q (others q c) in
      before ∙ get-files_of content q ∙ same_option (numbered content.rows q) (file_of content.rows) (file_of (changed f content.rows n)) (λ row. sym (kept_file f content.rows n row k)) ∙ sym (get-files_of (changed_in f content n) q ∙ rw (numbered-changed f content.rows n q k, away) refl);
  kept = λ q row h. set_kept f (q == n) (numbered content.rows q) row (get files.entries q) b (a.kept q) (sym (numbered-changed f content.rows n q k) ∙ h);
}

-- other bytes
pub agrees_written : (change : List ℕ → List ℕ) (content : Content) (files : Files) (d : ℕ → Bool) (n : ℕ) → Agrees content files d →
    Agrees (changed_in (λ entry. record entry { bytes = change entry.bytes }) content n) (with_bytes change files n) d
agrees_written change content files d n a =
    let f : Entry → Entry = λ entry. record entry { bytes = change entry.bytes } in
    record {
      next = a.next;
      fresh = λ q h. get-with_bytes change files n q ∙ none_by (q == n) (get files.entries q) (get files.entries n) (λ (entry : FileEntry). record entry { bytes = change entry.bytes }) (a.fresh q h) (λ e. let same : q ≡ n = eqb-true q n e in ap (get files.entries) (sym same) ∙ a.fresh q h);
      clean = λ q c.
          get-with_bytes change files n q
          ∙ clean_by (q == n) (get files.entries q) (get files.entries n) (get (files_of content).entries q) (get (files_of content).entries n) (λ (entry : FileEntry). record entry { bytes = change entry.bytes }) (a.clean q c) (λ e. let same : q ≡ n = eqb-true q n e in a.clean n (ap d (sym same) ∙ c))
          ∙ sym (ap (λ (g : Files). get g.entries q) (files_with_bytes change content n) ∙ get-with_bytes change (files_of content) n q);
      kept = λ q row h.
          ap bytes_of_entry (get-with_bytes change files n q)
          ∙ written_kept change (q == n) (numbered content.rows q) (get files.entries q) (get files.entries n) row (a.kept q) (λ e. let same : q ≡ n = eqb-true q n e in ap (get files.entries) same) (sym (numbered-changed f content.rows n q (λ e. refl)) ∙ h);
    }

gone_by : (b : Bool) (x y : Option FileEntry) → (b ≡ true → y ≡ None) → (b ≡ false → x ≡ y) → cond b None x ≡ y
gone_by true x y h k = sym (h refl)
gone_by false x y h k = k refl

gone_kept : (b : Bool) (x : Option FileEntry) (row : Row) → (b ≡ true → ⊥) → bytes_of_entry x ≡ Some row.1.bytes → bytes_of_entry (cond b None x) ≡ Some row.1.bytes
gone_kept true x row h k = absurd (h refl)
gone_kept false x row h k = k

set_by : (b : Bool) (entry : FileEntry) (x y : Option FileEntry) → (b ≡ true → y ≡ Some entry) → (b ≡ false → x ≡ y) → cond b (Some entry) x ≡ y
set_by true entry x y h k = sym (h refl)
set_by false entry x y h k = k refl

set_kept_by : (b : Bool) (entry : FileEntry) (x : Option FileEntry) (row : Row) → (b ≡ true → entry.bytes ≡ row.1.bytes) → bytes_of_entry x ≡ Some row.1.bytes → bytes_of_entry (cond b (Some entry) x) ≡ Some row.1.bytes
set_kept_by true entry x row h k = ap Some (h refl)
set_kept_by false entry x row h k = k

bytes_are : (o : Option FileEntry) (bytes : List ℕ) → bytes_of_entry o ≡ Some bytes → bytes_in o ≡ bytes
bytes_are None bytes h = absurd (let no : ◌≡◌ {A = Option (List ℕ)} None (Some bytes) = h in cc)
bytes_are (Some entry) bytes h = cc

-- one more entry is noted as it is
noted_entry : (content : Content) (files : Files) (d d' : ℕ → Bool) (n : ℕ) (o : Option Row) → GoodContent content → numbered content.rows n ≡ o → Agrees content files d → ((q : ℕ) → q ≢ n → d' q ≡ false → d q ≡ false) →
    Agrees content (changed_by files (option_map_or (λ (row : Row). sets n (parent_number content.rows row) (about_of row.1)) o (removes n))) d'
noted_entry content files d d' n None good h a others = record {
  next = a.next;
  fresh = λ q e. get-remove nat_cmp_total files.entries n q ∙ rw (tie q n) (none_kept (q == n) (get files.entries q) (a.fresh q e));
  clean = λ q c. get-remove nat_cmp_total files.entries n q ∙ rw (tie q n) (gone_by (q == n) (get files.entries q) (get (files_of content).entries q)
      (λ e. (let same : q ≡ n = eqb-true q n e in get-files_of content q ∙ rw (same, h) refl)) (λ e. a.clean q (others q (apart_of q n e) c)));
  kept = λ q row e. ap bytes_of_entry (get-remove nat_cmp_total files.entries n q) ∙ rw (tie q n) (gone_kept (q == n) (get files.entries q) row
      (λ f. (let same : q ≡ n = eqb-true q n f in no_row row (sym h ∙ ap (numbered content.rows) (sym same) ∙ e))) (a.kept q row e));
}
noted_entry content files d d' n (Some row) good h a others =
    let its : row.1.number ≡ n = number-from_numbered content.rows row n h in
    let below : row.1.number < content.next = of_numbered (λ r. r.1.number < content.next) content.rows n row good.below h in
    let bytes : bytes_in (get files.entries n) ≡ row.1.bytes = bytes_are (get files.entries n) row.1.bytes (a.kept n row h) in
    let entry : FileEntry = record { parent = parent_number content.rows row; about = about_of row.1; bytes = bytes_in (get files.entries n) } in
    let as_it_is : entry ≡ file_of content.rows row = rw bytes refl in
    record {
      next = omega (arith, a.next);
      fresh = λ q e. get-insert nat_cmp_total files.entries n entry q ∙ rw (tie q n, above (q) n (omega (arith, its, below, e))) (a.fresh q e);
      clean = λ q c. get-insert nat_cmp_total files.entries n entry q ∙ rw (tie q n) (set_by (q == n) entry (get files.entries q) (get (files_of content).entries q)
          (λ e. (let same : q ≡ n = eqb-true q n e in get-files_of content q ∙ rw (same, h) (ap Some (sym as_it_is)))) (λ e. a.clean q (others q (apart_of q n e) c)));
      kept = λ q r e. ap bytes_of_entry (get-insert nat_cmp_total files.entries n entry q) ∙ rw (tie q n) (set_kept_by (q == n) entry (get files.entries q) r
          (λ f. (let same : q ≡ n = eqb-true q n f in bytes ∙ ap (λ (x : Row). x.1.bytes) (row_is row r (sym h ∙ ap (numbered content.rows) (sym same) ∙ e)))) (a.kept q r e));
    }

others_of : (q n : ℕ) (ds : List ℕ) → q ≢ n → is_in q ds ≡ false → is_in q (n ∷ ds) ≡ false
others_of q n ds h k = grind (arith, nat_tests, h, k)

-- once some dirty entries are noted as they are, the others are dirty
pub noted_one : (content : Content) (files : Files) (n : ℕ) (dirty : List ℕ) → GoodContent content →
    Agrees content files (λ q. is_in q (n ∷ dirty)) →
    Agrees content (changed_by files (entry_change content n)) (λ q. is_in q dirty)
noted_one content files n dirty good a =
    noted_entry content files (λ q. is_in q (n ∷ dirty)) (λ q. is_in q dirty) n (numbered content.rows n) good refl a
    (λ q h k. others_of q n dirty h k)

-- where none is dirty, the files are those of the content
pub all_noted : (content : Content) (files : Files) → Agrees content files (λ q. is_in q []) → files ≡ files_of content
all_noted content files a = same_files files (files_of content) a.next (λ q. a.clean q refl)

set_kept_or : (b : Bool) (entry : FileEntry) (x : Option FileEntry) (row : Row) → (b ≡ true → entry.bytes ≡ row.1.bytes) → (b ≡ false → bytes_of_entry x ≡ Some row.1.bytes) → bytes_of_entry (cond b (Some entry) x) ≡ Some row.1.bytes
set_kept_or true entry x row h k = ap Some (h refl)
set_kept_or false entry x row h k = k refl

apart_from : (q next number : ℕ) → (q == next) ≡ false → number ≡ next → (number == q) ≡ false
apart_from q next number h e = grind (arith, nat_tests, h, e)

older : (o : Option Row) (new row : Row) (q : ℕ) → (new.1.number == q) ≡ false → (if is_some o then o else if new.1.number == q then Some new else None) ≡ Some row → o ≡ Some row
older None new row q h e = absurd (no_row row (sym (rw h refl) ∙ e))
older (Some r) new row q h e = e

-- an entry is added and noted
abbrev with_entry : Bool → FileEntry → Option FileEntry → Option FileEntry
with_entry b entry o = cond b (Some entry) o

pub agrees_added : (content : Content) (path : Path) (e : Entry) (files : Files) (d : ℕ → Bool) → Agrees content files d → GoodContent content → e.number ≡ content.next → e.bytes ≡ [] →
    (let after : Content = record content { rows = content.rows ++ (path, e) ∷ []; next = content.next + 1 } in
    Agrees after (changed_by files (entry_change after content.next)) d)
agrees_added content path e files d a good number bytes =
    let new : Row = (path, e) in
    let after : Content = record content { rows = content.rows ++ new ∷ []; next = content.next + 1 } in
    let absent : numbered content.rows content.next ≡ None = numbered-fresh content.rows content.next good.below in
    let there : numbered after.rows content.next ≡ Some new = rw (← number) (last_there content.rows new (rw number absent)) in
    let entry : FileEntry = record { parent = parent_number after.rows new; about = about_of e; bytes = bytes_in (get files.entries content.next) } in
    let none : bytes_in (get files.entries content.next) ≡ [] = ap bytes_in (a.fresh content.next (omega arith)) in
    let is_change : entry_change after content.next ≡ sets content.next (parent_number after.rows new) (about_of e) = rw there refl in
    let other : FileEntry = record { parent = parent_number after.rows new; about = about_of e; bytes = bytes_in (get (files_of content).entries content.next) } in
    let no_entry : get (files_of content).entries content.next ≡ None = get-files_of content content.next ∙ rw absent refl in
    let none_there : bytes_in (get (files_of content).entries content.next) ≡ [] = ap bytes_in no_entry in
    let same : entry ≡ other = rw (none, none_there) refl in
    rw is_change (record {
      next = omega (arith, a.next);
      fresh = λ q h. get-insert nat_cmp_total files.entries content.next entry q ∙ rw (tie q content.next, above q content.next (omega arith)) (a.fresh q (omega arith));
      clean = λ q c.
          get-insert nat_cmp_total files.entries content.next entry q
          ∙ ap (λ (x : FileEntry). with_entry (eq_by_cmp nat_cmp q content.next) x (get files.entries q)) same
          ∙ ap (λ (o : Option FileEntry). with_entry (eq_by_cmp nat_cmp q content.next) other o) (a.clean q c)
          ∙ sym (ap (λ (f : Files). get f.entries q) (files_added content path e good number bytes) ∙ ap (λ (ch : Change). get (changed_by (files_of content) ch).entries q) is_change ∙ get-insert nat_cmp_total (files_of content).entries content.next other q);
      kept = λ q row h. ap bytes_of_entry (get-insert nat_cmp_total files.entries content.next entry q) ∙ rw (tie q content.next) (set_kept_or (q == content.next) entry (get files.entries q) row
          (λ f. (let its : q ≡ content.next = eqb-true q content.next f in none ∙ sym bytes ∙ ap (λ (x : Row). x.1.bytes) (row_is new row (sym there ∙ ap (numbered after.rows) (sym its) ∙ h))))
          (λ f. a.kept q row (older (numbered content.rows q) new row q (apart_from q content.next e.number f number) (sym (numbered-push content.rows new q) ∙ h))));
    })

-- a move: the entry, and one that it replaces, are dirty
moved_same : (o : Option Row) (there : Row → Row) (F G : Row → FileEntry) → ((row : Row) → o ≡ Some row → F (there row) ≡ G row) → option_map F (option_map there o) ≡ option_map G o
moved_same None there F G h = refl
moved_same (Some row) there F G h = ap Some (h row refl)

moved_back : (b : Bool) (there : Row → Row) (o : Option Row) (found : Option FileEntry) (row : Row) → ((r : Row) → (there r).1.bytes ≡ r.1.bytes) → ((r : Row) → o ≡ Some r → bytes_of_entry found ≡ Some r.1.bytes) →
    (if b then None else option_map there o) ≡ Some row → bytes_of_entry found ≡ Some row.1.bytes
moved_back true there o found row k h e = absurd (no_row row e)
moved_back false there None found row k h e = absurd (no_row row e)
moved_back false there (Some r) found row k h e = h r refl ∙ ap Some (sym (k r) ∙ ap (λ (x : Row). x.1.bytes) (row_is (there r) row e))

same_bytes : (from : Path) (parts : List (List ℕ)) (r : Row) → (moved_row from parts r).1.bytes ≡ r.1.bytes
same_bytes from parts r = elim (is_same_path r.0 from) as (λ b. (if b then record r.1 { spelling = last_part parts } else r.1).bytes ≡ r.1.bytes) [ true ↦ refl | false ↦ refl ]

pub agrees_moved : (content : Content) (files : Files) (d d' : ℕ → Bool) (n : ℕ) (parts : List (List ℕ)) → Agrees content files d → GoodContent content → move_fault content n (folded_path parts) ≡ None →
    d' n ≡ true → ((other : ℕ) → number_at content.rows (folded_path parts) ≡ Some other → d' other ≡ true) → ((q : ℕ) → d' q ≡ false → d q ≡ false) →
    Agrees (moved content n parts) files d'
agrees_moved content files d d' n parts a good free marked replaced others =
    let moving = moving_row content n parts good free in
    let from : Path = moving.0.0 in
    let entry : Entry = moving.0.1 in
    let can = moving.1 in
    let after = moved content n parts in
    record {
      next = a.next;
      fresh = a.fresh;
      clean = λ q c.
          let away = not_same q n d' marked c in
          let not_replaced : number_at content.rows (folded_path parts) ≡ Some q → q ≡ n = λ h. absurd (let no : true ≡ false = sym (replaced q h) ∙ c in cc) in
          a.clean q (others q c) ∙ get-files_of content q
          ∙ sym (get-files_of after q ∙ ap (option_map (file_of after.rows)) (numbers_kept content n parts from entry q can not_replaced)
          ∙ moved_same (numbered content.rows q) (moved_row from parts) (file_of after.rows) (file_of content.rows) (λ row h. moved_file content n parts from entry row q can h (apart_of q n away)));
      kept = λ q row h.
          moved_back (option_map_or (λ other. q == other) (target content n parts) false) (moved_row from parts) (numbered content.rows q) (get files.entries q) row (same_bytes from parts) (a.kept q)
          (sym (numbers_after content n q parts from entry (target content n parts) can refl) ∙ h);
    }

pub none_from : (rows : List Row) (q next : ℕ) → AreBelow rows next → next ≤ q → numbered rows q ≡ None
none_from [] q next b h = refl
none_from (row ∷ rows) q next b h = let below = b.0 in grind (arith, nat_tests, none_from rows q next b.1 h, below, h)

-- a content's own files agree with it
pub agrees_itself : (content : Content) → GoodContent content → Agrees content (files_of content) (λ q. is_in q [])
agrees_itself content good = record {
  next = refl;
  clean = λ q c. refl;
  fresh = λ q h. get-files_of content q ∙ ap (option_map (file_of content.rows)) (none_from content.rows q content.next good.below h);
  kept = λ q row h. ap bytes_of_entry (get-files_of content q ∙ ap (option_map (file_of content.rows)) h);
}
