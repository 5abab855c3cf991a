-- Files that get their bytes, one after the other.
use Rattle.std.proofs.Common.{◌≡◌, ℕ, ◌-◌, ◌<◌, ◌≤◌, ◌==◌, Bool, true, false, cond, if◌then◌else◌, List, [], ◌∷◌}
use Rattle.std.proofs.Common.{length}
use Rattle.std.proofs.Common.{Option, None, Some, is_some, refl, sym, ap, arith, ◌∙◌}
use Rattle.std.proofs.lemmas.Bool.{eqb-true}
use Rattle.std.proofs.lemmas.Cmp.{nat_cmp_total}
use Rattle.std.specs.Option.{option_map, option_map_or}
use Rattle.std.specs.Ordering.{nat_cmp}
use Rattle.std.specs.FinMap.{get, remove, len, entries, find, get-remove, get-entries, len-remove, len-entries}
use Rattle.smb_wire.specs.declared.limits.share.Limits.{Limits}
use Rattle.smb_tree.specs.Content.{Row, Content, numbered, changed_in, bytes_of}
use Rattle.smb_tree.specs.Good.{GoodContent}
use Rattle.smb_tree.proofs.Lawful.{lawful_changed}
use Rattle.smb_files.specs.Files.{FileEntry, Files, with_bytes}
use Rattle.smb_files.specs.Contents.{file_of, files_of}
use Rattle.smb_files.proofs.Gets.{tie, get-files_of, same_files}
use Rattle.smb_files.proofs.Equations.{files_with_bytes, get-with_bytes}
use Rattle.smb_tree_of_files.specs.Building.{bare, IsFilled, IsTreeOf}

some_len : (es : List (ℕ × FileEntry)) (n : ℕ) (entry : FileEntry) → find nat_cmp n es ≡ Some entry → 1 ≤ length es
some_len [] n entry h = absurd (let no : ◌≡◌ {A = Option FileEntry} None (Some entry) = h in cc)
some_len (e ∷ es) n entry h = omega arith

bytes_by : (rows : List Row) (n : ℕ) (entry : FileEntry) (o : Option Row) →
    option_map (file_of rows) o ≡ Some (bare entry) → option_map_or (λ (row : Row). row.1.bytes) o [] ≡ []
bytes_by rows n entry None h = refl
bytes_by rows n entry (Some row) h = ap (λ (o : Option FileEntry). option_map_or (λ e. e.bytes) o []) h

-- a number is another one, or it is not
by_number : (P : Bool → Type 0) (q n : ℕ) → (q ≡ n → P true) → ((q == n) ≡ false → P false) → P (q == n)
by_number P q n h k = elim (q == n) as (λ b. (q == n) ≡ b → P b) [
  | true ↦ λ e. h (eqb-true q n e)
  | false ↦ λ e. k e
] refl

module _ (held left : Files) (most : Limits) (room : ℕ) (content after : Content) (n : ℕ) (entry : FileEntry)
    (k : IsFilled held left most room content) (there : get left.entries n ≡ Some entry)
    (is : bytes_of content.rows n ≡ [] → after ≡ changed_in (λ e. record e { bytes = entry.bytes }) content n)
    (good : GoodContent content → GoodContent after) where
  its_entry : get (files_of content).entries n ≡ Some (bare entry)
  its_entry = k.entries n ∙ rw there refl

  its_bytes : bytes_of content.rows n ≡ []
  its_bytes = bytes_by content.rows n entry (numbered content.rows n) (sym (get-files_of content n) ∙ its_entry)

  its_files : files_of after ≡ with_bytes (λ bytes. entry.bytes) (files_of content) n
  its_files = ap files_of (is its_bytes) ∙ files_with_bytes (λ bytes. entry.bytes) content n

  left_at : (q : ℕ) → get (remove left.entries n) q ≡ (if q == n then None else get left.entries q)
  left_at q = get-remove nat_cmp_total left.entries n q ∙ rw (tie q n) refl

  filled_entry : (entry_after : FileEntry → FileEntry) → entry_after (bare entry) ≡ entry →
      option_map entry_after (get (files_of content).entries n) ≡ get held.entries n
  filled_entry entry_after e =
      ap (option_map entry_after) its_entry ∙ ap Some e ∙ sym there ∙ k.same n (rw there refl)

  entries_at : (q : ℕ) → get (files_of after).entries q
      ≡ (if is_some (get (remove left.entries n) q) then option_map bare (get (remove left.entries n) q)
      else get held.entries q)
  entries_at q =
      let with_its : FileEntry → FileEntry = λ e. record e { bytes = entry.bytes } in
      let left_of : Bool → Option FileEntry = λ b. if b then None else get left.entries q in
      let to_be : Option FileEntry → Option FileEntry =
      λ o. if is_some o then option_map bare o else get held.entries q in
      let each : (if q == n then option_map with_its (get (files_of content).entries n) else get
      (files_of content).entries q)
      ≡ to_be (left_of (q == n)) =
      by_number (λ b. (if b then option_map with_its (get (files_of content).entries n) else get
      (files_of content).entries q)
      ≡ to_be (left_of b)) q n
      (λ e. filled_entry with_its refl ∙ ap (get held.entries) (sym e)) (λ e. k.entries q) in
      ap (λ (f : Files). get f.entries q) its_files ∙ get-with_bytes (λ bytes. entry.bytes) (files_of content) n q
      ∙ each ∙ sym (ap to_be (left_at q))

  same_at : (q : ℕ) → is_some (get (remove left.entries n) q) ≡ true →
      get (remove left.entries n) q ≡ get held.entries q
  same_at q h = left_at q ∙
      by_number (λ b. is_some (if b then None else get left.entries q) ≡ true →
      (if b then None else get left.entries q) ≡ get held.entries q) q n
      (λ e f. absurd (let no : false ≡ true = f in cc)) (λ e f. k.same q f) (ap (is_some {T = FileEntry}) (sym
      (left_at q)) ∙ h)

  -- one more file has its bytes
  pub one_filled : (rest : Files) → rest ≡ record left { entries = remove left.entries n } →
      IsFilled held rest most room after
  one_filled rest e = rw e (record {
    good = good k.good;
    lawful = rw (is its_bytes) (lawful_changed (λ x. record x { bytes = entry.bytes }) content.rows n
        (record { number = λ _. refl; spelling = λ _. refl; attributes = λ _ h. h }) k.lawful);
    limits = ap (λ (t : Content). t.limits) (is its_bytes) ∙ k.limits;
    capacity = ap (λ (t : Content). t.capacity) (is its_bytes) ∙ k.capacity;
    next = ap (λ (t : Content). t.next) (is its_bytes) ∙ k.next;
    entries = entries_at;
    same = same_at;
  })

-- no entry is left
pub all_filled : (held left : Files) (most : Limits) (room : ℕ) (content : Content) →
    IsFilled held left most room content → ((q : ℕ) → get left.entries q ≡ None) → IsTreeOf held most room content
all_filled held left most room content k none = record {
  good = k.good;
  lawful = k.lawful;
  files = same_files (files_of content) held k.next (λ q. k.entries q ∙ rw (none q) refl);
  limits = k.limits;
  capacity = k.capacity;
}

-- fewer entries are left
pub fewer_left : (left rest : Files) (n : ℕ) (entry : FileEntry) → get left.entries n ≡ Some entry →
    rest ≡ record left { entries = remove left.entries n } → len rest.entries < len left.entries
fewer_left left rest n entry there e = rw e (
    let less : len (remove left.entries n) ≡ len left.entries - 1 =
    len-remove nat_cmp_total left.entries n ∙ ap (λ (o : Option FileEntry). cond (is_some o) (len left.entries - 1)
    (len left.entries)) there in
    let one = some_len (entries left.entries) n entry (sym (get-entries left.entries n) ∙ there) in
    omega (arith, less, one, len-entries left.entries))
