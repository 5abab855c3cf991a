-- A good content stays good: with an addition, with other bytes, with a removal, and with other times or another mark.
use Rattle.std.proofs.Common.{◌≡◌, ◌≢◌, ◌==◌, ◌<◌, ◌≤◌, ℕ, ◌+◌, ◌-◌, ◌^◌, List, [], ◌∷◌, ◌++◌, length, max, true, false}
use Rattle.std.proofs.Common.{cond, if◌then◌else◌, Option, None, Some, refl, sym, ap, subst, arith, ◌∙◌, length-append}
use Rattle.std.proofs.lemmas.Grind.{common_steps}
use Rattle.std.proofs.lemmas.Bool.Decides.{nat_tests}
use Rattle.std.proofs.lemmas.List.{length-map}
use Rattle.std.specs.List.{AllByRecursion}
use Rattle.smb_wire.specs.Limits.{most_components}
use Rattle.smb_wire.specs.Names.{folded}
use Rattle.smb_wire.specs.Paths.{folded_path}
use Rattle.smb_tree.specs.declared.entry.Kind.{Kind}
use Rattle.smb_tree.specs.declared.fault.TreeFault.{TreeFault}
use Rattle.smb_tree.specs.declared.fault.TreeFault.TheVariants.{Absent}
use Rattle.smb_tree.specs.Entries.{Entry, new_entry, is_folder, is_folder_kind, allocation_size}
use Rattle.smb_tree.specs.Content.{Path, Row, Content, is_same_path, entry_at, number_at, numbered, parent, changed}
use Rattle.smb_tree.specs.Content.{changed_in, without, added, used_space, resized, written, bytes_of}
use Rattle.smb_tree.specs.Children.{is_child}
use Rattle.smb_tree.specs.Parts.{AreBelow, size_fault_of}
use Rattle.smb_tree.specs.Faults.{add_fault, size_fault, write_fault, remove_fault}
use Rattle.smb_tree.proofs.Apart.{apart_changed, apart_added}
use Rattle.smb_tree.proofs.Changes.{bytes_found}
use Rattle.smb_tree.proofs.Parts.{length-written, length-resized}
use Rattle.smb_tree.proofs.Removals.{at-without, apart_removed}
use Rattle.smb_tree.proofs.Renamed.{below-without, few-without, less-without, all-without, all-more}
use Rattle.smb_tree.proofs.Spaces.{space_changed, space_more}
use Rattle.smb_tree.specs.Good.{GoodContent}
use Rattle.smb_files.proofs.Removal.{no_child, not_root, parent_left, removable}

-- what holds of all, and of one more, holds of these
pub all_push : {X : Type 0} (P : X → Type 0) (xs : List X) (x : X) → AllByRecursion P xs → P x →
    AllByRecursion P (xs ++ x ∷ [])
all_push P [] x h p = (p, tt)
all_push P (y ∷ xs) x h p = (h.0, all_push P xs x h.1 p)

-- a change of an entry that leaves its number and its kind
pub record Keeps (f : Entry → Entry) : Type 0 where
  pub number : (e : Entry) → (f e).number ≡ e.number
  pub kind : (e : Entry) → (f e).kind ≡ e.kind

-- what holds of all entries, and is kept by a change of one, holds afterwards
pub all_changed : (P : Row → Type 0) (f : Entry → Entry) (rows : List Row) (n : ℕ) →
    ((row : Row) → P row → P (row.0, f row.1)) → AllByRecursion P rows → AllByRecursion P (changed f rows n)
all_changed P f [] n k h = h
all_changed P f (row ∷ rows) n k h =
    elim (row.1.number == n) as (λ b. AllByRecursion P (cond b ((row.0, f row.1) ∷ rows) (row ∷ changed f rows n)))
    [ true ↦ (k row h.0, h.1) | false ↦ (h.0, all_changed P f rows n k h.1) ]

pub folder_changed : (f : Entry → Entry) (rows : List Row) (n : ℕ) (path : Path) → Keeps f →
    is_folder (entry_at (changed f rows n) path) ≡ is_folder (entry_at rows path)
folder_changed f [] n path k = refl
folder_changed f (row ∷ rows) n path k = grind (arith, common_steps, k.kind row.1, folder_changed f rows n path k)

pub below_changed : (f : Entry → Entry) (rows : List Row) (n next : ℕ) → Keeps f → AreBelow rows next →
    AreBelow (changed f rows n) next
below_changed f [] n next k h = h
below_changed f (row ∷ rows) n next k h =
    elim (row.1.number == n) as (λ b. AreBelow (cond b ((row.0, f row.1) ∷ rows) (row ∷ changed f rows n)) next)
    [ true ↦ (rw (k.number row.1) h.0, h.1) | false ↦ (h.0, below_changed f rows n next k h.1) ]

pub length-changed : (f : Entry → Entry) (rows : List Row) (n : ℕ) → length (changed f rows n) ≡ length rows
length-changed f [] n = refl
length-changed f (row ∷ rows) n = grind (arith, length-changed f rows n)

pub number-at-changed : (f : Entry → Entry) (rows : List Row) (n : ℕ) (path : Path) →
    ((e : Entry) → (f e).number ≡ e.number) → number_at (changed f rows n) path ≡ number_at rows path
number-at-changed f [] n path k = refl
number-at-changed f (row ∷ rows) n path k = grind (arith, common_steps, k row.1, number-at-changed f rows n path k)

number-at-push : (rows : List Row) (row : Row) (path : Path) (n : ℕ) → number_at rows path ≡ Some n →
    number_at (rows ++ row ∷ []) path ≡ Some n
number-at-push [] row path n h = cc
number-at-push (x ∷ rows) row path n h = grind (arith, common_steps, h, number-at-push rows row path n)

-- a path under which an entry may be added
pub record IsFree (content : Content) (path : Path) : Type 0 where
  pub above : is_folder (entry_at content.rows (parent path)) ≡ true
  pub absent : entry_at content.rows path ≡ None
  pub shallow : length path ≤ most_components
  pub few : length content.rows - 1 < content.limits.entries
  pub next : content.next < 2 ^ 64 - 1

pub free_path : (content : Content) (path : Path) → length path ≤ most_components → add_fault content path ≡ None →
    IsFree content path
free_path content path short e = record {
  above = grind (arith, nat_tests, common_steps, e);
  absent = grind (arith, nat_tests, common_steps, e);
  shallow = short;
  few = grind (arith, nat_tests, common_steps, e);
  next = grind (arith, nat_tests, common_steps, e);
}

-- a folder stays one with one more entry
folder_push : (rows : List Row) (row : Row) (path : Path) → is_folder (entry_at rows path) ≡ true →
    is_folder (entry_at (rows ++ row ∷ []) path) ≡ true
folder_push [] row path h = cc
folder_push (x ∷ rows) row path h = grind (arith, common_steps, h, folder_push rows row path)

pub below_push : (rows : List Row) (row : Row) (next : ℕ) → AreBelow rows next → row.1.number ≡ next →
    AreBelow (rows ++ row ∷ []) (next + 1)
below_push [] row next h e = (omega (arith, e), tt)
below_push (x ∷ rows) row next h e = (omega (arith, h.0), below_push rows row next h.1 e)

no_space : (entry : Entry) → length entry.bytes ≡ 0 → allocation_size (length entry.bytes) ≡ 0
no_space entry bytes = rw bytes refl

-- a good content stays good with one more entry, at a path where it may be added
pub good_push : (content : Content) (path : Path) (entry : Entry) → IsFree content path → entry.number ≡ content.next →
    length entry.bytes ≡ 0 → GoodContent content →
    GoodContent (record content { rows = content.rows ++ (path, entry) ∷ []; next = content.next + 1 })
good_push content path entry free number bytes good = record {
  root = folder_push content.rows (path, entry) [] good.root;
  first = number-at-push content.rows (path, entry) [] 1 good.first;
  parents = all_push (λ r. is_folder (entry_at (content.rows ++ (path, entry) ∷ []) (parent r.0)) ≡ true) content.rows
      (path, entry)
      (all-more (λ r. is_folder (entry_at content.rows (parent r.0)) ≡ true)
      (λ r. is_folder (entry_at (content.rows ++ (path, entry) ∷ []) (parent r.0)) ≡ true) content.rows
      (λ r p. folder_push content.rows (path, entry) (parent r.0) p) good.parents)
      (folder_push content.rows (path, entry) (parent path) free.above);
  apart = apart_added content.rows path entry good.apart (rw number good.below) free.absent;
  below = below_push content.rows (path, entry) content.next good.below number;
  counted = omega (arith, free.next);
  few = omega (arith, free.few, length-append content.rows ((path, entry) ∷ []));
  shallow = all_push (λ r. length r.0 ≤ most_components) content.rows (path, entry) good.shallow free.shallow;
  small = all_push (λ r. length r.1.bytes ≤ content.limits.file_bytes) content.rows (path, entry) good.small
      (omega (arith, bytes));
  bare = all_push (λ r. is_folder_kind r.1.kind ≡ true → length r.1.bytes ≡ 0) content.rows (path, entry) good.bare
      (λ _. bytes);
  fits = omega (arith, good.fits, space_more content.rows (path, entry), no_space entry bytes);
}

-- what holds of all entries, and of a changed one, holds afterwards
all_at : (P : Row → Type 0) (f : Entry → Entry) (rows : List Row) (n : ℕ) (row : Row) → numbered rows n ≡ Some row →
    P (row.0, f row.1) → AllByRecursion P rows → AllByRecursion P (changed f rows n)
all_at P f [] n row e k h = h
all_at P f (x ∷ rows) n row e k h =
    elim (x.1.number == n) as (λ b. (cond b (Some x) (numbered rows n)) ≡ Some row →
    AllByRecursion P (cond b ((x.0, f x.1) ∷ rows) (x ∷ changed f rows n))) [
      | true ↦ λ q. (let same : row ≡ x = cc in (subst (λ (r : Row). P (r.0, f r.1)) same k, h.1))
      | false ↦ λ q. (h.0, all_at P f rows n row q k h.1)
    ] e

no_folder : (f : Entry → Entry) (row : Row) → Keeps f → is_folder_kind row.1.kind ≡ false →
    is_folder_kind (f row.1).kind ≡ true → ⊥
no_folder f row k file folder =
    let other : is_folder_kind row.1.kind ≡ true = ap is_folder_kind (sym (k.kind row.1)) ∙ folder in cc

-- a good content stays good where a file gets other bytes for which there is room
pub good_within : (f : Entry → Entry) (content : Content) (n : ℕ) (row : Row) → Keeps f →
    numbered content.rows n ≡ Some row → is_folder_kind row.1.kind ≡ false →
    length (f row.1).bytes ≤ content.limits.file_bytes → used_space (changed f content.rows n) ≤ content.capacity →
    GoodContent content → GoodContent (record content { rows = changed f content.rows n })
good_within f content n row k h file small fits good = record {
  root = folder_changed f content.rows n [] k ∙ good.root;
  parents = all_changed (λ r. is_folder (entry_at (changed f content.rows n) (parent r.0)) ≡ true) f content.rows n
      (λ r p. p)
      (all-more (λ r. is_folder (entry_at content.rows (parent r.0)) ≡ true)
      (λ r. is_folder (entry_at (changed f content.rows n) (parent r.0)) ≡ true) content.rows
      (λ r p. folder_changed f content.rows n (parent r.0) k ∙ p) good.parents);
  first = number-at-changed f content.rows n [] k.number ∙ good.first;
  apart = apart_changed f content.rows n k.number good.apart;
  below = below_changed f content.rows n content.next k good.below;
  counted = good.counted;
  few = omega (arith, good.few, length-changed f content.rows n);
  shallow = all_changed (λ r. length r.0 ≤ most_components) f content.rows n (λ r p. p) good.shallow;
  small = all_at (λ r. length r.1.bytes ≤ content.limits.file_bytes) f content.rows n row h small good.small;
  bare = all_at (λ r. is_folder_kind r.1.kind ≡ true → length r.1.bytes ≡ 0) f content.rows n row h
      (λ folder. absurd (no_folder f row k file folder)) good.bare;
  fits = fits;
}

-- the content to which an entry was added is good
pub good_added : (content : Content) (parts : List (List ℕ)) (kind : Kind) (attributes moment : ℕ) →
    GoodContent content → length parts ≤ most_components → add_fault content (folded_path parts) ≡ None →
    GoodContent (added content parts kind attributes moment)
good_added content parts kind attributes moment good short free =
    let long = length-map parts folded in
    good_push content (folded_path parts) (new_entry content.next parts kind attributes moment)
    (free_path content (folded_path parts) (omega (arith, long, short)) free) refl refl good

-- what a size that is not refused says
pub record HasRoom (content : Content) (n size : ℕ) (row : Row) : Type 0 where
  pub found : numbered content.rows n ≡ Some row
  pub file : is_folder_kind row.1.kind ≡ false
  pub small : size ≤ content.limits.file_bytes
  pub fits : used_space (changed_in (λ entry. record entry { bytes = resized size entry.bytes }) content n).rows ≤
      content.capacity

room_by : (content : Content) (n size : ℕ) (o : Option Row) → numbered content.rows n ≡ o →
    size_fault_of content n size o ≡ None → (row : Row) × HasRoom content n size row
room_by content n size None h k = absurd (let e : ◌≡◌ {A = Option TreeFault} (Some Absent) None = k in cc)
room_by content n size (Some row) h k = (
  row,
  record {
    found = h;
    file = grind (arith, nat_tests, common_steps, k);
    small = grind (arith, nat_tests, common_steps, k);
    fits = grind (arith, nat_tests, common_steps, k);
  },
)

pub room : (content : Content) (n size : ℕ) → size_fault content n size ≡ None →
    (row : Row) × HasRoom content n size row
room content n size k = room_by content n size (numbered content.rows n) refl k

-- the content in which a file got another size is good
pub good_resized : (content : Content) (n size : ℕ) → GoodContent content → size_fault content n size ≡ None →
    GoodContent (changed_in (λ entry. record entry { bytes = resized size entry.bytes }) content n)
good_resized content n size good free =
    let r = room content n size free in
    good_within (λ entry. record entry { bytes = resized size entry.bytes }) content n r.0
    (record { number = λ _. refl; kind = λ _. refl }) r.1.found r.1.file
    (omega (arith, length-resized size r.0.1.bytes, r.1.small)) r.1.fits good

-- the content in which bytes were put into a file is good
pub good_written : (content : Content) (n offset : ℕ) (buffer : List ℕ) → GoodContent content →
    write_fault content n offset (length buffer) ≡ None →
    GoodContent (changed_in (λ entry. record entry { bytes = written offset buffer entry.bytes }) content n)
good_written content n offset buffer good free =
    let r = room content n (max (length (bytes_of content.rows n)) (offset + length buffer)) free in
    let f : Entry → Entry = λ entry. record entry { bytes = written offset buffer entry.bytes } in
    let size : ℕ = max (length (bytes_of content.rows n)) (offset + length buffer) in
    let its = bytes_found content.rows n r.0 r.1.found in
    let long : length (written offset buffer r.0.1.bytes) ≡ size =
    length-written offset buffer r.0.1.bytes ∙ ap (λ (l : List ℕ). max (length l) (offset + length buffer)) (sym its) in
    let one = space_changed f content.rows n r.0 r.1.found in
    let as_long : Entry → Entry = λ entry. record entry { bytes = resized size entry.bytes } in
    let other = space_changed as_long content.rows n r.0 r.1.found in
    let same : allocation_size (length (written offset buffer r.0.1.bytes))
    ≡ allocation_size (length (resized size r.0.1.bytes)) =
    ap allocation_size (long ∙ sym (length-resized size r.0.1.bytes)) in
    good_within f content n r.0 (record { number = λ _. refl; kind = λ _. refl }) r.1.found r.1.file
    (omega (arith, long, r.1.small)) (omega (arith, one, other, same, r.1.fits)) good

-- what follows from two things that hold of all holds of all
both_hold : (P Q R : Row → Type 0) (rows : List Row) → ((r : Row) → P r → Q r → R r) → AllByRecursion P rows →
    AllByRecursion Q rows → AllByRecursion R rows
both_hold P Q R [] f p q = tt
both_hold P Q R (x ∷ rows) f p q = (f x p.0 q.0, both_hold P Q R rows f p.1 q.1)

-- the content without an entry that may be removed is good
pub good_removed : (content : Content) (n : ℕ) → GoodContent content → n ≢ 1 → remove_fault content n ≡ None →
    GoodContent (record content { rows = without content.rows n })
good_removed content n good k free =
    let r = removable content.rows (numbered content.rows n) free in
    let row = r.0 in
    let apart : is_same_path row.0 [] ≡ false = not_root content n row good r.1 k in
    let here : (path : Path) →
    entry_at (without content.rows n) path ≡ (if is_same_path row.0 path then None else entry_at content.rows path) =
    λ path. at-without content.rows row.0 path row.1 n good.apart r.1 in
    let above : (x : Row) → (is_folder (entry_at content.rows (parent x.0)) ≡ true) → is_child row.0 x ≡ false →
    is_folder (entry_at (without content.rows n) (parent x.0)) ≡ true =
    λ x p c. (let left : is_same_path row.0 (parent x.0) ≡ false = parent_left row.0 x apart c in
    rw (here (parent x.0), left) p) in
    record {
      root = rw (here [], apart) good.root;
      first = rw (here [], apart) good.first;
      parents = all-without (λ x. is_folder (entry_at (without content.rows n) (parent x.0)) ≡ true) content.rows n
          (both_hold (λ x. is_folder (entry_at content.rows (parent x.0)) ≡ true) (λ x. is_child row.0 x ≡ false)
          (λ x. is_folder (entry_at (without content.rows n) (parent x.0)) ≡ true) content.rows above good.parents
          (no_child content.rows row.0 r.2));
      apart = apart_removed content.rows n good.apart;
      below = below-without content.rows n content.next good.below;
      counted = good.counted;
      few = omega (arith, good.few, few-without content.rows n);
      shallow = all-without (λ x. length x.0 ≤ most_components) content.rows n good.shallow;
      small = all-without (λ x. length x.1.bytes ≤ content.limits.file_bytes) content.rows n good.small;
      bare = all-without (λ x. is_folder_kind x.1.kind ≡ true → length x.1.bytes ≡ 0) content.rows n good.bare;
      fits = omega (arith, good.fits, less-without content.rows n);
    }

used_kept : (f : Entry → Entry) (rows : List Row) (n : ℕ) → ((e : Entry) → (f e).bytes ≡ e.bytes) →
    used_space (changed f rows n) ≡ used_space rows
used_kept f [] n k = refl
used_kept f (row ∷ rows) n k = let e = ap (λ (l : List ℕ). allocation_size (length l)) (k row.1) in
    grind (arith, common_steps, e, used_kept f rows n k)

-- a good content stays good where an entry gets all but another number, another kind or other bytes
pub good_set : (f : Entry → Entry) (content : Content) (n : ℕ) → Keeps f → ((e : Entry) → (f e).bytes ≡ e.bytes) →
    GoodContent content → GoodContent (changed_in f content n)
good_set f content n k b good = record {
  root = folder_changed f content.rows n [] k ∙ good.root;
  parents = all_changed (λ r. is_folder (entry_at (changed f content.rows n) (parent r.0)) ≡ true) f content.rows n
      (λ r p. p)
      (all-more (λ r. is_folder (entry_at content.rows (parent r.0)) ≡ true)
      (λ r. is_folder (entry_at (changed f content.rows n) (parent r.0)) ≡ true) content.rows
      (λ r p. folder_changed f content.rows n (parent r.0) k ∙ p) good.parents);
  first = number-at-changed f content.rows n [] k.number ∙ good.first;
  apart = apart_changed f content.rows n k.number good.apart;
  below = below_changed f content.rows n content.next k good.below;
  counted = good.counted;
  few = omega (arith, good.few, length-changed f content.rows n);
  shallow = all_changed (λ r. length r.0 ≤ most_components) f content.rows n (λ r p. p) good.shallow;
  small = all_changed (λ r. length r.1.bytes ≤ content.limits.file_bytes) f content.rows n
      (λ r p. omega (arith, p, ap (length {A = ℕ}) (b r.1))) good.small;
  bare = all_changed (λ r. is_folder_kind r.1.kind ≡ true → length r.1.bytes ≡ 0) f content.rows n
      (λ r p t. omega (arith, ap (length {A = ℕ}) (b r.1), p (ap is_folder_kind (sym (k.kind r.1)) ∙ t))) good.bare;
  fits = omega (arith, good.fits, used_kept f content.rows n b);
}
