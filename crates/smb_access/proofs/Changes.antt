-- A good tree stays good when a file is overwritten, and when an entry is added.
use Rattle.std.proofs.Common.{◌≡◌, ◌==◌, ◌<◌, ◌≤◌, ℕ, ◌+◌, ◌-◌, ◌^◌, List, [], ◌∷◌, ◌++◌, length, true, false, cond, None, Some, is_some, refl, sym, ap, arith, ◌∙◌, length-append}
use Rattle.std.proofs.lemmas.Grind.{common_steps}
use Rattle.std.proofs.lemmas.Bool.Decides.{nat_tests}
use Rattle.std.specs.List.{AllByRecursion}
use Rattle.smb_tree.specs.Entries.{Entry, is_folder, is_folder_kind, allocation_size}
use Rattle.smb_tree.specs.Content.{Path, Row, Content, entry_at, number_at, numbered, parent, changed, used_space}
use Rattle.smb_tree.specs.Parts.{AreBelow}
use Rattle.smb_tree.specs.Faults.{add_fault}
use Rattle.smb_tree.proofs.Apart.{apart_changed, apart_added, numbered-push, numbered-changed, numbered-fresh}
use Rattle.smb_tree.proofs.Spaces.{space_changed, space_more}
use Rattle.smb_tree.specs.Good.{GoodContent}
use Rattle.smb_access.specs.Parts.{ArePresent}
use Rattle.smb_access.specs.declared.open_row.OpenRow.{OpenRow}
use Rattle.smb_access.proofs.Rows.{all_push, all_more}

-- a change of an entry that leaves its number and its kind
pub record Keeps (f : Entry → Entry) : Type 0 where
  pub number : (e : Entry) → (f e).number ≡ e.number
  pub kind : (e : Entry) → (f e).kind ≡ e.kind

-- a change of an entry that leaves its number and its kind, and adds no bytes
pub record Shrinks (f : Entry → Entry) : Type 0 where
  pub number : (e : Entry) → (f e).number ≡ e.number
  pub kind : (e : Entry) → (f e).kind ≡ e.kind
  pub bytes : (e : Entry) → length (f e).bytes ≤ length e.bytes

pub keeps_of : (f : Entry → Entry) → Shrinks f → Keeps f
keeps_of f k = record { number = k.number; kind = k.kind }

pub all_changed : (P : Row → Type 0) (f : Entry → Entry) (rows : List Row) (n : ℕ) → ((row : Row) → P row → P (row.0, f row.1)) → AllByRecursion P rows → AllByRecursion P (changed f rows n)
all_changed P f [] n k h = h
all_changed P f (row ∷ rows) n k h =
    elim (row.1.number == n) as (λ b. AllByRecursion P (cond b ((row.0, f row.1) ∷ rows) (row ∷ changed f rows n))) [ true ↦ (k row h.0, h.1) | false ↦ (h.0, all_changed P f rows n k h.1) ]

pub folder_changed : (f : Entry → Entry) (rows : List Row) (n : ℕ) (path : Path) → Keeps f → is_folder (entry_at (changed f rows n) path) ≡ is_folder (entry_at rows path)
folder_changed f [] n path k = refl
folder_changed f (row ∷ rows) n path k = grind (arith, common_steps, k.kind row.1, folder_changed f rows n path k)

pub below_changed : (f : Entry → Entry) (rows : List Row) (n next : ℕ) → Keeps f → AreBelow rows next → AreBelow (changed f rows n) next
below_changed f [] n next k h = h
below_changed f (row ∷ rows) n next k h =
    elim (row.1.number == n) as (λ b. AreBelow (cond b ((row.0, f row.1) ∷ rows) (row ∷ changed f rows n)) next) [ true ↦ (rw (k.number row.1) h.0, h.1) | false ↦ (h.0, below_changed f rows n next k h.1) ]

pub length-changed : (f : Entry → Entry) (rows : List Row) (n : ℕ) → length (changed f rows n) ≡ length rows
length-changed f [] n = refl
length-changed f (row ∷ rows) n = grind (arith, length-changed f rows n)

pub space_within_changed : (f : Entry → Entry) (rows : List Row) (n : ℕ) (row : Row) → ((e : Entry) → length (f e).bytes ≡ 0) → numbered rows n ≡ Some row → used_space (changed f rows n) ≤ used_space rows
space_within_changed f rows n row k h =
    let none : allocation_size (length (f row.1).bytes) ≡ 0 = rw (k row.1) refl in
    omega (arith, space_changed f rows n row h, none)

allocation_within : (a b : ℕ) → a ≤ b → allocation_size a ≤ allocation_size b
allocation_within a b h = omega (arith, h)

space_shrunk : (f : Entry → Entry) (rows : List Row) (n : ℕ) (row : Row) → Shrinks f → numbered rows n ≡ Some row → used_space (changed f rows n) ≤ used_space rows
space_shrunk f rows n row k h = omega (arith, space_changed f rows n row h, allocation_within (length (f row.1).bytes) (length row.1.bytes) (k.bytes row.1))

pub number-at-changed : (f : Entry → Entry) (rows : List Row) (n : ℕ) (path : Path) → ((e : Entry) → (f e).number ≡ e.number) → number_at (changed f rows n) path ≡ number_at rows path
number-at-changed f [] n path k = refl
number-at-changed f (row ∷ rows) n path k = grind (arith, common_steps, k row.1, number-at-changed f rows n path k)

number-at-push : (rows : List Row) (row : Row) (path : Path) (n : ℕ) → number_at rows path ≡ Some n → number_at (rows ++ row ∷ []) path ≡ Some n
number-at-push [] row path n h = cc
number-at-push (x ∷ rows) row path n h = grind (arith, common_steps, h, number-at-push rows row path n)

pub good_changed : (f : Entry → Entry) (content : Content) (n : ℕ) (row : Row) → Shrinks f → numbered content.rows n ≡ Some row → GoodContent content → GoodContent (record content { rows = changed f content.rows n })
good_changed f content n row k h good = record {
  root = folder_changed f content.rows n [] (keeps_of f k) ∙ good.root;
  first = number-at-changed f content.rows n [] k.number ∙ good.first;
  parents = all_changed (λ r. is_folder (entry_at (changed f content.rows n) (parent r.0)) ≡ true) f content.rows n (λ r p. p)
      (all_more (λ r. is_folder (entry_at content.rows (parent r.0)) ≡ true) (λ r. is_folder (entry_at (changed f content.rows n) (parent r.0)) ≡ true) content.rows (λ r p. folder_changed f content.rows n (parent r.0) (keeps_of f k) ∙ p) good.parents);
  apart = apart_changed f content.rows n k.number good.apart;
  below = below_changed f content.rows n content.next (keeps_of f k) good.below;
  counted = good.counted;
  few = omega (arith, good.few, length-changed f content.rows n);
  shallow = all_changed (λ r. length r.0 ≤ 32) f content.rows n (λ r p. p) good.shallow;
  small = all_changed (λ r. length r.1.bytes ≤ content.limits.file_bytes) f content.rows n (λ r p. omega (arith, p, k.bytes r.1)) good.small;
  bare = all_changed (λ r. is_folder_kind r.1.kind ≡ true → length r.1.bytes ≡ 0) f content.rows n (λ r p t. omega (arith, k.bytes r.1, p (ap is_folder_kind (sym (k.kind r.1)) ∙ t))) good.bare;
  fits = omega (arith, good.fits, space_shrunk f content.rows n row k h);
}

-- the opens of entries that stood stand on entries that stand
pub present_changed : (f : Entry → Entry) (rows : List Row) (n : ℕ) (opens : List OpenRow) → Keeps f → ArePresent rows opens → ArePresent (changed f rows n) opens
present_changed f rows n opens k h =
    all_more (λ (o : OpenRow). is_some (numbered rows o.entry) ≡ true) (λ (o : OpenRow). is_some (numbered (changed f rows n) o.entry) ≡ true) opens (λ o p. grind (arith, common_steps, p, numbered-changed f rows n o.entry k.number)) h

-- a path under which an entry may be added
pub record IsFree (content : Content) (path : Path) : Type 0 where
  pub above : is_folder (entry_at content.rows (parent path)) ≡ true
  pub absent : entry_at content.rows path ≡ None
  pub shallow : length path ≤ 32
  pub few : length content.rows - 1 < content.limits.entries
  pub next : content.next < 2 ^ 64 - 1

pub free_path : (content : Content) (path : Path) → length path ≤ 32 → add_fault content path ≡ None → IsFree content path
free_path content path short e = record {
  above = grind (arith, nat_tests, common_steps, e);
  absent = grind (arith, nat_tests, common_steps, e);
  shallow = short;
  few = grind (arith, nat_tests, common_steps, e);
  next = grind (arith, nat_tests, common_steps, e);
}

folder_push : (rows : List Row) (row : Row) (path : Path) → is_folder (entry_at rows path) ≡ true → is_folder (entry_at (rows ++ row ∷ []) path) ≡ true
folder_push [] row path h = cc
folder_push (x ∷ rows) row path h = grind (arith, common_steps, h, folder_push rows row path)

pub below_push : (rows : List Row) (row : Row) (next : ℕ) → AreBelow rows next → row.1.number ≡ next → AreBelow (rows ++ row ∷ []) (next + 1)
below_push [] row next h e = (omega (arith, e), tt)
below_push (x ∷ rows) row next h e = (omega (arith, h.0), below_push rows row next h.1 e)

pub good_push : (content : Content) (path : Path) (entry : Entry) → IsFree content path → entry.number ≡ content.next → length entry.bytes ≡ 0 → GoodContent content → GoodContent (record content { rows = content.rows ++ (path, entry) ∷ []; next = content.next + 1 })
good_push content path entry free number bytes good = record {
  root = folder_push content.rows (path, entry) [] good.root;
  first = number-at-push content.rows (path, entry) [] 1 good.first;
  parents = all_push (λ r. is_folder (entry_at (content.rows ++ (path, entry) ∷ []) (parent r.0)) ≡ true) content.rows (path, entry)
      (all_more (λ r. is_folder (entry_at content.rows (parent r.0)) ≡ true) (λ r. is_folder (entry_at (content.rows ++ (path, entry) ∷ []) (parent r.0)) ≡ true) content.rows (λ r p. folder_push content.rows (path, entry) (parent r.0) p) good.parents)
      (folder_push content.rows (path, entry) (parent path) free.above);
  apart = apart_added content.rows path entry good.apart (rw number good.below) free.absent;
  below = below_push content.rows (path, entry) content.next good.below number;
  counted = omega (arith, free.next);
  few = omega (arith, free.few, length-append content.rows ((path, entry) ∷ []));
  shallow = all_push (λ r. length r.0 ≤ 32) content.rows (path, entry) good.shallow free.shallow;
  small = all_push (λ r. length r.1.bytes ≤ content.limits.file_bytes) content.rows (path, entry) good.small (omega (arith, bytes));
  bare = all_push (λ r. is_folder_kind r.1.kind ≡ true → length r.1.bytes ≡ 0) content.rows (path, entry) good.bare (λ _. bytes);
  fits = (let none : allocation_size (length entry.bytes) ≡ 0 = rw bytes refl in omega (arith, good.fits, space_more content.rows (path, entry), none));
}

pub present_push : (rows : List Row) (row : Row) (opens : List OpenRow) → ArePresent rows opens → ArePresent (rows ++ row ∷ []) opens
present_push rows row opens h =
    all_more (λ (o : OpenRow). is_some (numbered rows o.entry) ≡ true) (λ (o : OpenRow). is_some (numbered (rows ++ row ∷ []) o.entry) ≡ true) opens (λ o p. grind (arith, common_steps, p, numbered-push rows row o.entry)) h

-- the entry that was added is the one of its number
pub numbered-last : (content : Content) (row : Row) → GoodContent content → row.1.number ≡ content.next → numbered (content.rows ++ row ∷ []) content.next ≡ Some row
numbered-last content row good e = grind (arith, nat_tests, e, numbered-push content.rows row content.next, numbered-fresh content.rows content.next good.below)
