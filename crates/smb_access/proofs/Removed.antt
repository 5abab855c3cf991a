-- A tree from which an entry was removed that is not the root, and in which no entry was.
use Rattle.std.proofs.Common.{◌≡◌, ◌==◌, ◌≤◌, ℕ, ◌+◌, List, [], ◌∷◌, length, true, false, cond, if◌then◌else◌, Option, None, Some, refl, sym, ap, arith, ◌∙◌}
use Rattle.std.proofs.lemmas.Grind.{common_steps}
use Rattle.std.proofs.lemmas.Bool.Decides.{nat_tests}
use Rattle.std.specs.List.{AllByRecursion}
use Rattle.std.specs.Option.{option_map, option_map_or}
use Rattle.smb_tree.specs.Entries.{Entry, is_folder, is_folder_kind}
use Rattle.smb_tree.specs.Content.{Path, Row, Content, is_same_path, entry_at, number_at, numbered, parent, without}
use Rattle.smb_tree.specs.Parts.{removed, AreBelow, has_children}
use Rattle.smb_tree.specs.Children.{is_child}
use Rattle.smb_tree.specs.Laws.{AreApart}
use Rattle.smb_tree.proofs.Keys.{same_path-eq, same_path-sym}
use Rattle.smb_tree.proofs.Apart.{at-from_numbered}
use Rattle.smb_tree.proofs.Removals.{at-without, apart_removed, space_without}
use Rattle.smb_access.specs.Close.{is_deletable, has_mark}
use Rattle.smb_access.specs.Parts.{can_be_deleted}
use Rattle.smb_tree.specs.Good.{GoodContent}

pub all_removed : (P : Row → Type 0) (rows : List Row) (n : ℕ) → AllByRecursion P rows → AllByRecursion P (without rows n)
all_removed P [] n h = h
all_removed P (row ∷ rows) n h =
    elim (row.1.number == n) as (λ b. AllByRecursion P (cond b rows (row ∷ without rows n))) [ true ↦ h.1 | false ↦ (h.0, all_removed P rows n h.1) ]

pub below_removed : (rows : List Row) (n next : ℕ) → AreBelow rows next → AreBelow (without rows n) next
below_removed [] n next h = h
below_removed (row ∷ rows) n next h =
    elim (row.1.number == n) as (λ b. AreBelow (cond b rows (row ∷ without rows n)) next) [ true ↦ h.1 | false ↦ (h.0, below_removed rows n next h.1) ]

pub length-removed : (rows : List Row) (n : ℕ) (row : Row) → numbered rows n ≡ Some row → length (without rows n) + 1 ≡ length rows
length-removed [] n row h = cc
length-removed (x ∷ rows) n row h = grind (arith, h, length-removed rows n row)

pub numbered-removed : (rows : List Row) (n m : ℕ) → AreApart rows → numbered (without rows n) m ≡ (if m == n then None else numbered rows m)
numbered-removed [] n m a = grind arith
numbered-removed (x ∷ rows) n m a = grind (arith, nat_tests, a.1, numbered-removed rows n m a.2)

children_removed : (rows : List Row) (n : ℕ) (path : Path) → has_children rows path ≡ false → has_children (without rows n) path ≡ false
children_removed [] n path h = refl
children_removed (x ∷ rows) n path h = grind (arith, h, children_removed rows n path)

-- none is a child where there are none
no_child : (rows : List Row) (path : Path) → has_children rows path ≡ false → AllByRecursion (λ row. is_child path row ≡ false) rows
no_child [] path h = tt
no_child (x ∷ rows) path h = (grind (arith, h), no_child rows path (grind (arith, h)))

-- what can be deleted is not at the root's path
not_root : (content : Content) (n : ℕ) (row : Row) → GoodContent content → numbered content.rows n ≡ Some row → row.1.number == 1 ≡ false → is_same_path row.0 [] ≡ false
not_root content n row good h k =
    elim (is_same_path row.0 []) as (λ b. is_same_path row.0 [] ≡ b → b ≡ false) [
      | true ↦ λ s. (let at : entry_at content.rows row.0 ≡ Some row.1 = at-from_numbered content.rows row.0 row.1 n good.apart h in let path : row.0 ≡ [] = same_path-eq row.0 [] s in let one : number_at content.rows row.0 ≡ Some 1 = rw path good.first in let same : Some row.1.number ≡ Some 1 = ap (option_map (λ (e : Entry). e.number)) (sym at) ∙ one in grind (arith, nat_tests, same, k))
      | false ↦ λ _. refl
    ] refl

-- the parent of what is left is left
parent_left : (path : Path) (row : Row) → is_same_path path [] ≡ false → is_child path row ≡ false → is_same_path path (parent row.0) ≡ false
parent_left path ([], entry) r c = r
parent_left path (part ∷ parts, entry) r c = (let back = same_path-sym path (parent (part ∷ parts)) in grind (arith, common_steps, c, back))

pub record IsLeaf (rows : List Row) (row : Row) : Type 0 where
  pub number : row.1.number == 1 ≡ false
  pub children : has_children rows row.0 ≡ false

pub leaf : (rows : List Row) (row : Row) → can_be_deleted rows row ≡ true → IsLeaf rows row
leaf rows row h = record { number = grind (arith, h); children = grind (arith, h) }

both : (P Q R : Row → Type 0) (rows : List Row) → ((r : Row) → P r → Q r → R r) → AllByRecursion P rows → AllByRecursion Q rows → AllByRecursion R rows
both P Q R [] f p q = tt
both P Q R (x ∷ rows) f p q = (f x p.0 q.0, both P Q R rows f p.1 q.1)

pub good_removed : (content : Content) (n : ℕ) (row : Row) → numbered content.rows n ≡ Some row → can_be_deleted content.rows row ≡ true → GoodContent content → GoodContent (removed content n)
good_removed content n row h d good =
    let l = leaf content.rows row d in
    let apart : is_same_path row.0 [] ≡ false = not_root content n row good h l.number in
    let here : (path : Path) → entry_at (without content.rows n) path ≡ (if is_same_path row.0 path then None else entry_at content.rows path) = λ path. at-without content.rows row.0 path row.1 n good.apart h in
    let above : (r : Row) → (is_folder (entry_at content.rows (parent r.0)) ≡ true) → is_child row.0 r ≡ false → is_folder (entry_at (without content.rows n) (parent r.0)) ≡ true = λ r p c. (let left : is_same_path row.0 (parent r.0) ≡ false = parent_left row.0 r apart c in rw (here (parent r.0), left) p) in
    record {
      root = rw (here [], apart) good.root;
      first = rw (here [], apart) good.first;
      parents = all_removed (λ r. is_folder (entry_at (without content.rows n) (parent r.0)) ≡ true) content.rows n (both (λ r. is_folder (entry_at content.rows (parent r.0)) ≡ true) (λ r. is_child row.0 r ≡ false) (λ r. is_folder (entry_at (without content.rows n) (parent r.0)) ≡ true) content.rows above good.parents (no_child content.rows row.0 l.children));
      apart = apart_removed content.rows n good.apart;
      below = below_removed content.rows n content.next good.below;
      counted = good.counted;
      few = omega (arith, good.few, length-removed content.rows n row h);
      shallow = all_removed (λ r. length r.0 ≤ 32) content.rows n good.shallow;
      small = all_removed (λ r. length r.1.bytes ≤ content.limits.file_bytes) content.rows n good.small;
      bare = all_removed (λ r. is_folder_kind r.1.kind ≡ true → length r.1.bytes ≡ 0) content.rows n good.bare;
      fits = omega (arith, good.fits, space_without content.rows n row h);
    }

-- what is marked, and what can be deleted, of what is left
pub mark_removed : (rows : List Row) (n m : ℕ) → AreApart rows → has_mark (without rows n) m ≡ (if m == n then false else has_mark rows m)
mark_removed rows n m a = ap (λ (o : Option Row). option_map_or (λ row. row.1.mark) o false) (numbered-removed rows n m a) ∙ elim (m == n) as (λ b. option_map_or (λ (row : Row). row.1.mark) (cond b None (numbered rows m)) false ≡ cond b false (has_mark rows m)) [ true ↦ refl | false ↦ refl ]

deletable_left : (rows rows' : List Row) (o : Option Row) → ((path : Path) → has_children rows path ≡ false → has_children rows' path ≡ false) → option_map_or (can_be_deleted rows) o false ≡ true → option_map_or (can_be_deleted rows') o false ≡ true
deletable_left rows rows' None k h = h
deletable_left rows rows' (Some row) k h = (let l = leaf rows row h in rw (l.number, k row.0 l.children) refl)

pub deletable_removed : (rows : List Row) (n m : ℕ) → AreApart rows → m == n ≡ false → is_deletable rows m ≡ true → is_deletable (without rows n) m ≡ true
deletable_removed rows n m a e h =
    let same : numbered (without rows n) m ≡ numbered rows m = numbered-removed rows n m a ∙ rw e refl in
    rw same (deletable_left rows (without rows n) (numbered rows m) (λ path c. children_removed rows n path c) h)
