-- What is marked, and what can be deleted, after a change and after an addition.
use Rattle.std.proofs.Common.{◌≡◌, ◌==◌, ℕ, List, [], ◌∷◌, ◌++◌, Bool, true, false, if◌then◌else◌, Option, None, Some, is_some, refl, ap, arith, ◌∙◌}
use Rattle.std.specs.Option.{option_map, option_map_or}
use Rattle.smb_tree.specs.Entries.{Entry}
use Rattle.smb_tree.specs.Content.{Path, Row, is_same_path, entry_at, numbered, parent, changed}
use Rattle.smb_tree.specs.Children.{is_child}
use Rattle.smb_tree.specs.Parts.{has_children}
use Rattle.smb_tree.specs.Laws.{AreApart}
use Rattle.smb_tree.proofs.Keys.{same_path-eq}
use Rattle.smb_tree.proofs.Apart.{numbered-changed, numbered-push, at-from_numbered}
use Rattle.smb_access.specs.Close.{is_deletable, has_mark}
use Rattle.smb_access.specs.Parts.{can_be_deleted, is_marked}
use Rattle.smb_access.specs.Opens.{has_open}
use Rattle.smb_access.specs.declared.open_row.OpenRow.{OpenRow}
use Rattle.smb_access.proofs.Removed.{leaf}

children_changed : (f : Entry → Entry) (rows : List Row) (n : ℕ) (path : Path) → has_children (changed f rows n) path ≡ has_children rows path
children_changed f [] n path = refl
children_changed f (row ∷ rows) n path = grind (arith, children_changed f rows n path)

deletable_by : (rows rows' : List Row) (f : Entry → Entry) (b : Bool) (o : Option Row) → ((path : Path) → has_children rows' path ≡ has_children rows path) → ((e : Entry) → (f e).number ≡ e.number) → option_map_or (can_be_deleted rows') (if b then option_map (λ (x : Row). (x.0, f x.1)) o else o) false ≡ option_map_or (can_be_deleted rows) o false
deletable_by rows rows' f true None c k = refl
deletable_by rows rows' f false None c k = refl
deletable_by rows rows' f true (Some row) c k = rw (k row.1, c row.0) refl
deletable_by rows rows' f false (Some row) c k = rw (c row.0) refl

pub deletable_changed : (f : Entry → Entry) (rows : List Row) (n m : ℕ) → ((e : Entry) → (f e).number ≡ e.number) → is_deletable (changed f rows n) m ≡ is_deletable rows m
deletable_changed f rows n m k =
    ap (λ (o : Option Row). option_map_or (can_be_deleted (changed f rows n)) o false) (numbered-changed f rows n m k)
    ∙ deletable_by rows (changed f rows n) f (m == n) (numbered rows m) (λ path. children_changed f rows n path) k

mark_by : (f : Entry → Entry) (b : Bool) (o : Option Row) → ((e : Entry) → (f e).mark ≡ e.mark) → option_map_or (λ (row : Row). row.1.mark) (if b then option_map (λ (x : Row). (x.0, f x.1)) o else o) false ≡ option_map_or (λ (row : Row). row.1.mark) o false
mark_by f true None k = refl
mark_by f false None k = refl
mark_by f true (Some row) k = k row.1
mark_by f false (Some row) k = refl

pub mark_changed : (f : Entry → Entry) (rows : List Row) (n m : ℕ) → ((e : Entry) → (f e).number ≡ e.number) → ((e : Entry) → (f e).mark ≡ e.mark) → has_mark (changed f rows n) m ≡ has_mark rows m
mark_changed f rows n m k s =
    ap (λ (o : Option Row). option_map_or (λ row. row.1.mark) o false) (numbered-changed f rows n m k) ∙ mark_by f (m == n) (numbered rows m) s

-- a change of one entry leaves the marks of the others
pub mark_elsewhere : (f : Entry → Entry) (rows : List Row) (n m : ℕ) → ((e : Entry) → (f e).number ≡ e.number) → m == n ≡ false → has_mark (changed f rows n) m ≡ has_mark rows m
mark_elsewhere f rows n m k e =
    let same : numbered (changed f rows n) m ≡ numbered rows m = numbered-changed f rows n m k ∙ rw e refl in
    ap (λ (o : Option Row). option_map_or (λ row. row.1.mark) o false) same

-- an addition leaves what is marked
mark_pushed_by : (o : Option Row) (new : Row) (b : Bool) → new.1.mark ≡ false → option_map_or (λ (row : Row). row.1.mark) (if is_some o then o else (if b then Some new else None)) false ≡ option_map_or (λ (row : Row). row.1.mark) o false
mark_pushed_by (Some row) new b h = refl
mark_pushed_by None new true h = h
mark_pushed_by None new false h = refl

pub mark_pushed : (rows : List Row) (new : Row) (m : ℕ) → new.1.mark ≡ false → has_mark (rows ++ new ∷ []) m ≡ has_mark rows m
mark_pushed rows new m h =
    ap (λ (o : Option Row). option_map_or (λ row. row.1.mark) o false) (numbered-push rows new m) ∙ mark_pushed_by (numbered rows m) new (new.1.number == m) h

children_pushed : (rows : List Row) (new : Row) (path : Path) → has_children rows path ≡ false → is_child path new ≡ false → has_children (rows ++ new ∷ []) path ≡ false
children_pushed [] new path h c = grind (arith, c)
children_pushed (x ∷ rows) new path h c = grind (arith, h, children_pushed rows new path)

-- an entry whose folder is not marked is no child of a marked one
no_child_of_marked : (rows : List Row) (row new : Row) (m : ℕ) → AreApart rows → numbered rows m ≡ Some row → row.1.mark ≡ true → is_marked (entry_at rows (parent new.0)) ≡ false → is_child row.0 new ≡ false
no_child_of_marked rows row new m a h k u =
    elim (is_same_path (parent new.0) row.0) as (λ b. is_same_path (parent new.0) row.0 ≡ b → is_child row.0 new ≡ false) [
      | true ↦ λ s. (let path : parent new.0 ≡ row.0 = same_path-eq (parent new.0) row.0 s in let at : entry_at rows row.0 ≡ Some row.1 = at-from_numbered rows row.0 row.1 m a h in let marked : is_marked (entry_at rows (parent new.0)) ≡ true = rw (path, at) k in absurd (grind (arith, u, marked)))
      | false ↦ λ s. grind (arith, s)
    ] refl

-- what is marked and can be deleted still can where an entry is added to a folder that is not marked
pub deletable_pushed : (rows : List Row) (new : Row) (m : ℕ) → AreApart rows → has_mark rows m ≡ true → is_marked (entry_at rows (parent new.0)) ≡ false → is_deletable rows m ≡ true → is_deletable (rows ++ new ∷ []) m ≡ true
deletable_pushed rows new m a k u h =
    elim (numbered rows m) as (λ o. numbered rows m ≡ o → option_map_or (λ (row : Row). row.1.mark) o false ≡ true → option_map_or (can_be_deleted rows) o false ≡ true → is_deletable (rows ++ new ∷ []) m ≡ true) [
      | None ↦ λ _ q _. absurd (cc)
      | Some row ↦ λ e q d. (let l = leaf rows row d in let same : numbered (rows ++ new ∷ []) m ≡ Some row = numbered-push rows new m ∙ rw e refl in rw (same, l.number, children_pushed rows new row.0 l.children (no_child_of_marked rows row new m a e q u)) refl)
    ] refl k h

pub open_pushed_too : (opens : List OpenRow) (new : OpenRow) (m : ℕ) → has_open opens m ≡ true → has_open (opens ++ new ∷ []) m ≡ true
open_pushed_too [] new m h = cc
open_pushed_too (o ∷ opens) new m h = grind (arith, h, open_pushed_too opens new m)
