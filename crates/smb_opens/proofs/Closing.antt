-- A CLOSE keeps a good store good.
use Rattle.std.proofs.Common.{◌≡◌, ◌==◌, ℕ, ◌+◌, ◌-◌, List, [], ◌∷◌, length, Bool, true, false, ◌&&◌, not, if◌then◌else◌, Option, None, Some, is_some, refl, sym, ap, subst, arith, ◌∙◌}
use Rattle.std.proofs.lemmas.Bool.Decides.{nat_tests}
use Rattle.std.specs.Option.{option_map, option_map_or}
use Rattle.smb_tree.specs.Entries.{Entry}
use Rattle.smb_tree.specs.Content.{Row, Content, numbered, without}
use Rattle.smb_tree.specs.Parts.{with_mark, removed, AreLawful}
use Rattle.smb_tree.specs.Laws.{AreApart}
use Rattle.smb_locks.specs.Table.{Table, without_holder}
use Rattle.smb_locks.proofs.Tables.{good_dropped, few_dropped}
use Rattle.smb_tree.proofs.Apart.{numbered-changed}
use Rattle.smb_access.specs.declared.open_row.OpenRow.{OpenRow}
use Rattle.smb_access.specs.declared.view.View.{View}
use Rattle.smb_access.specs.Close.{is_deletable, has_mark}
use Rattle.smb_access.specs.Parts.{tree_marked, tree_cleared, is_due, ArePresent}
use Rattle.smb_opens.specs.Close.{closed, is_removed_with}
use Rattle.smb_opens.specs.Parts.{closed_open, removes_entry, AreMarksDue}
use Rattle.smb_tree.specs.Good.{GoodContent}
use Rattle.smb_tree.proofs.Lawful.{lawful_changed, lawful_without}
use Rattle.smb_opens.specs.Good.{GoodStore, IsKept, IsMasked}
use Rattle.smb_access.specs.Numbers.{AreRising}
use Rattle.smb_access.specs.Opens.{open_of, without_open, open_numbers, has_open}
use Rattle.smb_opens.specs.State.{StoreState}
use Rattle.smb_access.proofs.Changes.{Shrinks, good_changed, length-changed}
use Rattle.smb_opens.proofs.Conflicts.{compatible_without}
use Rattle.smb_access.proofs.Marks.{deletable_changed, mark_elsewhere}
use Rattle.smb_access.proofs.Removed.{good_removed, numbered-removed, length-removed, mark_removed, deletable_removed}
use Rattle.smb_opens.proofs.Held.{held_dropped}
use Rattle.smb_access.proofs.Rows.{all_more, all_without, rising_without, below_without, length-without, kept_above}
use Rattle.smb_access.proofs.Closing.{deletable_row}

-- the number of an open
pub number_found : (rows : List OpenRow) (n : ℕ) (row : OpenRow) → open_of rows n ≡ Some row → row.number ≡ n
number_found [] n row h = cc
number_found (x ∷ rows) n row h = grind (arith, nat_tests, h, number_found rows n row)

-- other entries keep their opens
open_elsewhere : (rows : List OpenRow) (n m : ℕ) (row : OpenRow) → AreRising (open_numbers rows) → open_of rows n ≡ Some row → m == row.entry ≡ false → has_open (without_open n rows) m ≡ has_open rows m
open_elsewhere [] n m row r h e = cc
open_elsewhere (x ∷ rows) n m row r h e = grind (arith, nat_tests, h, e, kept_above x.number rows r.0, open_elsewhere rows n m row r.1)

-- what a mark changes
pub record IsMarked (before after : Content) (entry : ℕ) : Type 0 where
  pub good : GoodContent after
  pub deletable : (m : ℕ) → is_deletable after.rows m ≡ is_deletable before.rows m
  pub elsewhere : (m : ℕ) → m == entry ≡ false → has_mark after.rows m ≡ has_mark before.rows m
  pub here : has_mark after.rows entry ≡ true → is_deletable after.rows entry ≡ true
  pub present : (m : ℕ) → is_some (numbered after.rows m) ≡ is_some (numbered before.rows m)
  pub long : length after.rows ≡ length before.rows
  pub lawful : AreLawful before.rows → AreLawful after.rows
  pub limits : after.limits ≡ before.limits

marks : Shrinks (λ entry. record entry { mark = true })
marks = record { number = λ _. refl; kind = λ _. refl; bytes = λ e. omega arith }

present_by : (b : Bool) (o : Option Row) → is_some (if b then option_map (λ (x : Row). let y : Row = (x.0, record x.1 { mark = true }) in y) o else o) ≡ is_some o
present_by true None = refl
present_by true (Some row) = refl
present_by false o = refl

with_mark_marked : (tree : Content) (entry : ℕ) → GoodContent tree → is_deletable tree.rows entry ≡ true → IsMarked tree (with_mark tree entry true) entry
with_mark_marked tree entry good d =
    let f : Entry → Entry = λ e. record e { mark = true } in
    let row = deletable_row tree.rows entry d in
    record {
      good = good_changed f tree entry row.0 marks row.1 good;
      deletable = λ m. deletable_changed f tree.rows entry m (λ _. refl);
      elsewhere = λ m e. mark_elsewhere f tree.rows entry m (λ _. refl) e;
      here = λ _. deletable_changed f tree.rows entry entry (λ _. refl) ∙ d;
      present = λ m. ap is_some (numbered-changed f tree.rows entry m (λ _. refl)) ∙ present_by (m == entry) (numbered tree.rows m);
      long = length-changed f tree.rows entry;
      lawful = lawful_changed f tree.rows entry (record { number = λ _. refl; spelling = λ _. refl; attributes = λ _ h. h });
      limits = refl;
    }

same_marked : (tree : Content) (opens : List OpenRow) (row : OpenRow) → GoodContent tree → AreMarksDue tree.rows opens → IsMarked tree tree row.entry
same_marked tree opens row good due = record {
  good = good;
  deletable = λ _. refl;
  elsewhere = λ _ _. refl;
  here = λ h. (due row.entry h).0;
  present = λ _. refl;
  long = refl;
  lawful = λ l. l;
  limits = refl;
}

pub tree_marked_marked : (tree : Content) (opens : List OpenRow) (row : OpenRow) → GoodContent tree → AreMarksDue tree.rows opens → IsMarked tree (tree_marked tree row) row.entry
tree_marked_marked tree opens row good due =
    elim (row.delete_on_close) as (λ b. IsMarked tree (if b && is_deletable tree.rows row.entry then with_mark tree row.entry true else tree) row.entry) [
      | true ↦ elim (is_deletable tree.rows row.entry) as (λ d. is_deletable tree.rows row.entry ≡ d → IsMarked tree (if d then with_mark tree row.entry true else tree) row.entry) [
        | true ↦ λ e. with_mark_marked tree row.entry good e
        | false ↦ λ _. same_marked tree opens row good due
      ] refl
      | false ↦ same_marked tree opens row good due
    ]

-- the opens that are left
left_present : (state : StoreState) (row : OpenRow) (tree : Content) → GoodStore state → IsMarked state.tree tree row.entry → ArePresent tree.rows (without_open row.number state.opens)
left_present state row tree good m =
    all_without (λ (o : OpenRow). is_some (numbered tree.rows o.entry) ≡ true) row.number state.opens
    (all_more (λ (o : OpenRow). is_some (numbered state.tree.rows o.entry) ≡ true) (λ (o : OpenRow). is_some (numbered tree.rows o.entry) ≡ true) state.opens (λ o p. m.present o.entry ∙ p) good.present)

-- of another entry than the closed open's
left_elsewhere : (state : StoreState) (row : OpenRow) (tree : Content) (m : ℕ) → GoodStore state → IsMarked state.tree tree row.entry → open_of state.opens row.number ≡ Some row → m == row.entry ≡ false → has_mark tree.rows m ≡ true → (is_deletable tree.rows m ≡ true) × (has_open (without_open row.number state.opens) m ≡ true)
left_elsewhere state row tree m good k s e h =
    let due = good.marked m (sym (k.elsewhere m e) ∙ h) in
    (k.deletable m ∙ due.0, open_elsewhere state.opens row.number m row good.rising s e ∙ due.1)

stays : (marked has : Bool) → marked ≡ true → (marked && not has) ≡ false → has ≡ true
stays marked has m d = grind (arith, m, d)

left_marked : (state : StoreState) (row : OpenRow) (tree : Content) → GoodStore state → IsMarked state.tree tree row.entry → open_of state.opens row.number ≡ Some row → is_due tree (without_open row.number state.opens) row.entry ≡ false → AreMarksDue tree.rows (without_open row.number state.opens)
left_marked state row tree good k s due m h =
    elim (m == row.entry) as (λ b. m == row.entry ≡ b → (is_deletable tree.rows m ≡ true) × (has_open (without_open row.number state.opens) m ≡ true)) [
      | true ↦ λ e. (let same : m ≡ row.entry = grind (arith, nat_tests, e) in let here : has_mark tree.rows row.entry ≡ true = ap (has_mark tree.rows) (sym same) ∙ h in subst (λ (x : ℕ). (is_deletable tree.rows x ≡ true) × (has_open (without_open row.number state.opens) x ≡ true)) (sym same) (k.here here, stays (has_mark tree.rows row.entry) (has_open (without_open row.number state.opens) row.entry) here due))
      | false ↦ λ e. left_elsewhere state row tree m good k s e h
    ] refl

pub goes : (marked has : Bool) → (marked && not has) ≡ true → (marked ≡ true) × (has ≡ false)
goes marked has h = (grind (arith, h), grind (arith, h))

-- what is left where the entry goes
gone_present : (rows : List Row) (opens : List OpenRow) (entry : ℕ) → AreApart rows → ArePresent rows opens → has_open opens entry ≡ false → ArePresent (without rows entry) opens
gone_present rows [] entry a p h = tt
gone_present rows (o ∷ opens) entry a p h = (let here = numbered-removed rows entry o.entry a in (grind (arith, nat_tests, h, p.0, here), gone_present rows opens entry a p.1 (grind (arith, h))))

gone_marked : (state : StoreState) (row : OpenRow) (tree : Content) → GoodStore state → IsMarked state.tree tree row.entry → open_of state.opens row.number ≡ Some row → AreMarksDue (without tree.rows row.entry) (without_open row.number state.opens)
gone_marked state row tree good k s m h =
    elim (m == row.entry) as (λ b. m == row.entry ≡ b → (if b then false else has_mark tree.rows m) ≡ true → (is_deletable (without tree.rows row.entry) m ≡ true) × (has_open (without_open row.number state.opens) m ≡ true)) [
      | true ↦ λ _ q. absurd (cc)
      | false ↦ λ e q. (let there = left_elsewhere state row tree m good k s e q in (deletable_removed tree.rows row.entry m k.good.apart e there.0, there.1))
    ] refl (sym (mark_removed tree.rows row.entry m k.good.apart) ∙ h)

-- the store with the open taken out, its entry there or not
good_by : (state : StoreState) (row : OpenRow) (tree : Content) → tree.limits ≡ state.tree.limits → GoodStore state → open_of state.opens row.number ≡ Some row → GoodContent tree → AreLawful tree.rows → ArePresent tree.rows (without_open row.number state.opens) → AreMarksDue tree.rows (without_open row.number state.opens) → GoodStore (record { tree = tree; opens = without_open row.number state.opens; locks = without_holder row.number state.locks; next = state.next })
good_by state row tree same good s t l p m = record {
  tree = t;
  lawful = l;
  present = p;
  rising = rising_without row.number state.opens good.rising;
  below = below_without state.next row.number state.opens good.below;
  few = rw same (omega (arith, good.few, length-without row.number state.opens good.rising (ap is_some s)));
  masked = all_without IsMasked row.number state.opens good.masked;
  compatible = compatible_without row.number state.opens good.compatible;
  marked = m;
  locked = good_dropped row.number state.locks good.locked;
  few_locks = rw same (few_dropped row.number state.tree.limits.locks state.locks good.few_locks);
  held = held_dropped state.locks state.opens row.number good.locked good.held;
}

cleared_good : (state : StoreState) (row : OpenRow) (tree : Content) → GoodStore state → IsMarked state.tree tree row.entry → open_of state.opens row.number ≡ Some row → GoodStore (record { tree = tree_cleared tree (without_open row.number state.opens) row.entry; opens = without_open row.number state.opens; locks = without_holder row.number state.locks; next = state.next })
cleared_good state row tree good k s =
    elim (is_due tree (without_open row.number state.opens) row.entry) as (λ b. is_due tree (without_open row.number state.opens) row.entry ≡ b → GoodStore (record { tree = if b then removed tree row.entry else tree; opens = without_open row.number state.opens; locks = without_holder row.number state.locks; next = state.next })) [
      | true ↦ λ e. (let both = goes (has_mark tree.rows row.entry) (has_open (without_open row.number state.opens) row.entry) e in let d = deletable_row tree.rows row.entry (k.here both.0) in good_by state row (removed tree row.entry) k.limits good s (good_removed tree row.entry d.0 d.1 d.2 k.good) (lawful_without tree.rows row.entry (k.lawful good.lawful)) (gone_present tree.rows (without_open row.number state.opens) row.entry k.good.apart (left_present state row tree good k) both.1) (gone_marked state row tree good k s))
      | false ↦ λ e. good_by state row tree k.limits good s k.good (k.lawful good.lawful) (left_present state row tree good k) (left_marked state row tree good k s e)
    ] refl

pub good_closed_open : (state : StoreState) (row : OpenRow) → GoodStore state → open_of state.opens row.number ≡ Some row → GoodStore (closed_open state row)
good_closed_open state row good s = cleared_good state row (tree_marked state.tree row) good (tree_marked_marked state.tree state.opens row good.tree good.marked) s

-- how many entries there are then
pub length-cleared : (tree : Content) (opens : List OpenRow) (entry : ℕ) → (has_mark tree.rows entry ≡ true → is_deletable tree.rows entry ≡ true) → length (tree_cleared tree opens entry).rows + (if is_due tree opens entry then 1 else 0) ≡ length tree.rows
length-cleared tree opens entry k =
    elim (is_due tree opens entry) as (λ b. is_due tree opens entry ≡ b → length (let x : Content = if b then removed tree entry else tree in x).rows + (if b then 1 else 0) ≡ length tree.rows) [
      | true ↦ λ e. (let both = goes (has_mark tree.rows entry) (has_open opens entry) e in let d = deletable_row tree.rows entry (k both.0) in length-removed tree.rows entry d.0 d.1)
      | false ↦ λ _. omega arith
    ] refl

-- the store is that with the open of its number closed
pub closed_is : (state : StoreState) (number : ℕ) (row : OpenRow) → open_of state.opens number ≡ Some row → closed_open state row ≡ closed state number
closed_is state number row e = ap (λ (o : Option OpenRow). option_map_or (closed_open state) o state) (sym e)

pub removed_is : (state : StoreState) (number : ℕ) (row : OpenRow) → open_of state.opens number ≡ Some row → removes_entry state row ≡ option_map_or (removes_entry state) (open_of state.opens number) false
removed_is state number row e = ap (λ (o : Option OpenRow). option_map_or (removes_entry state) o false) (sym e)

pub kept_closed_open : (state : StoreState) (row : OpenRow) (opens_count entries_count rest : ℕ) → IsKept state.tree state.opens state.locks state.next opens_count entries_count → open_of state.opens row.number ≡ Some row → rest ≡ entries_count - (if removes_entry state row then 1 else 0) → IsKept (closed_open state row).tree (closed_open state row).opens (closed_open state row).locks state.next (opens_count - 1) rest
kept_closed_open state row opens_count entries_count rest kept s r =
    let k = tree_marked_marked state.tree state.opens row kept.good.tree kept.good.marked in
    let long = length-cleared (tree_marked state.tree row) (without_open row.number state.opens) row.entry k.here in
    record {
      good = good_closed_open state row kept.good s;
      opens_counted = omega (arith, kept.opens_counted, length-without row.number state.opens kept.good.rising (ap is_some s));
      entries_counted = omega (arith, kept.entries_counted, r, k.long, long);
    }

-- what an open's close takes away, whatever number it is named by
pub opens_closed : (state : StoreState) (number : ℕ) → is_some (open_of state.opens number) ≡ true → (closed state number).opens ≡ without_open number state.opens
opens_closed state number s =
    elim (open_of state.opens number) as (λ o. open_of state.opens number ≡ o → is_some o ≡ true → (option_map_or (closed_open state) o state).opens ≡ without_open number state.opens) [
      | None ↦ λ _ q. absurd (cc)
      | Some row ↦ λ e _. ap (λ (n : ℕ). without_open n state.opens) (number_found state.opens number row e)
    ] refl s

pub good_closed : (state : StoreState) (number : ℕ) → GoodStore state → is_some (open_of state.opens number) ≡ true → GoodStore (closed state number)
good_closed state number good s =
    elim (open_of state.opens number) as (λ o. open_of state.opens number ≡ o → is_some o ≡ true → GoodStore (option_map_or (closed_open state) o state)) [
      | None ↦ λ _ q. absurd (cc)
      | Some row ↦ λ e _. good_closed_open state row good (ap (open_of state.opens) (number_found state.opens number row e) ∙ e)
    ] refl s

pub no_view : (o v : Option View) → o ≡ None → o ≡ v → is_some v ≡ true → ⊥
no_view o v e f s = (let none : is_some v ≡ false = ap is_some (sym f ∙ e) in grind (arith, none, s))

-- the code's steps: the open is taken out, its entry marked, and cleared
left_opens : (state : StoreState) (number : ℕ) (row : OpenRow) (opens : List OpenRow) → open_of state.opens number ≡ Some row → opens ≡ without_open number state.opens → opens ≡ without_open row.number state.opens
left_opens state number row opens s o = o ∙ ap (λ (n : ℕ). without_open n state.opens) (sym (number_found state.opens number row s))

left_tree : (state : StoreState) (number : ℕ) (row : OpenRow) (marked after : Content) (opens : List OpenRow) → open_of state.opens number ≡ Some row → opens ≡ without_open number state.opens → marked ≡ tree_marked state.tree row → after ≡ tree_cleared marked opens row.entry → after ≡ (closed_open state row).tree
left_tree state number row marked after opens s o m a =
    let rest = left_opens state number row opens s o in
    a ∙ (λ i. tree_cleared (m i) (rest i) row.entry)

left_due : (state : StoreState) (number : ℕ) (row : OpenRow) (marked : Content) (opens : List OpenRow) (removed : Bool) → open_of state.opens number ≡ Some row → opens ≡ without_open number state.opens → marked ≡ tree_marked state.tree row → removed ≡ is_due marked opens row.entry → removed ≡ removes_entry state row
left_due state number row marked opens removed s o m r =
    let rest = left_opens state number row opens s o in
    r ∙ (λ i. is_due (m i) (rest i) row.entry)

left_locks : (state : StoreState) (number : ℕ) (row : OpenRow) (locks : Table) → open_of state.opens number ≡ Some row → locks ≡ without_holder number state.locks → locks ≡ without_holder row.number state.locks
left_locks state number row locks s l = l ∙ ap (λ (n : ℕ). without_holder n state.locks) (sym (number_found state.opens number row s))

pub closed_by : (state : StoreState) (number : ℕ) (row : OpenRow) (marked after : Content) (opens : List OpenRow) (locks : Table) → open_of state.opens number ≡ Some row → opens ≡ without_open number state.opens → locks ≡ without_holder number state.locks → marked ≡ tree_marked state.tree row → after ≡ tree_cleared marked opens row.entry → (let x : StoreState = record { tree = after; opens = opens; locks = locks; next = state.next } in x) ≡ closed state number
closed_by state number row marked after opens locks s o l m a =
    let tree = left_tree state number row marked after opens s o m a in
    let rest = left_opens state number row opens s o in
    let held = left_locks state number row locks s l in
    let here : (let x : StoreState = record { tree = after; opens = opens; locks = locks; next = state.next } in x) ≡ closed_open state row = λ i. record { tree = tree i; opens = rest i; locks = held i; next = state.next } in
    here ∙ closed_is state number row s

pub removed_by : (state : StoreState) (number : ℕ) (row : OpenRow) (marked : Content) (opens : List OpenRow) (removed : Bool) → open_of state.opens number ≡ Some row → opens ≡ without_open number state.opens → marked ≡ tree_marked state.tree row → removed ≡ is_due marked opens row.entry → removed ≡ is_removed_with state number
removed_by state number row marked opens removed s o m r = left_due state number row marked opens removed s o m r ∙ removed_is state number row s

pub kept_closed_by : (state : StoreState) (number : ℕ) (row : OpenRow) (marked after : Content) (opens : List OpenRow) (locks : Table) (removed : Bool) (opens_count entries_count rest : ℕ) → IsKept state.tree state.opens state.locks state.next opens_count entries_count → open_of state.opens number ≡ Some row → opens ≡ without_open number state.opens → locks ≡ without_holder number state.locks → marked ≡ tree_marked state.tree row → after ≡ tree_cleared marked opens row.entry → removed ≡ is_due marked opens row.entry → rest ≡ entries_count - (if removed then 1 else 0) → IsKept after opens locks state.next (opens_count - 1) rest
kept_closed_by state number row marked after opens locks removed opens_count entries_count rest kept s o l m a r e =
    let due : removed ≡ removes_entry state row = left_due state number row marked opens removed s o m r in
    let stands : open_of state.opens row.number ≡ Some row = ap (open_of state.opens) (number_found state.opens number row s) ∙ s in
    let fewer : rest ≡ entries_count - (if removes_entry state row then 1 else 0) = e ∙ ap (λ (b : Bool). entries_count - (if b then 1 else 0)) due in
    rw (left_tree state number row marked after opens s o m a, left_opens state number row opens s o, left_locks state number row locks s l)
    (kept_closed_open state row opens_count entries_count rest kept stands fewer)
