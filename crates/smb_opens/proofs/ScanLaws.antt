-- A store whose open has another scan.
use Rattle.std.proofs.Common.{◌≡◌, ◌==◌, ℕ, List, [], ◌∷◌, length, map, Bool, true, false, if◌then◌else◌, Option, None, Some, is_some, refl, sym, ap, arith, ◌∙◌}
use Rattle.std.proofs.lemmas.Bool.Decides.{nat_tests}
use Rattle.std.specs.Option.{option_map}
use Rattle.smb_tree.specs.Content.{Row, Content, numbered}
use Rattle.smb_locks.specs.Table.{Table}
use Rattle.smb_access.specs.declared.open_row.OpenRow.{OpenRow}
use Rattle.smb_access.specs.declared.scan.Scan.{Scan}
use Rattle.smb_access.specs.Opens.{open_of, open_numbers, has_open, with_scan}
use Rattle.smb_access.specs.Parts.{has_number, ArePresent, Use, AreCompatible, use_of, view_through}
use Rattle.smb_access.specs.Sharing.{is_conflict}
use Rattle.smb_opens.specs.Good.{GoodStore, IsKept, IsMasked}
use Rattle.smb_opens.specs.Parts.{AreMasked}
use Rattle.smb_opens.specs.Laws.{AScanIsOfOneOpen}
use Rattle.smb_opens.specs.Scans.{scan_set}
use Rattle.smb_opens.specs.State.{StoreState}
use Rattle.smb_opens.specs.Views.{open_view}

-- an open with the scan, if it is the one
abbrev scanned : ℕ → Scan → OpenRow → OpenRow
scanned n scan row = if has_number n row then record row { scan = scan } else row

-- whatever looks at an open but for its scan finds the same
by_test : {X : Type 0} (look : OpenRow → X) → ((row : OpenRow) (scan : Scan) → look (record row { scan = scan }) ≡ look row) → (scan : Scan) (row : OpenRow) (b : Bool) → look (let x : OpenRow = if b then record row { scan = scan } else row in x) ≡ look row
by_test look same scan row true = same row scan
by_test look same scan row false = refl

look_same : {X : Type 0} (look : OpenRow → X) → ((row : OpenRow) (scan : Scan) → look (record row { scan = scan }) ≡ look row) → (n : ℕ) (scan : Scan) (row : OpenRow) → look (scanned n scan row) ≡ look row
look_same look same n scan row = by_test look same scan row (has_number n row)

pub looks_same : {X : Type 0} (look : OpenRow → X) → ((row : OpenRow) (scan : Scan) → look (record row { scan = scan }) ≡ look row) → (n : ℕ) (scan : Scan) (rows : List OpenRow) → map look (with_scan n scan rows) ≡ map look rows
looks_same look same n scan [] = refl
looks_same look same n scan (row ∷ rows) = (let one = look_same look same n scan row in let rest = looks_same look same n scan rows in grind (arith, one, rest))

number_same : (n : ℕ) (scan : Scan) (row : OpenRow) → (scanned n scan row).number ≡ row.number
number_same = look_same (λ (row : OpenRow). row.number) (λ row scan. refl)

entry_same : (n : ℕ) (scan : Scan) (row : OpenRow) → (scanned n scan row).entry ≡ row.entry
entry_same = look_same (λ (row : OpenRow). row.entry) (λ row scan. refl)

-- the open of a number is the same one, but for the scan
pub open_scanned : (n : ℕ) (scan : Scan) (rows : List OpenRow) (k : ℕ) → open_of (with_scan n scan rows) k ≡ option_map (scanned n scan) (open_of rows k)
open_scanned n scan [] k = refl
open_scanned n scan (row ∷ rows) k =
    elim (row.number == k) as (λ b. (row.number == k) ≡ b → open_of (with_scan n scan (row ∷ rows)) k ≡ option_map (scanned n scan) (open_of (row ∷ rows) k)) [
      | true ↦ λ t. (let here : ((scanned n scan row).number == k) ≡ true = ap (λ (m : ℕ). m == k) (number_same n scan row) ∙ t in rw (here, t) refl)
      | false ↦ λ t. (let other : ((scanned n scan row).number == k) ≡ false = ap (λ (m : ℕ). m == k) (number_same n scan row) ∙ t in rw (other, t) (open_scanned n scan rows k))
    ] refl

pub numbers_scanned : (n : ℕ) (scan : Scan) (rows : List OpenRow) → open_numbers (with_scan n scan rows) ≡ open_numbers rows
numbers_scanned n scan rows = looks_same (λ (row : OpenRow). row.number) (λ row scan. refl) n scan rows

length_scanned : (n : ℕ) (scan : Scan) (rows : List OpenRow) → length (with_scan n scan rows) ≡ length rows
length_scanned n scan [] = refl
length_scanned n scan (row ∷ rows) = grind (arith, length_scanned n scan rows)

present_scanned : (entries : List Row) (n : ℕ) (scan : Scan) (rows : List OpenRow) → ArePresent entries rows → ArePresent entries (with_scan n scan rows)
present_scanned entries n scan [] h = h
present_scanned entries n scan (row ∷ rows) h = (ap (λ (m : ℕ). is_some (numbered entries m)) (entry_same n scan row) ∙ h.0, present_scanned entries n scan rows h.1)

has_scanned : (n : ℕ) (scan : Scan) (rows : List OpenRow) (entry : ℕ) → has_open (with_scan n scan rows) entry ≡ has_open rows entry
has_scanned n scan [] entry = refl
has_scanned n scan (row ∷ rows) entry =
    let one = entry_same n scan row in
    let rest = has_scanned n scan rows entry in
    rw (one, rest) refl

-- what an open of the new list was before
was : (n : ℕ) (scan : Scan) (o : Option OpenRow) (row : OpenRow) → option_map (scanned n scan) o ≡ Some row → (before : OpenRow) × (o ≡ Some before) × (row ≡ scanned n scan before)
was n scan None row h = cc
was n scan (Some before) row h = (before, refl, (let same : scanned n scan before ≡ row = cc in sym same))

use_same : (n : ℕ) (scan : Scan) (row : OpenRow) → use_of (scanned n scan row) ≡ use_of row
use_same = look_same use_of (λ row scan. refl)

compatible_scanned : (n : ℕ) (scan : Scan) (rows : List OpenRow) → AreCompatible rows → AreCompatible (with_scan n scan rows)
compatible_scanned n scan rows h = λ one other first second e f apart same.
    let a = was n scan (open_of rows one) first (sym (open_scanned n scan rows one) ∙ e) in
    let b = was n scan (open_of rows other) second (sym (open_scanned n scan rows other) ∙ f) in
    let entries : a.0.entry ≡ b.0.entry =
    sym (entry_same n scan a.0) ∙ sym (ap (λ (row : OpenRow). row.entry) a.2) ∙ same ∙ ap (λ (row : OpenRow). row.entry) b.2 ∙ entry_same n scan b.0 in
    let left : use_of first ≡ use_of a.0 = ap use_of a.2 ∙ use_same n scan a.0 in
    let right : use_of second ≡ use_of b.0 = ap use_of b.2 ∙ use_same n scan b.0 in
    ap (λ (one : Use). is_conflict one (use_of second)) left ∙ ap (is_conflict (use_of a.0)) right ∙ h one other a.0 b.0 a.1 b.1 apart entries

masked_scanned : (n : ℕ) (scan : Scan) (rows : List OpenRow) → AreMasked rows → AreMasked (with_scan n scan rows)
masked_scanned n scan [] h = h
masked_scanned n scan (row ∷ rows) h = (
  elim (has_number n row) as (λ b. IsMasked (if b then record row { scan = scan } else row)) [ true ↦ record { access = h.0.access; share = h.0.share } | false ↦ h.0 ],
  masked_scanned n scan rows h.1,
)

entry_of_open : (n : ℕ) (scan : Scan) (rows : List OpenRow) (k : ℕ) → option_map (λ (row : OpenRow). row.entry) (open_of (with_scan n scan rows) k) ≡ option_map (λ (row : OpenRow). row.entry) (open_of rows k)
entry_of_open n scan rows k = ap (option_map (λ (row : OpenRow). row.entry)) (open_scanned n scan rows k) ∙ mapped (open_of rows k)
  where
    mapped : (o : Option OpenRow) → option_map (λ (row : OpenRow). row.entry) (option_map (scanned n scan) o) ≡ option_map (λ (row : OpenRow). row.entry) o
    mapped None = refl
    mapped (Some row) = ap (λ (m : ℕ). Some m) (entry_same n scan row)

good_scanned : (state : StoreState) (n : ℕ) (scan : Scan) → GoodStore state → GoodStore (scan_set state n scan)
good_scanned state n scan good = record {
  tree = good.tree;
  lawful = good.lawful;
  present = present_scanned state.tree.rows n scan state.opens good.present;
  rising = rw (numbers_scanned n scan state.opens) good.rising;
  below = rw (numbers_scanned n scan state.opens) good.below;
  few = rw (length_scanned n scan state.opens) good.few;
  masked = masked_scanned n scan state.opens good.masked;
  compatible = compatible_scanned n scan state.opens good.compatible;
  marked = λ number e. ((good.marked number e).0, has_scanned n scan state.opens number ∙ (good.marked number e).1);
  locked = good.locked;
  few_locks = good.few_locks;
  held = λ file lock among. entry_of_open n scan state.opens lock.holder ∙ good.held file lock among;
}

pub kept_scanned : (content : Content) (rows after : List OpenRow) (locks : Table) (number opens_count entries_count n : ℕ) (scan : Scan) → after ≡ with_scan n scan rows → IsKept content rows locks number opens_count entries_count → IsKept content after locks number opens_count entries_count
kept_scanned content rows after locks number opens_count entries_count n scan e kept = rw e (record {
  good = good_scanned (record { tree = content; opens = rows; locks = locks; next = number }) n scan kept.good;
  opens_counted = kept.opens_counted ∙ sym (length_scanned n scan rows);
  entries_counted = kept.entries_counted;
})

-- the law
view_mapped : (entries : List Row) (n : ℕ) (scan : Scan) (o : Option OpenRow) → view_through entries (option_map (scanned n scan) o) ≡ view_through entries o
view_mapped entries n scan None = refl
view_mapped entries n scan (Some row) = by_test (λ (row : OpenRow). view_through entries (Some row)) (λ row scan. refl) scan row (has_number n row)

view_same : (state : StoreState) (n : ℕ) (scan : Scan) (k : ℕ) → open_view (scan_set state n scan) k ≡ open_view state k
view_same state n scan k = ap (view_through state.tree.rows) (open_scanned n scan state.opens k) ∙ view_mapped state.tree.rows n scan (open_of state.opens k)

other_same : (n : ℕ) (scan : Scan) (rows : List OpenRow) (k : ℕ) → (k == n) ≡ false → open_of (with_scan n scan rows) k ≡ open_of rows k
other_same n scan [] k d = refl
other_same n scan (row ∷ rows) k d =
    elim (row.number == k) as (λ b. (row.number == k) ≡ b → open_of (with_scan n scan (row ∷ rows)) k ≡ open_of (row ∷ rows) k) [
      | true ↦ λ t. (let other : (row.number == n) ≡ false = grind (arith, nat_tests, t, d) in rw (other, t) refl)
      | false ↦ λ t. (let here : ((scanned n scan row).number == k) ≡ false = ap (λ (m : ℕ). m == k) (number_same n scan row) ∙ t in rw (here, t) (other_same n scan rows k d))
    ] refl

own_scanned : (n : ℕ) (scan : Scan) (rows : List OpenRow) (row : OpenRow) → open_of rows n ≡ Some row → open_of (with_scan n scan rows) n ≡ Some (record row { scan = scan })
own_scanned n scan [] row h = cc
own_scanned n scan (x ∷ rows) row h =
    elim (x.number == n) as (λ b. (x.number == n) ≡ b → open_of (with_scan n scan (x ∷ rows)) n ≡ Some (record row { scan = scan })) [
      | true ↦ λ t. (
          let is : x ≡ row = (let q = h in let some : Some x ≡ Some row = grind (arith, q, t) in cc) in
          rw (t, t) (ap (λ (r : OpenRow). let y : Option OpenRow = Some (record r { scan = scan }) in y) is))
      | false ↦ λ t. (
          let later : open_of rows n ≡ Some row = (let q = h in grind (arith, q, t)) in
          rw (t, t) (own_scanned n scan rows row later))
    ] refl

pub scan_leaves : AScanIsOfOneOpen
scan_leaves state n scan = (
  refl,
  refl,
  refl,
  numbers_scanned n scan state.opens,
  λ k d. other_same n scan state.opens k d,
  λ row h. own_scanned n scan state.opens row h,
  view_same state n scan,
)
