-- A map whose keys are its opens' numbers, which rise.
use Rattle.std.proofs.Common.{◌≡◌, ◌==◌, ◌<◌, ◌≤◌, ◌+◌, ◌&&◌, ℕ, zero, suc, List, [], ◌∷◌, ◌++◌, drop, length, slice_get, nat_lt, true, false, cond, Option, None, Some, is_some, refl, sym, ap, arith, ◌∙◌}
use Rattle.std.proofs.lemmas.Bool.Decides.{nat_tests}
use Rattle.std.specs.List.{AllByRecursion}
use Rattle.std.specs.Map.{lookup, values_of, remove_entry, set_value}
use Rattle.smb_access.specs.declared.open_row.OpenRow.{OpenRow}
use Rattle.smb_access.specs.declared.scan.Scan.{Scan}
use Rattle.smb_access.specs.Opens.{open_of, without_open, with_scan, open_on_entry_after, AreAllBelow}
use Rattle.smb_access.specs.Plain.{AreKeyed}

pub lookup_open_of : (es : List (ℕ × OpenRow)) (n : ℕ) → AreKeyed es → lookup (λ k. n == k) es ≡ open_of (values_of es) n
lookup_open_of [] n h = refl
lookup_open_of (e ∷ es) n h = grind (arith, nat_tests, h.0, lookup_open_of es n h.2)

-- none of the later ones has the number of an earlier one
later_kept : (es : List (ℕ × OpenRow)) (n : ℕ) → AreKeyed es → AllByRecursion (λ later. n < later.0) es → without_open n (values_of es) ≡ values_of es
later_kept [] n h b = refl
later_kept (e ∷ es) n h b = grind (arith, nat_tests, h.0, b.0, later_kept es n h.2 b.1)

pub values_without : (es : List (ℕ × OpenRow)) (n : ℕ) → AreKeyed es → values_of (remove_entry (λ k. n == k) es) ≡ without_open n (values_of es)
values_without [] n h = refl
values_without (e ∷ es) n h = grind (arith, nat_tests, h.0, values_without es n h.2, later_kept es e.0 h.2 h.1)

above_removed : (es : List (ℕ × OpenRow)) (m n : ℕ) → AllByRecursion (λ later. m < later.0) es → AllByRecursion (λ later. m < later.0) (remove_entry (λ k. n == k) es)
above_removed [] m n b = b
above_removed (e ∷ es) m n b =
    elim (n == e.0) as (λ t. AllByRecursion (λ (later : ℕ × OpenRow). m < later.0) (cond t es (e ∷ remove_entry (λ k. n == k) es))) [ true ↦ b.1 | false ↦ (b.0, above_removed es m n b.1) ]

pub keyed_removed : (es : List (ℕ × OpenRow)) (n : ℕ) → AreKeyed es → AreKeyed (remove_entry (λ k. n == k) es)
keyed_removed [] n h = h
keyed_removed (e ∷ es) n h =
    elim (n == e.0) as (λ t. AreKeyed (cond t es (e ∷ remove_entry (λ k. n == k) es))) [ true ↦ h.2 | false ↦ (h.0, above_removed es e.0 n h.1, keyed_removed es n h.2) ]

above_pushed : (es : List (ℕ × OpenRow)) (m : ℕ) (e : ℕ × OpenRow) → AllByRecursion (λ later. m < later.0) es → m < e.0 → AllByRecursion (λ later. m < later.0) (es ++ e ∷ [])
above_pushed [] m e b l = (l, tt)
above_pushed (x ∷ es) m e b l = (b.0, above_pushed es m e b.1 l)

pub keyed_pushed : (es : List (ℕ × OpenRow)) (row : OpenRow) → AreKeyed es → AreAllBelow row.number (values_of es) → AreKeyed (es ++ (row.number, row) ∷ [])
keyed_pushed [] row h b = (refl, tt, tt)
keyed_pushed (e ∷ es) row h b = (h.0, above_pushed es e.0 (row.number, row) h.1 (rw h.0 b.0), keyed_pushed es row h.2 b.1)

pub values_pushed : (es : List (ℕ × OpenRow)) (row : OpenRow) → values_of (es ++ (row.number, row) ∷ []) ≡ values_of es ++ row ∷ []
values_pushed [] row = refl
values_pushed (e ∷ es) row = ap (λ (rows : List OpenRow). e.1 ∷ rows) (values_pushed es row)

open_of_above : (rows : List OpenRow) (n : ℕ) → AreAllBelow n rows → open_of rows n ≡ None
open_of_above [] n h = refl
open_of_above (row ∷ rows) n h = grind (arith, nat_tests, h.0, open_of_above rows n h.1)

-- an open whose number is above all is put last
pub put_last : (es : List (ℕ × OpenRow)) (row : OpenRow) → AreKeyed es → AreAllBelow row.number (values_of es) → lookup (λ k. row.number == k) es ≡ None
put_last es row h b = lookup_open_of es row.number h ∙ open_of_above (values_of es) row.number b

-- the opens before the one of a number have lesser numbers, so none of them is the next above it
pub above_at : (es : List (ℕ × OpenRow)) (m p : ℕ) (row : OpenRow) → AreKeyed es → AllByRecursion (λ later. m < later.0) es → slice_get (values_of es) p ≡ Some row → m < row.number
above_at [] m p row k h e = cc
above_at (x ∷ es) m zero row k h e = (let same : x.1 ≡ row = cc in let number : x.1.number ≡ row.number = ap (λ (r : OpenRow). r.number) same in omega (arith, k.0, h.0, number))
above_at (x ∷ es) m (suc p) row k h e = above_at es m p row k.2 h.1 e

skip_at : (es : List (ℕ × OpenRow)) (n p entry : ℕ) (row : OpenRow) → AreKeyed es → slice_get (values_of es) p ≡ Some row → row.number ≡ n → open_on_entry_after (drop p (values_of es)) entry n ≡ open_on_entry_after (values_of es) entry n
skip_at [] n p entry row k e f = cc
skip_at (x ∷ es) n zero entry row k e f = refl
skip_at (x ∷ es) n (suc p) entry row k e f =
    let above : x.0 < row.number = above_at es x.0 p row k.2 k.1 e in
    let not_above : nat_lt n x.1.number ≡ false = (let key = k.0 in grind (arith, nat_tests, above, key, f)) in
    let off : (x.1.entry == entry && nat_lt n x.1.number) ≡ false = grind (arith, not_above) in
    rw off (skip_at es n p entry row k.2 e f)

pub number_is : (rows : List OpenRow) (n : ℕ) (row : OpenRow) → open_of rows n ≡ Some row → row.number ≡ n
number_is [] n row h = cc
number_is (x ∷ rows) n row h = grind (arith, nat_tests, h, number_is rows n row)

-- from the place of a number on are all opens above it
pub skip_to : (es : List (ℕ × OpenRow)) (n p entry : ℕ) (found : Option OpenRow) → AreKeyed es → found ≡ lookup (λ k. n == k) es → slice_get (values_of es) p ≡ found → true ≡ is_some found → open_on_entry_after (drop p (values_of es)) entry n ≡ open_on_entry_after (values_of es) entry n
skip_to es n p entry None k l e s = cc
skip_to es n p entry (Some row) k l e s = skip_at es n p entry row k e (number_is (values_of es) n row (sym (lookup_open_of es n k) ∙ sym l))

-- a step through the opens from a place on
pub taken_at : (rows : List OpenRow) (p entry n : ℕ) (row : OpenRow) → slice_get rows p ≡ Some row → (row.entry == entry && nat_lt n row.number) ≡ true → Some row.number ≡ open_on_entry_after (drop p rows) entry n
taken_at [] p entry n row e t = cc
taken_at (x ∷ rows) zero entry n row e t = (let same : x ≡ row = cc in let test : (x.entry == entry && nat_lt n x.number) ≡ true = ap (λ (r : OpenRow). r.entry == entry && nat_lt n r.number) same ∙ t in rw test (ap (λ (r : OpenRow). Some r.number) (sym same)))
taken_at (x ∷ rows) (suc p) entry n row e t = taken_at rows p entry n row e t

passed_by : (rows : List OpenRow) (p entry n : ℕ) (row : OpenRow) → slice_get rows p ≡ Some row → (row.entry == entry && nat_lt n row.number) ≡ false → open_on_entry_after (drop (suc p) rows) entry n ≡ open_on_entry_after (drop p rows) entry n
passed_by [] p entry n row e t = cc
passed_by (x ∷ rows) zero entry n row e t = (let same : x ≡ row = cc in let test : (x.entry == entry && nat_lt n x.number) ≡ false = ap (λ (r : OpenRow). r.entry == entry && nat_lt n r.number) same ∙ t in rw test refl)
passed_by (x ∷ rows) (suc p) entry n row e t = passed_by rows p entry n row e t

pub passed_at : (rows : List OpenRow) (p entry n : ℕ) (row : OpenRow) → slice_get rows p ≡ Some row → (row.entry == entry && nat_lt n row.number) ≡ false → open_on_entry_after (drop (p + 1) rows) entry n ≡ open_on_entry_after (drop p rows) entry n
passed_at rows p entry n row e t = ap (λ (m : ℕ). open_on_entry_after (drop m rows) entry n) (let one : p + 1 ≡ suc p = omega arith in one) ∙ passed_by rows p entry n row e t

pub none_at : (rows : List OpenRow) (p entry n : ℕ) → length rows ≤ p → None ≡ open_on_entry_after (drop p rows) entry n
none_at [] zero entry n h = refl
none_at [] (suc p) entry n h = refl
none_at (x ∷ rows) zero entry n h = absurd (omega (arith, h))
none_at (x ∷ rows) (suc p) entry n h = none_at rows p entry n (omega (arith, h))

pub length-values : (es : List (ℕ × OpenRow)) → length (values_of es) ≡ length es
length-values [] = refl
length-values (x ∷ es) = grind (arith, length-values es)

-- a row of the map at a place
pub value_at : (es : List (ℕ × OpenRow)) (p : ℕ) (key : ℕ) (row : OpenRow) → Some (key, row) ≡ slice_get es p → slice_get (values_of es) p ≡ Some row
value_at [] p key row e = cc
value_at (x ∷ es) zero key row e = (let same : x ≡ (key, row) = cc in ap (λ (y : ℕ × OpenRow). Some y.1) same)
value_at (x ∷ es) (suc p) key row e = value_at es p key row e

-- an open's scan is set
abbrev scanned : Scan → OpenRow → OpenRow
scanned scan row = record row { scan = scan }

scan_above : (es : List (ℕ × OpenRow)) (n m : ℕ) (scan : Scan) → AreKeyed es → AllByRecursion (λ later. m < later.0) es → n ≤ m → with_scan n scan (values_of es) ≡ values_of es
scan_above [] n m scan k h l = refl
scan_above (e ∷ es) n m scan k h l =
    let other : (e.1.number == n) ≡ false = (let key = k.0 in let above = h.0 in grind (arith, nat_tests, key, above, l)) in
    let ih = scan_above es n m scan k.2 h.1 l in
    rw other (ap (λ (rows : List OpenRow). e.1 ∷ rows) ih)

pub values_scanned : (es : List (ℕ × OpenRow)) (n : ℕ) (scan : Scan) (row : OpenRow) → AreKeyed es → lookup (λ k. n == k) es ≡ Some row → values_of (set_value (λ k. n == k) es (scanned scan row)) ≡ with_scan n scan (values_of es)
values_scanned [] n scan row k h = cc
values_scanned (e ∷ es) n scan row k h =
    elim (n == e.0) as (λ b. (n == e.0) ≡ b → values_of (set_value (λ k. n == k) (e ∷ es) (scanned scan row)) ≡ with_scan n scan (values_of (e ∷ es))) [
      | true ↦ λ t. (
          let is : e.1 ≡ row = (let q = h in let some : Some e.1 ≡ Some row = grind (arith, q, t) in cc) in
          let here : (e.1.number == n) ≡ true = (let key = k.0 in grind (arith, nat_tests, key, t)) in
          let rest : with_scan n scan (values_of es) ≡ values_of es = (let at : n ≤ e.0 = grind (arith, nat_tests, t) in scan_above es n e.0 scan k.2 k.1 at) in
          rw (t, here, rest, is) refl)
      | false ↦ λ t. (
          let other : (e.1.number == n) ≡ false = (let key = k.0 in grind (arith, nat_tests, key, t)) in
          let later : lookup (λ k. n == k) es ≡ Some row = (let q = h in grind (arith, q, t)) in
          rw (t, other) (ap (λ (rows : List OpenRow). e.1 ∷ rows) (values_scanned es n scan row k.2 later)))
    ] refl

above_set : (es : List (ℕ × OpenRow)) (m n : ℕ) (row : OpenRow) → AllByRecursion (λ later. m < later.0) es → AllByRecursion (λ later. m < later.0) (set_value (λ k. n == k) es row)
above_set [] m n row b = b
above_set (e ∷ es) m n row b =
    elim (n == e.0) as (λ t. AllByRecursion (λ (later : ℕ × OpenRow). m < later.0) (cond t ((e.0, row) ∷ es) (e ∷ set_value (λ k. n == k) es row))) [ true ↦ (b.0, b.1) | false ↦ (b.0, above_set es m n row b.1) ]

pub keyed_scanned : (es : List (ℕ × OpenRow)) (n : ℕ) (scan : Scan) (row : OpenRow) → AreKeyed es → lookup (λ k. n == k) es ≡ Some row → AreKeyed (set_value (λ k. n == k) es (scanned scan row))
keyed_scanned [] n scan row k h = cc
keyed_scanned (e ∷ es) n scan row k h =
    elim (n == e.0) as (λ b. (n == e.0) ≡ b → AreKeyed (cond b ((e.0, scanned scan row) ∷ es) (e ∷ set_value (λ k. n == k) es (scanned scan row)))) [
      | true ↦ λ t. (
          let is : e.1 ≡ row = (let q = h in let some : Some e.1 ≡ Some row = grind (arith, q, t) in cc) in
          (k.0 ∙ ap (λ (r : OpenRow). r.number) is, k.1, k.2))
      | false ↦ λ t. (
          let later : lookup (λ k. n == k) es ≡ Some row = (let q = h in grind (arith, q, t)) in
          (k.0, above_set es e.0 n (scanned scan row) k.1, keyed_scanned es n scan row k.2 later))
    ] refl

pub values_unscanned : (es : List (ℕ × OpenRow)) (n : ℕ) (scan : Scan) → AreKeyed es → lookup (λ k. n == k) es ≡ None → with_scan n scan (values_of es) ≡ values_of es
values_unscanned [] n scan k h = refl
values_unscanned (e ∷ es) n scan k h =
    let other : (n == e.0) ≡ false = elim (n == e.0) as (λ b. (n == e.0) ≡ b → b ≡ false) [ true ↦ λ t. (let q = h in grind (arith, q, t)) | false ↦ λ t. refl ] refl in
    let not_here : (e.1.number == n) ≡ false = (let key = k.0 in grind (arith, nat_tests, key, other)) in
    let later : lookup (λ k. n == k) es ≡ None = (let q = h in grind (arith, q, other)) in
    rw not_here (ap (λ (rows : List OpenRow). e.1 ∷ rows) (values_unscanned es n scan k.2 later))
