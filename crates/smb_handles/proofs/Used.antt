-- The number of an entry's opens that use it so, in the list of all opens.
use Rattle.std.proofs.Common.{◌≡◌, ◌==◌, ◌&&◌, ◌<◌, ◌≤◌, ◌+◌, ◌-◌, ℕ, nat_lt, Bool, true, false, not, cond, Option, None, Some, List, [], ◌∷◌, ◌++◌, filter, length, refl, sym, ap, subst, arith, ◌∙◌}
use Rattle.std.proofs.lemmas.Bool.Decides.{nat_tests}
use Rattle.std.specs.List.{AllByRecursion, cons_option, list_any}
use Rattle.smb_access.specs.Numbers.{AreRising}
use Rattle.smb_access.specs.Opens.{open_numbers, open_of, with_scan, without_open}
use Rattle.smb_access.specs.Parts.{is_on_entry}
use Rattle.smb_access.specs.Sharing.{uses, has_use}
use Rattle.smb_access.specs.declared.open_row.OpenRow.{OpenRow}
use Rattle.smb_access.specs.declared.scan.Scan.{Scan}
use Rattle.smb_access.specs.declared.use_kind.SharingUse.{SharingUse}
use Rattle.smb_access.specs.declared.use_kind.SharingUse.TheVariants.{Reads, Writes, Deletes, SharesNoRead, SharesNoWrite, SharesNoDelete}
use Rattle.smb_handles.specs.Table.{rows_of}
use Rattle.smb_handles.specs.Uses.{once, uses_in, more, less}
use Rattle.smb_handles.proofs.Live.{kept_above}

abbrev is_use : ℕ → SharingUse → OpenRow → Bool
is_use entry kind row = is_on_entry entry row && uses kind row

-- ---- lists of which those are counted that pass a test

one_more : (b : Bool) (x : OpenRow) (xs : List OpenRow) → length (cond b (x ∷ xs) xs) ≡ cond b (length xs + 1) (length xs)
one_more true x xs = omega arith
one_more false x xs = refl

both_more : (b c : Bool) (n m : ℕ) → n ≡ cond c (m + 1) m → cond b (n + 1) n ≡ cond c (cond b (m + 1) m + 1) (cond b (m + 1) m)
both_more true true n m e = omega (arith, e)
both_more true false n m e = omega (arith, e)
both_more false c n m e = e

length_pushed : (p : OpenRow → Bool) (rows : List OpenRow) (row : OpenRow) → length (filter p (rows ++ row ∷ [])) ≡ cond (p row) (length (filter p rows) + 1) (length (filter p rows))
length_pushed p [] row = one_more (p row) row []
length_pushed p (x ∷ rows) row =
    one_more (p x) x (filter p (rows ++ row ∷ []))
    ∙ both_more (p x) (p row) (length (filter p (rows ++ row ∷ []))) (length (filter p rows)) (length_pushed p rows row)
    ∙ ap (λ (n : ℕ). cond (p row) (n + 1) n) (sym (one_more (p x) x (filter p rows)))

length_removed : (p : OpenRow → Bool) (rows : List OpenRow) (n : ℕ) (row : OpenRow) → AreRising (open_numbers rows) → open_of rows n ≡ Some row → length (filter p rows) ≡ cond (p row) (length (filter p (without_open n rows)) + 1) (length (filter p (without_open n rows)))
length_removed p [] n row r f = cc
length_removed p (x ∷ rows) n row r f =
    elim (x.number == n) as (λ b. (x.number == n) ≡ b → cond b (Some x) (open_of rows n) ≡ Some row → length (filter p (x ∷ rows)) ≡ cond (p row) (length (filter p (cond (not b) (x ∷ without_open n rows) (without_open n rows))) + 1) (length (filter p (cond (not b) (x ∷ without_open n rows) (without_open n rows))))) [
      | true ↦ λ t g. (
          let same : x ≡ row = cc in
          let number : x.number ≡ n = grind (arith, nat_tests, t) in
          let kept : without_open n rows ≡ rows = kept_above n rows (subst (λ (k : ℕ). AllByRecursion (λ j. k < j) (open_numbers rows)) number r.0) in
          one_more (p x) x (filter p rows)
          ∙ ap (λ (y : OpenRow). cond (p y) (length (filter p rows) + 1) (length (filter p rows))) same
          ∙ ap (λ (left : List OpenRow). cond (p row) (length (filter p left) + 1) (length (filter p left))) (sym kept))
      | false ↦ λ t g.
          one_more (p x) x (filter p rows)
          ∙ both_more (p x) (p row) (length (filter p rows)) (length (filter p (without_open n rows))) (length_removed p rows n row r.1 g)
          ∙ ap (λ (m : ℕ). cond (p row) (m + 1) m) (sym (one_more (p x) x (filter p (without_open n rows))))
    ] refl f

length_scanned : (p : OpenRow → Bool) (scan : Scan) → ((x : OpenRow) → p (record x { scan = scan }) ≡ p x) → (rows : List OpenRow) (n : ℕ) → length (filter p (with_scan n scan rows)) ≡ length (filter p rows)
length_scanned p scan s [] n = refl
length_scanned p scan s (x ∷ rows) n =
    let rest = length_scanned p scan s rows n in
    let first : OpenRow = cond (x.number == n) (record x { scan = scan }) x in
    let front : p first ≡ p x = (elim (x.number == n) as (λ b. p (cond b (record x { scan = scan }) x) ≡ p x) [ true ↦ s x | false ↦ refl ]) in
    one_more (p first) first (filter p (with_scan n scan rows))
    ∙ (λ i. cond (front i) (rest i + 1) (rest i))
    ∙ sym (one_more (p x) x (filter p rows))

pub length_within : (p : OpenRow → Bool) (rows : List OpenRow) → length (filter p rows) ≤ length rows
length_within p [] = omega arith
length_within p (x ∷ rows) = grind (arith, length_within p rows)

some_pass : (p : OpenRow → Bool) (rows : List OpenRow) → nat_lt 0 (length (filter p rows)) ≡ list_any p rows
some_pass p [] = grind (arith, nat_tests)
some_pass p (x ∷ rows) = grind (arith, nat_tests, some_pass p rows)

-- ---- of an entry and a way

counted_once : (on so : Bool) (m : ℕ) → cond (on && so) (m + 1) m ≡ cond on (m + cond so 1 0) m
counted_once true true m = refl
counted_once true false m = omega arith
counted_once false so m = refl

pub uses_pushed : (rows : List OpenRow) (row : OpenRow) (entry : ℕ) (kind : SharingUse) → uses_in (rows ++ row ∷ []) entry kind ≡ more (uses_in rows) row entry kind
uses_pushed rows row entry kind =
    length_pushed (is_use entry kind) rows row ∙ counted_once (is_on_entry entry row) (uses kind row) (uses_in rows entry kind)

-- the opens are those that are left and the one that goes
pub uses_removed : (rows : List OpenRow) (n : ℕ) (row : OpenRow) (entry : ℕ) (kind : SharingUse) → AreRising (open_numbers rows) → open_of rows n ≡ Some row → uses_in rows entry kind ≡ more (uses_in (without_open n rows)) row entry kind
uses_removed rows n row entry kind r f =
    length_removed (is_use entry kind) rows n row r f ∙ counted_once (is_on_entry entry row) (uses kind row) (uses_in (without_open n rows) entry kind)

use_scanned : (kind : SharingUse) (x : OpenRow) (scan : Scan) → uses kind (record x { scan = scan }) ≡ uses kind x
use_scanned Reads x scan = refl
use_scanned Writes x scan = refl
use_scanned Deletes x scan = refl
use_scanned SharesNoRead x scan = refl
use_scanned SharesNoWrite x scan = refl
use_scanned SharesNoDelete x scan = refl

pub uses_scanned : (rows : List OpenRow) (n : ℕ) (scan : Scan) (entry : ℕ) (kind : SharingUse) → uses_in (with_scan n scan rows) entry kind ≡ uses_in rows entry kind
uses_scanned rows n scan entry kind =
    length_scanned (is_use entry kind) scan (λ x. ap (λ b. is_on_entry entry x && b) (use_scanned kind x scan)) rows n

pub some_use : (rows : List OpenRow) (entry : ℕ) (kind : SharingUse) → nat_lt 0 (uses_in rows entry kind) ≡ has_use rows entry kind
some_use rows entry kind = some_pass (is_use entry kind) rows

shorter : (o : Option OpenRow) (rows : List OpenRow) (n : ℕ) → length rows ≤ n → length (cons_option o rows) ≤ n + 1
shorter None rows n h = omega (arith, h)
shorter (Some x) rows n h = omega (arith, h)

rows_within : (slots : ℕ → Option OpenRow) (es : List (ℕ × ℕ)) → length (rows_of slots es) ≤ length es
rows_within slots [] = omega arith
rows_within slots (e ∷ es) = (let more_by_one = shorter (slots e.1) (rows_of slots es) (length es) (rows_within slots es) in omega (arith, more_by_one))

-- there are no more of them than the index has numbers
pub uses_within : (slots : ℕ → Option OpenRow) (es : List (ℕ × ℕ)) (entry : ℕ) (kind : SharingUse) → uses_in (rows_of slots es) entry kind ≤ length es
uses_within slots es entry kind = omega (arith, length_within (is_use entry kind) (rows_of slots es), rows_within slots es)

-- ---- counts with an open more, and with one less

less_more : (on : Bool) (m one : ℕ) → cond on (cond on (m + one) m - one) (cond on (m + one) m) ≡ m
less_more true m one = omega arith
less_more false m one = refl

-- an open's part of a count is taken away again
pub taken_back : (f g h : ℕ → SharingUse → ℕ) (row : OpenRow) (entry : ℕ) (kind : SharingUse) → g entry kind ≡ more f row entry kind → h entry kind ≡ less g row entry kind → h entry kind ≡ f entry kind
taken_back f g h row entry kind e d =
    d ∙ ap (λ (n : ℕ). cond (is_on_entry entry row) (n - once kind row) n) e ∙ less_more (is_on_entry entry row) (f entry kind) (once kind row)

itself : (n : ℕ) → (n == n) ≡ true
itself n = grind (arith, nat_tests)

-- and it is in it
pub part_within : (f g : ℕ → SharingUse → ℕ) (row : OpenRow) (kind : SharingUse) → g row.entry kind ≡ more f row row.entry kind → once kind row ≤ g row.entry kind
part_within f g row kind e =
    let here : g row.entry kind ≡ f row.entry kind + once kind row = e ∙ ap (λ b. cond b (f row.entry kind + once kind row) (f row.entry kind)) (itself row.entry) in
    omega (arith, here)
