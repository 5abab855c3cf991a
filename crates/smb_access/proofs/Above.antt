-- The next open above a number, in a map whose keys are its opens' numbers, which rise.
use Rattle.std.proofs.Common.{◌≡◌, ◌==◌, ◌<◌, ◌≤◌, ◌+◌, ℕ, zero, suc, List, [], ◌∷◌, drop, length, slice_get, nat_lt, true, false, Option, None, Some, is_some, refl, sym, ap, arith, ◌∙◌}
use Rattle.std.proofs.lemmas.Bool.Decides.{nat_tests}
use Rattle.std.specs.Map.{lookup, values_of}
use Rattle.smb_access.specs.declared.open_row.OpenRow.{OpenRow}
use Rattle.smb_access.specs.Opens.{is_above, open_after}
use Rattle.smb_access.specs.Plain.{AreKeyed}
use Rattle.smb_access.proofs.Keyed.{lookup_open_of, above_at, number_is}

skip_at : (es : List (ℕ × OpenRow)) (n p : ℕ) (row : OpenRow) → AreKeyed es → slice_get (values_of es) p ≡ Some row → row.number ≡ n → open_after (drop p (values_of es)) (Some n) ≡ open_after (values_of es) (Some n)
skip_at [] n p row k e f = cc
skip_at (x ∷ es) n zero row k e f = refl
skip_at (x ∷ es) n (suc p) row k e f =
    let above : x.0 < row.number = above_at es x.0 p row k.2 k.1 e in
    let not_above : nat_lt n x.1.number ≡ false = (let key = k.0 in grind (arith, nat_tests, above, key, f)) in
    rw not_above (skip_at es n p row k.2 e f)

-- from the place of a number on are all opens above it
pub skip_all : (es : List (ℕ × OpenRow)) (n p : ℕ) (found : Option OpenRow) → AreKeyed es → found ≡ lookup (λ k. n == k) es → slice_get (values_of es) p ≡ found → true ≡ is_some found → open_after (drop p (values_of es)) (Some n) ≡ open_after (values_of es) (Some n)
skip_all es n p None k l e s = cc
skip_all es n p (Some row) k l e s = skip_at es n p row k e (number_is (values_of es) n row (sym (lookup_open_of es n k) ∙ sym l))

-- a step through the opens from a place on
pub taken_above : (rows : List OpenRow) (p : ℕ) (after : Option ℕ) (row : OpenRow) → slice_get rows p ≡ Some row → is_above after row.number ≡ true → Some row.number ≡ open_after (drop p rows) after
taken_above [] p after row e t = cc
taken_above (x ∷ rows) zero after row e t =
    let same : x ≡ row = cc in
    let test : is_above after x.number ≡ true = ap (λ (r : OpenRow). is_above after r.number) same ∙ t in
    rw test (ap (λ (r : OpenRow). Some r.number) (sym same))
taken_above (x ∷ rows) (suc p) after row e t = taken_above rows p after row e t

passed_by : (rows : List OpenRow) (p : ℕ) (after : Option ℕ) (row : OpenRow) → slice_get rows p ≡ Some row → is_above after row.number ≡ false → open_after (drop (suc p) rows) after ≡ open_after (drop p rows) after
passed_by [] p after row e t = cc
passed_by (x ∷ rows) zero after row e t =
    let same : x ≡ row = cc in
    let test : is_above after x.number ≡ false = ap (λ (r : OpenRow). is_above after r.number) same ∙ t in
    rw test refl
passed_by (x ∷ rows) (suc p) after row e t = passed_by rows p after row e t

pub passed_above : (rows : List OpenRow) (p : ℕ) (after : Option ℕ) (row : OpenRow) → slice_get rows p ≡ Some row → is_above after row.number ≡ false → open_after (drop (p + 1) rows) after ≡ open_after (drop p rows) after
passed_above rows p after row e t = ap (λ (m : ℕ). open_after (drop m rows) after) (let one : p + 1 ≡ suc p = omega arith in one) ∙ passed_by rows p after row e t

pub none_above : (rows : List OpenRow) (p : ℕ) (after : Option ℕ) → length rows ≤ p → None ≡ open_after (drop p rows) after
none_above [] zero after h = refl
none_above [] (suc p) after h = refl
none_above (x ∷ rows) zero after h = absurd (omega (arith, h))
none_above (x ∷ rows) (suc p) after h = none_above rows p after (omega (arith, h))
