-- Names, compared byte by byte.
use Rattle.std.proofs.Common.{◌≡◌, ◌≢◌, ℕ, suc, ◌+◌, ◌<◌, ◌≤◌, ◌==◌, ◌&&◌, true, false, List, [], ◌∷◌, length, drop, get_or, refl, ap, add-one, drop-cons}
use Rattle.std.proofs.lemmas.Bool.{and_right}
use Rattle.std.proofs.lemmas.List.{drop_all}
use Rattle.smb_wire.specs.Names.{folded_unit, is_same_name}

-- names of different lengths are different
pub same_lengths : (left right : List ℕ) → length left ≢ length right → is_same_name left right ≡ false
same_lengths [] [] ne = absurd (ne refl)
same_lengths [] (y ∷ right) ne = refl
same_lengths (x ∷ left) [] ne = refl
same_lengths (x ∷ left) (y ∷ right) ne =
    and_right (folded_unit x == folded_unit y) (is_same_name left right) (same_lengths left right (λ e. ne (ap suc e)))

-- one byte decides, or those behind it
pub same_more : (left right : List ℕ) (i : ℕ) → i < length left → i < length right →
    is_same_name (drop i left) (drop i right)
    ≡ (folded_unit (get_or left i 0) == folded_unit (get_or right i 0)) && is_same_name (drop (i + 1) left) (drop (i + 1) right)
same_more left right i h k = rw (add-one, drop-cons left i 0, drop-cons right i 0) refl

pub same_none : (left right : List ℕ) (i : ℕ) → length left ≤ i → length right ≤ i → is_same_name (drop i left) (drop i right) ≡ true
same_none left right i h k = rw (drop_all i left h, drop_all i right k) refl
