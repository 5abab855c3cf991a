-- Numbers in decimal.
use Rattle.std.proofs.Common.{◌≡◌, ℕ, ◌+◌, ◌-◌, ◌*◌, ◌≤◌, ◌<◌, List, [], ◌∷◌, length, drop, get_or, Some, None, refl, sym, ap, ◌∙◌, arith, if◌then◌else◌}
use Rattle.std.specs.Prelude.{nat_lt}
use Rattle.std.proofs.lemmas.List.{drop_more, drop_all}
use Rattle.std.proofs.lemmas.Bool.{le-ltb, lt-ltb}
use Rattle.smb_journal.specs.Lines.{decimal_from}

-- more digits make no smaller number
pub decimal_from-grows : (digits : List ℕ) (n : ℕ) → n ≤ decimal_from n digits
decimal_from-grows [] n = omega arith
decimal_from-grows (digit ∷ digits) n = let h = decimal_from-grows digits (10 * n + (digit - 48)) in omega (arith, h)

-- a part of the digits spells 2 ^ 64 or more already
pub spelled_over : (digits : List ℕ) (i n m : ℕ) → i < length digits → decimal_from n (drop i digits) ≡ decimal_from 0 digits →
    m ≤ 10 * n + (get_or digits i 0 - 48) → (m < 18446744073709551616 → ⊥) →
    None ≡ (if nat_lt (decimal_from 0 digits) 18446744073709551616 then Some (decimal_from 0 digits) else None)
spelled_over digits i n m p h b over =
    let step : decimal_from (10 * n + (get_or digits i 0 - 48)) (drop (i + 1) digits) ≡ decimal_from 0 digits = ap (decimal_from n) (sym (drop_more digits i 0 p)) ∙ h in
    let grown = decimal_from-grows (drop (i + 1) digits) (10 * n + (get_or digits i 0 - 48)) in
    let test = le-ltb (decimal_from 0 digits) 18446744073709551616 (omega (arith, grown, step)) in
    rw test refl

pub spelled_whole : (digits : List ℕ) (i n : ℕ) → length digits ≤ i → decimal_from n (drop i digits) ≡ decimal_from 0 digits → n < 18446744073709551616 →
    Some n ≡ (if nat_lt (decimal_from 0 digits) 18446744073709551616 then Some (decimal_from 0 digits) else None)
spelled_whole digits i n p h b =
    let all : n ≡ decimal_from 0 digits = rw (drop_all i digits p) at h in
    let test = lt-ltb n 18446744073709551616 b in
    rw (← all, test) refl
