-- Numbers from 1 on: the next one is none of those before.
use Rattle.std.proofs.Common.{◌≡◌, ◌==◌, ◌<◌, ◌+◌, ℕ, zero, suc, [], ◌∷◌, ◌++◌, false, refl, sym, ap, arith, ◌∙◌}
use Rattle.std.proofs.lemmas.Bool.Decides.{nat_tests}
use Rattle.std.proofs.lemmas.List.Folds.{list_any-append}
use Rattle.std.specs.List.{list_any}
use Rattle.smb_tcp.specs.Numbers.{numbers_to}

none_above : (n k : ℕ) → n < k → list_any (λ j. j == k) (numbers_to n) ≡ false
none_above zero k h = refl
none_above (suc n) k h =
    let before = none_above n k (omega (arith, h)) in
    let last : (suc n == k) ≡ false = grind (arith, nat_tests, h) in
    list_any-append (λ j. j == k) (numbers_to n) (suc n ∷ []) ∙ grind (arith, before, last)

pub counted : (n m k : ℕ) → k ≡ n + 1 → m ≡ n + 1 → (list_any (λ j. j == k) (numbers_to n) ≡ false) × (numbers_to m ≡ numbers_to n ++ k ∷ [])
counted n m k e f =
    let next : n + 1 ≡ suc n = omega arith in
    (none_above n k (omega (arith, e)), ap numbers_to (f ∙ next) ∙ ap (λ x. numbers_to n ++ x ∷ []) (sym (e ∙ next)))
