-- Entries by their number.
use Rattle.std.proofs.Common.{Option, None, Some, is_some, IsSome, refl, ◌≡◌, ℕ, ◌<◌, ⊎_elim, eqb, true, false, sym, ap, ◌∙◌, is_eq, arith}
use Rattle.std.proofs.lemmas.Bool.{cases_order, eq-eqb, ne_eqb}
use Rattle.std.specs.declared.cmp.Ordering.TheVariants.{Less, Equal, Greater}
use Rattle.std.specs.BTreeMap.{is_at}
use Rattle.std.specs.Ordering.{nat_cmp}
use Rattle.std.specs.Cmp.{nat_cmp_is}

pub at_same : (n k : ℕ) → n ≡ k → is_at (nat_cmp n) k ≡ true
at_same n k e = ap is_eq (sym (nat_cmp_is n k Equal e))

pub at_above : (n k : ℕ) → k < n → is_at (nat_cmp n) k ≡ false
at_above n k p = ap is_eq (sym (nat_cmp_is n k Greater p))

pub at_below : (n k : ℕ) → n < k → is_at (nat_cmp n) k ≡ false
at_below n k p = ap is_eq (sym (nat_cmp_is n k Less p))

pub greater : (n k : ℕ) → k < n → nat_cmp n k ≡ Greater
greater n k p = sym (nat_cmp_is n k Greater p)

-- to be at a number is to be it
pub at_is : (n k : ℕ) → is_at (nat_cmp n) k ≡ eqb k n
at_is n k = ⊎_elim
    (λ e. at_same n k e ∙ sym (eq-eqb k n (sym e)))
    (λ o. ⊎_elim (λ p. at_below n k p ∙ sym (ne_eqb k n (λ e. omega (arith, p, e)))) (λ p. at_above n k p ∙ sym (ne_eqb k n (λ e. omega (arith, p, e)))) o)
    (cases_order n k)

-- what is there is something
pub is_there : {X : Type 0} (o : Option X) → IsSome o → is_some o ≡ true
is_there None h = cc
is_there (Some x) h = refl
